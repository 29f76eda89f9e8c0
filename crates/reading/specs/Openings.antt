-- What the first line of a script opens.
--   opens           the words of an opening
--   TooLarge        its numbers are out of bounds
--   opening_checks  why a first line is refused
--   opening_of      the opening that words are, or its refusal
use Rattle.std.specs.Prelude.{◌≡◌, ℕ, ◌<◌, cond, ◌&&◌, ◌⊎◌, List, [], ◌∷◌, Some, None, Ok, Err, Option, Result, nat_le, slice_index}
use Rattle.gmap.specs.declared.refusal.Refusal.{Refusal}
use Rattle.gmap.specs.declared.refusal.Refusal.TheVariants.{Malformed, Oversize}
use Rattle.reading.specs.declared.word.Kind.{Kind}
use Rattle.reading.specs.declared.opening.Opening.{Opening}
use Rattle.reading.specs.Words.{Sense, names, orders, counts, nothing}
use Rattle.reading.specs.Counts.{both, numbers_of}

abbrev pub opens : Opening → List Sense
opens o = names o.kind ∷ counts o.top ∷ counts o.size ∷ []

abbrev pub TooLarge : Opening → Type 0
TooLarge o = (7 < o.top) ⊎ (1024 < o.size)

-- Words that are no opening are malformed, whatever their numbers.
abbrev pub opening_checks : List Sense → List (Type 0 × ℕ)
opening_checks ss = ((o : Opening) → ss ≡ opens o → ⊥, 12) ∷ ((o : Opening) × (ss ≡ opens o) × TooLarge o, 13) ∷ []

-- the kind that a word says
abbrev pub named : Sense → Option Kind
named (names k) = Some k
named (orders c) = None
named (counts n) = None
named nothing = None

-- just a kind and two numbers
abbrev pub opened_of : List Sense → Option Opening
opened_of [] = None
opened_of (s ∷ ss) = both (λ k n. record { kind = k; top = slice_index n 0; size = slice_index n 1 }) (named s) (numbers_of 2 ss)

-- the opening, held to its bounds
abbrev pub bounded : Option Opening → Result Opening Refusal
bounded None = Err Malformed
bounded (Some o) = cond (nat_le o.top 7 && nat_le o.size 1024) (Ok o) (Err Oversize)

abbrev pub opening_of : List Sense → Result Opening Refusal
opening_of ss = bounded (opened_of ss)
