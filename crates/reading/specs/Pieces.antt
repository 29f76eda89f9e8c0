-- Bytes cut at a separator, into lines and words.
--   before    the bytes before the first separator
--   behind    the bytes behind the first separator
--   Parted    two parts are what stands before and behind the first separator
--   pieces    what the separators end, and what stands behind the last
--   filled    the pieces that are not empty
--   lines_of  the lines of a script
--   words_of  the words of a line
use Rattle.std.specs.Prelude.{◌≡◌, ℕ, cond, ◌⊎◌, List, [], ◌∷◌, ◌++◌, ◌==◌, ◌≢◌}
use Rattle.std.specs.List.{AllByRecursion}

abbrev pub before : ℕ → List ℕ → List ℕ
before b [] = []
before b (c ∷ cs) = cond (c == b) [] (c ∷ before b cs)

abbrev pub behind : ℕ → List ℕ → List ℕ
behind b [] = []
behind b (c ∷ cs) = cond (c == b) cs (behind b cs)

-- s is front, b and back, or front alone; and no b stands in front
pub record Parted (b : ℕ) (s front back : List ℕ) : Type 0 where
  pub whole : (front ++ (b ∷ back) ≡ s) ⊎ ((front ≡ s) × (back ≡ []))
  pub none : AllByRecursion (λ c. c ≢ b) front

-- a byte in front of the first piece, which it opens if there is none
abbrev pub onto : ℕ → List (List ℕ) → List (List ℕ)
onto c [] = (c ∷ []) ∷ []
onto c (p ∷ ps) = (c ∷ p) ∷ ps

-- Each b ends a piece, and one at the end opens none.
abbrev pub pieces : ℕ → List ℕ → List (List ℕ)
pieces b [] = []
pieces b (c ∷ cs) = cond (c == b) ([] ∷ pieces b cs) (onto c (pieces b cs))

abbrev pub filled : List (List ℕ) → List (List ℕ)
filled [] = []
filled ([] ∷ ps) = filled ps
filled ((c ∷ p) ∷ ps) = (c ∷ p) ∷ filled ps

-- LF is 10
abbrev pub lines_of : List ℕ → List (List ℕ)
lines_of s = pieces 10 s

-- a space is 32
abbrev pub words_of : List ℕ → List (List ℕ)
words_of l = filled (pieces 32 l)
