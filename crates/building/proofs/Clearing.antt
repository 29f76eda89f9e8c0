-- Clearing the two sides of a join.
use Rattle.std.proofs.Common.{◌≡◌, ℕ, ◌+◌, ◌<◌, List, length, get_or, set, sym, ◌∙◌, subst, ⊎_elim, arith}
use Rattle.gmap.specs.Map.{Map, Far, Free}
use Rattle.gmap.specs.Building.{Fits}
use Rattle.gmap.specs.Listing.{Among}
use Rattle.gmap.proofs.Listing.{among_cases, among_suc, among_last, among_split}
use Rattle.questions.specs.Search.{Collected}
use Rattle.questions.proofs.Marks.{marked_none, marked_more}
use Rattle.building.specs.Mates.{OnSides, Blank}
use Rattle.building.specs.Tying.{Cleared}
use Rattle.building.proofs.Couples.{side_pair}

pub cleared_none : (m : Map) (i : ℕ) (xs ms : List ℕ) → Cleared m i xs 0 ms ms
cleared_none m i xs ms = record { free = λ x (k, h, e). absurd (omega arith); marked = marked_none (Among xs 0) 65535 ms (λ x (k, h, e). absurd (omega arith)) }

pub cleared_more : (m : Map) (i : ℕ) (xs : List ℕ) (k : ℕ) (ms ms' : List ℕ) → get_or xs k 0 < length ms' → Free m i (get_or xs k 0) → Cleared m i xs k ms ms' → Cleared m i xs (k + 1) ms (set ms' (get_or xs k 0) 65535)
cleared_more m i xs k ms ms' lt free s =
    record {
      free = λ x a. ⊎_elim (s.free x) (λ e. subst (Free m i) (sym e) free) (among_split xs k x a);
      marked = marked_more (Among xs k) (Among xs (k + 1)) 65535 (get_or xs k 0) ms ms' lt (among_last xs k) (among_suc xs k) (among_split xs k) s.marked;
    }

-- what stands first in a pair that cannot be tied
pub not_loose : (m : Map) (i t u x : ℕ) → OnSides m i t u x → (Free m i x → ⊥) → Fits m i t u → ⊥
not_loose m i t u x on linked fits = let (y, p) = side_pair m i t u on in linked (fits.loose x y p)

-- the same of the list that the first tuples stand in
pub cleared_list : (m : Map) (i : ℕ) (xs ys : List ℕ) (k n : ℕ) (ms ms' : List ℕ) → ((x : ℕ) → Among xs k x → Among ys n x) → ((x : ℕ) → Among ys n x → Among xs k x) → Cleared m i xs k ms ms' → Cleared m i ys n ms ms'
cleared_list m i xs ys k n ms ms' to fro s =
    record { free = λ x a. s.free x (fro x a); marked = record { long = s.marked.long; there = λ x a. s.marked.there x (fro x a); rest = λ x q. s.marked.rest x (λ a. q (to x a)) } }

module _ (m : Map) (i t u : ℕ) (xs ys : List ℕ) (k n : ℕ) (o : Collected m (Far i) t k xs) (p : Collected m (Far i) u n ys) (ms ms' ms'' : List ℕ) (a : Cleared m i xs k ms ms') (b : Cleared m i ys n ms' ms'') where
  pub both_blank : length ms ≡ m.size → Blank m i t u ms''
  both_blank long =
      record {
        long = b.marked.long ∙ a.marked.long ∙ long;
        none = λ x on. ⊎_elim
            (λ r. b.marked.there x r)
            (λ r. ⊎_elim (λ l. b.marked.rest x r ∙ a.marked.there x (o.all x l)) (λ l. absurd (r (p.all x l))) on)
            (among_cases ys n x);
      }

  pub both_free : (x : ℕ) → OnSides m i t u x → Free m i x
  both_free x = ⊎_elim (λ l. a.free x (o.all x l)) (λ r. b.free x (p.all x r))
