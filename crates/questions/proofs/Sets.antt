-- One slot more in the list of those found.
use Rattle.std.proofs.Common.{◌≡◌, ℕ, ◌+◌, ◌<◌, List, length, get_or, set, sym, ap, ◌∙◌, arith, below_more}
use Rattle.std.proofs.lemmas.List.{length-set, get_or-set_same, get_or-set_other}
use Rattle.gmap.specs.Listing.{Among}
use Rattle.gmap.proofs.Pigeon.{pigeon_room}
use Rattle.questions.specs.Search.{Kept, Added}

module _ (xs ps : List ℕ) (n : ℕ) (s : Kept xs ps n) where
  pub kept_apart : (k l : ℕ) → k < l → l < n → get_or xs k 0 ≡ get_or xs l 0 → ⊥
  kept_apart k l h b e =
      let p : k ≡ l = sym (s.back k (omega arith)) ∙ ap (λ x. get_or ps x 0) e ∙ s.back l b in
      omega arith

  module _ (x : ℕ) (lx : x < length xs) (free : Among xs n x → ⊥) where
    pub kept_room : n < length xs
    kept_room = pigeon_room (length xs) n (λ k. get_or xs k 0) x s.low kept_apart lx (λ k h e. free (k, h, e))

    here : get_or (set xs n x) n 0 ≡ x
    here = get_or-set_same xs n x 0 kept_room

    below : (k : ℕ) → k < n → get_or (set xs n x) k 0 ≡ get_or xs k 0
    below k h = get_or-set_other xs n k x 0 (λ e. omega arith)

    low : (k : ℕ) → k < n + 1 → get_or (set xs n x) k 0 < length (set xs n x)
    low = below_more _ _ (λ k h. omega (arith, s.low k h, below k h, length-set xs n x)) (omega (arith, here, length-set xs n x))

    back : (k : ℕ) → k < n + 1 → get_or (set ps x n) (get_or (set xs n x) k 0) 0 ≡ k
    back =
        below_more _ _
        (λ k h. ap (λ y. get_or (set ps x n) y 0) (below k h) ∙ get_or-set_other ps x (get_or xs k 0) n 0 (λ e. free (k, h, e)) ∙ s.back k h)
        (ap (λ y. get_or (set ps x n) y 0) here ∙ get_or-set_same ps x n 0 (omega (arith, s.deep)))

    pub kept_more : Kept (set xs n x) (set ps x n) (n + 1)
    kept_more =
        record {
          small = omega (arith, s.small, length-set xs n x);
          few = omega (arith, kept_room, length-set xs n x);
          deep = omega (arith, s.deep, length-set xs n x, length-set ps x n);
          low = low;
          back = back;
        }

    pub added : Added x xs n (set xs n x) (n + 1)
    added =
        record {
          long = length-set xs n x;
          grows = omega arith;
          same = below;
          there = (n, omega arith, here);
          new = λ k p q. let e : k ≡ n = omega arith in ap (λ j. get_or (set xs n x) j 0) e ∙ here;
        }
