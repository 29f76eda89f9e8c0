-- The walk across a list of tuples: it takes i from a tuple beside the list, and while it is on the list i + 1 and then i.
--   In       a tuple stands in a list
--   onward   where the walk is after so many steps
--   Crosses  where the walk leads
--   Trail    a walk after so many steps, all of them from tuples of the list
--   Lands    where the walk leads from a tuple
use Rattle.std.specs.Prelude.{◌≡◌, ℕ, zero, suc, ◌+◌, ◌<◌, List, length}
use Rattle.gmap.specs.Map.{Map}
use Rattle.gmap.specs.Listing.{Among}

abbrev pub In : List ℕ → ℕ → Type 0
In xs x = Among xs (length xs) x

abbrev pub onward : Map → ℕ → ℕ → ℕ → ℕ
onward m i x zero = m.partner i x
onward m i x (suc k) = m.partner i (m.partner (i + 1) (onward m i x k))

pub data Crosses (m : Map) (i : ℕ) (xs : List ℕ) : ℕ → ℕ → Type 0 where
  out : {x : ℕ} → (In xs x → ⊥) → Crosses m i xs x x
  on : {x y : ℕ} → In xs x → Crosses m i xs (m.partner i (m.partner (i + 1) x)) y → Crosses m i xs x y

pub record Trail (m : Map) (i : ℕ) (xs : List ℕ) (x k y : ℕ) : Type 0 where
  pub here : y ≡ onward m i x k
  pub before : (l : ℕ) → l < k → In xs (onward m i x l)

-- what is on the list has no walk and lands on itself
pub record Lands (m : Map) (i : ℕ) (xs : List ℕ) (x y : ℕ) : Type 0 where
  pub inside : In xs x → y ≡ x
  pub outside : (In xs x → ⊥) → Crosses m i xs (m.partner i x) y
