-- Join and part, by their tables of refusals and the maps that they leave.
--   short_of  the scratch has fewer than four entries to a slot
--   Pair      the pairs that a join collects
--   Fits      they can be tied
--   AllTied   pairs are tied in a switch, and nothing else is changed
--   Joined    the pairs of a join are tied
--   Meets     a link has an end in a set
--   AllCut    such links are cut, and nothing else is changed
--   Parted    the links at a far orbit are cut
use Rattle.std.specs.Prelude.{◌≡◌, ℕ, ◌*◌, ◌<◌, ◌⊎◌, List, [], ◌∷◌, ◌++◌}
use Rattle.gmap.specs.Map.{Map, Far, Free, DiffersIn}
use Rattle.gmap.specs.Listing.{Counts}
use Rattle.gmap.specs.Orbits.{FarOrbit}
use Rattle.gmap.specs.Acts.{tie_checks, untie_checks}

abbrev pub short_of : Map → ℕ → Type 0 × ℕ
short_of m scratch = (scratch < 4 * m.size, 11)

-- the two that are named, both ways round; and with x and y their partners in each switch far from i
pub data Pair (m : Map) (i t u : ℕ) : ℕ → ℕ → Type 0 where
  given : Pair m i t u t u
  turned : Pair m i t u u t
  moved : {x y : ℕ} (j : ℕ) → Far i j → Pair m i t u x y → Pair m i t u (m.partner j x) (m.partner j y)

-- no tuple stands first in two different pairs, and each that stands first is free in i
pub record Fits (m : Map) (i t u : ℕ) : Type 0 where
  pub single : (x y z : ℕ) → Pair m i t u x y → Pair m i t u x z → y ≡ z
  pub loose : (x y : ℕ) → Pair m i t u x y → Free m i x

abbrev pub join_checks : Map → ℕ → ℕ → ℕ → ℕ → List (Type 0 × ℕ)
join_checks m scratch i t u = short_of m scratch ∷ tie_checks m i t u ++ (Fits m i t u → ⊥, 7) ∷ []

-- m' is m with the pairs of R tied in i. R has a pair and its reverse, or neither; n counts the two once.
pub record AllTied (m : Map) (i : ℕ) (R : ℕ → ℕ → Type 0) (n : ℕ) (m' : Map) : Type 0 where
  pub frame : DiffersIn i m m'
  pub ties : (x y : ℕ) → R x y → m'.partner i x ≡ y
  pub rest : (x : ℕ) → ((y : ℕ) → R x y → ⊥) → m'.partner i x ≡ m.partner i x
  pub count : Counts (λ x. (y : ℕ) × R x y × (x < y)) n

abbrev pub Joined : Map → ℕ → ℕ → ℕ → ℕ → Map → Type 0
Joined m i t u n m' = AllTied m i (Pair m i t u) n m'

abbrev pub part_checks : Map → ℕ → ℕ → ℕ → List (Type 0 × ℕ)
part_checks m scratch i t = short_of m scratch ∷ untie_checks m i t

-- the link in i at x has an end in P
abbrev pub Meets : Map → ℕ → (ℕ → Type 0) → ℕ → Type 0
Meets m i P x = P x ⊎ P (m.partner i x)

-- m' is m with every link in i that has an end in P cut; n counts each link once, by its lower end.
pub record AllCut (m : Map) (i : ℕ) (P : ℕ → Type 0) (n : ℕ) (m' : Map) : Type 0 where
  pub frame : DiffersIn i m m'
  pub cuts : (x : ℕ) → Meets m i P x → Free m' i x
  pub rest : (x : ℕ) → (Meets m i P x → ⊥) → m'.partner i x ≡ m.partner i x
  pub count : Counts (λ x. Meets m i P x × (x < m.partner i x)) n

abbrev pub Parted : Map → ℕ → ℕ → ℕ → Map → Type 0
Parted m i t n m' = AllCut m i (FarOrbit m i t) n m'
