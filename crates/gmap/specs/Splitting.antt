-- A split: a new vertex on an edge, by its table of refusals and the map that it leaves.
--   Beside        the new tuple beside a tuple of the edge
--   Taken         a new number is no slot, or taken
--   split_checks  why a split is refused
--   SplitAt       the new tuples stand on the edge, and nothing else is changed
use Rattle.std.specs.Prelude.{◌≡◌, ℕ, ◌+◌, ◌<◌, ◌≤◌, true, false, ◌⊎◌, List, [], ◌∷◌}
use Rattle.gmap.specs.Map.{Map}
use Rattle.gmap.specs.Listing.{Counts}
use Rattle.gmap.specs.Orbits.{Cell}
use Rattle.gmap.specs.Building.{short_of}

-- The edge of t is its 1-cell. Beside x stands x', numbered f plus the number of the edge's tuples below x.
pub record Beside (m : Map) (t f x x' : ℕ) : Type 0 where
  pub on : Cell m 1 t x
  pub below : ℕ
  pub place : Counts (λ y. Cell m 1 t y × (y < x)) below
  pub number : x' ≡ f + below

abbrev pub Taken : Map → ℕ → ℕ → Type 0
Taken m t f = (x x' : ℕ) × Beside m t f x x' × ((m.size ≤ x') ⊎ (m.live x' ≡ true))

abbrev pub split_checks : Map → ℕ → ℕ → ℕ → List (Type 0 × ℕ)
split_checks m scratch t f = short_of m scratch ∷ (m.top ≡ 0, 1) ∷ (m.size ≤ t, 2) ∷ (m.live t ≡ false, 3) ∷ (Taken m t f, 10) ∷ []

-- Switch 0 leads from x to x', switch 1 from x' to the new tuple beside the old partner of x in 0,
-- and each switch above 1 from x' to the one beside the partner of x. r is f with the number of new tuples.
pub record SplitAt (m : Map) (t f : ℕ) (r : ℕ × ℕ) (m' : Map) : Type 0 where
  pub size : m'.size ≡ m.size
  pub top : m'.top ≡ m.top
  pub born : (x x' : ℕ) → Beside m t f x x' → m'.live x' ≡ true
  pub as_live : (y : ℕ) → ((x : ℕ) → Beside m t f x y → ⊥) → m'.live y ≡ m.live y
  pub ends : (x x' : ℕ) → Beside m t f x x' → m'.partner 0 x ≡ x'
  pub back : (x x' : ℕ) → Beside m t f x x' → m'.partner 0 x' ≡ x
  pub meet : (x x' y' : ℕ) → Beside m t f x x' → Beside m t f (m.partner 0 x) y' → m'.partner 1 x' ≡ y'
  pub along : (j x x' y' : ℕ) → 2 ≤ j → Beside m t f x x' → Beside m t f (m.partner j x) y' → m'.partner j x' ≡ y'
  pub others : (j y : ℕ) → (j ≡ 0 → Cell m 1 t y → ⊥) → ((x : ℕ) → Beside m t f x y → ⊥) → m'.partner j y ≡ m.partner j y
  pub first : r.0 ≡ f
  pub count : Counts (Cell m 1 t) r.1
