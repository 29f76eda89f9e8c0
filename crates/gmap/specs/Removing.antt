-- A removal: a cell is taken out and its border closed, by its table of refusals and the map that it leaves.
--   Leads          the walk across the cell
--   Twist          the two switches above do not commute on the cell
--   remove_checks  why a removal is refused
--   Removed        the cell is vacant, and the tuples around it are partners across it
use Rattle.std.specs.Prelude.{◌≡◌, ℕ, ◌+◌, ◌≤◌, false, List, [], ◌∷◌, ◌≢◌}
use Rattle.gmap.specs.Map.{Map}
use Rattle.gmap.specs.Listing.{Counts}
use Rattle.gmap.specs.Orbits.{Cell}
use Rattle.gmap.specs.Building.{short_of}

-- from the tuple that switch i has led to: while it is in the cell take i + 1 and then i
pub data Leads (m : Map) (i t : ℕ) : ℕ → ℕ → Type 0 where
  out : {x : ℕ} → (Cell m i t x → ⊥) → Leads m i t x x
  on : {x y : ℕ} → Cell m i t x → Leads m i t (m.partner i (m.partner (i + 1) x)) y → Leads m i t x y

abbrev pub Twist : Map → ℕ → ℕ → Type 0
Twist m i t = (i + 2 ≤ m.top) × ((x : ℕ) × Cell m i t x × (m.partner (i + 1) (m.partner (i + 2) x) ≢ m.partner (i + 2) (m.partner (i + 1) x)))

abbrev pub remove_checks : Map → ℕ → ℕ → ℕ → List (Type 0 × ℕ)
remove_checks m scratch i t = short_of m scratch ∷ (m.top ≤ i, 1) ∷ (m.size ≤ t, 2) ∷ (m.live t ≡ false, 3) ∷ (Twist m i t, 9) ∷ []

-- n is the size of the cell. A tuple whose partner in i is outside the cell keeps it: its walk has no step.
pub record Removed (m : Map) (i t n : ℕ) (m' : Map) : Type 0 where
  pub size : m'.size ≡ m.size
  pub top : m'.top ≡ m.top
  pub gone : (x : ℕ) → Cell m i t x → m'.live x ≡ false
  pub still : (j x : ℕ) → Cell m i t x → m'.partner j x ≡ x
  pub stays : (x : ℕ) → (Cell m i t x → ⊥) → m'.live x ≡ m.live x
  pub others : (j x : ℕ) → (j ≢ i) → (Cell m i t x → ⊥) → m'.partner j x ≡ m.partner j x
  pub across : (x : ℕ) → (Cell m i t x → ⊥) → Leads m i t (m.partner i x) (m'.partner i x)
  pub count : Counts (Cell m i t) n
