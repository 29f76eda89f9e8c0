-- The questions about orbits and cells, by their tables of refusals and by what they list.
--   Bit       a switch is in a mask
--   Short     the scratch has fewer than four entries to a slot, or the list fewer than one
--   Lowest    the lowest tuple of a cell
--   Labelled  a list has for each slot the lowest tuple of its cell
use Rattle.std.specs.Prelude.{◌≡◌, ℕ, ◌+◌, ◌*◌, ◌/◌, ◌%◌, ◌^◌, ◌<◌, ◌≤◌, true, false, ◌⊎◌, List, [], ◌∷◌, length, slice_index}
use Rattle.gmap.specs.Map.{Map}
use Rattle.gmap.specs.Listing.{Counts}
use Rattle.gmap.specs.Orbits.{Cell}

abbrev pub Bit : ℕ → ℕ → Type 0
Bit mask i = (mask / 2 ^ i) % 2 ≡ 1

abbrev pub Short : Map → ℕ → ℕ → Type 0
Short m scratch list = (scratch < 4 * m.size) ⊎ (list < m.size)

abbrev pub orbit_checks : Map → ℕ → ℕ → ℕ → ℕ → List (Type 0 × ℕ)
orbit_checks m scratch list mask t = (Short m scratch list, 11) ∷ ((i : ℕ) × Bit mask i × (m.top < i), 1) ∷ (m.size ≤ t, 2) ∷ (m.live t ≡ false, 3) ∷ []

abbrev pub cells_checks : Map → ℕ → ℕ → ℕ → List (Type 0 × ℕ)
cells_checks m scratch list i = (Short m scratch list, 11) ∷ (m.top + 1 < i, 1) ∷ []

-- a cell with its ranks takes three lists of an entry to a slot
abbrev pub cell_checks : Map → ℕ → ℕ → ℕ → ℕ → List (Type 0 × ℕ)
cell_checks m members ranks spare t = ((members < m.size) ⊎ ((ranks < m.size) ⊎ (spare < m.size)), 11) ∷ (m.size ≤ t, 2) ∷ (m.live t ≡ false, 3) ∷ []

-- l is the lowest tuple of the i-cell of t
pub record Lowest (m : Map) (i t l : ℕ) : Type 0 where
  pub member : Cell m i t l
  pub least : (x : ℕ) → Cell m i t x → l ≤ x

-- n is the number of cells, each counted by its lowest tuple
pub record Labelled (m : Map) (i n : ℕ) (old new : List ℕ) : Type 0 where
  pub long : length new ≡ length old
  pub tuples : (t : ℕ) → m.live t ≡ true → Lowest m i t (slice_index new t)
  pub vacants : (t : ℕ) → t < m.size → m.live t ≡ false → slice_index new t ≡ 65535
  pub behind : (k : ℕ) → m.size ≤ k → slice_index new k ≡ slice_index old k
  pub count : Counts (λ t. (m.live t ≡ true) × Lowest m i t t) n
