-- How many records a map takes.
--   up_to  the first n of some numbers, added up
--   Uses   n is the number of tuples and of the links in all switches
use Rattle.std.specs.Prelude.{◌≡◌, ℕ, zero, suc, ◌+◌, ◌<◌, ◌≤◌, true}
use Rattle.gmap.specs.Map.{Map}
use Rattle.gmap.specs.Listing.{Counts}

abbrev pub up_to : (ℕ → ℕ) → ℕ → ℕ
up_to f zero = 0
up_to f (suc n) = up_to f n + f n

-- links i is the number of links in switch i, each counted by its lower end
pub record Uses (m : Map) (n : ℕ) : Type 0 where
  pub tuples : ℕ
  pub links : ℕ → ℕ
  pub live : Counts (λ t. m.live t ≡ true) tuples
  pub linked : (i : ℕ) → i ≤ m.top → Counts (λ t. t < m.partner i t) (links i)
  pub all : n ≡ tuples + up_to links (m.top + 1)
