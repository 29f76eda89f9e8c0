-- What is reached from a tuple by some switches.
--   Orbit     under the switches of a set
--   FarOrbit  under the switches far from i
--   Cell      under all switches but i: the i-cell
use Rattle.std.specs.Prelude.{ℕ, ◌≢◌}
use Rattle.gmap.specs.Map.{Map, Far}

pub data Orbit (m : Map) (via : ℕ → Type 0) (t : ℕ) : ℕ → Type 0 where
  here : Orbit m via t t
  step : {u : ℕ} (i : ℕ) → via i → Orbit m via t u → Orbit m via t (m.partner i u)

abbrev pub FarOrbit : Map → ℕ → ℕ → ℕ → Type 0
FarOrbit m i t = Orbit m (λ j. Far i j) t

abbrev pub Cell : Map → ℕ → ℕ → ℕ → Type 0
Cell m i t = Orbit m (λ j. j ≢ i) t
