-- What holds of a map with its slots numbered from another one on.
use Rattle.std.specs.Prelude.{ℕ, ◌+◌, ◌%◌, ◌<◌, Bool, T}
use Rattle.gmap.specs.Map.{Map, Lawful, Fresh}
use Rattle.gmap.specs.Orbits.{Orbit}
use Rattle.gmap.specs.Layers.{shifted}

pub record ShiftLaws (f : ℕ) (m : Map) : Type 0 where
  pub lawful : Lawful m → Lawful (shifted f m)
  pub lawful_below : Lawful (shifted f m) → Lawful m
  pub empty : Fresh m → Fresh (shifted f m)
  pub empty_below : Fresh (shifted f m) → Fresh m
  -- an orbit is the orbit below, slot for slot, under any switches
  pub orbits : (via : ℕ → Bool) (t x : ℕ) → t < m.size → Orbit (shifted f m) (λ i. T (via i)) t x → (x < m.size) × Orbit m (λ i. T (via i)) ((t + f) % m.size) ((x + f) % m.size)
  pub orbits_below : (via : ℕ → Bool) (t x : ℕ) → t < m.size → x < m.size → Orbit m (λ i. T (via i)) ((t + f) % m.size) ((x + f) % m.size) → Orbit (shifted f m) (λ i. T (via i)) t x
