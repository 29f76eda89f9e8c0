-- What holds of the dual of a map.
use Rattle.std.specs.Prelude.{ℕ, ◌-◌, ◌≤◌}
use Rattle.gmap.specs.Map.{Map, Lawful, Same}
use Rattle.gmap.specs.Orbits.{Cell}
use Rattle.gmap.specs.Layers.{dual}

pub record DualLaws (m : Map) : Type 0 where
  pub lawful : Lawful m → Lawful (dual m)
  pub twice : Same (dual (dual m)) m
  -- an i-cell of the dual is a (top - i)-cell
  pub cells : (i t x : ℕ) → i ≤ m.top → Cell (dual m) i t x → Cell m (m.top - i) t x
  pub cells_dual : (i t x : ℕ) → i ≤ m.top → Cell m (m.top - i) t x → Cell (dual m) i t x
