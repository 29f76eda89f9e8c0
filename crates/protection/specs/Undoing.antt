-- On a lawful map a part undoes a join, a join of the same two a part, and removing the new vertex a split.
use Rattle.std.specs.Prelude.{ℕ, ◌*◌, ◌≤◌, Ok}
use Rattle.gmap.specs.Map.{Map}
use Rattle.gmap.specs.Building.{Pair}
use Rattle.gmap.specs.Splitting.{Beside}
use Rattle.protection.specs.Runs.{Does}
use Rattle.protection.specs.declared.call.Call.TheVariants.{Join, Part, Split, Remove}

-- The second scratch is long enough; any pair of the join and any new tuple of the split will do.
pub record Undoing (m : Map) : Type 0 where
  pub join_part : (scratch scratch' i t u n x y : ℕ) (m₁ : Map) → 4 * m.size ≤ scratch' → Does scratch (Join i t u) m (Ok n) m₁ → Pair m i t u x y → Does scratch' (Part i x) m₁ (Ok n) m
  pub part_join : (scratch scratch' i t n : ℕ) (m₁ : Map) → 4 * m.size ≤ scratch' → Does scratch (Part i t) m (Ok n) m₁ → Does scratch' (Join i t (m.partner i t)) m₁ (Ok n) m × Does scratch' (Join i (m.partner i t) t) m₁ (Ok n) m
  pub split_remove : (scratch scratch' t f x x' : ℕ) (r : ℕ × ℕ) (m₁ : Map) → 4 * m.size ≤ scratch' → Does scratch (Split t f) m (Ok r) m₁ → Beside m t f x x' → Does scratch' (Remove 0 x') m₁ (Ok r.1) m
