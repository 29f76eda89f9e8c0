-- What is laid out in memory that is lent.
--   rows_need   how many numbers rows need
--   slips_need  how many records slips need
--   TooLarge    the top or the size is out of range, or the memory has too few places
--   Laid        an empty map of that top and size, or one of top 0 with no slots
use Rattle.std.specs.Prelude.{◌≡◌, ℕ, ◌+◌, ◌*◌, ◌/◌, ◌<◌, ◌⊎◌}
use Rattle.gmap.specs.Map.{Map, Fresh}

abbrev pub rows_need : ℕ → ℕ → ℕ
rows_need top size = (top + 1) * size

-- a switch has at most one link to two slots
abbrev pub slips_need : ℕ → ℕ → ℕ
slips_need top size = size + (top + 1) * (size / 2)

abbrev pub TooLarge : ℕ → ℕ → ℕ → ℕ → Type 0
TooLarge memory need top size = (7 < top) ⊎ ((4096 < size) ⊎ (memory < need))

pub record Laid (refused : Type 0) (top size : ℕ) (m : Map) : Type 0 where
  pub fresh : Fresh m
  pub large : refused → (m.size ≡ 0) × (m.top ≡ 0)
  pub good : (refused → ⊥) → (m.size ≡ size) × (m.top ≡ top)
