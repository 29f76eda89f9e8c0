-- The law of far switches at one tuple.
--   Commute   two switches lead to the same tuple in either order
--   LawfulAt  all far switches do
use Rattle.std.specs.Prelude.{◌≡◌, ℕ, ◌+◌, ◌≤◌}
use Rattle.gmap.specs.Map.{Map}

abbrev pub Commute : Map → ℕ → ℕ → ℕ → Type 0
Commute m i j t = m.partner i (m.partner j t) ≡ m.partner j (m.partner i t)

-- the other order of i and j says the same
abbrev pub LawfulAt : Map → ℕ → Type 0
LawfulAt m t = (i j : ℕ) → i + 2 ≤ j → Commute m i j t
