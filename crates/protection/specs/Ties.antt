-- Maps that a join could leave.
--   Keeps  each link of a map is one of another, in the same switch
--   Ties   a lawful map that differs in one switch alone, keeps the links and ties two tuples there
use Rattle.std.specs.Prelude.{◌≡◌, ℕ}
use Rattle.gmap.specs.Map.{Map, Partners, Lawful, Free, DiffersIn}

abbrev pub Keeps : Map → Map → Type 0
Keeps m m' = (i t : ℕ) → (Free m i t → ⊥) → m'.partner i t ≡ m.partner i t

pub record Ties (m : Map) (i t u : ℕ) (m' : Map) : Type 0 where
  pub partners : Partners m'
  pub lawful : Lawful m'
  pub frame : DiffersIn i m m'
  pub keeps : Keeps m m'
  pub tie : m'.partner i t ≡ u
