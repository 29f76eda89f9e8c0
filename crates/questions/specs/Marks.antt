-- Labels written to a list of slots.
--   Marked      one label stands at each place of a set
--   Unlabelled  a tuple has no label yet; 65,535 stands there
use Rattle.std.specs.Prelude.{◌≡◌, ℕ, true, List, length, slice_index}
use Rattle.gmap.specs.Map.{Map}

-- new has v at the places of P, and is old elsewhere
pub record Marked (P : ℕ → Type 0) (v : ℕ) (old new : List ℕ) : Type 0 where
  pub long : length new ≡ length old
  pub there : (x : ℕ) → P x → slice_index new x ≡ v
  pub rest : (x : ℕ) → (P x → ⊥) → slice_index new x ≡ slice_index old x

abbrev pub Unlabelled : Map → ℕ → List ℕ → Type 0
Unlabelled m t xs = (m.live t ≡ true) × (slice_index xs t ≡ 65535)
