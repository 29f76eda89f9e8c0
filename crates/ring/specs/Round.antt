-- A ring on its way round.
--   Stays   a step of the walk leads to the tuple that it comes from
--   Turned  one turn, by switch k - 1 and then k, written as a pair
--   Round   the steps of some turns
use Rattle.std.specs.Prelude.{◌≡◌, ℕ, suc, ◌-◌, ◌%◌, ◌<◌, ◌≤◌, Bool, ◌⊎◌, List, length, MatchBool, ◌≢◌, slice_index, slice_index_or}
use Rattle.gmap.specs.Map.{Map, Free}
use Rattle.gmap.specs.Rings.{walk}

abbrev pub Stays : Map → ℕ → ℕ → ℕ → Type 0
Stays m k t p = walk m k t (suc p) ≡ walk m k t p

-- the turn from x is written as a pair; it ends at y, and leads says whether neither of its steps stays
pub record Turned (m : Map) (k x y : ℕ) (leads : Bool) (pair : List ℕ) : Type 0 where
  pub next : y ≡ m.partner k (m.partner (k - 1) x)
  pub leads_on : MatchBool leads (Free m (k - 1) x ⊎ Free m k (m.partner (k - 1) x) → ⊥) (Free m (k - 1) x ⊎ Free m k (m.partner (k - 1) x))
  pub here : slice_index_or pair 0 0 ≡ x
  pub beside : slice_index_or pair 1 0 ≡ m.partner (k - 1) x

-- the first n steps from t stand in front of new, and the walk is at x; closed says whether none of them stays
pub record Round (m : Map) (k t n x : ℕ) (closed : Bool) (old new : List ℕ) : Type 0 where
  pub even : n % 2 ≡ 0
  pub at : walk m k t n ≡ x
  pub first : (p : ℕ) → 0 < p → p < n → p % 2 ≡ 0 → walk m k t p ≢ t
  pub long : length new ≡ length old
  pub steps : (p : ℕ) → p < n → slice_index new p ≡ walk m k t p
  pub rest : (p : ℕ) → n ≤ p → slice_index new p ≡ slice_index old p
  pub leads : MatchBool closed ((p : ℕ) → p < n → Stays m k t p → ⊥) ((p : ℕ) × (p < n) × Stays m k t p)
