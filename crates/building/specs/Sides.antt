-- A side of a join or a part: the far orbit of a tuple, as a list.
use Rattle.std.specs.Prelude.{◌≡◌, ℕ, ◌<◌, ◌≤◌, true, List, length, slice_index}
use Rattle.gmap.specs.Map.{Map}

-- the entries of xs are tuples, no more than there are slots; and i is a switch
pub record Side (m : Map) (i : ℕ) (xs : List ℕ) : Type 0 where
  pub switch : i ≤ m.top
  pub few : length xs ≤ m.size
  pub live : (k : ℕ) → k < length xs → m.live (slice_index xs k) ≡ true
