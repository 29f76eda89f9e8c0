-- What a list needs for its places to be written to another.
use Rattle.std.specs.Prelude.{ℕ, ◌^◌, ◌<◌, List, length, slice_index}

-- xs rise, and are places of ranks; their own places are numbers of 16 bits
pub record Rankable (xs ranks : List ℕ) : Type 0 where
  pub few : length xs < 2 ^ 16
  pub rises : (k l : ℕ) → k < l → l < length xs → slice_index xs k < slice_index xs l
  pub low : (k : ℕ) → k < length xs → slice_index xs k < length ranks
