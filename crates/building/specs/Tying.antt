-- What the pairs of a join need to be tied.
--   Collectable  a side can be collected in memory that is long enough
--   Cleared      the first tuples of a side are free, and no mate is known at them
--   Ready        one side is collected, all mates are known, and both sides are free
--   PairsOf      tuples of a side and their mates, both ways round
--   Tieable      the tuples of a side and their mates are free, and are each other's mates
use Rattle.std.specs.Prelude.{◌≡◌, ℕ, ◌<◌, ◌≤◌, true, ◌⊎◌, List, length, ◌≢◌, slice_index}
use Rattle.gmap.specs.Map.{Map, Far, Free}
use Rattle.gmap.specs.Listing.{Among}
use Rattle.questions.specs.Marks.{Marked}
use Rattle.questions.specs.Search.{Collected}
use Rattle.building.specs.Mates.{OnSides, Matched}
use Rattle.building.specs.Sides.{Side}

pub record Collectable (m : Map) (t : ℕ) (list places ms : List ℕ) : Type 0 where
  pub live : m.live t ≡ true
  pub room : length list ≡ m.size
  pub deep : length list ≤ length places
  pub mates : length ms ≡ m.size

pub record Cleared (m : Map) (i : ℕ) (xs : List ℕ) (n : ℕ) (ms ms' : List ℕ) : Type 0 where
  pub free : (x : ℕ) → Among xs n x → Free m i x
  pub marked : Marked (Among xs n) 65535 ms ms'

pub record Ready (m : Map) (i t u : ℕ) (xs ms : List ℕ) : Type 0 where
  pub side : Side m i xs
  pub collected : Collected m (Far i) t (length xs) xs
  pub matched : Matched m i t u ms
  pub free : (x : ℕ) → OnSides m i t u x → Free m i x

abbrev pub PairsOf : List ℕ → ℕ → List ℕ → ℕ → ℕ → Type 0
PairsOf xs n ms x y = (Among xs n x × (slice_index ms x ≡ y)) ⊎ (Among xs n y × (slice_index ms y ≡ x))

pub record Tieable (m : Map) (i : ℕ) (xs : List ℕ) (n : ℕ) (ms : List ℕ) : Type 0 where
  pub switch : i ≤ m.top
  pub some : 0 < n
  pub fits : n ≤ length xs
  pub few : n ≤ m.size
  pub long : length ms ≡ m.size
  pub live : (k : ℕ) → k < n → m.live (slice_index xs k) ≡ true
  pub mate : (k : ℕ) → k < n → m.live (slice_index ms (slice_index xs k)) ≡ true
  pub apart : (k : ℕ) → k < n → slice_index xs k ≢ slice_index ms (slice_index xs k)
  pub back : (k : ℕ) → k < n → slice_index ms (slice_index ms (slice_index xs k)) ≡ slice_index xs k
  pub free : (k : ℕ) → k < n → Free m i (slice_index xs k)
  pub mate_free : (k : ℕ) → k < n → Free m i (slice_index ms (slice_index xs k))
