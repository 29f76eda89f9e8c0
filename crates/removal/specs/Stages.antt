-- The stages of a removal: the cell as a list, its borders with the ends of their walks, and the maps that are left.
--   Ranks     ranks has at each tuple of a list its place there
--   Celled    a list has different tuples that all switches but i keep together
--   Twists    the two switches above i do not commute at some tuple of a list
--   Bridge    a tuple beside a list, and another that the walk from it leads to
--   Bridged   all such tuples are found, and where each leads
--   CutBelow  all links at a set are cut in the switches below a number
--   Closable  the tuples of a list are different, and free in every switch
--   Closed    the slots of a set are vacant, and nothing else is changed
--   TakenOut  the slots of a list are vacant, and the tuples around them are partners across it
use Rattle.std.specs.Prelude.{◌≡◌, ℕ, ◌+◌, ◌<◌, ◌≤◌, true, false, ◌⊎◌, List, length, ◌≢◌, slice_index}
use Rattle.gmap.specs.Map.{Map, Free}
use Rattle.gmap.specs.Building.{Meets}
use Rattle.gmap.specs.Listing.{Among}
use Rattle.questions.specs.Laws.{Commute}
use Rattle.removal.specs.Crossing.{In, Crosses}

abbrev pub Ranks : List ℕ → List ℕ → Type 0
Ranks xs ranks = (k : ℕ) → k < length xs → slice_index ranks (slice_index xs k) ≡ k

-- closed says it of what is outside: it stays outside in all switches but i
pub record Celled (m : Map) (i : ℕ) (xs : List ℕ) : Type 0 where
  pub switch : i < m.top
  pub few : length xs ≤ m.size
  pub live : (k : ℕ) → k < length xs → m.live (slice_index xs k) ≡ true
  pub apart : (k l : ℕ) → k < l → l < length xs → slice_index xs k ≢ slice_index xs l
  pub closed : (j x : ℕ) → (j ≢ i) → (In xs x → ⊥) → In xs (m.partner j x) → ⊥

abbrev pub Twists : Map → ℕ → List ℕ → Type 0
Twists m i xs = (i + 2 ≤ m.top) × ((x : ℕ) × In xs x × (Commute m (i + 1) (i + 2) x → ⊥))

-- x is outside of the list and y is where its walk across the list leads
pub record Bridge (m : Map) (i : ℕ) (xs : List ℕ) (x y : ℕ) : Type 0 where
  pub outside : In xs x → ⊥
  pub beside : In xs (m.partner i x)
  pub apart : x ≡ y → ⊥
  pub leads : Crosses m i xs (m.partner i x) y

-- of the tuples beside the first k of xs, the n that have a bridge stand in front of bs, and ends has the other side of each
pub record Bridged (m : Map) (i : ℕ) (xs : List ℕ) (k n : ℕ) (bs ends : List ℕ) : Type 0 where
  pub few : n ≤ k
  pub each : (l : ℕ) → l < n → Bridge m i xs (slice_index bs l) (slice_index ends (slice_index bs l))
  pub all : (x : ℕ) → (In xs x → ⊥) → Among xs k (m.partner i x) → Among bs n x ⊎ Crosses m i xs (m.partner i x) x

pub record CutBelow (m : Map) (P : ℕ → Type 0) (b : ℕ) (m' : Map) : Type 0 where
  pub size : m'.size ≡ m.size
  pub top : m'.top ≡ m.top
  pub live : (x : ℕ) → m'.live x ≡ m.live x
  pub cuts : (j x : ℕ) → j < b → Meets m j P x → Free m' j x
  pub rest : (j x : ℕ) → (j < b → Meets m j P x → ⊥) → m'.partner j x ≡ m.partner j x

pub record Closable (m : Map) (xs : List ℕ) : Type 0 where
  pub few : length xs ≤ m.size
  pub apart : (k l : ℕ) → k < l → l < length xs → slice_index xs k ≢ slice_index xs l
  pub live : (k : ℕ) → k < length xs → m.live (slice_index xs k) ≡ true
  pub free : (j k : ℕ) → k < length xs → Free m j (slice_index xs k)

pub record Closed (m : Map) (P : ℕ → Type 0) (m' : Map) : Type 0 where
  pub size : m'.size ≡ m.size
  pub top : m'.top ≡ m.top
  pub gone : (x : ℕ) → P x → m'.live x ≡ false
  pub stays : (x : ℕ) → (P x → ⊥) → m'.live x ≡ m.live x
  pub partner : (j x : ℕ) → m'.partner j x ≡ m.partner j x

pub record TakenOut (m : Map) (i : ℕ) (xs : List ℕ) (m' : Map) : Type 0 where
  pub size : m'.size ≡ m.size
  pub top : m'.top ≡ m.top
  pub gone : (x : ℕ) → In xs x → m'.live x ≡ false
  pub still : (j x : ℕ) → In xs x → m'.partner j x ≡ x
  pub stays : (x : ℕ) → (In xs x → ⊥) → m'.live x ≡ m.live x
  pub others : (j x : ℕ) → (j ≢ i) → (In xs x → ⊥) → m'.partner j x ≡ m.partner j x
  pub across : (x : ℕ) → (In xs x → ⊥) → Crosses m i xs (m.partner i x) (m'.partner i x)
