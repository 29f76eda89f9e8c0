-- The search of an orbit: what is found, in which order, and where its memory keeps it.
--   Kept       the list of the slots found and the places of each agree
--   Added      one slot more, unless it was found already
--   Spread     the partners of one tuple more
--   Collected  a whole orbit stands in front of a list, in the order in which it was found
use Rattle.std.specs.Prelude.{◌≡◌, ℕ, ◌^◌, ◌<◌, ◌≤◌, List, length, ◌≢◌, slice_index, slice_index_or}
use Rattle.gmap.specs.Map.{Map}
use Rattle.gmap.specs.Orbits.{Orbit}
use Rattle.gmap.specs.Listing.{Among}

-- xs has n different numbers below its length in front, and ps has at each of them its place
pub record Kept (xs ps : List ℕ) (n : ℕ) : Type 0 where
  pub small : length xs < 2 ^ 16
  pub few : n ≤ length xs
  pub deep : length xs ≤ length ps
  pub low : (k : ℕ) → k < n → slice_index xs k < length xs
  pub back : (k : ℕ) → k < n → slice_index ps (slice_index xs k) ≡ k

-- xs with n slots is now xs' with n' slots: x came last, unless it was there
pub record Added (x : ℕ) (xs : List ℕ) (n : ℕ) (xs' : List ℕ) (n' : ℕ) : Type 0 where
  pub long : length xs' ≡ length xs
  pub grows : n ≤ n'
  pub same : (k : ℕ) → k < n → slice_index xs' k ≡ slice_index xs k
  pub there : Among xs' n' x
  pub new : (k : ℕ) → n ≤ k → k < n' → slice_index xs' k ≡ x

-- the same of the partners of u in those switches of a set that are below j
pub record Spread (m : Map) (via : ℕ → Type 0) (u j : ℕ) (xs : List ℕ) (n : ℕ) (xs' : List ℕ) (n' : ℕ) : Type 0 where
  pub long : length xs' ≡ length xs
  pub grows : n ≤ n'
  pub same : (k : ℕ) → k < n → slice_index xs' k ≡ slice_index xs k
  pub there : (i : ℕ) → i < j → via i → Among xs' n' (m.partner i u)
  pub new : (k : ℕ) → n ≤ k → k < n' → (i : ℕ) × via i × (slice_index xs' k ≡ m.partner i u)

-- the first n of xs are the orbit of t, each once: t comes first, and every other was found from one before it
pub record Collected (m : Map) (via : ℕ → Type 0) (t n : ℕ) (xs : List ℕ) : Type 0 where
  pub some : 0 < n
  pub fits : n ≤ length xs
  pub first : slice_index_or xs 0 0 ≡ t
  pub apart : (k l : ℕ) → k < l → l < n → slice_index xs k ≢ slice_index xs l
  pub only : (k : ℕ) → k < n → Orbit m via t (slice_index xs k)
  pub all : (x : ℕ) → Orbit m via t x → Among xs n x
  pub from : (k : ℕ) → 0 < k → k < n → (p i : ℕ) × (p < k) × via i × (slice_index xs k ≡ m.partner i (slice_index xs p))
