-- Sets of numbers, listed and counted.
--   Among    a number stands in the first places of a list
--   Members  a list has the numbers of a set, each once, in some order
--   Counts   a set has just so many numbers
--   Listed   the numbers of a set stand upwards in front of a list that is otherwise as before
--   Ranked   they stand upwards in front of a list, and the place of each is known
use Rattle.std.specs.Prelude.{◌≡◌, ℕ, ◌<◌, ◌≤◌, List, length, ◌≢◌, slice_index}

abbrev pub Among : List ℕ → ℕ → ℕ → Type 0
Among xs n x = (k : ℕ) × (k < n) × (slice_index xs k ≡ x)

pub record Members (P : ℕ → Type 0) (xs : List ℕ) : Type 0 where
  pub apart : (k l : ℕ) → k < l → l < length xs → slice_index xs k ≢ slice_index xs l
  pub sound : (k : ℕ) → k < length xs → P (slice_index xs k)
  pub whole : (x : ℕ) → P x → Among xs (length xs) x

abbrev pub Counts : (ℕ → Type 0) → ℕ → Type 0
Counts P n = (xs : List ℕ) × Members P xs × (length xs ≡ n)

pub record Listed (P : ℕ → Type 0) (n : ℕ) (old new : List ℕ) : Type 0 where
  pub fits : n ≤ length old
  pub long : length new ≡ length old
  pub rises : (k l : ℕ) → k < l → l < n → slice_index new k < slice_index new l
  pub only : (k : ℕ) → k < n → P (slice_index new k)
  pub all : (x : ℕ) → P x → Among new n x
  pub rest : (k : ℕ) → n ≤ k → slice_index new k ≡ slice_index old k

-- the numbers of a set stand upwards in front of xs, and ranks has at each of them its place there
pub record Ranked (P : ℕ → Type 0) (n : ℕ) (xs ranks : List ℕ) : Type 0 where
  pub fits : n ≤ length xs
  pub rises : (k l : ℕ) → k < l → l < n → slice_index xs k < slice_index xs l
  pub only : (k : ℕ) → k < n → P (slice_index xs k)
  pub all : (x : ℕ) → P x → Among xs n x
  pub rank : (k : ℕ) → k < n → slice_index ranks (slice_index xs k) ≡ k
