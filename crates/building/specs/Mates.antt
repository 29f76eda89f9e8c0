-- The table of mates of a join: ms has at a tuple the tuple that it is to be tied to.
--   Known     the mate is known; 65,535 stands for one that is not
--   Couples   two tuples are mates, and nothing else has changed
--   Clashes   one of the two has another mate
--   Joinable  what a join may be asked of
--   OnSides   a tuple of one of the two sides, that is, one that stands first in a pair
--   Mates     what is known are pairs of the join, both ways round
--   Extends   what is known stays
--   Blank     no mate is known
--   Followed  the partners of a tuple and of its mate are mates
--   Matched   the mates are the pairs of the join
use Rattle.std.specs.Prelude.{◌≡◌, ℕ, ◌<◌, ◌≤◌, true, ◌⊎◌, List, length, ◌≢◌, slice_index, slice_set}
use Rattle.gmap.specs.Map.{Map, Far}
use Rattle.gmap.specs.Orbits.{FarOrbit}
use Rattle.gmap.specs.Building.{Pair}

abbrev pub Known : List ℕ → ℕ → Type 0
Known ms x = slice_index ms x ≡ 65535 → ⊥

abbrev pub Couples : ℕ → ℕ → List ℕ → List ℕ → Type 0
Couples x y ms ms' = ((slice_index ms x ≡ y) × (ms' ≡ ms)) ⊎ ((slice_index ms x ≡ 65535) × (slice_index ms y ≡ 65535) × (ms' ≡ slice_set (slice_set ms x y) y x))

abbrev pub Clashes : ℕ → ℕ → List ℕ → Type 0
Clashes x y ms = (slice_index ms x ≢ y) × (Known ms x ⊎ Known ms y)

pub record Joinable (m : Map) (i t u : ℕ) : Type 0 where
  pub switch : i ≤ m.top
  pub left : m.live t ≡ true
  pub right : m.live u ≡ true
  pub apart : t ≡ u → ⊥

abbrev pub OnSides : Map → ℕ → ℕ → ℕ → ℕ → Type 0
OnSides m i t u x = FarOrbit m i t x ⊎ FarOrbit m i u x

pub record Mates (m : Map) (i t u : ℕ) (ms : List ℕ) : Type 0 where
  pub long : length ms ≡ m.size
  pub sound : (x : ℕ) → OnSides m i t u x → Known ms x → Pair m i t u x (slice_index ms x)
  pub turned : (x : ℕ) → OnSides m i t u x → Known ms x → slice_index ms (slice_index ms x) ≡ x

abbrev pub Extends : Map → ℕ → ℕ → ℕ → List ℕ → List ℕ → Type 0
Extends m i t u ms ms' = (x : ℕ) → OnSides m i t u x → Known ms x → slice_index ms' x ≡ slice_index ms x

pub record Blank (m : Map) (i t u : ℕ) (ms : List ℕ) : Type 0 where
  pub long : length ms ≡ m.size
  pub none : (x : ℕ) → OnSides m i t u x → slice_index ms x ≡ 65535

-- in the switches below n
pub record Followed (m : Map) (i t u x n : ℕ) (ms ms' : List ℕ) : Type 0 where
  pub mates : Mates m i t u ms'
  pub kept : Extends m i t u ms ms'
  pub onward : (j : ℕ) → j < n → Far i j → slice_index ms' (m.partner j x) ≡ m.partner j (slice_index ms x)

pub record Matched (m : Map) (i t u : ℕ) (ms : List ℕ) : Type 0 where
  pub long : length ms ≡ m.size
  pub all : (x y : ℕ) → Pair m i t u x y → slice_index ms x ≡ y
