-- Records in blocks, and the map that they hold.
--   link_at    record k of the block of switch i
--   living     slot t is live
--   opposite   the other end of a link of t
--   slips_map  the map
--   Named      a record is a link of x
--   Twice      two records of a block have an end in common
--   belongs    a record may stand at place p
--   Tidy       each record stands where it belongs
--   Alive      the ends of a link are tuples
--   Apart      they are two
--   Single     a tuple has one link in a switch
--   Sound      what holds of the records of every storage
--   Hit        the first record of a block that passes a test
--   Found      where such a record stands, if there is one
use Rattle.std.specs.Prelude.{◌≡◌, ℕ, zero, suc, ◌+◌, ◌*◌, ◌/◌, ◌<◌, ◌≤◌, Bool, true, false, cond, ◌&&◌, List, length, Option, MatchOption, ◌≢◌, nat_le, nat_lt, slice_index_or}
use Rattle.gmap.specs.Map.{Map}
use Rattle.gmap.specs.Laying.{slips_need}
use Rattle.slips.specs.Links.{says_slot, names, other}
use Rattle.slips.specs.declared.record.Record.{Record}
use Rattle.slips.specs.declared.record.Record.TheVariants.{Unused, Slot, Link}

abbrev pub link_at : List Record → ℕ → ℕ → ℕ → Record
link_at rs size i k = slice_index_or rs (size + i * (size / 2) + k) Unused

abbrev pub living : List Record → ℕ → ℕ → Bool
living rs size t = nat_lt t size && says_slot (slice_index_or rs t Unused)

-- among the first n records of a block; t itself if none of them is a link of t
abbrev pub opposite : (ℕ → Record) → ℕ → ℕ → ℕ
opposite block t zero = t
opposite block t (suc n) = cond (names t (block n)) (other t (block n)) (opposite block t n)

abbrev pub slips_map : ℕ → ℕ → List Record → Map
slips_map top size rs =
    record {
      size = size;
      top = top;
      live = living rs size;
      partner = λ i t. cond (nat_le i top) (opposite (link_at rs size i) t (size / 2)) t;
    }

pub record Named (top size : ℕ) (rs : List Record) (i k x : ℕ) : Type 0 where
  pub switch : i ≤ top
  pub within : k < size / 2
  pub named : names x (link_at rs size i k) ≡ true

pub record Twice (top size : ℕ) (rs : List Record) (i k l : ℕ) : Type 0 where
  pub end : ℕ
  pub one : Named top size rs i k end
  pub two : Named top size rs i l end

-- the records of slots come first, then those of links, and what lies behind is unused
abbrev pub belongs : ℕ → ℕ → ℕ → Record → Bool
belongs top size p Unused = true
belongs top size p Slot = nat_lt p size
belongs top size p (Link t u) = nat_le size p && nat_lt p (slips_need top size)

abbrev pub Tidy : ℕ → ℕ → List Record → Type 0
Tidy top size rs = (p : ℕ) → belongs top size p (slice_index_or rs p Unused) ≡ true

abbrev pub Alive : ℕ → ℕ → List Record → Type 0
Alive top size rs = (i k x : ℕ) → Named top size rs i k x → living rs size x ≡ true

abbrev pub Apart : ℕ → ℕ → List Record → Type 0
Apart top size rs = (i k x : ℕ) → Named top size rs i k x → other x (link_at rs size i k) ≢ x

abbrev pub Single : ℕ → ℕ → List Record → Type 0
Single top size rs = (i k l : ℕ) → Twice top size rs i k l → k ≡ l

pub record Sound (top size : ℕ) (rs : List Record) : Type 0 where
  pub low : top ≤ 7
  pub few : size ≤ 4096
  pub room : slips_need top size ≤ length rs
  pub tidy : Tidy top size rs
  pub alive : Alive top size rs
  pub apart : Apart top size rs
  pub single : Single top size rs

-- Record p is record k of the block of switch i, and is the first there that passes.
pub record Hit (rs : List Record) (size i : ℕ) (test : Record → Bool → Type 0) (p : ℕ) : Type 0 where
  pub k : ℕ
  pub within : k < size / 2
  pub at : p ≡ size + i * (size / 2) + k
  pub passes : test (link_at rs size i k) true
  pub before : (j : ℕ) → j < k → test (link_at rs size i j) false

abbrev pub Found : List Record → ℕ → ℕ → (Record → Bool → Type 0) → Option ℕ → Type 0
Found rs size i test r = MatchOption r ((k : ℕ) → k < size / 2 → test (link_at rs size i k) false) (Hit rs size i test)
