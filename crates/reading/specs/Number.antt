-- The number that a word writes.
--   digit_of    the digit that a byte writes
--   all_digits  a word has only digits
--   value       the number that the first k digits of a word write
--   number_of   1 to 5 digits that write at most 65,535 are a number, and any other word is none
use Rattle.std.specs.Prelude.{ℕ, zero, suc, ◌+◌, ◌-◌, ◌*◌, Bool, true, cond, ◌&&◌, List, [], ◌∷◌, length, is_some, Some, None, Option, nat_le, slice_index}

-- `0` to `9` are 48 to 57
abbrev pub digit_of : ℕ → Option ℕ
digit_of c = cond (nat_le 48 c && nat_le c 57) (Some (c - 48)) None

abbrev pub all_digits : List ℕ → Bool
all_digits [] = true
all_digits (c ∷ cs) = is_some (digit_of c) && all_digits cs

-- ten times the number of the leading digits plus the last
abbrev pub value : List ℕ → ℕ → ℕ
value w zero = 0
value w (suc k) = 10 * value w k + (slice_index w k - 48)

abbrev pub number_of : List ℕ → Option ℕ
number_of w = cond (nat_le 1 (length w) && nat_le (length w) 5 && all_digits w && nat_le (value w (length w)) 65535) (Some (value w (length w))) None
