-- A word's number comes from the number of its leading bytes.
use Rattle.std.proofs.Common.{◌≡◌, ℕ, zero, suc, ◌+◌, ◌-◌, ◌*◌, ◌≤◌, Bool, cond, ◌&&◌, leb, List, [], ◌∷◌, length, get_or, take, is_some, Some, None, Option, refl, arith}
use mathlib.Core.Bool.{and-true}
use Rattle.std.proofs.lemmas.List.{get_or-take, length-take-le}
use Rattle.std.proofs.lemmas.Bool.{le-leb}
use Rattle.std.proofs.lemmas.Bool.Decides.{nat_tests}
use Rattle.reading.specs.Number.{digit_of, all_digits, value, number_of}

value_take : (w : List ℕ) (n k : ℕ) → k ≤ n → value (take n w) k ≡ value w k
value_take w n zero h = refl
value_take w n (suc k) h = cc (value_take w n k (omega arith), get_or-take n w k 0 (omega arith))

digits_last : (w : List ℕ) (k : ℕ) → length w ≡ suc k → all_digits w ≡ (all_digits (take k w) && is_some (digit_of (get_or w k 0)))
digits_last [] k e = absurd (omega arith)
digits_last (c ∷ []) zero e = and-true _
digits_last (c ∷ []) (suc k) e = absurd (omega arith)
digits_last (c ∷ d ∷ w) zero e = absurd (omega arith)
digits_last (c ∷ d ∷ w) (suc k) e = let more = digits_last (d ∷ w) k (omega arith) in grind arith

-- a number with one more digit
abbrev pub longer : Option ℕ → Option ℕ → Option ℕ
longer None d = None
longer (Some n) None = None
longer (Some n) (Some d) = cond (leb (10 * n + d) 65535) (Some (10 * n + d)) None

longer_step : (front last : Bool) (n d : ℕ) → cond (front && is_some (cond last (Some d) None) && leb (10 * n + d) 65535) (Some (10 * n + d)) None ≡ longer (cond (front && leb n 65535) (Some n) None) (cond last (Some d) None)
longer_step front last n d = grind (arith, nat_tests)

in_range : (w : List ℕ) (k : ℕ) → length w ≡ k → 1 ≤ k → k ≤ 5 → number_of w ≡ cond (all_digits w && leb (value w k) 65535) (Some (value w k)) None
in_range w k e some few = rw (e, le-leb 1 k, le-leb k 5)

pub number_one : (w : List ℕ) → length w ≡ 1 → number_of w ≡ digit_of (get_or w 0 0)
number_one [] e = absurd (omega arith)
number_one (c ∷ []) e = grind (arith, nat_tests)
number_one (c ∷ d ∷ w) e = absurd (omega arith)

pub number_step : (w : List ℕ) → 2 ≤ length w → length w ≤ 5 → number_of w ≡ longer (number_of (take (length w - 1) w)) (digit_of (get_or w (length w - 1) 0))
number_step w some few =
    let k = length w - 1 in
    let c = get_or w k 0 in
    let whole = in_range w (suc k) (omega arith) (omega arith) (omega arith) in
    let front = in_range (take k w) k (length-take-le k w (omega arith)) (omega arith) (omega arith) in
    rw (whole, front, value_take w k k (omega arith), digits_last w k (omega arith)) (longer_step (all_digits (take k w)) (leb 48 c && leb c 57) (value w k) (c - 48))
