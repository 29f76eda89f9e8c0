-- The bits of a mask.
use Rattle.std.proofs.Common.{◌≡◌, ℕ, ◌/◌, ◌%◌, ◌^◌, ◌<◌, ◌≤◌, ap, arith, pow_mono}
use native.Mathlib.Nat.{div-eq_of_lt}
use Rattle.gmap.specs.Asking.{Bit}

-- a mask of 8 bits has none from 8 on
pub bit_none : (mask i : ℕ) → mask < 2 ^ 8 → 8 ≤ i → Bit mask i → ⊥
bit_none mask i h l b =
    let p : 2 ^ 8 ≤ 2 ^ i = pow_mono l in
    let lt : mask < 2 ^ i = omega arith in
    let z : mask / 2 ^ i ≡ 0 = div-eq_of_lt lt in
    omega (arith, ap (λ v. v % 2) z)
