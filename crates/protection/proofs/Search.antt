-- Finite search: for a decided fact below a bound, and for a value that a function has twice.
use Rattle.std.proofs.Common.{◌≡◌, ℕ, zero, suc, ◌<◌, subst, ⊎_elim, arith}
use mathlib.Core.Logic.Dec
use native.Mathlib.Decide.{ℕ_discrete, map_dec}
use Rattle.std.proofs.lemmas.Bool.{cases_eq}
use Rattle.gmap.proofs.Pigeon.{pigeon}

abbrev pub SomeBelow : (ℕ → Type 0) → ℕ → Type 0
SomeBelow P n = (k : ℕ) × (k < n) × P k

pub dec_below : (P : ℕ → Type 0) → ((k : ℕ) → Dec (P k)) → (n : ℕ) → Dec (SomeBelow P n)
dec_below P d zero = no (λ s. omega (arith, s.1))
dec_below P d (suc n) = go (d n) (dec_below P d n)
  where
    go : Dec (P n) → Dec (SomeBelow P n) → Dec (SomeBelow P (suc n))
    go (yes p) s = yes (n, omega arith, p)
    go (no q) (yes (k, h, p)) = yes (k, omega arith, p)
    go (no q) (no none) = no (λ (k, h, p). ⊎_elim (λ (e : k ≡ n). q (subst P e p)) (λ (e : k ≡ n → ⊥). none (k, omega arith, p)) (cases_eq k n))

-- among the numbers of a decided set below a bound
pub dec_some : (P Q : ℕ → Type 0) (n : ℕ) → ((k : ℕ) → P k → k < n) → ((k : ℕ) → Dec (P k)) → ((k : ℕ) → Dec (Q k)) → Dec ((k : ℕ) × P k × Q k)
dec_some P Q n low dp dq = map_dec (λ (k, l, (p, q)). (k, p, q)) (λ (k, p, q). (k, low k p, (p, q))) (dec_below (λ k. P k × Q k) (λ k. Dec.and (dp k) (dq k)) n)

-- a function into the numbers below n has some value twice
pub some_twice : (n : ℕ) (f : ℕ → ℕ) → ((e : ℕ) → f e < n) → (d e : ℕ) × (d < e) × (f d ≡ f e)
some_twice n f low = go (dec_below Before (λ e. dec_below (λ d. f d ≡ f e) (λ d. ℕ_discrete (f d) (f e)) e) (suc n))
  where
    Before : ℕ → Type 0
    Before e = SomeBelow (λ d. f d ≡ f e) e

    go : Dec (SomeBelow Before (suc n)) → (d e : ℕ) × (d < e) × (f d ≡ f e)
    go (yes (e, l, (d, k, q))) = (d, e, k, q)
    go (no none) = absurd (omega (arith, pigeon n (suc n) f (λ e h. low e) (λ d e h l q. none (e, l, (d, h, q)))))
