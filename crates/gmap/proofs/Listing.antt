-- What stands in the first places of a list.
use Rattle.std.proofs.Common.{◌≡◌, ℕ, zero, suc, ◌+◌, ◌⊎◌, List, get_or, sym, refl, ap, ◌∙◌, subst, inl, inr, ⊎_elim, arith}
use Rattle.std.proofs.lemmas.Bool.{cases_eq}
use Rattle.gmap.specs.Listing.{Among}

pub among_cases : (xs : List ℕ) (n x : ℕ) → Among xs n x ⊎ (Among xs n x → ⊥)
among_cases xs zero x = inr (λ a. omega (arith, a.1))
among_cases xs (suc n) x =
    ⊎_elim
    (λ (k, h, e). inl (k, omega arith, e))
    (λ none. ⊎_elim
    (λ e. inl (n, omega arith, e))
    (λ e. inr (λ (k, h, q). ⊎_elim (λ w. e (subst (λ j. get_or xs j 0 ≡ x) w q)) (λ w. none (k, omega arith, q)) (cases_eq k n)))
    (cases_eq (get_or xs n 0) x))
    (among_cases xs n x)

-- one place more
pub among_suc : (xs : List ℕ) (n x : ℕ) → Among xs n x → Among xs (n + 1) x
among_suc xs n x (k, h, e) = (k, omega arith, e)

pub among_last : (xs : List ℕ) (n : ℕ) → Among xs (n + 1) (get_or xs n 0)
among_last xs n = (n, omega arith, refl)

pub among_split : (xs : List ℕ) (n x : ℕ) → Among xs (n + 1) x → Among xs n x ⊎ (x ≡ get_or xs n 0)
among_split xs n x (k, h, e) = ⊎_elim (λ w. inr (sym e ∙ ap (λ j. get_or xs j 0) w)) (λ w. inl (k, omega arith, e)) (cases_eq k n)
