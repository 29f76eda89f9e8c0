-- Cases on any fact, decided or not, where an equation of decided things is to be proved.
use Rattle.std.proofs.Common.{◌≡◌, ℕ, Bool, true, false, ◌≢◌, ◌⊎◌, inl, inr, ⊎_elim}
use mathlib.Core.Bool.{Bool-discrete}
use native.Mathlib.Decide.{ℕ_discrete}
use Rattle.std.proofs.lemmas.Bool.{cases_Bool}

pub either_way : {A : Type 0} → Discrete A → (P : Type 0) (x y : A) → (P → x ≡ y) → (¬ P → x ≡ y) → x ≡ y
either_way d P x y f g = go (d x y)
  where
    go : Dec (x ≡ y) → x ≡ y
    go (yes e) = e
    go (no q) = absurd (q (g (λ p. q (f p))))

pub by_fact : (P : Type 0) (x y : ℕ) → (P → x ≡ y) → (¬ P → x ≡ y) → x ≡ y
by_fact = either_way ℕ_discrete

pub by_fact_bool : (P : Type 0) (x y : Bool) → (P → x ≡ y) → (¬ P → x ≡ y) → x ≡ y
by_fact_bool = either_way Bool-discrete

pub stable : (x y : ℕ) → ¬ (x ≢ y) → x ≡ y
stable x y h = by_fact (x ≡ y) x y (λ e. e) (λ q. absurd (h q))

pub not_false_true : (b : Bool) → b ≢ false → b ≡ true
not_false_true b h = ⊎_elim (λ e. e) (λ e. absurd (h e)) (cases_Bool b)

pub not_true_false : (b : Bool) → b ≢ true → b ≡ false
not_true_false b h = ⊎_elim (λ e. absurd (h e)) (λ e. e) (cases_Bool b)

pub dec_sum : {A B : Type 0} → Dec A → Dec B → Dec (A ⊎ B)
dec_sum (yes a) d = yes (inl a)
dec_sum (no p) (yes b) = yes (inr b)
dec_sum (no p) (no q) = no (⊎_elim p q)
