-- Switches that are far from one another, and laws shown for one switch and for the others.
use Rattle.std.proofs.Common.{◌≡◌, ℕ, ◌+◌, ◌≢◌, sym, ap, ◌∙◌, subst, inl, inr, ⊎_elim, arith}
use native.Mathlib.Decide.{dec_le}
use Rattle.std.proofs.lemmas.Bool.{cases_eq}
use Rattle.gmap.specs.Map.{Map, Far, Lawful}
use Rattle.protection.proofs.Cases.{dec_sum}

far_sym : (i j : ℕ) → Far i j → Far j i
far_sym i j (inl h) = inr h
far_sym i j (inr h) = inl h

pub far_apart : (i j : ℕ) → Far i j → j ≢ i
far_apart i j (inl h) e = omega arith
far_apart i j (inr h) e = omega arith

pub dec_far : (i j : ℕ) → Dec (Far i j)
dec_far i j = dec_sum (dec_le (i + 2) j) (dec_le (j + 2) i)

-- a fact of switch i, and of the others
pub at_each : (i : ℕ) (P : ℕ → Type 0) → P i → ((j : ℕ) → j ≢ i → P j) → (j : ℕ) → P j
at_each i P p q j = ⊎_elim (λ (e : j ≡ i). subst P (sym e) p) (λ (e : j ≡ i → ⊥). q j e) (cases_eq j i)

abbrev pub Commute : Map → ℕ → ℕ → Type 0
Commute m i j = (x : ℕ) → m.partner i (m.partner j x) ≡ m.partner j (m.partner i x)

-- switch i commutes with those far from it, and the others among themselves
pub lawful_around : (m : Map) (i : ℕ) → ((k : ℕ) → Far i k → Commute m i k) → ((j k : ℕ) → j ≢ i → k ≢ i → Far j k → Commute m j k) → Lawful m
lawful_around m i mine others j k x far =
    at_each i (λ j. Far j k → Commute m j k)
    (mine k)
    (λ j nj. at_each i (λ k. Far j k → Commute m j k) (λ f x. sym (mine j (far_sym j i f) x)) (λ k nk. others j k nj nk) k) j far x

-- a map without links
pub free_lawful : (m : Map) → ((i x : ℕ) → m.partner i x ≡ x) → Lawful m
free_lawful m free i j x f = free i (m.partner j x) ∙ sym (ap (m.partner j) (free i x))
