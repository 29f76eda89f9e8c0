-- The acts on a dual map are acts on the map below.
use Rattle.std.proofs.Common.{◌≡◌, ℕ, ◌-◌, ◌≤◌, eqb, Result, sym, refl, ap, ◌∙◌, subst, ⊎_elim, arith}
use Rattle.std.proofs.lemmas.Bool.{cases_eq, cases_lt, eq-eqb, ne_eqb, le-leb, lt-leb}
use Rattle.gmap.specs.Map.{Map, Partners, Same, Free}
use Rattle.gmap.specs.Acts.{close_checks, closed, tie_checks, tied}
use Rattle.gmap.specs.Layers.{dual}
use Rattle.gmap.specs.Outcome.{Outcome}
use Rattle.gmap.specs.declared.refusal.Refusal.{Refusal}
use Rattle.layers.proofs.Along.{layer_act}
use Rattle.layers.proofs.Checks.{Agree}
use Rattle.layers.proofs.DualLaw.{dual_partner}

minus_eqb : (n i j : ℕ) → i ≤ n → j ≤ n → eqb (n - j) (n - i) ≡ eqb j i
minus_eqb n i j h g =
    ⊎_elim (λ e. eq-eqb (n - j) (n - i) (ap (λ k. n - k) e) ∙ sym (eq-eqb j i e)) (λ e. ne_eqb (n - j) (n - i) (λ z. e (omega (arith, h, g, z))) ∙ sym (ne_eqb j i e)) (cases_eq j i)

module _ (m : Map) (law : Partners m) where
  pub dual_closed : (t : ℕ) → Same (dual (closed m t)) (closed (dual m) t)
  dual_closed t = record { size = refl; top = refl; live = λ x. refl; partner = λ i x. refl }

  pub dual_tied : (i t u : ℕ) → i ≤ m.top → Same (dual (tied m (m.top - i) t u)) (tied (dual m) i t u)
  dual_tied i t u h = record {
    size = refl;
    top = refl;
    live = λ x. refl;
    partner = λ j x. ⊎_elim
        (λ g. rw (lt-leb j m.top g, ne_eqb j i (λ e. omega (arith, h, g, e))) refl)
        (λ g. rw (le-leb j m.top g, minus_eqb m.top i j h g) refl) (cases_lt m.top j);
  }

  -- a tuple linked in some switch is linked in some switch of the dual
  linked : (t : ℕ) → (i : ℕ) × (Free m i t → ⊥) → (i : ℕ) × (Free (dual m) i t → ⊥)
  linked t p = ⊎_elim (λ h. absurd (p.1 (law.high p.0 t h))) (λ h.
      let e : m.top - (m.top - p.0) ≡ p.0 = omega (arith, h) in
      (m.top - p.0, (λ z. p.1 (sym (ap (λ k. m.partner k t) e) ∙ (sym (dual_partner m (m.top - p.0) t (omega arith)) ∙ z))))) (cases_lt m.top p.0)

  linked_below : (t : ℕ) → (i : ℕ) × (Free (dual m) i t → ⊥) → (i : ℕ) × (Free m i t → ⊥)
  linked_below t p = ⊎_elim
      (λ h. absurd (p.1 (rw (lt-leb p.0 m.top h) refl)))
      (λ h. (m.top - p.0, (λ z. p.1 (dual_partner m p.0 t h ∙ z)))) (cases_lt m.top p.0)

  pub close_agree : (t : ℕ) → Agree (close_checks m t) (close_checks (dual m) t)
  close_agree t = ((λ h. h), (λ h. h), refl, ((λ h. h), (λ h. h), refl, (linked t, linked_below t, refl, tt)))

  pub tie_agree : (i t u : ℕ) → i ≤ m.top → Agree (tie_checks m (m.top - i) t u) (tie_checks (dual m) i t u)
  tie_agree i t u h = (
    (λ z. absurd (omega (arith, z))),
    (λ z. absurd (omega (arith, h, z))),
    refl,
    ((λ z. z), (λ z. z), refl, ((λ z. z), (λ z. z), refl, ((λ z. z), (λ z. z), refl, (rw (le-leb i m.top h) (λ z. z), rw (le-leb i m.top h) (λ z. z), refl, tt)))),
  )

  -- the acts
  pub close_dual : (m' : Map) (t : ℕ) (r : Result (Unit {0}) Refusal) → Outcome (close_checks m t) (λ _. Same m' (closed m t)) (Same m' m) r
      → Outcome (close_checks (dual m) t) (λ _. Same (dual m') (closed (dual m) t)) (Same (dual m') (dual m)) r
  close_dual m' t r o = layer_act dual m m' (closed m t) (closed (dual m) t) (close_checks m t) (close_checks (dual m) t) (close_agree t) (dual_closed t) r o

  pub tie_dual : (m' : Map) (n i t u : ℕ) (r : Result (Unit {0}) Refusal) → n ≡ m.top → i ≤ n → Outcome (tie_checks m (n - i) t u) (λ _. Same m' (tied m (n - i) t u)) (Same m' m) r
      → Outcome (tie_checks (dual m) i t u) (λ _. Same (dual m') (tied (dual m) i t u)) (Same (dual m') (dual m)) r
  tie_dual m' n i t u r e h o =
      let l : i ≤ m.top = omega (arith, e, h) in
      let P : ℕ → Type 0 = λ k. Outcome (tie_checks m (k - i) t u) (λ _. Same m' (tied m (k - i) t u)) (Same m' m) r in
      layer_act dual m m' (tied m (m.top - i) t u) (tied (dual m) i t u) (tie_checks m (m.top - i) t u) (tie_checks (dual m) i t u) (tie_agree i t u l) (dual_tied i t u l) r (subst P e o)
