-- When a tie and an untie are not refused, and what they leave.
use Rattle.std.proofs.Common.{◌≡◌, ℕ, ◌≤◌, true, false, ◌&&◌, eqb, sym, refl, inl, inr, ⊎_elim, arith}
use Rattle.std.proofs.lemmas.Bool.{both_ways, cases_eq, eq-eqb, ne_eqb, and_left, and_right}
use Rattle.gmap.specs.Map.{Map, Partners, Free, DiffersIn}
use Rattle.gmap.specs.Acts.{tie_checks, tied, untie_checks, untied}
use Rattle.gmap.specs.Outcome.{First}
use Rattle.gmap.specs.declared.refusal.Refusal.{Refusal}

-- the name of a switch and a tuple, as a test
named : (j i x t : ℕ) → ((j ≡ i) × (x ≡ t) → ⊥) → (eqb j i && eqb x t) ≡ false
named j i x t n = ⊎_elim (λ e. and_right (eqb j i) (eqb x t) (ne_eqb x t (λ f. n (e, f)))) (λ e. and_left (eqb j i) (eqb x t) (ne_eqb j i e)) (cases_eq j i)

module _ (m : Map) (law : Partners m) (i t : ℕ) (low : i ≤ m.top) (live : m.live t ≡ true) where
  pub untie_accepted : (e : Refusal) → (Free m i t → ⊥) → First (untie_checks m i t) e → ⊥
  untie_accepted e tied (inl (h, q)) = omega arith
  untie_accepted e tied (inr (h, inl (k, q))) = omega (arith, law.inside t live)
  untie_accepted e tied (inr (h, inr (k, inl (v, q)))) = both_ways (m.live t) v live
  untie_accepted e tied (inr (h, inr (k, inr (v, inl (f, q))))) = tied f
  untie_accepted e tied (inr (h, inr (k, inr (v, inr (f, none))))) = none

  pub tie_accepted : (u : ℕ) → m.live u ≡ true → (t ≡ u → ⊥) → Free m i t → Free m i u → (e : Refusal) → First (tie_checks m i t u) e → ⊥
  tie_accepted u live' apart free free' e (inl (h, q)) = omega arith
  tie_accepted u live' apart free free' e (inr (h, inl (k, q))) = ⊎_elim (λ l. omega (arith, law.inside t live)) (λ l. omega (arith, law.inside u live')) k
  tie_accepted u live' apart free free' e (inr (h, inr (k, inl (v, q)))) = ⊎_elim (λ l. both_ways (m.live t) l live) (λ l. both_ways (m.live u) l live') v
  tie_accepted u live' apart free free' e (inr (h, inr (k, inr (v, inl (s, q))))) = apart s
  tie_accepted u live' apart free free' e (inr (h, inr (k, inr (v, inr (s, inl (l, q)))))) = ⊎_elim (λ w. w free) (λ w. w free') l
  tie_accepted u live' apart free free' e (inr (h, inr (k, inr (v, inr (s, inr (l, none)))))) = none

module _ (m : Map) (i t u : ℕ) where
  pub tied_frame : DiffersIn i m (tied m i t u)
  tied_frame = record { size = refl; top = refl; live = λ x. refl; others = λ j x e. rw (named j i x t (λ p. e p.0), named j i x u (λ p. e p.0)) refl }

  pub tied_left : (tied m i t u).partner i t ≡ u
  tied_left = rw (eq-eqb i i refl, eq-eqb t t refl) refl

  pub tied_right : (t ≡ u → ⊥) → (tied m i t u).partner i u ≡ t
  tied_right apart = rw (named i i u t (λ p. apart (sym p.1)), eq-eqb i i refl, eq-eqb u u refl) refl

  pub tied_rest : (x : ℕ) → (x ≡ t → ⊥) → (x ≡ u → ⊥) → (tied m i t u).partner i x ≡ m.partner i x
  tied_rest x a b = rw (named i i x t (λ p. a p.1), named i i x u (λ p. b p.1)) refl

module _ (m : Map) (i t : ℕ) where
  pub untied_frame : DiffersIn i m (untied m i t)
  untied_frame = record { size = refl; top = refl; live = λ x. refl; others = λ j x e. rw (named j i x t (λ p. e p.0), named j i x (m.partner i t) (λ p. e p.0)) refl }

  pub untied_left : (x : ℕ) → x ≡ t → (untied m i t).partner i x ≡ x
  untied_left x e = rw (eq-eqb i i refl, eq-eqb x t e) refl

  pub untied_right : (x : ℕ) → x ≡ m.partner i t → (untied m i t).partner i x ≡ x
  untied_right x e =
      ⊎_elim (λ w. untied_left x w) (λ w. rw (named i i x t (λ p. w p.1), eq-eqb i i refl, eq-eqb x (m.partner i t) e) refl) (cases_eq x t)

  pub untied_rest : (x : ℕ) → (x ≡ t → ⊥) → (x ≡ m.partner i t → ⊥) → (untied m i t).partner i x ≡ m.partner i x
  untied_rest x a b = rw (named i i x t (λ p. a p.1), named i i x (m.partner i t) (λ p. b p.1)) refl
