-- Two involutions in turn whose turns come back: the even steps, the odd ones, and where the two meet.
use Rattle.std.proofs.Common.{◌≡◌, ℕ, zero, suc, ◌+◌, ◌-◌, ◌<◌, ◌⊎◌, sym, refl, ap, ◌∙◌, inl, inr, ⊎_elim, arith}
use Rattle.std.proofs.lemmas.Bool.{cases_eq, cases_order}
use Rattle.ring.proofs.Turns.{pow, pow_add, turn, a_inj, pow_inj, around_a}

halves : (g : ℕ) → ((h : ℕ) × (g ≡ h + h)) ⊎ ((h : ℕ) × (g ≡ h + suc h))
halves zero = inl (0, refl)
halves (suc g) = ⊎_elim (λ (h, e). inr (h, omega arith)) (λ (h, e). inl (suc h, omega arith)) (halves g)

-- t comes back after n turns, and no sooner
pub record Closes (a b : ℕ → ℕ) (t n : ℕ) : Type 0 where
  pub back_a : (x : ℕ) → a (a x) ≡ x
  pub back_b : (x : ℕ) → b (b x) ≡ x
  pub some : 0 < n
  pub closed : pow (turn a b) n t ≡ t
  pub first : (e : ℕ) → 0 < e → e < n → pow (turn a b) e t ≡ t → ⊥

module _ {a b : ℕ → ℕ} {t n : ℕ} (c : Closes a b t n) where
  abbrev r : ℕ → ℕ
  r = turn a b

  pub same_a : (x y : ℕ) → a x ≡ a y → x ≡ y
  same_a = a_inj a b c.back_a c.back_b

  same_power : (e x y : ℕ) → pow r e x ≡ pow r e y → x ≡ y
  same_power = pow_inj a b c.back_a c.back_b

  turned_a : (e x : ℕ) → pow r e (a (pow r e x)) ≡ a x
  turned_a = around_a a b c.back_a c.back_b

  abbrev pub Even : ℕ → Type 0
  Even x = (e : ℕ) × (e < n) × (pow r e t ≡ x)

  abbrev pub Odd : ℕ → Type 0
  Odd x = (e : ℕ) × (e < n) × (a (pow r e t) ≡ x)

  wrap : (e : ℕ) → Even (pow r e t)
  wrap zero = (0, c.some, refl)
  wrap (suc e) = more (wrap e)
    where
      more : Even (pow r e t) → Even (r (pow r e t))
      more (d, l, h) = ⊎_elim (λ (q : suc d ≡ n). (0, c.some, sym c.closed ∙ (ap (λ k. pow r k t) (sym q) ∙ ap r h))) (λ (q : suc d ≡ n → ⊥). (suc d, omega arith, ap r h)) (cases_eq (suc d) n)

  no_sooner : (d e : ℕ) → d < e → e < n → pow r d t ≡ pow r e t → ⊥
  no_sooner d e l k h =
      let q : e ≡ d + (e - d) = omega arith in
      c.first (e - d) (omega arith) (omega arith) (sym (same_power d t (pow r (e - d) t) (h ∙ (ap (λ k. pow r k t) q ∙ pow_add r d (e - d) t))))

  pub distinct : (d e : ℕ) → d < n → e < n → pow r d t ≡ pow r e t → d ≡ e
  distinct d e k l h = ⊎_elim (λ (q : d ≡ e). q) (⊎_elim (λ (q : d < e). absurd (no_sooner d e q l h)) (λ (q : e < d). absurd (no_sooner e d q k (sym h)))) (cases_order d e)

  -- an even step is an odd one
  abbrev pub Meet : Type 0
  Meet = (g : ℕ) × (g < n) × (pow r g t ≡ a t)

  pub meet_from : (d e : ℕ) → pow r d t ≡ a (pow r e t) → Meet
  meet_from d e h =
      let (g, l, q) = wrap (e + d) in
      (g, l, q ∙ (pow_add r e d t ∙ (ap (pow r e) h ∙ turned_a e t)))

  across : Meet → (d : ℕ) → d < n → Even (a (pow r d t))
  across (g, k, h) d l =
      let (e, q, w) = wrap (g + (n - d)) in
      let s : d + (g + (n - d)) ≡ g + n = omega arith in
      (e, q, w ∙ same_power d (pow r (g + (n - d)) t) (a (pow r d t)) (sym (pow_add r d (g + (n - d)) t) ∙ (ap (λ k. pow r k t) s ∙ (pow_add r g n t ∙ (ap (pow r g) c.closed ∙ (h ∙ sym (turned_a d t)))))))

  -- then all of them are
  pub even_odd : Meet → (x : ℕ) → Even x → Odd x
  even_odd w x (d, l, h) = let (e, k, q) = across w d l in (e, k, ap a q ∙ (c.back_a (pow r d t) ∙ h))

  pub odd_even : Meet → (x : ℕ) → Odd x → Even x
  odd_even w x (d, l, h) = let (e, k, q) = across w d l in (e, k, q ∙ h)

  -- the steps are closed under a and b
  abbrev pub Ringed : ℕ → Type 0
  Ringed x = Even x ⊎ Odd x

  pub ringed_a : (x : ℕ) → Ringed x → Ringed (a x)
  ringed_a x (inl (e, l, h)) = inr (e, l, ap a h)
  ringed_a x (inr (e, l, h)) = inl (e, l, same_a (pow r e t) (a x) (h ∙ sym (c.back_a x)))

  before : (e : ℕ) → (d : ℕ) × (pow r (suc d) t ≡ pow r e t)
  before e =
      let s : suc (e + (n - 1)) ≡ e + n = omega (arith, c.some) in
      (e + (n - 1), ap (λ k. pow r k t) s ∙ (pow_add r e n t ∙ ap (pow r e) c.closed))

  pub ringed_b : (x : ℕ) → Ringed x → Ringed (b x)
  ringed_b x (inl (e, l, h)) =
      let (d, q) = before e in
      let (f, k, w) = wrap d in
      inr (f, k, ap a w ∙ (sym (c.back_b (a (pow r d t))) ∙ ap b (q ∙ h)))
  ringed_b x (inr (e, l, h)) = let (f, k, w) = wrap (suc e) in inl (f, k, w ∙ ap b h)

  -- the even and the odd steps meet if and only if a or b stays at a step
  pub meet_fixed : (x : ℕ) → Ringed x → (a x ≡ x) ⊎ (b x ≡ x) → Meet
  meet_fixed x (inl (e, l, h)) (inl f) = meet_from e e (h ∙ (sym f ∙ ap a (sym h)))
  meet_fixed x (inl (e, l, h)) (inr f) =
      let (d, q) = before e in
      meet_from d e (same_a (pow r d t) (a (pow r e t)) (sym (c.back_b (a (pow r d t))) ∙ (ap b (q ∙ h) ∙ (f ∙ (sym h ∙ sym (c.back_a (pow r e t)))))))
  meet_fixed x (inr (e, l, h)) (inl f) = meet_from e e (sym (c.back_a (pow r e t)) ∙ (ap a h ∙ (f ∙ sym h)))
  meet_fixed x (inr (e, l, h)) (inr f) = meet_from (suc e) e (ap b h ∙ (f ∙ sym h))

  fixed_even : (h : ℕ) → pow r (h + h) t ≡ a t → a (pow r h t) ≡ pow r h t
  fixed_even h q = same_power h (a (pow r h t)) (pow r h t) (turned_a h t ∙ (sym q ∙ pow_add r h h t))

  fixed_odd : (h : ℕ) → pow r (h + suc h) t ≡ a t → b (a (pow r h t)) ≡ a (pow r h t)
  fixed_odd h q = same_power h (pow r (suc h) t) (a (pow r h t)) (sym (pow_add r h (suc h) t) ∙ (q ∙ sym (turned_a h t)))

  pub fixed_meet : Meet → (x : ℕ) × Ringed x × ((a x ≡ x) ⊎ (b x ≡ x))
  fixed_meet (g, l, q) =
      ⊎_elim
      (λ (h, w). (pow r h t, inl (wrap h), inl (fixed_even h (ap (λ k. pow r k t) (sym w) ∙ q))))
      (λ (h, w). (a (pow r h t), ringed_a (pow r h t) (inl (wrap h)), inr (fixed_odd h (ap (λ k. pow r k t) (sym w) ∙ q))))
      (halves g)
