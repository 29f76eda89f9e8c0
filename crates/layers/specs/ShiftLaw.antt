-- A shifted map answers by the map below, and keeps the law of partners.
use Rattle.std.specs.Prelude.{◌≡◌, ℕ, ◌+◌, ◌%◌, ◌<◌, ◌≤◌, false, refl}
use Rattle.std.proofs.Common.{sym, ap, ◌∙◌, ⊎_elim, arith, mod-lt}
use Rattle.std.proofs.lemmas.Bool.{cases_lt, cases_Bool, both_ways, lt-ltb, le-ltb}
use Rattle.gmap.specs.Map.{Map, Partners, Free}
use Rattle.gmap.specs.Layers.{shifted}
use Rattle.layers.specs.Shift.{down, up, down_below, up_below, up_down, down_up}

module _ (f : ℕ) (m : Map) where
  abbrev D : ℕ → ℕ
  D = down m.size f

  abbrev U : ℕ → ℕ
  U = up m.size f

  pub live_below : (x : ℕ) → x < m.size → (shifted f m).live x ≡ m.live (D x)
  live_below x h = rw (lt-ltb x m.size h) refl

  pub live_past : (x : ℕ) → m.size ≤ x → (shifted f m).live x ≡ false
  live_past x h = rw (le-ltb x m.size h) refl

  pub partner_below : (i x : ℕ) → x < m.size → (shifted f m).partner i x ≡ U (m.partner i (D x))
  partner_below i x h = rw (lt-ltb x m.size h) refl

  pub partner_past : (i x : ℕ) → m.size ≤ x → (shifted f m).partner i x ≡ x
  partner_past i x h = rw (le-ltb x m.size h) refl

  module _ (law : Partners m) where
    pub stays_below : (i x : ℕ) → x < m.size → m.partner i x < m.size
    stays_below i x h = ⊎_elim (λ e. law.inside (m.partner i x) (law.alive i x ∙ e)) (λ e. rw (law.still i x e) h) (cases_Bool (m.live x))

    below : (i x : ℕ) → x < m.size → m.partner i (D x) < m.size
    below i x h = stays_below i (D x) (down_below m.size f x h)

    -- what is read below can be counted from the other slot again
    pub partner_fits : (n i t d u : ℕ) → n ≡ m.size → t < n → d ≡ (t + f) % n → u ≡ m.partner i d → (u < n) × (n ≤ 4096)
    partner_fits n i t d u sized h e p =
        let l : (t + f) % n < n = mod-lt (t + f) (omega (arith, h)) in
        let b : m.partner i d < m.size = stays_below i d (omega (arith, sized, l, e)) in
        (omega (arith, sized, b, p), omega (arith, sized, law.few))

    -- a partner that stays put below stays put here
    pub free_here : (i x : ℕ) → x < m.size → Free m i (D x) → Free (shifted f m) i x
    free_here i x h e = partner_below i x h ∙ (ap U e ∙ up_down m.size f x h)

    pub free_below : (i x : ℕ) → x < m.size → Free (shifted f m) i x → Free m i (D x)
    free_below i x h e = sym (down_up m.size f (m.partner i (D x)) (below i x h)) ∙ ap D (sym (partner_below i x h) ∙ e)

    pub again : (i x : ℕ) → x < m.size → D ((shifted f m).partner i x) ≡ m.partner i (D x)
    again i x h = ap D (partner_below i x h) ∙ down_up m.size f (m.partner i (D x)) (below i x h)

    pub here_below : (i x : ℕ) → x < m.size → (shifted f m).partner i x < m.size
    here_below i x h = rw (partner_below i x h) (up_below m.size f (m.partner i (D x)) (below i x h))

    pub shifted_partners : Partners (shifted f m)
    shifted_partners = record {
      few = law.few;
      low = law.low;
      inside = λ x e. ⊎_elim (λ h. h) (λ h. absurd (both_ways ((shifted f m).live x) (live_past x h) e)) (cases_lt x m.size);
      back = λ i x. ⊎_elim
          (λ h. partner_below i ((shifted f m).partner i x) (here_below i x h) ∙ (ap (λ k. U (m.partner i k)) (again i x h) ∙ (ap U (law.back i (D x)) ∙ up_down m.size f x h)))
          (λ h. ap ((shifted f m).partner i) (partner_past i x h) ∙ partner_past i x h) (cases_lt x m.size);
      alive = λ i x. ⊎_elim
          (λ h. live_below ((shifted f m).partner i x) (here_below i x h) ∙ (ap m.live (again i x h) ∙ (law.alive i (D x) ∙ sym (live_below x h))))
          (λ h. ap (shifted f m).live (partner_past i x h)) (cases_lt x m.size);
      still = λ i x e. ⊎_elim (λ h. free_here i x h (law.still i (D x) (sym (live_below x h) ∙ e))) (λ h. partner_past i x h) (cases_lt x m.size);
      high = λ i x g. ⊎_elim (λ h. free_here i x h (law.high i (D x) g)) (λ h. partner_past i x h) (cases_lt x m.size);
    }
