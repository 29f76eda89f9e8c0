-- What carries over to a map with its slots numbered from another one on.
use Rattle.std.proofs.Common.{◌≡◌, ℕ, ◌+◌, ◌%◌, ◌<◌, ◌≤◌, false, T, sym, refl, ap, ◌∙◌, subst, ⊎_elim, arith}
use native.Mathlib.Nat.{add-mod-mod, mod-mod}
use Rattle.std.proofs.lemmas.Bool.{cases_lt, cases_Bool, lt-ltb, le-ltb}
use Rattle.gmap.specs.Map.{Map, Partners, Lawful, Same}
use Rattle.gmap.specs.Layers.{shifted}
use Rattle.gmap.specs.Orbits.{Orbit, here, step}
use Rattle.layers.specs.Shifts.{ShiftLaws}
use Rattle.layers.specs.Shift.{down, up, down_below, up_below, up_down, down_up}
use Rattle.layers.specs.ShiftLaw.{live_below, live_past, partner_below, partner_past, stays_below, again, here_below}

-- whole rounds change nothing
pub shifted_reduced : (f r : ℕ) (m : Map) → (0 < m.size → r ≡ f % m.size) → Same (shifted r m) (shifted f m)
shifted_reduced f r m left =
    let slot : (t : ℕ) → t < m.size → (t + r) % m.size ≡ (t + f) % m.size = λ t h. ap (λ n. (t + n) % m.size) (left (omega arith)) ∙ add-mod-mod t f m.size in
    let rest : (t : ℕ) → t < m.size → r % m.size ≡ f % m.size = λ t h. ap (λ n. n % m.size) (left (omega arith)) ∙ mod-mod f m.size in
    record {
      size = refl;
      top = refl;
      live = λ t. ⊎_elim (λ h. rw (lt-ltb t m.size h, slot t h) refl) (λ h. rw (le-ltb t m.size h) refl) (cases_lt t m.size);
      partner = λ i t. ⊎_elim (λ h. rw (lt-ltb t m.size h, slot t h, rest t h) refl) (λ h. rw (le-ltb t m.size h) refl) (cases_lt t m.size);
    }

module _ (f : ℕ) (m : Map) (law : Partners m) where
  abbrev D : ℕ → ℕ
  D = down m.size f

  abbrev U : ℕ → ℕ
  U = up m.size f

  twice : (i j t : ℕ) → t < m.size → D ((shifted f m).partner i ((shifted f m).partner j t)) ≡ m.partner i (m.partner j (D t))
  twice i j t h = again f m law i ((shifted f m).partner j t) (here_below f m law j t h) ∙ ap (m.partner i) (again f m law j t h)

  shifted_lawful : Lawful m → Lawful (shifted f m)
  shifted_lawful lawful i j t far =
      ⊎_elim
      (λ h. let inside : (k l : ℕ) → (shifted f m).partner k ((shifted f m).partner l t) < m.size = λ k l. here_below f m law k ((shifted f m).partner l t) (here_below f m law l t h) in
      sym (up_down m.size f _ (inside i j)) ∙ (ap U (twice i j t h ∙ (lawful i j (D t) far ∙ sym (twice j i t h))) ∙ up_down m.size f _ (inside j i)))
      (λ h. ap ((shifted f m).partner i) (partner_past f m j t h) ∙ (partner_past f m i t h ∙ (sym (partner_past f m j t h) ∙ ap ((shifted f m).partner j) (sym (partner_past f m i t h)))))
      (cases_lt t m.size)

  -- what is no slot is no tuple
  past_vacant : (x : ℕ) → m.size ≤ x → m.live x ≡ false
  past_vacant x h = ⊎_elim (λ e. absurd (omega (arith, law.inside x e))) (λ e. e) (cases_Bool (m.live x))

  lawful_below : Lawful (shifted f m) → Lawful m
  lawful_below lawful i j x far =
      ⊎_elim
      (λ h. let u = up_below m.size f x h in
      let slot = down_up m.size f x h in
      subst (λ z. m.partner i (m.partner j z) ≡ m.partner j (m.partner i z)) slot (sym (twice i j (U x) u) ∙ (ap D (lawful i j (U x) far) ∙ twice j i (U x) u)))
      (λ h. let still : (k : ℕ) → m.partner k x ≡ x = λ k. law.still k x (past_vacant x h) in
      ap (m.partner i) (still j) ∙ (still i ∙ (sym (still j) ∙ ap (m.partner j) (sym (still i)))))
      (cases_lt x m.size)

  orbit_below : (via : ℕ → Type 0) {t x : ℕ} → t < m.size → Orbit (shifted f m) via t x → (x < m.size) × Orbit m via (D t) (D x)
  orbit_below via h here = (h, here)
  orbit_below via {t} h (step {u} i v o) = let (l, p) = orbit_below via h o in (here_below f m law i u l, subst (Orbit m via (D t)) (sym (again f m law i u l)) (step i v p))

  orbit_here : (via : ℕ → Type 0) {t y : ℕ} → t < m.size → Orbit m via (D t) y → (y < m.size) × Orbit (shifted f m) via t (U y)
  orbit_here via {t} h here = (down_below m.size f t h, subst (Orbit (shifted f m) via t) (sym (up_down m.size f t h)) here)
  orbit_here via {t} h (step {u} i v o) =
      let (l, p) = orbit_here via h o in
      let e : (shifted f m).partner i (U u) ≡ U (m.partner i u) = partner_below f m i (U u) (up_below m.size f u l) ∙ ap (λ z. U (m.partner i z)) (down_up m.size f u l) in
      (stays_below f m law i u l, subst (Orbit (shifted f m) via t) e (step i v p))

  pub shift_laws : ShiftLaws f m
  shift_laws =
      record {
        lawful = shifted_lawful;
        lawful_below = lawful_below;
        empty = λ fresh t. ⊎_elim (λ h. live_below f m t h ∙ fresh (D t)) (λ h. live_past f m t h) (cases_lt t m.size);
        empty_below = λ fresh x. ⊎_elim
            (λ h. ap m.live (sym (down_up m.size f x h)) ∙ (sym (live_below f m (U x) (up_below m.size f x h)) ∙ fresh (U x)))
            (λ h. past_vacant x h)
            (cases_lt x m.size);
        orbits = λ via t x h. orbit_below (λ i. T (via i)) h;
        orbits_below = λ via t x h g o. subst (Orbit (shifted f m) (λ i. T (via i)) t) (up_down m.size f x g) (orbit_here (λ i. T (via i)) h o).1;
      }
