-- The walk by two neighbouring switches: its turns, where it stays, and how soon it is back.
use Rattle.std.proofs.Common.{◌≡◌, ℕ, zero, suc, ◌+◌, ◌-◌, ◌*◌, ◌/◌, ◌%◌, ◌<◌, ◌≤◌, true, sym, refl, ap, ◌∙◌, inl, inr, ⊎_elim, arith}
use Rattle.std.proofs.lemmas.Bool.{cases_eq}
use Rattle.gmap.specs.Map.{Map, Partners, Free}
use Rattle.gmap.specs.Rings.{walk, Open}
use Rattle.gmap.proofs.Pigeon.{pigeon}
use Rattle.ring.specs.Round.{Stays}
use Rattle.ring.proofs.Turns.{pow, turn, pow_add, pow_inj}

module _ (m : Map) (law : Partners m) (k : ℕ) (above : 1 ≤ k) (t : ℕ) where
  abbrev A : ℕ → ℕ
  A = m.partner (k - 1)

  abbrev B : ℕ → ℕ
  B = m.partner k

  pub to_odd : (p : ℕ) → p % 2 ≡ 0 → walk m k t (suc p) ≡ A (walk m k t p)
  to_odd p e = let q : k - 1 + p % 2 ≡ k - 1 = omega arith in ap (λ s. m.partner s (walk m k t p)) q

  pub to_even : (p : ℕ) → p % 2 ≡ 1 → walk m k t (suc p) ≡ B (walk m k t p)
  to_even p e = let q : k - 1 + p % 2 ≡ k = omega arith in ap (λ s. m.partner s (walk m k t p)) q

  pub walk_turn : (p : ℕ) → p % 2 ≡ 0 → walk m k t (suc (suc p)) ≡ B (A (walk m k t p))
  walk_turn p e = to_even (suc p) (omega arith) ∙ ap B (to_odd p e)

  pub walk_even : (e : ℕ) → walk m k t (2 * e) ≡ pow (turn A B) e t
  walk_even zero = refl
  walk_even (suc e) =
      let q : 2 * suc e ≡ suc (suc (2 * e)) = omega arith in
      ap (walk m k t) q ∙ (walk_turn (2 * e) (omega arith) ∙ ap (turn A B) (walk_even e))

  pub walk_odd : (e : ℕ) → walk m k t (suc (2 * e)) ≡ A (pow (turn A B) e t)
  walk_odd e = to_odd (2 * e) (omega arith) ∙ ap A (walk_even e)

  pub walk_live : m.live t ≡ true → (p : ℕ) → m.live (walk m k t p) ≡ true
  walk_live live zero = live
  walk_live live (suc p) = law.alive (k - 1 + p % 2) (walk m k t p) ∙ walk_live live p

  -- even steps that are equal show a step that is back
  met_back : (d e : ℕ) → d < e → walk m k t (2 * d) ≡ walk m k t (2 * e) → walk m k t (2 * (e - d)) ≡ t
  met_back d e l h =
      let q : e ≡ d + (e - d) = omega arith in
      walk_even (e - d) ∙ sym (pow_inj A B (law.back (k - 1)) (law.back k) d t (pow (turn A B) (e - d) t) (sym (walk_even d) ∙ (h ∙ (walk_even e ∙ (ap (λ n. pow (turn A B) n t) q ∙ pow_add (turn A B) d (e - d) t)))))

  -- as long as no even step is back, they are different slots
  pub walk_soon : m.live t ≡ true → (n : ℕ) → n % 2 ≡ 0 → ((p : ℕ) → 0 < p → p ≤ n → p % 2 ≡ 0 → walk m k t p ≡ t → ⊥) → n + 2 ≤ 2 * m.size
  walk_soon live n even first =
      let h : suc (n / 2) ≤ m.size = pigeon m.size (suc (n / 2)) (λ e. walk m k t (2 * e)) (λ e l. law.inside (walk m k t (2 * e)) (walk_live live (2 * e))) (λ d e l b q. first (2 * (e - d)) (omega arith) (omega arith) (omega arith) (met_back d e l q)) in
      omega arith

  -- a step back
  from_odd : (p : ℕ) → p % 2 ≡ 0 → A (walk m k t (suc p)) ≡ walk m k t p
  from_odd p e = ap A (to_odd p e) ∙ law.back (k - 1) (walk m k t p)

  from_even : (p : ℕ) → p % 2 ≡ 1 → B (walk m k t (suc p)) ≡ walk m k t p
  from_even p e = ap B (to_even p e) ∙ law.back k (walk m k t p)

  -- of the steps of a walk that is back at the start, one stays if and only if a tuple met is free
  pub stays_open : (n : ℕ) → (p : ℕ) × (p < n) × Stays m k t p → (p : ℕ) × (p < n) × Open m k (walk m k t p)
  stays_open n (p, l, s) =
      (p, l, ⊎_elim (λ (e : p % 2 ≡ 0). inl (sym (to_odd p e) ∙ s)) (λ (e : p % 2 ≡ 0 → ⊥). inr (sym (to_even p (omega arith)) ∙ s)) (cases_eq (p % 2) 0))

  pub open_stays : (n : ℕ) → n % 2 ≡ 0 → walk m k t n ≡ t → (p : ℕ) → p < n → Open m k (walk m k t p) → (q : ℕ) × (q < n) × Stays m k t q
  open_stays n even back p l o = ⊎_elim (λ (e : p % 2 ≡ 0). at_even p l e o) (λ (e : p % 2 ≡ 0 → ⊥). at_odd p l (omega arith) o) (cases_eq (p % 2) 0)
    where
      -- the last step leads to the start
      last : (n : ℕ) → n % 2 ≡ 0 → walk m k t n ≡ t → 0 < n → Free m k t → (q : ℕ) × (q < n) × Stays m k t q
      last zero even back some f = absurd (omega arith)
      last (suc n) even back some f = (n, omega arith, back ∙ (sym f ∙ (ap B (sym back) ∙ from_even n (omega arith))))

      at_even : (p : ℕ) → p < n → p % 2 ≡ 0 → Open m k (walk m k t p) → (q : ℕ) × (q < n) × Stays m k t q
      at_even p l e (inl f) = (p, l, to_odd p e ∙ f)
      at_even zero l e (inr f) = last n even back l f
      at_even (suc p) l e (inr f) = (p, omega arith, sym f ∙ from_even p (omega arith))

      at_odd : (p : ℕ) → p < n → p % 2 ≡ 1 → Open m k (walk m k t p) → (q : ℕ) × (q < n) × Stays m k t q
      at_odd zero l e o = absurd (omega arith)
      at_odd (suc p) l e (inl f) = (p, omega arith, sym f ∙ from_odd p (omega arith))
      at_odd (suc p) l e (inr f) = (suc p, l, to_even (suc p) e ∙ f)
