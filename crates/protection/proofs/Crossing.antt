-- The walk across a cell that is removed: it ends, and in one place; it has a way back; far switches lead along it.
use Rattle.std.proofs.Common.{◌≡◌, ℕ, zero, suc, ◌+◌, ◌-◌, ◌<◌, true, false, sym, refl, ap, ◌∙◌, subst, inl, inr, ⊎_elim, arith}
use Rattle.std.proofs.lemmas.Bool.{cases_eq, cases_Bool}
use Rattle.gmap.specs.Map.{Map, Partners, Far, Lawful}
use Rattle.gmap.specs.Orbits.{step, Cell}
use Rattle.gmap.specs.Removing.{Leads, out, on}
use Rattle.protection.proofs.Switches.{far_apart}
use Rattle.protection.proofs.Orbits.{dec_cell, cell_off}
use Rattle.protection.proofs.Search.{some_twice}
use Rattle.ring.proofs.Turns.{pow, pow_add, pow_out, pow_inj, turn}

-- two involutions in turn come back among finitely many numbers
comes_back : (a b : ℕ → ℕ) → ((x : ℕ) → a (a x) ≡ x) → ((x : ℕ) → b (b x) ≡ x) → (n t : ℕ) → ((e : ℕ) → pow (turn a b) e t < n) → (e : ℕ) × (0 < e) × (pow (turn a b) e t ≡ t)
comes_back a b ia ib n t low =
    let (d, e, l, h) = some_twice n (λ e. pow (turn a b) e t) low in
    let q : e ≡ d + (e - d) = omega arith in
    (e - d, omega arith, sym (pow_inj a b ia ib d t (pow (turn a b) (e - d) t) (h ∙ (ap (λ k. pow (turn a b) k t) q ∙ pow_add (turn a b) d (e - d) t))))

-- i + 1 and i + 2 commute on the i-cell of t
abbrev pub Untwisted : Map → ℕ → ℕ → Type 0
Untwisted m i t = (x : ℕ) → Cell m i t x → m.partner (i + 1) (m.partner (i + 2) x) ≡ m.partner (i + 2) (m.partner (i + 1) x)

module _ (m : Map) (law : Partners m) (i t : ℕ) where
  abbrev C : ℕ → Type 0
  C = Cell m i t

  pub leads_off : {y z : ℕ} → Leads m i t y z → ¬ C z
  leads_off (out q) = q
  leads_off (on h o) = leads_off o

  pub leads_live : {y z : ℕ} → Leads m i t y z → m.live z ≡ m.live y
  leads_live (out q) = refl
  leads_live (on {x = y} {y = z} h o) = leads_live o ∙ (law.alive i (m.partner (i + 1) y) ∙ law.alive (i + 1) y)

  pub leads_single : {y z : ℕ} → Leads m i t y z → {w : ℕ} → Leads m i t y w → z ≡ w
  leads_single (out q) (out p) = refl
  leads_single (out q) (on h o) = absurd (q h)
  leads_single (on h o) (out q) = absurd (q h)
  leads_single (on h o) (on k p) = leads_single o p

  -- the way back
  pub leads_back : (x : ℕ) {y z : ℕ} → Leads m i t y z → Leads m i t (m.partner i y) x → Leads m i t (m.partner i z) x
  leads_back x (out q) b = b
  leads_back x (on {x = y} {y = z} h o) b =
      let y' = m.partner (i + 1) y in
      leads_back x o (subst (λ w. Leads m i t w x) (sym (law.back i y')) (on (step (i + 1) (λ e. omega arith) h) (subst (λ w. Leads m i t (m.partner i w) x) (sym (law.back (i + 1) y)) b)))

  -- the same way, one far switch along
  pub leads_along : Lawful m → Untwisted m i t → (k : ℕ) → Far i k → {y z : ℕ} → Leads m i t y z → Leads m i t (m.partner k y) (m.partner k z)
  leads_along lawful r k f {y} (out q) = out (cell_off m law i t k (far_apart i k f) y q)
  leads_along lawful r k f (on {x = y} {y = z} h o) =
      on (step k (far_apart i k f) h) (subst (λ w. Leads m i t w (m.partner k z)) (sym (lawful i k (m.partner (i + 1) y) f) ∙ ap (m.partner i) (sym commute)) (leads_along lawful r k f o))
    where
      farther : (k ≡ i + 2 → ⊥) → Far i k → Far (i + 1) k
      farther e (inl l) = inl (omega arith)
      farther e (inr l) = inr (omega arith)

      commute : m.partner (i + 1) (m.partner k y) ≡ m.partner k (m.partner (i + 1) y)
      commute = ⊎_elim (λ (e : k ≡ i + 2). subst (λ s. m.partner (i + 1) (m.partner s y) ≡ m.partner s (m.partner (i + 1) y)) (sym e) (r y h)) (λ (e : k ≡ i + 2 → ⊥). lawful (i + 1) k y (farther e f)) (cases_eq k (i + 2))

  -- a step of the walk
  abbrev S : ℕ → ℕ
  S x = m.partner i (m.partner (i + 1) x)

  -- the same step, seen from outside of the cell
  abbrev R : ℕ → ℕ
  R x = m.partner (i + 1) (m.partner i x)

  leave : (fuel y : ℕ) → ¬ C (pow S fuel y) → (z : ℕ) × Leads m i t y z
  leave zero y q = (y, out q)
  leave (suc fuel) y q = go (dec_cell m law i t y) (leave fuel (S y) (λ h. q (subst C (pow_out S fuel y) h)))
    where
      go : Dec (C y) → ((z : ℕ) × Leads m i t (S y) z) → (z : ℕ) × Leads m i t y z
      go (yes h) (z, o) = (z, on h o)
      go (no p) w = (y, out p)

  swing : (e x : ℕ) → pow S e (m.partner i x) ≡ m.partner i (pow R e x)
  swing zero x = refl
  swing (suc e) x = ap S (swing e x)

  -- where R has come back to x, the walk has left the cell
  pub leads_ends : (x : ℕ) → ¬ C x → (z : ℕ) × Leads m i t (m.partner i x) z
  leads_ends x q = ⊎_elim alive vacant (cases_Bool (m.live x))
    where
      vacant : m.live x ≡ false → (z : ℕ) × Leads m i t (m.partner i x) z
      vacant e = (m.partner i x, out (subst (λ w. ¬ C w) (sym (law.still i x e)) q))

      living : m.live x ≡ true → (e : ℕ) → m.live (pow R e x) ≡ true
      living a zero = a
      living a (suc e) = law.alive (i + 1) (m.partner i (pow R e x)) ∙ (law.alive i (pow R e x) ∙ living a e)

      go : (e : ℕ) → 0 < e → pow R e x ≡ x → (z : ℕ) × Leads m i t (m.partner i x) z
      go zero l c = absurd (omega arith)
      go (suc e) l c = leave e (m.partner i x) (λ h. q (subst C (ap (m.partner (i + 1)) (swing e x) ∙ c) (step (i + 1) (λ e. omega arith) h)))

      alive : m.live x ≡ true → (z : ℕ) × Leads m i t (m.partner i x) z
      alive a = let (e, l, c) = comes_back (m.partner i) (m.partner (i + 1)) (law.back i) (law.back (i + 1)) m.size x (λ e. law.inside (pow R e x) (living a e)) in go e l c
