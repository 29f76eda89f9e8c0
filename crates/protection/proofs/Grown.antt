-- A map with new tuples beside those of an edge keeps the laws, and is one map.
use Rattle.std.proofs.Common.{◌≡◌, ℕ, zero, suc, ◌+◌, ◌<◌, ◌≤◌, true, false, ◌≢◌, sym, refl, ap, ◌∙◌, subst, inl, ⊎_elim, arith}
use mathlib.Core.Bool.{Bool-discrete}
use native.Mathlib.Decide.{ℕ_discrete}
use Rattle.std.proofs.lemmas.Bool.{cases_lt, both_ways}
use Rattle.gmap.specs.Map.{Map, Partners, Far, Lawful, Same}
use Rattle.gmap.specs.Orbits.{step, Cell}
use Rattle.protection.proofs.Cases.{either_way}
use Rattle.protection.proofs.Switches.{Commute, at_each}
use Rattle.protection.proofs.Orbits.{cell_off, cell_live}

-- z is the new tuple of one in the 1-cell of t
abbrev pub New : Map → ℕ → (ℕ → ℕ) → ℕ → Type 0
New m t beside z = (x : ℕ) × Cell m 1 t x × (beside x ≡ z)

-- slots for the new tuples
pub record Room (m : Map) (t : ℕ) (beside : ℕ → ℕ) : Type 0 where
  pub vacant : (x : ℕ) → Cell m 1 t x → m.live (beside x) ≡ false
  pub within : (x : ℕ) → Cell m 1 t x → beside x < m.size
  pub single : (x y : ℕ) → Cell m 1 t x → Cell m 1 t y → beside x ≡ beside y → x ≡ y

module _ (m : Map) (t : ℕ) (beside : ℕ → ℕ) (room : Room m t beside) where
  pub new_vacant : (z : ℕ) → New m t beside z → m.live z ≡ false
  new_vacant z (x, h, e) = ap m.live (sym e) ∙ room.vacant x h

  pub live_not_new : (z : ℕ) → m.live z ≡ true → ¬ New m t beside z
  live_not_new z l w = both_ways (m.live z) (new_vacant z w) l

-- m' is m with the new tuples on the edge
pub record Grown (m : Map) (t : ℕ) (beside : ℕ → ℕ) (m' : Map) : Type 0 where
  pub room : Room m t beside
  pub size : m'.size ≡ m.size
  pub top : m'.top ≡ m.top
  pub live_new : (x : ℕ) → Cell m 1 t x → m'.live (beside x) ≡ true
  pub live_old : (z : ℕ) → ¬ New m t beside z → m'.live z ≡ m.live z
  pub up : (x : ℕ) → Cell m 1 t x → m'.partner 0 x ≡ beside x
  pub down : (x : ℕ) → Cell m 1 t x → m'.partner 0 (beside x) ≡ x
  pub over : (x : ℕ) → Cell m 1 t x → m'.partner 1 (beside x) ≡ beside (m.partner 0 x)
  pub along : (x : ℕ) → Cell m 1 t x → (j : ℕ) → 2 ≤ j → m'.partner j (beside x) ≡ beside (m.partner j x)
  pub rest : (z : ℕ) → ¬ New m t beside z → ¬ Cell m 1 t z → m'.partner 0 z ≡ m.partner 0 z
  pub other : (j : ℕ) → j ≢ 0 → (z : ℕ) → ¬ New m t beside z → m'.partner j z ≡ m.partner j z

module _ (m : Map) (law : Partners m) (t : ℕ) (alive : m.live t ≡ true) (known : 1 ≤ m.top) (beside : ℕ → ℕ) (m' : Map) (d : Grown m t beside m') where
  abbrev E : ℕ → Type 0
  E = Cell m 1 t

  abbrev N : ℕ → Type 0
  N = New m t beside

  abbrev s : ℕ → ℕ → ℕ
  s = m.partner

  abbrev s' : ℕ → ℕ → ℕ
  s' = m'.partner

  lives : {x : ℕ} → E x → m.live x ≡ true
  lives = cell_live m law 1 t alive

  cell_not_new : (x : ℕ) → E x → ¬ N x
  cell_not_new x h = live_not_new m t beside d.room x (lives h)

  pub not_new : (j z : ℕ) → ¬ N z → ¬ N (s j z)
  not_new j z q w = q (subst N (sym (law.still j (s j z) (new_vacant m t beside d.room (s j z) w)) ∙ law.back j z) w)

  not_cell : (j z : ℕ) → j ≢ 1 → ¬ E z → ¬ E (s j z)
  not_cell j z e = cell_off m law 1 t j e z

  -- an equation at every tuple: at a new one, at one of the cell, at any other
  module _ {A : Type 0} (disc : Discrete A) (f g : ℕ → A) (at_new : (x : ℕ) → E x → f (beside x) ≡ g (beside x)) where
    at_new_or_old : ((z : ℕ) → ¬ N z → f z ≡ g z) → (z : ℕ) → f z ≡ g z
    at_new_or_old at_old z = either_way disc (N z) (f z) (g z) (λ w. subst (λ v. f v ≡ g v) w.2 (at_new w.0 w.1)) (at_old z)

    everywhere : ((x : ℕ) → E x → f x ≡ g x) → ((z : ℕ) → ¬ N z → ¬ E z → f z ≡ g z) → (z : ℕ) → f z ≡ g z
    everywhere at_cell at_rest = at_new_or_old (λ z q. either_way disc (E z) (f z) (g z) (at_cell z) (at_rest z q))

  zero_far : Lawful m → (j : ℕ) → 2 ≤ j → Commute m' 0 j
  zero_far lawful j l =
      everywhere ℕ_discrete (λ z. s' 0 (s' j z)) (λ z. s' j (s' 0 z))
      (λ x h. ap (s' 0) (d.along x h j l) ∙ (d.down (s j x) (step j (omega arith) h) ∙ sym (ap (s' j) (d.down x h) ∙ d.other j (omega arith) x (cell_not_new x h))))
      (λ x h. ap (s' 0) (d.other j (omega arith) x (cell_not_new x h)) ∙ (d.up (s j x) (step j (omega arith) h) ∙ sym (ap (s' j) (d.up x h) ∙ d.along x h j l)))
      (λ z p q. ap (s' 0) (d.other j (omega arith) z p) ∙ (d.rest (s j z) (not_new j z p) (not_cell j z (omega arith) q) ∙ (lawful 0 j z (inl (omega arith)) ∙ sym (ap (s' j) (d.rest z p q) ∙ d.other j (omega arith) (s 0 z) (not_new 0 z p)))))

  -- at the new tuples switch j does what switch k, other than 1, does at the old
  abbrev Lifts : ℕ → ℕ → Type 0
  Lifts j k = (k ≢ 1) × ((x : ℕ) → E x → s' j (beside x) ≡ beside (s k x))

  pub lifted : (j : ℕ) → j ≢ 0 → (k : ℕ) × Lifts j k
  lifted zero ne = absurd (ne refl)
  lifted (suc zero) ne = (0, (omega arith, d.over))
  lifted (suc (suc j)) ne = (suc (suc j), (omega arith, λ x h. d.along x h (suc (suc j)) (omega arith)))

  lifted_far : Lawful m → (i j i' j' : ℕ) → i ≢ 0 → j ≢ 0 → Far i j → Far i' j' → Lifts i i' → Lifts j j' → Commute m' i j
  lifted_far lawful i j i' j' ni nj far far' (ei, ui) (ej, uj) =
      at_new_or_old ℕ_discrete (λ z. s' i (s' j z)) (λ z. s' j (s' i z))
      (λ x h. ap (s' i) (uj x h) ∙ (ui (s j' x) (step j' ej h) ∙ (ap beside (lawful i' j' x far') ∙ sym (ap (s' j) (ui x h) ∙ uj (s i' x) (step i' ei h)))))
      (λ z p. ap (s' i) (d.other j nj z p) ∙ (d.other i ni (s j z) (not_new j z p) ∙ (lawful i j z far ∙ sym (ap (s' j) (d.other i ni z p) ∙ d.other j nj (s i z) (not_new i z p)))))

  rising : Lawful m → (i j : ℕ) → i + 2 ≤ j → Commute m' i j
  rising lawful zero j l = zero_far lawful j (omega arith)
  rising lawful (suc zero) j l = lifted_far lawful 1 j 0 j (omega arith) (omega arith) (inl l) (inl (omega arith)) (omega arith, d.over) (omega arith, λ x h. d.along x h j (omega arith))
  rising lawful (suc (suc i)) j l = lifted_far lawful (suc (suc i)) j (suc (suc i)) j (omega arith) (omega arith) (inl l) (inl l) (omega arith, λ x h. d.along x h (suc (suc i)) (omega arith)) (omega arith, λ x h. d.along x h j (omega arith))

  pub grown_lawful : Lawful m → Lawful m'
  grown_lawful lawful i j z f = ⊎_elim (λ l. rising lawful i j l z) (λ l. sym (rising lawful j i l z)) f

  back : (j z : ℕ) → s' j (s' j z) ≡ z
  back =
      at_each 0 (λ j. (z : ℕ) → s' j (s' j z) ≡ z)
      (everywhere ℕ_discrete (λ z. s' 0 (s' 0 z)) (λ z. z)
      (λ x h. ap (s' 0) (d.down x h) ∙ d.up x h)
      (λ x h. ap (s' 0) (d.up x h) ∙ d.down x h)
      (λ z p q. ap (s' 0) (d.rest z p q) ∙ (d.rest (s 0 z) (not_new 0 z p) (not_cell 0 z (omega arith) q) ∙ law.back 0 z)))
      (λ j ne. let (k, (e, up)) = lifted j ne in at_new_or_old ℕ_discrete (λ z. s' j (s' j z)) (λ z. z)
      (λ x h. ap (s' j) (up x h) ∙ (up (s k x) (step k e h) ∙ ap beside (law.back k x)))
      (λ z p. ap (s' j) (d.other j ne z p) ∙ (d.other j ne (s j z) (not_new j z p) ∙ law.back j z)))

  lives_too : (x : ℕ) → E x → m'.live x ≡ true
  lives_too x h = d.live_old x (cell_not_new x h) ∙ lives h

  alive_too : (j z : ℕ) → m'.live (s' j z) ≡ m'.live z
  alive_too =
      at_each 0 (λ j. (z : ℕ) → m'.live (s' j z) ≡ m'.live z)
      (everywhere Bool-discrete (λ z. m'.live (s' 0 z)) m'.live
      (λ x h. ap m'.live (d.down x h) ∙ (lives_too x h ∙ sym (d.live_new x h)))
      (λ x h. ap m'.live (d.up x h) ∙ (d.live_new x h ∙ sym (lives_too x h)))
      (λ z p q. ap m'.live (d.rest z p q) ∙ (d.live_old (s 0 z) (not_new 0 z p) ∙ (law.alive 0 z ∙ sym (d.live_old z p)))))
      (λ j ne. let (k, (e, up)) = lifted j ne in at_new_or_old Bool-discrete (λ z. m'.live (s' j z)) m'.live
      (λ x h. ap m'.live (up x h) ∙ (d.live_new (s k x) (step k e h) ∙ sym (d.live_new x h)))
      (λ z p. ap m'.live (d.other j ne z p) ∙ (d.live_old (s j z) (not_new j z p) ∙ (law.alive j z ∙ sym (d.live_old z p)))))

  within : (z : ℕ) → m'.live z ≡ true → z < m'.size
  within z e =
      ⊎_elim (λ (h : z < m'.size). h)
      (λ (l : m'.size ≤ z). let p : ¬ N z = λ w. omega (arith, d.room.within w.0 w.1, w.2, d.size) in absurd (omega (arith, law.inside z (sym (d.live_old z p) ∙ e), d.size)))
      (cases_lt z m'.size)

  vacant_not_new : (z : ℕ) → m'.live z ≡ false → ¬ N z
  vacant_not_new z e (x, h, w) = both_ways (m'.live z) e (ap m'.live (sym w) ∙ d.live_new x h)

  still : (j z : ℕ) → m'.live z ≡ false → s' j z ≡ z
  still j z e =
      let p = vacant_not_new z e in
      let v : m.live z ≡ false = sym (d.live_old z p) ∙ e in
      at_each 0 (λ j. s' j z ≡ z) (d.rest z p (λ h. both_ways (m.live z) v (lives h)) ∙ law.still 0 z v) (λ j ne. d.other j ne z p ∙ law.still j z v) j

  high : (j z : ℕ) → m.top < j → s' j z ≡ z
  high j z l =
      at_new_or_old ℕ_discrete (s' j) (λ z. z)
      (λ x h. d.along x h j (omega arith) ∙ ap beside (law.high j x l))
      (λ z p. d.other j (omega arith) z p ∙ law.high j z l) z

  pub grown_partners : Partners m'
  grown_partners = record { few = omega (arith, d.size, law.few); low = omega (arith, d.top, law.low); inside = within; back = back; alive = alive_too; still = still; high = λ j z l. high j z (omega (arith, d.top)) }

  pub grown_single : (m'' : Map) → Grown m t beside m'' → Same m' m''
  grown_single m'' b =
      record {
        size = d.size ∙ sym b.size;
        top = d.top ∙ sym b.top;
        live = at_new_or_old Bool-discrete m'.live m''.live (λ x h. d.live_new x h ∙ sym (b.live_new x h)) (λ z p. d.live_old z p ∙ sym (b.live_old z p));
        partner = at_each 0 (λ j. (z : ℕ) → s' j z ≡ m''.partner j z)
            (everywhere ℕ_discrete (s' 0) (m''.partner 0) (λ x h. d.down x h ∙ sym (b.down x h)) (λ x h. d.up x h ∙ sym (b.up x h)) (λ z p q. d.rest z p q ∙ sym (b.rest z p q)))
            (λ j ne. at_new_or_old ℕ_discrete (s' j) (m''.partner j) (λ x h. new x h j ne) (λ z p. d.other j ne z p ∙ sym (b.other j ne z p)));
      }
    where
      new : (x : ℕ) → E x → (j : ℕ) → j ≢ 0 → s' j (beside x) ≡ m''.partner j (beside x)
      new x h zero ne = absurd (ne refl)
      new x h (suc zero) ne = d.over x h ∙ sym (b.over x h)
      new x h (suc (suc j)) ne = d.along x h (suc (suc j)) (omega arith) ∙ sym (b.along x h (suc (suc j)) (omega arith))
