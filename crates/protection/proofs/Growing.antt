-- Where there is room for new tuples beside those of an edge, there is a map that has them.
use Rattle.std.proofs.Common.{◌≡◌, ℕ, zero, suc, ◌≤◌, true, ◌≢◌, refl, ap, ◌∙◌, arith}
use mathlib.Core.Logic.{ite, if_pos, if_neg}
use native.Mathlib.Decide.{ℕ_discrete}
use Rattle.gmap.specs.Map.{Map, Partners}
use Rattle.gmap.specs.Orbits.{Cell}
use Rattle.protection.proofs.Orbits.{dec_cell, cell_live, dec_some_in_cell}
use Rattle.protection.proofs.Grown.{New, Room, Grown, live_not_new}

module _ (m : Map) (law : Partners m) (t : ℕ) (alive : m.live t ≡ true) (beside : ℕ → ℕ) (room : Room m t beside) where
  abbrev N : ℕ → Type 0
  N = New m t beside

  cell_dec : (x : ℕ) → Dec (Cell m 1 t x)
  cell_dec = dec_cell m law 1 t

  new_dec : (z : ℕ) → Dec (N z)
  new_dec z = dec_some_in_cell m law 1 t alive (λ x. beside x ≡ z) (λ x. ℕ_discrete (beside x) z)

  -- the partner in switch j of the new tuple of x, and of any other
  lift : ℕ → ℕ → ℕ
  lift zero x = x
  lift (suc zero) x = beside (m.partner 0 x)
  lift (suc (suc j)) x = beside (m.partner (suc (suc j)) x)

  stay : (j z : ℕ) → Dec (Cell m 1 t z) → ℕ
  stay zero z d = ite d (beside z) (m.partner 0 z)
  stay (suc j) z d = m.partner (suc j) z

  after : (j z : ℕ) → Dec (N z) → ℕ
  after j z (yes w) = lift j w.0
  after j z (no q) = stay j z (cell_dec z)

  after_new : (j x : ℕ) → Cell m 1 t x → (d : Dec (N (beside x))) → after j (beside x) d ≡ lift j x
  unfolding after
  after_new j x h (yes w) = ap (lift j) (room.single w.0 x w.1 h w.2)
  after_new j x h (no q) = absurd (q (x, h, refl))

  after_old : (j z : ℕ) → ¬ N z → (d : Dec (N z)) → after j z d ≡ stay j z (cell_dec z)
  unfolding after
  after_old j z q (yes w) = absurd (q w)
  after_old j z q (no p) = refl

  cell_not_new : (x : ℕ) → Cell m 1 t x → ¬ N x
  cell_not_new x h = live_not_new m t beside room x (cell_live m law 1 t alive h)

  pub grown_exists : (m' : Map) × Grown m t beside m'
  unfolding lift stay
  grown_exists = (
    record { size = m.size; top = m.top; live = λ z. ite (new_dec z) true (m.live z); partner = λ j z. after j z (new_dec z) },
    record {
      room = room;
      size = refl;
      top = refl;
      live_new = λ x h. if_pos (new_dec (beside x)) (x, h, refl) true (m.live (beside x));
      live_old = λ z q. if_neg (new_dec z) q true (m.live z);
      up = λ x h. after_old 0 x (cell_not_new x h) (new_dec x) ∙ if_pos (cell_dec x) h (beside x) (m.partner 0 x);
      down = λ x h. after_new 0 x h (new_dec (beside x));
      over = λ x h. after_new 1 x h (new_dec (beside x));
      along = λ x h j l. along j l x h;
      rest = λ z q p. after_old 0 z q (new_dec z) ∙ if_neg (cell_dec z) p (beside z) (m.partner 0 z);
      other = λ j ne z q. other j ne z q;
    },
  )
    where
      along : (j : ℕ) → 2 ≤ j → (x : ℕ) → Cell m 1 t x → after j (beside x) (new_dec (beside x)) ≡ beside (m.partner j x)
      along zero l x h = absurd (omega arith)
      along (suc zero) l x h = absurd (omega arith)
      along (suc (suc j)) l x h = after_new (suc (suc j)) x h (new_dec (beside x))

      other : (j : ℕ) → j ≢ 0 → (z : ℕ) → ¬ N z → after j z (new_dec z) ≡ m.partner j z
      other zero ne z q = absurd (ne refl)
      other (suc j) ne z q = after_old (suc j) z q (new_dec z)
