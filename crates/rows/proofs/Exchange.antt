-- The numbers of two tuples in a row are exchanged: what the numbers then hold.
use Rattle.std.proofs.Common.{◌≡◌, ℕ, ◌+◌, ◌*◌, ◌<◌, true, ltb, List, length, sym, refl, ◌∙◌}
use Rattle.std.specs.List.{SwappedAt}
use Rattle.std.proofs.lemmas.Bool.{le-leb, lt-ltb, and_parts}
use Rattle.rows.specs.Changes.{FreeOrPartners}
use Rattle.rows.specs.Numbers.{number_at, holds, rows_map, Sound}
use Rattle.rows.proofs.Keeps.{holds_same, partner_same, keeps}
use Rattle.rows.specs.Law.{rows_partners}
use Rattle.rows.proofs.Pairs.{Exchanged, by_place, exchange_back}
use Rattle.rows.proofs.Places.{Off, one_place}

module _ {top size : ℕ} {xs ys : List ℕ} {i t u p q : ℕ} (sound : Sound top size xs) (pair : FreeOrPartners (rows_map top size xs) i t u) (long : length ys ≡ length xs) (at_p : p ≡ i * size + t) (at_q : q ≡ i * size + u) (is : SwappedAt xs ys p q) where
  t_below : t < size
  t_below = (rows_partners sound).inside t pair.two.one

  u_below : u < size
  u_below = (rows_partners sound).inside u pair.two.two

  at_t : number_at ys size i t ≡ number_at xs size i u
  at_t = rw (← at_p, ← at_q) (is.0 0)

  at_u : number_at ys size i u ≡ number_at xs size i t
  at_u = rw (← at_p, ← at_q) (is.1 0)

  elsewhere : (j x : ℕ) → Off i t j x → Off i u j x → x < size → number_at ys size j x ≡ number_at xs size j x
  elsewhere j x n o l = is.2 (j * size + x) 0 (λ e. n (one_place size i t j x t_below l (e ∙ at_p))) (λ e. o (one_place size i u j x u_below l (e ∙ at_q)))

  t_holds : holds xs size i t ≡ true
  t_holds = sound.alike i t pair.two.switch ∙ pair.two.one

  u_holds : holds xs size i u ≡ true
  u_holds = sound.alike i u pair.two.switch ∙ pair.two.two

  -- a slot with the number of a tuple is live
  takes : (x y : ℕ) → x < size → number_at ys size i x ≡ number_at xs size i y → holds xs size i y ≡ true → holds ys size i x ≡ true
  takes x y l e h = rw (lt-ltb x size l, e) (and_parts (ltb y size) _ h).1

  same_holds : (j x : ℕ) → holds ys size j x ≡ holds xs size j x
  same_holds =
      by_place (λ j x. holds ys size j x ≡ holds xs size j x) i t u
      (takes t u t_below at_t u_holds ∙ sym t_holds)
      (takes u t u_below at_u t_holds ∙ sym u_holds)
      (λ j x n o. holds_same size xs ys j x (elsewhere j x n o))

  same_partner : (j x : ℕ) → Off i t j x → Off i u j x → (rows_map top size ys).partner j x ≡ (rows_map top size xs).partner j x
  same_partner j x n o = partner_same top size xs ys j x (same_holds 0 x) (elsewhere j x n o)

  pub exchanged : Exchanged (rows_map top size xs) i t u (rows_map top size ys)
  exchanged = record {
    frame = record { size = refl; top = refl; live = same_holds 0; others = λ j x n. same_partner j x (λ p. n p.0) (λ p. n p.0) };
    one = rw (le-leb i top pair.two.switch, same_holds 0 t, pair.two.one, pair.two.two) at_t;
    two = rw (le-leb i top pair.two.switch, same_holds 0 u, pair.two.one, pair.two.two) at_u;
    rest = λ x n o. same_partner i x (λ p. n p.1) (λ p. o p.1);
  }

  pub exchange_sound : Sound top size ys
  exchange_sound =
      keeps top size xs ys (holds xs size 0) sound long (λ j x h. same_holds j x ∙ sound.alike j x h)
      (exchange_back exchanged pair sound.back)
