-- Tying the tuples of a side to their mates, one after the other.
use Rattle.std.proofs.Common.{◌≡◌, ℕ, ◌+◌, ◌<◌, ◌⊎◌, List, get_or, sym, refl, ap, ◌∙◌, subst, inl, inr, ⊎_elim, arith}
use Rattle.std.proofs.lemmas.Bool.{cases_lt}
use Rattle.gmap.specs.Map.{Map, Partners, Free, Same}
use Rattle.gmap.specs.Acts.{tie_checks, tied}
use Rattle.gmap.specs.Outcome.{First}
use Rattle.gmap.specs.declared.refusal.Refusal.{Refusal}
use Rattle.gmap.specs.Building.{AllTied}
use Rattle.gmap.specs.Listing.{Among}
use Rattle.gmap.proofs.Counting.{counts_like, counts_more}
use Rattle.gmap.proofs.Listing.{among_cases, among_suc, among_last, among_split}
use Rattle.building.specs.Tying.{PairsOf, Tieable}
use Rattle.gmap.proofs.Acts.{tie_accepted, tied_frame, tied_left, tied_right, tied_rest}
use Rattle.gmap.proofs.Frames.{frame_then, frame_same}

pub tie_like : (m : Map) (i : ℕ) (R Q : ℕ → ℕ → Type 0) (n : ℕ) (m' : Map) → ((x y : ℕ) → R x y → Q x y) → ((x y : ℕ) → Q x y → R x y) → AllTied m i R n m' → AllTied m i Q n m'
tie_like m i R Q n m' to fro s =
    record { frame = s.frame; ties = λ x y q. s.ties x y (fro x y q); rest = λ x q. s.rest x (λ y r. q y (to x y r)); count = counts_like _ _ n (λ x (y, r, l). (y, to x y r, l)) (λ x (y, q, l). (y, fro x y q, l)) s.count }

module _ (m : Map) (i : ℕ) (xs ms : List ℕ) (c : ℕ) (able : Tieable m i xs c ms) (k : ℕ) (below : k < c) (n : ℕ) (now : Map) (s : AllTied m i (PairsOf xs k ms) n now) where
  abbrev x : ℕ
  x = get_or xs k 0

  abbrev y : ℕ
  y = get_or ms x 0

  abbrev Before : ℕ → ℕ → Type 0
  Before = PairsOf xs k ms

  abbrev After : ℕ → ℕ → Type 0
  After = PairsOf xs (k + 1) ms

  -- the pair at hand, either way round
  abbrev Here : ℕ → ℕ → Type 0
  Here a b = ((a ≡ x) × (b ≡ y)) ⊎ ((a ≡ y) × (b ≡ x))

  grows : (a b : ℕ) → Before a b → After a b
  grows a b = ⊎_elim (λ (p, e). inl (among_suc xs k a p, e)) (λ (p, e). inr (among_suc xs k b p, e))

  here : (a b : ℕ) → Here a b → After a b
  here a b = ⊎_elim
      (λ (e, f). inl (subst (Among xs (k + 1)) (sym e) (among_last xs k), ap (λ v. get_or ms v 0) e ∙ sym f))
      (λ (e, f). inr (subst (Among xs (k + 1)) (sym f) (among_last xs k), ap (λ v. get_or ms v 0) f ∙ sym e))

  splits : (a b : ℕ) → After a b → Before a b ⊎ Here a b
  splits a b = ⊎_elim
      (λ (p, e). ⊎_elim (λ q. inl (inl (q, e))) (λ q. inr (inl (q, sym e ∙ ap (λ v. get_or ms v 0) q))) (among_split xs k a p))
      (λ (p, e). ⊎_elim (λ q. inl (inr (q, e))) (λ q. inr (inr (sym e ∙ ap (λ v. get_or ms v 0) q, q))) (among_split xs k b p))

  turn : (a b : ℕ) → Before a b → Before b a
  turn a b = ⊎_elim (λ p. inr p) (λ p. inl p)

  -- a pair that was met before has x as an end only if it is the pair at hand
  from_x : (b : ℕ) → Before x b → b ≡ y
  from_x b = ⊎_elim (λ (p, e). sym e) (λ ((l, h, q), e). sym (subst (λ v. get_or ms (get_or ms v 0) 0 ≡ v) q (able.back l (omega arith))) ∙ ap (λ v. get_or ms v 0) e)

  from_y : (b : ℕ) → Before y b → Before x y
  from_y b = ⊎_elim
      (λ (p, e). inr (p, able.back k below))
      (λ ((l, h, q), e). inl ((l, h, q ∙ (sym (subst (λ v. get_or ms (get_or ms v 0) 0 ≡ v) q (able.back l (omega arith))) ∙ ap (λ v. get_or ms v 0) e ∙ able.back k below)), refl))

  met : Before x y ⊎ (Before x y → ⊥)
  met = ⊎_elim
      (λ p. inl (inl (p, refl)))
      (λ p. ⊎_elim (λ q. inl (inr (q, able.back k below))) (λ q. inr (⊎_elim (λ h. p h.0) (λ h. q h.0))) (among_cases xs k y))
      (among_cases xs k x)

  -- x is free now exactly if its pair was not met
  pub fresh : Free now i x → Before x y → ⊥
  fresh free b = able.apart k below (sym free ∙ s.ties x y b)

  free_x : (Before x y → ⊥) → Free now i x
  free_x new = s.rest x (λ b r. new (subst (Before x) (from_x b r) r)) ∙ able.free k below

  pub free_y : (Before x y → ⊥) → Free now i y
  free_y new = s.rest y (λ b r. new (from_y b r)) ∙ able.mate_free k below

  -- so the tie is accepted
  pub tie_accepts : Partners now → Free now i x → (e : Refusal) → First (tie_checks now i x y) e → ⊥
  tie_accepts law free e f = tie_accepted now law i x (omega (arith, s.frame.top, able.switch)) (s.frame.live x ∙ able.live k below) y (s.frame.live y ∙ able.mate k below) (able.apart k below) free (free_y (fresh free)) e f

  pub tie_skip : (Free now i x → ⊥) → AllTied m i After n now
  tie_skip linked =
      let b : Before x y = ⊎_elim (λ p. p) (λ p. absurd (linked (free_x p))) met in
      let back : (a d : ℕ) → After a d → Before a d = λ a d q. ⊎_elim (λ p. p) (⊎_elim (λ (e, f). rw (e, f) b) (λ (e, f). rw (e, f) (turn x y b))) (splits a d q) in
      tie_like m i Before After n now grows back s

  module _ (new : Before x y → ⊥) (next : Map) (same : Same next (tied now i x y)) where
    apart : x ≡ y → ⊥
    apart = able.apart k below

    at_here : (a b : ℕ) → Here a b → next.partner i a ≡ b
    at_here a b = ⊎_elim
        (λ (e, f). rw (e, f) (same.partner i x ∙ tied_left now i x y))
        (λ (e, f). rw (e, f) (same.partner i y ∙ tied_right now i x y apart))

    elsewhere : (a : ℕ) → (a ≡ x → ⊥) → (a ≡ y → ⊥) → next.partner i a ≡ now.partner i a
    elsewhere a p q = same.partner i a ∙ tied_rest now i x y a p q

    off : (a b : ℕ) → Before a b → (a ≡ x → ⊥) × (a ≡ y → ⊥)
    off a b p = ((λ e. let q = subst (λ v. Before v b) e p in new (subst (Before x) (from_x b q) q)), (λ e. new (from_y b (subst (λ v. Before v b) e p))))

    -- the lower end of the new link
    lower : (z : ℕ) × ((w : ℕ) × After z w × (z < w)) × ((b : ℕ) → Before z b → ⊥) × ((a b : ℕ) → Here a b → a < b → a ≡ z)
    lower = ⊎_elim
        (λ l. (x, (y, here x y (inl (refl, refl)), l), (λ b p. (off x b p).0 refl), λ a b h r. ⊎_elim (λ (e, f). e) (λ (e, f). absurd (omega arith)) h))
        (λ l. (y, (x, here y x (inr (refl, refl)), omega (arith, apart)), (λ b p. (off y b p).1 refl), λ a b h r. ⊎_elim (λ (e, f). absurd (omega arith)) (λ (e, f). e) h))
        (cases_lt x y)

    pub tie_more : AllTied m i After (n + 1) next
    tie_more =
        record {
          frame = frame_then s.frame (frame_same (tied_frame now i x y) same);
          ties = λ a b q. ⊎_elim (λ p. let (e, f) = off a b p in elsewhere a e f ∙ s.ties a b p) (at_here a b) (splits a b q);
          rest = λ a q. elsewhere a (λ e. q y (here a y (inl (e, refl)))) (λ e. q x (here a x (inr (e, refl)))) ∙ s.rest a (λ b p. q b (grows a b p));
          count = let (z, low, none, only) = lower in counts_more _ _ n z (λ (b, p, l). none b p) (λ a (b, p, l). (b, grows a b p, l)) low (λ a (b, q, l). ⊎_elim (λ p. inl (b, p, l)) (λ h. inr (only a b h l)) (splits a b q)) s.count;
        }
