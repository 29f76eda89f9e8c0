-- Sides that are ready to be tied: the pairs fit, and they are the tuples of one side with their mates.
use Rattle.std.proofs.Common.{ℕ, ◌<◌, ◌⊎◌, List, length, get_or, sym, ◌∙◌, subst, inl, inr, ⊎_elim}
use Rattle.gmap.specs.Map.{Map, Partners}
use Rattle.gmap.specs.Orbits.{FarOrbit, here, step}
use Rattle.gmap.specs.Building.{Pair, given, turned, moved, Fits}
use Rattle.building.specs.Mates.{Joinable}
use Rattle.building.specs.Tying.{Ready, PairsOf, Tieable}
use Rattle.building.proofs.Sides.{side_only}
use Rattle.building.proofs.Couples.{pair_sym, pair_apart, pair_live, pair_side, side_pair}

module _ (m : Map) (i t u : ℕ) where
  -- a pair has an end on the side of t
  pair_left : {x y : ℕ} → Pair m i t u x y → FarOrbit m i t x ⊎ FarOrbit m i t y
  pair_left given = inl here
  pair_left turned = inr here
  pair_left (moved j f p) = ⊎_elim (λ o. inl (step j f o)) (λ o. inr (step j f o)) (pair_left p)

  module _ (law : Partners m) (able : Joinable m i t u) (side ms : List ℕ) (r : Ready m i t u side ms) where
    pub ready_fits : Fits m i t u
    ready_fits = record { single = λ x y z p q. sym (r.matched.all x y p) ∙ r.matched.all x z q; loose = λ x y p. r.free x (pair_side m i t u p) }

    pair_of : (x : ℕ) → FarOrbit m i t x → Pair m i t u x (get_or ms x 0)
    pair_of x a = let (y, p) = side_pair m i t u (inl a) in subst (Pair m i t u x) (sym (r.matched.all x y p)) p

    pair_at : (k : ℕ) → k < length side → Pair m i t u (get_or side k 0) (get_or ms (get_or side k 0) 0)
    pair_at k h = pair_of (get_or side k 0) (r.collected.only k h)

    pub ready_tieable : Tieable m i side (length side) ms
    ready_tieable =
        record {
          switch = r.side.switch;
          some = r.collected.some;
          fits = r.collected.fits;
          few = r.side.few;
          long = r.matched.long;
          live = r.side.live;
          mate = λ k h. pair_live m i t u law able.left able.right (pair_sym m i t u (pair_at k h));
          apart = λ k h. pair_apart m i t u law able.apart (pair_at k h);
          back = λ k h. r.matched.all (get_or ms (get_or side k 0) 0) (get_or side k 0) (pair_sym m i t u (pair_at k h));
          free = λ k h. r.free (get_or side k 0) (pair_side m i t u (pair_at k h));
          mate_free = λ k h. r.free (get_or ms (get_or side k 0) 0) (pair_side m i t u (pair_sym m i t u (pair_at k h)));
        }

    pub pairs_only : (x y : ℕ) → PairsOf side (length side) ms x y → Pair m i t u x y
    pairs_only x y = ⊎_elim
        (λ (a, e). subst (Pair m i t u x) e (pair_of x (side_only m i t side r.collected x a)))
        (λ (a, e). pair_sym m i t u (subst (Pair m i t u y) e (pair_of y (side_only m i t side r.collected y a))))

    pub pairs_all : (x y : ℕ) → Pair m i t u x y → PairsOf side (length side) ms x y
    pairs_all x y p = ⊎_elim (λ a. inl (r.collected.all x a, r.matched.all x y p)) (λ a. inr (r.collected.all y a, r.matched.all y x (pair_sym m i t u p))) (pair_left p)
