-- On a lawful map a join of the same two undoes a part.
use Rattle.std.proofs.Common.{◌≡◌, ℕ, ◌*◌, ◌<◌, ◌≤◌, true, Ok, sym, refl, ap, ◌∙◌, subst, inl, inr, arith}
use Rattle.gmap.specs.Map.{Map, Partners, Free, Lawful}
use Rattle.gmap.specs.Orbits.{here, FarOrbit}
use Rattle.gmap.specs.Building.{Pair, given, turned, moved, Fits, Joined, Parted}
use Rattle.gmap.proofs.Counting.{counts_like}
use Rattle.protection.specs.Runs.{Does}
use Rattle.protection.specs.declared.call.Call.TheVariants.{Join, Part}
use Rattle.protection.proofs.Cases.{not_false_true}
use Rattle.protection.proofs.Switches.{far_apart}
use Rattle.protection.proofs.Pairs.{Touched, pair_sym, pair_swap, orbit_touched}
use Rattle.protection.proofs.Frames.{frame_sym, far_orbit_framed}
use Rattle.protection.proofs.Joining.{Joinable, joinable_passes}
use Rattle.protection.proofs.Parting.{Cut, cut_far, part_partners}

module _ (m : Map) (law : Partners m) (lawful : Lawful m) (i t n : ℕ) (m₁ : Map) (c : Parted m i t n m₁) where
  abbrev u : ℕ
  u = m.partner i t

  old_link : {x y : ℕ} → Pair m₁ i t u x y → m.partner i x ≡ y
  old_link given = refl
  old_link turned = law.back i t
  old_link (moved {x} {y} s f p) =
      let ne = far_apart i s f in
      ap (m.partner i) (c.frame.others s x ne) ∙ (lawful i s x f ∙ (ap (m.partner s) (old_link p) ∙ sym (c.frame.others s y ne)))

  linked_cut : {x y : ℕ} → Pair m₁ i t u x y → Cut m i t x
  linked_cut given = inl here
  linked_cut turned = inr (subst (FarOrbit m i t) (sym (law.back i t)) here)
  linked_cut (moved {x} {y} s f p) = subst (Cut m i t) (sym (c.frame.others s x (far_apart i s f))) (cut_far m law i t lawful s x f (linked_cut p))

  cut_linked : (x : ℕ) → Cut m i t x → Touched m₁ i t u x
  cut_linked x (inl h) = orbit_touched m₁ i t u given (far_orbit_framed i m m₁ c.frame h)
  cut_linked x (inr h) =
      let (w, p) = orbit_touched m₁ i t u given (far_orbit_framed i m m₁ c.frame h) in
      (m.partner i x, subst (λ v. Pair m₁ i t u v (m.partner i x)) (sym (old_link p) ∙ law.back i x) (pair_sym m₁ i t u p))

  refits : Fits m₁ i t u
  refits = record { single = λ x y z p q. sym (old_link p) ∙ old_link q; loose = λ x y p. c.cuts x (linked_cut p) }

  undone_part : Joined m₁ i t u n m
  undone_part =
      record {
        frame = frame_sym i m m₁ c.frame;
        ties = λ x y p. old_link p;
        rest = λ x q. sym (c.rest x (λ w. let (y, p) = cut_linked x w in q y p));
        count = counts_like (λ x. Cut m i t x × (x < m.partner i x)) (λ x. (y : ℕ) × Pair m₁ i t u x y × (x < y)) n
            (λ x w. let (y, p) = cut_linked x w.0 in (y, p, subst (λ v. x < v) (old_link p) w.1))
            (λ x w. (linked_cut w.1, subst (λ v. x < v) (sym (old_link w.1)) w.2))
            c.count;
      }

  rejoinable : i ≤ m.top → m.live t ≡ true → ¬ Free m i t → Joinable m₁ i t u
  rejoinable known alive bound =
      record { switch = omega (arith, c.frame.top); left = c.frame.live t ∙ alive; right = c.frame.live u ∙ (law.alive i t ∙ alive); apart = λ e. bound (sym e); left_free = c.cuts t (linked_cut given); right_free = c.cuts u (linked_cut turned) }

-- a join of u and t is a join of t and u
module _ (m : Map) (i t u : ℕ) where
  turned_fits : Fits m i t u → Fits m i u t
  turned_fits f = record { single = λ x y z p q. f.single x y z (pair_swap m i u t p) (pair_swap m i u t q); loose = λ x y p. f.loose x y (pair_swap m i u t p) }

  turned_joinable : Joinable m i t u → Joinable m i u t
  turned_joinable a = record { switch = a.switch; left = a.right; right = a.left; apart = λ e. a.apart (sym e); left_free = a.right_free; right_free = a.left_free }

  turned_joined : (n : ℕ) (m' : Map) → Joined m i t u n m' → Joined m i u t n m'
  turned_joined n m' j =
      record {
        frame = j.frame;
        ties = λ x y p. j.ties x y (pair_swap m i u t p);
        rest = λ x q. j.rest x (λ y p. q y (pair_swap m i t u p));
        count = counts_like (λ x. (y : ℕ) × Pair m i t u x y × (x < y)) (λ x. (y : ℕ) × Pair m i u t x y × (x < y)) n (λ x w. (w.0, pair_swap m i t u w.1, w.2)) (λ x w. (w.0, pair_swap m i u t w.1, w.2)) j.count;
      }

pub part_join : (m : Map) → Partners m → Lawful m → (scratch scratch' i t n : ℕ) (m₁ : Map) → 4 * m.size ≤ scratch' → Does scratch (Part i t) m (Ok n) m₁ → Does scratch' (Join i t (m.partner i t)) m₁ (Ok n) m × Does scratch' (Join i (m.partner i t) t) m₁ (Ok n) m
part_join m law lawful scratch scratch' i t n m₁ long ((_, (b, (_, (v, (bound, _))))), c) =
    let u = m.partner i t in
    let able = rejoinable m law lawful i t n m₁ c (omega arith) (not_false_true (m.live t) v) bound in
    let fits = refits m law lawful i t n m₁ c in
    let back = undone_part m law lawful i t n m₁ c in
    let law₁ = part_partners m law i t n m₁ c in
    let room : 4 * m₁.size ≤ scratch' = omega (arith, c.frame.size) in (
      (joinable_passes m₁ scratch' i t u law₁ room able fits, back),
      (joinable_passes m₁ scratch' i u t law₁ room (turned_joinable m₁ i t u able) (turned_fits m₁ i t u fits), turned_joined m₁ i t u n m back),
    )
