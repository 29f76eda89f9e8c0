-- A part at any tuple of its pairs undoes a join.
use Rattle.std.proofs.Common.{ℕ, ◌*◌, ◌<◌, ◌≤◌, ◌⊎◌, Ok, sym, ◌∙◌, subst, inl, inr, ⊎_elim, arith}
use Rattle.std.proofs.lemmas.Bool.{both_ways}
use Rattle.gmap.specs.Map.{Map, Partners, Far}
use Rattle.gmap.specs.Orbits.{FarOrbit}
use Rattle.gmap.specs.Building.{Pair, Fits, Joined, Parted}
use Rattle.gmap.proofs.Counting.{counts_like}
use Rattle.gmap.proofs.Orbits.{orbit_back}
use Rattle.protection.specs.Runs.{Does}
use Rattle.protection.specs.declared.call.Call.TheVariants.{Join, Part}
use Rattle.protection.proofs.Pairs.{Touched, pair_sym, pair_apart, pair_live, orbit_touched, pair_orbit, pair_near}
use Rattle.protection.proofs.Frames.{frame_sym, far_orbit_framed}
use Rattle.protection.proofs.Joining.{Joinable, passes_joinable, passes_fits, untouched, join_partners}
use Rattle.protection.proofs.Parting.{Cut}

module _ (m : Map) (law : Partners m) (i t u n : ℕ) (m₁ : Map) (j : Joined m i t u n m₁) (able : Joinable m i t u) (fits : Fits m i t u) (x y : ℕ) (xy : Pair m i t u x y) where
  abbrev N : ℕ → ℕ
  N = m₁.partner i

  near_one : FarOrbit m i x t ⊎ FarOrbit m i x u
  near_one = ⊎_elim (λ h. inl (orbit_back m law (λ k. Far i k) h)) (λ h. inr (orbit_back m law (λ k. Far i k) h)) (pair_orbit m i t u xy)

  pair_cut : {z w : ℕ} → Pair m i t u z w → Cut m₁ i x z
  pair_cut {z} {w} p = ⊎_elim (λ h. inl (far_orbit_framed i m m₁ j.frame h)) (λ h. inr (subst (FarOrbit m₁ i x) (sym (j.ties z w p)) (far_orbit_framed i m m₁ j.frame h))) (pair_near m i t u near_one p)

  near_touched : (z : ℕ) → FarOrbit m₁ i x z → Touched m i t u z
  near_touched z h = orbit_touched m i t u xy (far_orbit_framed i m₁ m (frame_sym i m m₁ j.frame) h)

  cut_touched : (z : ℕ) → Cut m₁ i x z → Touched m i t u z
  cut_touched z (inl h) = near_touched z h
  cut_touched z (inr h) =
      let (w, p) = near_touched (N z) h in
      (N z, subst (λ v. Pair m i t u v (N z)) (sym (j.ties (N z) w p) ∙ (join_partners m i t u n m₁ j law able fits).back i z) (pair_sym m i t u p))

  undone_join : Parted m₁ i x n m
  undone_join =
      record {
        frame = frame_sym i m m₁ j.frame;
        cuts = λ z c. let (w, p) = cut_touched z c in fits.loose z w p;
        rest = λ z q. sym (untouched m i t u n m₁ j z (λ w. q (pair_cut w.1)));
        count = counts_like (λ z. (w : ℕ) × Pair m i t u z w × (z < w)) (λ z. Cut m₁ i x z × (z < N z)) n
            (λ z w. (pair_cut w.1, subst (λ v. z < v) (sym (j.ties z w.0 w.1)) w.2))
            (λ z c. let (w, p) = cut_touched z c.0 in (w, p, subst (λ v. z < v) (j.ties z w p) c.1))
            j.count;
      }

pub join_part : (m : Map) → Partners m → (scratch scratch' i t u n x y : ℕ) (m₁ : Map) → 4 * m.size ≤ scratch' → Does scratch (Join i t u) m (Ok n) m₁ → Pair m i t u x y → Does scratch' (Part i x) m₁ (Ok n) m
join_part m law scratch scratch' i t u n x y m₁ long (p, j) xy =
    let able = passes_joinable m scratch i t u p in
    let alive = pair_live m i t u law able.left able.right xy in (
      (λ q. omega (arith, j.frame.size), (λ q. omega (arith, able.switch, j.frame.top), (λ q. omega (arith, law.inside x alive, j.frame.size), (λ q. both_ways (m₁.live x) q (j.frame.live x ∙ alive), (λ q. pair_apart m i t u law able.apart xy (sym q ∙ j.ties x y xy), tt))))),
      undone_join m law i t u n m₁ j able (passes_fits m scratch i t u p) x y xy,
    )
