-- The new tuples beside those of an edge, by the places of these in the edge's list.
use Rattle.std.proofs.Common.{◌≡◌, ℕ, ◌+◌, ◌-◌, ◌<◌, ◌≤◌, true, ◌⊎◌, List, length, get_or, take, sym, refl, ap, ◌∙◌, subst, ⊎_elim, arith}
use Rattle.std.proofs.lemmas.Bool.{both_ways, cases_lt}
use Rattle.std.proofs.lemmas.List.{get_or-take, length-take-le}
use Rattle.gmap.specs.Map.{Map, Partners}
use Rattle.gmap.specs.Listing.{Counts, Ranked}
use Rattle.gmap.specs.Orbits.{Cell, here, step}
use Rattle.gmap.specs.Splitting.{Beside, Taken, SplitAt}
use Rattle.gmap.proofs.Orbits.{orbit_live}
use Rattle.splitting.specs.Edges.{count, member, place, Closed, Vacancies}
use Rattle.splitting.specs.Stages.{Grown}
use Rattle.splitting.specs.declared.edge.Edge.{Edge}
use Rattle.splitting.proofs.Counts.{counts_single, counts_front}
use Rattle.splitting.proofs.Places.{under_one, under_other, place_of}

module _ (m : Map) (t n : ℕ) (xs ranks : List ℕ) (r : Ranked (Cell m 1 t) n xs ranks) where
  apart : (k l : ℕ) → k < l → l < n → get_or xs k 0 ≡ get_or xs l 0 → ⊥
  apart k l h b e = omega (arith, r.rises k l h b)

  edge_counts : Counts (Cell m 1 t) n
  edge_counts = counts_front (Cell m 1 t) xs n r.fits apart r.only r.all

  -- the place of a tuple is the number of those below it
  below_counts : (k : ℕ) → k < n → Counts (λ y. Cell m 1 t y × (y < get_or xs k 0)) k
  below_counts k h =
      counts_front (λ y. Cell m 1 t y × (y < get_or xs k 0)) xs k (omega (arith, r.fits)) (λ j l b c. apart j l b (omega arith)) (λ j b. (r.only j (omega arith), r.rises j k b h))
      (λ y (on, lt). let (j, b, e) = r.all y on in (j, grind (arith, r.rises k j, ap (λ v. get_or xs v 0), e), e))

  module _ (f : ℕ) where
    pub beside_at : (k : ℕ) → k < n → Beside m t f (get_or xs k 0) (f + k)
    beside_at k h = record { on = r.only k h; below = k; place = below_counts k h; number = refl }

    pub beside_place : (x x' : ℕ) → Beside m t f x x' → (k : ℕ) × (k < n) × (x ≡ get_or xs k 0) × (x' ≡ f + k)
    beside_place x x' b =
        let (k, h, e) = r.all x b.on in
        let is : b.below ≡ k = counts_single (λ y. Cell m 1 t y × (y < x)) b.below k b.place (subst (λ v. Counts (λ y. Cell m 1 t y × (y < v)) k) e (below_counts k h)) in
        (k, h, sym e, b.number ∙ ap (λ v. f + v) is)

    pub taken_none : Vacancies m f n → Taken m t f → ⊥
    taken_none vacant (x, x', b, d) =
        let (k, h, p, v) = beside_place x x' b in
        let (low, gone) = vacant (f + k) (omega arith) (omega arith) in
        ⊎_elim (λ c. omega arith) (λ c. both_ways (m.live (f + k)) gone (ap m.live (sym v) ∙ c)) d

    -- the new numbers are those of slots
    pub all_fit : Partners m → Vacancies m f n → f + n ≤ 4096
    all_fit law vacant = let (k, h, e) = r.all t here in omega (arith, vacant (f + n - 1) (omega arith) (omega arith), law.few)

    pub taken_some : (x : ℕ) → f ≤ x → x < f + n → (m.size ≤ x) ⊎ (m.live x ≡ true) → Taken m t f
    taken_some x le lt d = (get_or xs (x - f) 0, x, subst (Beside m t f _) (omega arith) (beside_at (x - f) (omega arith)), d)

-- what stands in front of a list, as a list of its own
module _ (P : ℕ → Type 0) (n : ℕ) (xs ranks : List ℕ) (r : Ranked P n xs ranks) where
  pub front_long : length (take n xs) ≡ n
  front_long = length-take-le n xs r.fits

  pub front_ranked : Ranked P (length (take n xs)) (take n xs) ranks
  front_ranked =
      let at : (k : ℕ) → k < n → get_or (take n xs) k 0 ≡ get_or xs k 0 = λ k h. get_or-take n xs k 0 h in
      rw front_long (record {
        fits = omega (arith, front_long);
        rises = λ k l h b. omega (arith, at k (omega arith), at l b, r.rises k l h b);
        only = λ k h. subst P (sym (at k h)) (r.only k h);
        all = λ x p. let (k, h, e) = r.all x p in (k, h, at k h ∙ e);
        rank = λ k h. ap (λ x. get_or ranks x 0) (at k h) ∙ r.rank k h;
      })

-- the list of a whole edge
module _ (m : Map) (law : Partners m) (t : ℕ) (live : m.live t ≡ true) (edge : Edge) (r : Ranked (Cell m 1 t) (count edge) edge.members.now edge.ranks.now) where
  pub closed : Closed m edge
  closed =
      record {
        live = λ k h. orbit_live m law _ true live (r.only k h);
        closed = λ i k on h. r.all (m.partner i (member edge k)) (step i on (r.only k h));
      }

  abbrev Stands : ℕ → ℕ → Type 0
  Stands = Beside m t edge.first

  stands : (x x' : ℕ) → Stands x x' → (k : ℕ) × (k < count edge) × (x ≡ member edge k) × (x' ≡ edge.first + k)
  stands = beside_place m t _ _ _ r edge.first

  stand : (k : ℕ) → k < count edge → Stands (member edge k) (edge.first + k)
  stand = beside_at m t _ _ _ r edge.first

  module _ (some : m.top ≡ 0 → ⊥) (m' : Map) (law' : Partners m') (s : Grown edge m m') where
    -- the place of the partner of a tuple in a switch other than 1
    partner_place : (i x x' y' : ℕ) → (i ≡ 1 → ⊥) → Stands x x' → Stands (m.partner i x) y' → (k l : ℕ) × (k < count edge) × (x' ≡ edge.first + k) × (y' ≡ edge.first + l) × (place m edge i k ≡ l)
    partner_place i x x' y' on a b =
        let (k, h, p, v) = stands x x' a in
        let (l, c, q, z) = stands (m.partner i x) y' b in
        (k, l, h, v, z, place_of m edge closed i on k h l c (sym q ∙ ap (m.partner i) p))

    meet : (x x' y' : ℕ) → Stands x x' → Stands (m.partner 0 x) y' → m'.partner 1 x' ≡ y'
    meet x x' y' a b =
        let (k, l, h, v, z, e) = partner_place 0 x x' y' (λ o. omega arith) a b in
        cc (s.links 1 k (omega arith) (omega arith) h, under_one 1 refl)

    along : (j x x' y' : ℕ) → 2 ≤ j → Stands x x' → Stands (m.partner j x) y' → m'.partner j x' ≡ y'
    along j x x' y' o a b =
        let (k, l, h, v, z, e) = partner_place j x x' y' (λ w. omega arith) a b in
        ⊎_elim (λ c. cc (edge.ranked k h, law.high j (member edge k) c, law'.high j x' (omega (arith, s.top)))) (λ c. cc (s.links j k (omega arith) c h, under_other j (λ w. omega arith))) (cases_lt m.top j)

    pub split_at : SplitAt m t edge.first (edge.first, count edge) m'
    split_at =
        record {
          size = s.size;
          top = s.top;
          born = λ x x' b. let (k, h, p, v) = stands x x' b in ap m'.live v ∙ s.born k h;
          as_live = λ y q. s.as_live y (λ l h e. q (member edge l) (subst (Stands (member edge l)) (sym e) (stand l h)));
          ends = λ x x' b. let (k, h, p, v) = stands x x' b in ap (m'.partner 0) p ∙ s.ends k h ∙ sym v;
          back = λ x x' b. let (k, h, p, v) = stands x x' b in ap (m'.partner 0) v ∙ s.back k h ∙ sym p;
          meet = meet;
          along = along;
          others = λ j y off q. s.others j y
              (λ e (k, h, p). off e (subst (Cell m 1 t) p (r.only k h)))
              (λ l h e. q (member edge l) (subst (Stands (member edge l)) (sym e) (stand l h)));
          first = refl;
          count = edge_counts m t _ _ _ r;
        }
