-- On a lawful map removing the new vertex undoes a split.
use Rattle.std.proofs.Common.{◌≡◌, ℕ, zero, suc, ◌*◌, ◌<◌, ◌≤◌, true, false, ◌≢◌, Ok, sym, ap, ◌∙◌, subst, inl, arith}
use Rattle.std.proofs.lemmas.Bool.{both_ways}
use Rattle.gmap.specs.Map.{Map, Partners, Lawful}
use Rattle.gmap.specs.Orbits.{here, step, Cell}
use Rattle.gmap.specs.Listing.{Counts}
use Rattle.gmap.specs.Splitting.{Beside}
use Rattle.gmap.specs.Removing.{Leads, out, on, Removed}
use Rattle.gmap.proofs.Orbits.{orbit_back, orbit_trans}
use Rattle.protection.specs.Runs.{Does}
use Rattle.protection.specs.declared.call.Call.TheVariants.{Split, Remove}
use Rattle.protection.proofs.Counting.{counts_image}
use Rattle.protection.proofs.Orbits.{dec_cell}
use Rattle.protection.proofs.Crossing.{Untwisted}
use Rattle.protection.proofs.Beside.{beside, beside_only}
use Rattle.protection.proofs.Grown.{New, Grown, lifted, new_vacant, not_new}
use Rattle.protection.proofs.Splitting.{split_live, split_known, split_grown}

module _ (m : Map) (law : Partners m) (lawful : Lawful m) (t : ℕ) (alive : m.live t ≡ true) (known : 1 ≤ m.top) (F : ℕ → ℕ) (m₁ : Map) (d : Grown m t F m₁) (x x' : ℕ) (x_in : Cell m 1 t x) (x_new : F x ≡ x') where
  -- the new tuples are the 0-cell of each of them
  cell_new : {z : ℕ} → Cell m₁ 0 x' z → New m t F z
  cell_new here = (x, x_in, x_new)
  cell_new (step j e h) =
      let (y, c, w) = cell_new h in
      let (k, (ne, up)) = lifted m law t alive known F m₁ d j e in
      (m.partner k y, step k ne c, sym (up y c) ∙ ap (m₁.partner j) w)

  new_cell_from : {z : ℕ} → Cell m 1 x z → Cell m₁ 0 x' (F z)
  new_cell_from here = subst (Cell m₁ 0 x') (sym x_new) here
  new_cell_from (step {u} j e h) = go j e (new_cell_from h)
    where
      u_in : Cell m 1 t u
      u_in = orbit_trans m law (λ j. j ≡ 1 → ⊥) x_in h

      go : (j : ℕ) → j ≢ 1 → Cell m₁ 0 x' (F u) → Cell m₁ 0 x' (F (m.partner j u))
      go zero e c = subst (Cell m₁ 0 x') (d.over u u_in) (step 1 (λ e. omega arith) c)
      go (suc j) e c = subst (Cell m₁ 0 x') (d.along u u_in (suc j) (omega arith)) (step (suc j) (λ e. omega arith) c)

  new_cell : {z : ℕ} → Cell m 1 t z → Cell m₁ 0 x' (F z)
  new_cell h = new_cell_from (orbit_trans m law (λ j. j ≡ 1 → ⊥) (orbit_back m law (λ j. j ≡ 1 → ⊥) x_in) h)

  off_new : (z : ℕ) → ¬ Cell m₁ 0 x' z → ¬ New m t F z
  off_new z q w = q (subst (Cell m₁ 0 x') w.2 (new_cell w.1))

  new_untwisted : Untwisted m₁ 0 x'
  new_untwisted z h =
      let (y, c, w) = cell_new h in
      subst (λ v. m₁.partner 1 (m₁.partner 2 v) ≡ m₁.partner 2 (m₁.partner 1 v)) w
      (ap (m₁.partner 1) (d.along y c 2 (omega arith)) ∙ (d.over (m.partner 2 y) (step 2 (λ e. omega arith) c) ∙ (ap F (lawful 0 2 y (inl (omega arith))) ∙ sym (ap (m₁.partner 2) (d.over y c) ∙ d.along (m.partner 0 y) (step 0 (λ e. omega arith) c) 2 (omega arith)))))

  -- the walk across the new vertex ends at the old partner
  bridge : (z : ℕ) → ¬ New m t F z → Dec (Cell m 1 t z) → Leads m₁ 0 x' (m₁.partner 0 z) (m.partner 0 z)
  bridge z p e = go e
    where
      o : Leads m₁ 0 x' (m.partner 0 z) (m.partner 0 z)
      o = out (λ h. not_new m law t alive known F m₁ d 0 z p (cell_new h))

      go : Dec (Cell m 1 t z) → Leads m₁ 0 x' (m₁.partner 0 z) (m.partner 0 z)
      go (yes h) = subst (λ v. Leads m₁ 0 x' v (m.partner 0 z)) (sym (d.up z h)) (on (new_cell h) (subst (λ v. Leads m₁ 0 x' v (m.partner 0 z)) (sym (ap (m₁.partner 0) (d.over z h) ∙ d.down (m.partner 0 z) (step 0 (λ e. omega arith) h))) o))
      go (no q) = subst (λ v. Leads m₁ 0 x' v (m.partner 0 z)) (sym (d.rest z p q)) o

  undone_split : (n : ℕ) → Counts (Cell m 1 t) n → Removed m₁ 0 x' n m
  undone_split n count =
      let vacant : (z : ℕ) → Cell m₁ 0 x' z → m.live z ≡ false = λ z h. new_vacant m t F d.room z (cell_new h) in
      record {
        size = sym d.size;
        top = sym d.top;
        gone = vacant;
        still = λ j z h. law.still j z (vacant z h);
        stays = λ z q. sym (d.live_old z (off_new z q));
        others = λ j z e q. sym (d.other j e z (off_new z q));
        across = λ z q. bridge z (off_new z q) (dec_cell m law 1 t z);
        count = counts_image F (λ z h. new_cell h) d.room.single (λ z h. cell_new h) count;
      }

pub split_remove : (m : Map) → Partners m → Lawful m → (scratch scratch' t f x x' : ℕ) (r : ℕ × ℕ) (m₁ : Map) → 4 * m.size ≤ scratch' → Does scratch (Split t f) m (Ok r) m₁ → Beside m t f x x' → Does scratch' (Remove 0 x') m₁ (Ok r.1) m
split_remove m law lawful scratch scratch' t f x x' r m₁ long (p, s) b =
    let alive = split_live m law t f scratch p in
    let known = split_known m law t f scratch p in
    let F = beside m law t f in
    let d = split_grown m law t f scratch p r m₁ s in
    let is : F x ≡ x' = beside_only m law t f x x' b in
    let born : m₁.live x' ≡ true = s.born x x' b in
    let low : x' < m.size = subst (λ z. z < m.size) is (d.room.within x b.on) in (
      (λ q. omega (arith, s.size), (λ q. omega (arith, s.top), (λ q. omega (arith, s.size), (λ q. both_ways (m₁.live x') q born, (λ q. q.1.2 (new_untwisted m law lawful t alive known F m₁ d x x' b.on is q.1.0 q.1.1), tt))))),
      undone_split m law lawful t alive known F m₁ d x x' b.on is r.1 s.count,
    )
