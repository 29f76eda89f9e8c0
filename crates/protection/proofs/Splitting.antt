-- A split keeps the laws, and has one map that it leaves.
use Rattle.std.proofs.Common.{◌≡◌, ℕ, zero, suc, ◌≤◌, true, ◌⊎◌, sym, refl, ap, ◌∙◌, subst, inl, inr, arith}
use mathlib.Core.Bool.{Bool-discrete}
use native.Mathlib.Decide.{dec_le, map_dec}
use Rattle.gmap.specs.Map.{Map, Partners, Lawful, Same}
use Rattle.gmap.specs.Outcome.{Passes}
use Rattle.gmap.specs.Orbits.{step, Cell}
use Rattle.gmap.specs.Splitting.{Beside, Taken, split_checks, SplitAt}
use Rattle.protection.proofs.Cases.{not_false_true, not_true_false, dec_sum}
use Rattle.protection.proofs.Counting.{counts_single}
use Rattle.protection.proofs.Orbits.{cell_counted, dec_some_in_cell}
use Rattle.protection.proofs.Beside.{beside, beside_stands, beside_only, beside_single}
use Rattle.protection.proofs.Grown.{New, Room, Grown, grown_lawful, grown_partners, grown_single}
use Rattle.protection.proofs.Growing.{grown_exists}

module _ (m : Map) (law : Partners m) (t f : ℕ) where
  abbrev F : ℕ → ℕ
  F = beside m law t f

  abbrev E : ℕ → Type 0
  E = Cell m 1 t

  stands : (x : ℕ) → E x → Beside m t f x (F x)
  stands = beside_stands m law t f

  is : (x x' : ℕ) → Beside m t f x x' → F x ≡ x'
  is = beside_only m law t f

  pub dec_taken : m.live t ≡ true → Dec (Taken m t f)
  dec_taken alive =
      map_dec (λ (x, h, q). (x, F x, stands x h, q)) (λ (x, x', b, q). (x, b.on, subst (λ z. (m.size ≤ z) ⊎ (m.live z ≡ true)) (sym (is x x' b)) q))
      (dec_some_in_cell m law 1 t alive (λ x. (m.size ≤ F x) ⊎ (m.live (F x) ≡ true)) (λ x. dec_sum (dec_le m.size (F x)) (Bool-discrete (m.live (F x)) true)))

  module _ (scratch : ℕ) (p : Passes (split_checks m scratch t f)) where
    pub split_live : m.live t ≡ true
    split_live = not_false_true (m.live t) p.1.1.1.0

    pub split_known : 1 ≤ m.top
    split_known = omega (arith, p.1.0)

    split_room : Room m t F
    split_room =
        record {
          vacant = λ x h. not_true_false (m.live (F x)) (λ e. p.1.1.1.1.0 (x, F x, stands x h, inr e));
          within = λ x h. let room : m.size ≤ F x → ⊥ = λ l. p.1.1.1.1.0 (x, F x, stands x h, inl l) in omega arith;
          single = beside_single m law t f;
        }

    pub split_grown : (r : ℕ × ℕ) (m' : Map) → SplitAt m t f r m' → Grown m t F m'
    split_grown r m' s =
        let no_new : (z : ℕ) → ¬ New m t F z → (x : ℕ) → Beside m t f x z → ⊥ = λ z q x b. q (x, b.on, is x z b) in
        record {
          room = split_room;
          size = s.size;
          top = s.top;
          live_new = λ x h. s.born x (F x) (stands x h);
          live_old = λ z q. s.as_live z (no_new z q);
          up = λ x h. s.ends x (F x) (stands x h);
          down = λ x h. s.back x (F x) (stands x h);
          over = λ x h. s.meet x (F x) (F (m.partner 0 x)) (stands x h) (stands (m.partner 0 x) (step 0 (λ e. omega arith) h));
          along = λ x h j l. s.along j x (F x) (F (m.partner j x)) l (stands x h) (stands (m.partner j x) (step j (λ e. omega arith) h));
          rest = λ z q n. s.others 0 z (λ e. n) (no_new z q);
          other = λ j ne z q. s.others j z (λ e. absurd (ne e)) (no_new z q);
        }

    pub split_partners : (r : ℕ × ℕ) (m' : Map) → SplitAt m t f r m' → Partners m'
    split_partners r m' s = grown_partners m law t split_live split_known F m' (split_grown r m' s)

    pub split_lawful : (r : ℕ × ℕ) (m' : Map) → SplitAt m t f r m' → Lawful m → Lawful m'
    split_lawful r m' s = grown_lawful m law t split_live split_known F m' (split_grown r m' s)

    pub split_single : (r r' : ℕ × ℕ) (m' m'' : Map) → SplitAt m t f r m' → SplitAt m t f r' m'' → (r ≡ r') × Same m' m''
    split_single r r' m' m'' a b = (λ k. ((a.first ∙ sym b.first) k, counts_single a.count b.count k), grown_single m law t split_live split_known F m' (split_grown r m' a) m'' (split_grown r' m'' b))

    pub split_exists : (r : ℕ × ℕ) × ((m' : Map) × SplitAt m t f r m')
    split_exists =
        let (n, c) = cell_counted m law 1 t split_live in
        let (m', g) = grown_exists m law t split_live F split_room in
        let not_new : (y : ℕ) → ((x : ℕ) → Beside m t f x y → ⊥) → ¬ New m t F y = λ y q w. q w.0 (subst (Beside m t f w.0) w.2 (stands w.0 w.1)) in (
          (f, n),
          (
            m',
            record {
              size = g.size;
              top = g.top;
              born = λ x x' b. subst (λ z. m'.live z ≡ true) (is x x' b) (g.live_new x b.on);
              as_live = λ y q. g.live_old y (not_new y q);
              ends = λ x x' b. g.up x b.on ∙ is x x' b;
              back = λ x x' b. ap (m'.partner 0) (sym (is x x' b)) ∙ g.down x b.on;
              meet = λ x x' y' b c. ap (m'.partner 1) (sym (is x x' b)) ∙ (g.over x b.on ∙ is (m.partner 0 x) y' c);
              along = λ j x x' y' l b c. ap (m'.partner j) (sym (is x x' b)) ∙ (g.along x b.on j l ∙ is (m.partner j x) y' c);
              others = λ j y n q. others m' g j y n (not_new y q);
              first = refl;
              count = c;
            },
          ),
        )
      where
        others : (m' : Map) → Grown m t F m' → (j y : ℕ) → (j ≡ 0 → E y → ⊥) → ¬ New m t F y → m'.partner j y ≡ m.partner j y
        others m' g zero y n q = g.rest y q (n refl)
        others m' g (suc j) y n q = g.other (suc j) (omega arith) y q
