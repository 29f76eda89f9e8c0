-- Labelling the cells of a map, slot by slot upwards.
use Rattle.std.proofs.Common.{◌≡◌, ℕ, ◌+◌, ◌<◌, ◌≤◌, true, List, length, get_or, sym, ◌∙◌, subst, inl, inr, ⊎_elim, arith}
use Rattle.std.proofs.lemmas.Bool.{cases_eq, cases_lt, both_ways}
use Rattle.gmap.specs.Map.{Map, Partners}
use Rattle.gmap.specs.Orbits.{here, Cell}
use Rattle.gmap.specs.Listing.{Among, Counts}
use Rattle.gmap.specs.Asking.{Lowest, Labelled}
use Rattle.gmap.proofs.Orbits.{orbit_live, orbit_trans, orbit_back}
use Rattle.gmap.proofs.Counting.{counts_like, counts_more}
use Rattle.gmap.proofs.Listing.{among_cases}
use Rattle.questions.specs.Search.{Collected}
use Rattle.questions.specs.Marks.{Marked, Unlabelled}

-- the lowest tuples of cells below t
abbrev pub Leads : Map → ℕ → ℕ → ℕ → Type 0
Leads m i t s = (s < t) × (m.live s ≡ true) × Lowest m i s s

-- the cells of the tuples below t are labelled, and no other slot is
pub record Labelling (m : Map) (i t n : ℕ) (old new : List ℕ) : Type 0 where
  pub long : length new ≡ length old
  pub behind : (k : ℕ) → m.size ≤ k → get_or new k 0 ≡ get_or old k 0
  pub named : (x : ℕ) → x < m.size → (get_or new x 0 ≡ 65535 → ⊥) → (m.live x ≡ true) × Lowest m i x (get_or new x 0) × (get_or new x 0 < t)
  pub blank : (x : ℕ) → x < m.size → get_or new x 0 ≡ 65535 → (s : ℕ) → s < t → m.live s ≡ true → Cell m i s x → ⊥
  pub count : Counts (Leads m i t) n
  pub few : n ≤ t

module _ (m : Map) (law : Partners m) (i t n : ℕ) (old new : List ℕ) (s : Labelling m i t n old new) where
  -- a tuple that has a label has a lower one in its cell, which had been met before
  earlier : (live : m.live t ≡ true) → (get_or new t 0 ≡ 65535 → ⊥) → Lowest m i t (get_or new t 0) × (get_or new t 0 < t)
  earlier live q = let (a, b, c) = s.named t (law.inside t live) q in (b, c)

  pub labelling_skip : (Unlabelled m t new → ⊥) → Labelling m i (t + 1) n old new
  labelling_skip off =
      record {
        long = s.long;
        behind = s.behind;
        named = λ x l q. let (a, b, c) = s.named x l q in (a, b, omega arith);
        blank = λ x l q r h live o. ⊎_elim
            (λ e. let lt = subst (λ z. m.live z ≡ true) e live in
            let (low, less) = earlier lt (λ q. off (lt, q)) in
            let cell = subst (λ z. Cell m i z x) e o in
            s.blank x l q (get_or new t 0) less (orbit_live m law _ true lt low.member) (orbit_trans m law _ (orbit_back m law _ low.member) cell))
            (λ e. s.blank x l q r (omega arith) live o)
            (cases_eq r t);
        count = counts_like (Leads m i t) (Leads m i (t + 1)) n
            (λ x (a, b, c). (omega arith, b, c))
            (λ x (a, b, c). ⊎_elim
            (λ e. absurd (let lt = subst (λ z. m.live z ≡ true) e b in
            let (low, less) = earlier lt (λ q. off (lt, q)) in
            let own = subst (λ z. Lowest m i z z) e c in
            omega (arith, own.least (get_or new t 0) low.member)))
            (λ e. (omega arith, b, c))
            (cases_eq x t))
            s.count;
        few = omega (arith, s.few);
      }

  module _ (fresh : Unlabelled m t new) (list : List ℕ) (c : ℕ) (o : Collected m (λ j. j ≡ i → ⊥) t c list) (after : List ℕ) (w : Marked (Among list c) t new after) where
    live : m.live t ≡ true
    live = fresh.0

    in_cell : (x : ℕ) → Among list c x → Cell m i t x
    in_cell x (k, h, e) = subst (Cell m i t) e (o.only k h)

    lowest : (x y : ℕ) → Cell m i t x → Cell m i x y → t ≤ y
    lowest x y a b =
        let cell = orbit_trans m law _ a b in
        ⊎_elim
        (λ l. absurd (s.blank t (law.inside t live) fresh.1 y l (orbit_live m law _ true live cell) (orbit_back m law _ cell)))
        (λ l. l)
        (cases_lt y t)

    pub labelling_more : Labelling m i (t + 1) (n + 1) old after
    labelling_more =
        record {
          long = w.long ∙ s.long;
          behind = λ k h. w.rest k (λ a. omega (arith, law.inside k (orbit_live m law _ true live (in_cell k a)))) ∙ s.behind k h;
          named = λ x l q. ⊎_elim
              (λ a. let cell = in_cell x a in
              let e = w.there x a in
              (orbit_live m law _ true live cell, rw e (record { member = orbit_back m law _ cell; least = λ y b. lowest x y cell b }), omega (arith, e)))
              (λ a. let e = w.rest x a in
              let (f, g, h) = s.named x l (λ z. q (e ∙ z)) in
              (f, rw e g, omega (arith, e)))
              (among_cases list c x);
          blank = λ x l q r h lr b. ⊎_elim
              (λ a. omega (arith, w.there x a, law.inside t live, law.few))
              (λ a. ⊎_elim
              (λ e. a (o.all x (subst (λ z. Cell m i z x) e b)))
              (λ e. s.blank x l (sym (w.rest x a) ∙ q) r (omega arith) lr b)
              (cases_eq r t))
              (among_cases list c x);
          count = counts_more (Leads m i t) (Leads m i (t + 1)) n t
              (λ (a, b, d). omega arith)
              (λ x (a, b, d). (omega arith, b, d))
              (omega arith, live, record { member = here; least = λ y b. lowest t y here b })
              (λ x (a, b, d). ⊎_elim (λ e. inr e) (λ e. inl (omega arith, b, d)) (cases_eq x t))
              s.count;
          few = omega (arith, s.few);
        }

pub labelling_done : (m : Map) → Partners m → (i n : ℕ) (old mid new : List ℕ) → Marked (λ x. x < m.size) 65535 old mid → Labelling m i m.size n mid new → Labelled m i n old new
labelling_done m law i n old mid new w s =
    record {
      long = s.long ∙ w.long;
      tuples = λ t live. let inside = law.inside t live in (s.named t inside (λ e. s.blank t inside e t inside live here)).1;
      vacants = λ t l v. ⊎_elim (λ e. e) (λ e. absurd (both_ways (m.live t) v (s.named t l e).0)) (cases_eq (get_or new t 0) 65535);
      behind = λ k h. s.behind k h ∙ w.rest k (λ l. omega arith);
      count = counts_like (Leads m i m.size) (λ t. (m.live t ≡ true) × Lowest m i t t) n (λ x (a, b, d). (b, d)) (λ x (b, d). (law.inside x b, b, d)) s.count;
    }
