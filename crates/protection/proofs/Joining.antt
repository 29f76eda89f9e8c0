-- A join keeps the laws, is refused only where nothing lawful ties the two, and has one map that it leaves.
use Rattle.std.proofs.Common.{◌≡◌, ℕ, ◌*◌, ◌<◌, ◌≤◌, true, ◌≢◌, sym, refl, ap, ◌∙◌, subst, inl, inr, ⊎_elim, arith}
use mathlib.Core.Logic.Dec
use native.Mathlib.Decide.{ℕ_discrete, dec_lt}
use Rattle.std.proofs.lemmas.Bool.{both_ways}
use Rattle.gmap.specs.Map.{Map, Partners, Free, Lawful, Same}
use Rattle.gmap.specs.Outcome.{Passes}
use Rattle.gmap.specs.Building.{Pair, given, turned, moved, Fits, Joined, join_checks}
use Rattle.protection.specs.Ties.{Keeps, Ties}
use Rattle.protection.proofs.Cases.{by_fact, by_fact_bool, stable, not_false_true}
use Rattle.protection.proofs.Switches.{far_apart, at_each}
use Rattle.protection.proofs.Search.{SomeBelow, dec_below}
use Rattle.protection.proofs.Counting.{counted, counts_single}
use Rattle.protection.proofs.Pairs.{Touched, pair_sym, pair_free, pair_live, pair_back, pair_inside, dec_pair, dec_second}
use Rattle.protection.proofs.Frames.{lawful_framed, partners_framed, same_framed, with_switch, with_frame, with_here}

-- what a join may be asked of
pub record Joinable (m : Map) (i t u : ℕ) : Type 0 where
  pub switch : i ≤ m.top
  pub left : m.live t ≡ true
  pub right : m.live u ≡ true
  pub apart : t ≢ u
  pub left_free : Free m i t
  pub right_free : Free m i u

module _ (m : Map) (scratch i t u : ℕ) where
  pub passes_joinable : Passes (join_checks m scratch i t u) → Joinable m i t u
  passes_joinable (a, (b, (c, (d, (e, (f, (g, h))))))) =
      record {
        switch = omega arith;
        left = not_false_true (m.live t) (λ q. d (inl q));
        right = not_false_true (m.live u) (λ q. d (inr q));
        apart = e;
        left_free = stable (m.partner i t) t (λ q. f (inl q));
        right_free = stable (m.partner i u) u (λ q. f (inr q));
      }

  pub passes_fits : Passes (join_checks m scratch i t u) → Fits m i t u
  passes_fits (a, (b, (c, (d, (e, (f, (g, h))))))) =
      record { single = λ x y z p q. stable y z (λ n. g (λ w. n (w.single x y z p q))); loose = λ x y p. stable (m.partner i x) x (λ n. g (λ w. n (w.loose x y p))) }

  pub joinable_passes : Partners m → 4 * m.size ≤ scratch → Joinable m i t u → Fits m i t u → Passes (join_checks m scratch i t u)
  joinable_passes law room able fits = (
    λ q. omega arith,
    (
      λ q. omega (arith, able.switch),
      (
        ⊎_elim (λ q. omega (arith, law.inside t able.left)) (λ q. omega (arith, law.inside u able.right)),
        (⊎_elim (λ q. both_ways (m.live t) q able.left) (λ q. both_ways (m.live u) q able.right), (able.apart, (⊎_elim (λ q. q able.left_free) (λ q. q able.right_free), (λ q. q fits, tt)))),
      ),
    ),
  )

module _ (m : Map) (i t u n : ℕ) (m' : Map) (j : Joined m i t u n m') where
  abbrev N : ℕ → ℕ
  N = m'.partner i

  pub untouched : (x : ℕ) → ¬ Touched m i t u x → N x ≡ m.partner i x
  untouched x q = j.rest x (λ y p. q (y, p))

  pub join_partners : Partners m → Joinable m i t u → Fits m i t u → Partners m'
  join_partners law able fits =
      partners_framed i m m' j.frame law
      (λ x. by_fact (Touched m i t u x) (N (N x)) x
      (λ w. ap N (j.ties x w.0 w.1) ∙ j.ties w.0 x (pair_sym m i t u w.1))
      (λ q. ap N (untouched x q) ∙ (untouched (m.partner i x) (λ w. q (w.0, subst (λ z. Pair m i t u z w.0) (sym (fits.loose (m.partner i x) w.0 w.1) ∙ law.back i x) w.1)) ∙ law.back i x)))
      (λ x. by_fact_bool (Touched m i t u x) (m.live (N x)) (m.live x)
      (λ w. ap m.live (j.ties x w.0 w.1) ∙ (live (pair_sym m i t u w.1) ∙ sym (live w.1)))
      (λ q. ap m.live (untouched x q) ∙ law.alive i x))
      (λ x h. untouched x (λ w. both_ways (m.live x) h (live w.1)) ∙ law.still i x h)
      (λ x h. absurd (omega (arith, able.switch)))
    where
      live : {x y : ℕ} → Pair m i t u x y → m.live x ≡ true
      live = pair_live m i t u law able.left able.right

  pub join_lawful : Partners m → Lawful m → Lawful m'
  join_lawful law lawful =
      lawful_framed i m m' j.frame lawful (λ k x f. by_fact (Touched m i t u x) (N (m.partner k x)) (m.partner k (N x))
      (λ w. j.ties (m.partner k x) (m.partner k w.0) (moved k f w.1) ∙ ap (m.partner k) (sym (j.ties x w.0 w.1)))
      (λ q. untouched (m.partner k x) (λ w. q (m.partner k w.0, pair_back m i t u law k f w.1)) ∙ (lawful i k x f ∙ ap (m.partner k) (sym (untouched x q)))))

  join_keeps : Fits m i t u → Keeps m m'
  join_keeps fits =
      at_each i (λ k. (x : ℕ) → (Free m k x → ⊥) → m'.partner k x ≡ m.partner k x)
      (λ x q. untouched x (λ w. q (fits.loose x w.0 w.1)))
      (λ k e x q. j.frame.others k x e)

  pub join_ties : Partners m → Lawful m → Joinable m i t u → Fits m i t u → Ties m i t u m'
  join_ties law lawful able fits = record { partners = join_partners law able fits; lawful = join_lawful law lawful; frame = j.frame; keeps = join_keeps fits; tie = j.ties t u given }

-- a lawful map that ties t and u ties every pair
pair_tied : (m M : Map) (i t u : ℕ) → Ties m i t u M → {x y : ℕ} → Pair m i t u x y → M.partner i x ≡ y
pair_tied m M i t u c given = c.tie
pair_tied m M i t u c turned = ap (M.partner i) (sym c.tie) ∙ c.partners.back i t
pair_tied m M i t u c (moved {x} {y} j f p) =
    let ne = far_apart i j f in
    ap (M.partner i) (sym (c.frame.others j x ne)) ∙ (c.lawful i j x f ∙ (ap (M.partner j) (pair_tied m M i t u c p) ∙ c.frame.others j y ne))

pub ties_fits : (m M : Map) (i t u : ℕ) → Lawful m → Free m i t → Free m i u → Ties m i t u M → Fits m i t u
ties_fits m M i t u lawful a b c = record { single = λ x y z p q. sym (pair_tied m M i t u c p) ∙ pair_tied m M i t u c q; loose = λ x y p. pair_free m i t u lawful a b p }

pub join_least : (m : Map) (i t u n : ℕ) (m' M : Map) → Joined m i t u n m' → Ties m i t u M → Keeps m' M
join_least m i t u n m' M j c =
    at_each i (λ k. (x : ℕ) → (Free m' k x → ⊥) → M.partner k x ≡ m'.partner k x)
    (λ x ne. by_fact (Touched m i t u x) (M.partner i x) (m'.partner i x)
    (λ w. pair_tied m M i t u c w.1 ∙ sym (j.ties x w.0 w.1))
    (λ q. let e = untouched m i t u n m' j x q in c.keeps i x (λ f. ne (e ∙ f)) ∙ sym e))
    (λ k e x ne. c.frame.others k x e ∙ sym (j.frame.others k x e))

pub join_single : (m : Map) (i t u n n' : ℕ) (m' m'' : Map) → Joined m i t u n m' → Joined m i t u n' m'' → (n ≡ n') × Same m' m''
join_single m i t u n n' m' m'' a b = (
  counts_single a.count b.count,
  same_framed i m m' a.frame m'' b.frame (λ x. by_fact (Touched m i t u x) (m'.partner i x) (m''.partner i x)
      (λ w. a.ties x w.0 w.1 ∙ sym (b.ties x w.0 w.1))
      (λ q. untouched m i t u n m' a x q ∙ sym (untouched m i t u n' m'' b x q))),
)

-- the number with a fact, or another where none has it
abbrev pick : {P : ℕ → Type 0} → Dec ((y : ℕ) × P y × Unit {0}) → ℕ → ℕ
pick (yes w) z = w.0
pick (no q) z = z

pick_in : {P : ℕ → Type 0} → ((y z : ℕ) → P y → P z → y ≡ z) → (d : Dec ((y : ℕ) × P y × Unit {0})) (z y : ℕ) → P y → pick d z ≡ y
pick_in one (yes w) z y p = one w.0 y w.1 p
pick_in one (no q) z y p = absurd (q (y, p, tt))

pick_out : {P : ℕ → Type 0} (d : Dec ((y : ℕ) × P y × Unit {0})) (z : ℕ) → ((y : ℕ) → ¬ P y) → pick d z ≡ z
pick_out (yes w) z q = absurd (q w.0 w.1)
pick_out (no p) z q = refl

module _ (m : Map) (law : Partners m) (i t u : ℕ) (left : m.live t ≡ true) (right : m.live u ≡ true) where
  -- x stands first in the pair with y and in another
  abbrev Two : ℕ → ℕ → Type 0
  Two x y = Pair m i t u x y × ((z : ℕ) × Pair m i t u x z × (z ≢ y))

  dec_two : Dec (SomeBelow (λ x. SomeBelow (Two x) m.size) m.size)
  dec_two = dec_below (λ x. SomeBelow (Two x) m.size) (λ x. dec_below (Two x) (λ y. Dec.and (dec_pair m law i t u x y) (dec_second m law i t u left right (λ z. z ≢ y) (λ z. Dec.not (ℕ_discrete z y)) x)) m.size) m.size

  pub dec_fits : Lawful m → Free m i t → Free m i u → Dec (Fits m i t u)
  dec_fits lawful a b = go dec_two
    where
      inside : {x y : ℕ} → Pair m i t u x y → (x < m.size) × (y < m.size)
      inside = pair_inside m law i t u left right

      go : Dec (SomeBelow (λ x. SomeBelow (Two x) m.size) m.size) → Dec (Fits m i t u)
      go (yes (x, l, (y, k, (p, (z, q, n))))) = no (λ f. n (f.single x z y q p))
      go (no none) = yes (record { single = λ x y z p q. stable y z (λ n. none (x, (inside p).0, (y, (inside p).1, (p, (z, q, λ e. n (sym e)))))); loose = λ x y p. pair_free m i t u lawful a b p })

  pub join_exists : Fits m i t u → (n : ℕ) × ((m' : Map) × Joined m i t u n m')
  join_exists fits =
      let second : (Q : ℕ → Type 0) → ((y : ℕ) → Dec (Q y)) → (x : ℕ) → Dec ((y : ℕ) × Pair m i t u x y × Q y) = dec_second m law i t u left right in
      let d : (x : ℕ) → Dec ((y : ℕ) × Pair m i t u x y × Unit {0}) = second (λ y. Unit {0}) (λ y. yes tt) in
      let f : ℕ → ℕ = λ x. pick (d x) (m.partner i x) in
      let (n, c) = counted (λ x. (y : ℕ) × Pair m i t u x y × (x < y)) (λ x. second (λ y. x < y) (λ y. dec_lt x y) x) m.size (λ x w. (pair_inside m law i t u left right w.1).0) in (
        n,
        (
          with_switch m i f,
          record {
            frame = with_frame m i f;
            ties = λ x y p. with_here m i f x ∙ pick_in (fits.single x) (d x) (m.partner i x) y p;
            rest = λ x q. with_here m i f x ∙ pick_out (d x) (m.partner i x) q;
            count = c;
          },
        ),
      )
