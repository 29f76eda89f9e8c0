-- A removal keeps the laws, and has one map that it leaves.
use Rattle.std.proofs.Common.{◌≡◌, ℕ, ◌+◌, ◌<◌, ◌≤◌, true, false, ◌≢◌, sym, refl, ap, ◌∙◌, subst, ⊎_elim, arith}
use mathlib.Core.Logic.Dec
use mathlib.Core.Logic.{ite, if_pos, if_neg}
use native.Mathlib.Decide.{ℕ_discrete, dec_le}
use Rattle.std.proofs.lemmas.Bool.{cases_lt, both_ways}
use Rattle.gmap.specs.Map.{Map, Partners, Lawful, Same}
use Rattle.gmap.specs.Orbits.{Cell}
use Rattle.gmap.specs.Removing.{Leads, out, Twist, Removed}
use Rattle.protection.proofs.Cases.{by_fact, by_fact_bool, stable}
use Rattle.protection.proofs.Switches.{far_apart, at_each, lawful_around}
use Rattle.protection.proofs.Counting.{counts_single}
use Rattle.protection.proofs.Orbits.{dec_cell, cell_off, cell_counted, dec_some_in_cell}
use Rattle.protection.proofs.Crossing.{Untwisted, leads_off, leads_live, leads_single, leads_back, leads_along, leads_ends}

module _ (m : Map) (law : Partners m) (i t : ℕ) where
  abbrev C : ℕ → Type 0
  C = Cell m i t

  off : (j : ℕ) → j ≢ i → (x : ℕ) → ¬ C x → ¬ C (m.partner j x)
  off = cell_off m law i t

  pub untwisted : ¬ Twist m i t → Untwisted m i t
  untwisted q x h =
      ⊎_elim
      (λ (l : m.top < i + 2). ap (m.partner (i + 1)) (law.high (i + 2) x l) ∙ sym (law.high (i + 2) (m.partner (i + 1) x) l))
      (λ (l : i + 2 ≤ m.top). stable (m.partner (i + 1) (m.partner (i + 2) x)) (m.partner (i + 2) (m.partner (i + 1) x)) (λ n. q (l, (x, h, n))))
      (cases_lt m.top (i + 2))

  pub dec_twist : m.live t ≡ true → Dec (Twist m i t)
  dec_twist alive =
      Dec.and (dec_le (i + 2) m.top) (dec_some_in_cell m law i t alive
      (λ x. m.partner (i + 1) (m.partner (i + 2) x) ≢ m.partner (i + 2) (m.partner (i + 1) x))
      (λ x. Dec.not (ℕ_discrete (m.partner (i + 1) (m.partner (i + 2) x)) (m.partner (i + 2) (m.partner (i + 1) x)))))

  module _ (n : ℕ) (m' : Map) (d : Removed m i t n m') where
    led : (x z : ℕ) → ¬ C x → Leads m i t (m.partner i x) z → m'.partner i x ≡ z
    led x z q o = leads_single m law i t (d.across x q) o

    led_off : (x : ℕ) → ¬ C x → ¬ C (m'.partner i x)
    led_off x q = leads_off m law i t (d.across x q)

    -- where m ties x with itself in i, so does m'
    stay_free : (x : ℕ) → ¬ C x → m.partner i x ≡ x → m'.partner i x ≡ x
    stay_free x q e = led x x q (subst (λ w. Leads m i t w x) (sym e) (out q))

    -- at the tuples of the cell every two switches commute
    commute : (j k x : ℕ) → (¬ C x → m'.partner j (m'.partner k x) ≡ m'.partner k (m'.partner j x)) → m'.partner j (m'.partner k x) ≡ m'.partner k (m'.partner j x)
    commute j k x =
        by_fact (C x) (m'.partner j (m'.partner k x)) (m'.partner k (m'.partner j x))
        (λ h. ap (m'.partner j) (d.still k x h) ∙ (d.still j x h ∙ sym (ap (m'.partner k) (d.still j x h) ∙ d.still k x h)))

    pub remove_lawful : Lawful m → Untwisted m i t → Lawful m'
    remove_lawful lawful r =
        lawful_around m' i
        (λ k f x. let ne = far_apart i k f in let x' = m'.partner i x in commute i k x (λ q. ap (m'.partner i) (d.others k x ne q)
        ∙ (led (m.partner k x) (m.partner k x') (off k ne x q) (subst (λ w. Leads m i t w (m.partner k x')) (sym (lawful i k x f)) (leads_along m law i t lawful r k f (d.across x q))) ∙ sym (d.others k x' ne (led_off x q)))))
        (λ j k nj nk f x. commute j k x (λ q. ap (m'.partner j) (d.others k x nk q) ∙ (d.others j (m.partner k x) nj (off k nk x q) ∙ (lawful j k x f ∙ sym (ap (m'.partner k) (d.others j x nj q) ∙ d.others k (m.partner j x) nk (off j nj x q))))))

    pub remove_partners : Partners m'
    remove_partners =
        record {
          few = omega (arith, d.size, law.few);
          low = omega (arith, d.top, law.low);
          inside = λ x h. omega (arith, d.size, law.inside x (by_fact_bool (C x) (m.live x) true (λ k. absurd (both_ways (m'.live x) (d.gone x k) h)) (λ q. sym (d.stays x q) ∙ h)));
          back = λ j x. by_fact (C x) (m'.partner j (m'.partner j x)) x
              (λ h. ap (m'.partner j) (d.still j x h) ∙ d.still j x h)
              (λ q. at_each i (λ s. m'.partner s (m'.partner s x) ≡ x)
              (led (m'.partner i x) x (led_off x q) (leads_back m law i t x (d.across x q) (subst (λ w. Leads m i t w x) (sym (law.back i x)) (out q))))
              (λ j ne. ap (m'.partner j) (d.others j x ne q) ∙ (d.others j (m.partner j x) ne (off j ne x q) ∙ law.back j x)) j);
          alive = λ j x. by_fact_bool (C x) (m'.live (m'.partner j x)) (m'.live x)
              (λ h. ap m'.live (d.still j x h))
              (λ q. at_each i (λ s. m'.live (m'.partner s x) ≡ m'.live x)
              (d.stays (m'.partner i x) (led_off x q) ∙ (leads_live m law i t (d.across x q) ∙ (law.alive i x ∙ sym (d.stays x q))))
              (λ j ne. ap m'.live (d.others j x ne q) ∙ (d.stays (m.partner j x) (off j ne x q) ∙ (law.alive j x ∙ sym (d.stays x q)))) j);
          still = λ j x h. by_fact (C x) (m'.partner j x) x
              (λ k. d.still j x k)
              (λ q. let v : m.live x ≡ false = sym (d.stays x q) ∙ h in at_each i (λ s. m'.partner s x ≡ x) (stay_free x q (law.still i x v)) (λ j ne. d.others j x ne q ∙ law.still j x v) j);
          high = λ j x h. by_fact (C x) (m'.partner j x) x
              (λ k. d.still j x k)
              (λ q. at_each i (λ s. m.top < s → m'.partner s x ≡ x) (λ l. stay_free x q (law.high i x l)) (λ j ne l. d.others j x ne q ∙ law.high j x l) j (omega (arith, d.top)));
        }

    pub remove_single : (n' : ℕ) (m'' : Map) → Removed m i t n' m'' → (n ≡ n') × Same m' m''
    remove_single n' m'' b = (
      counts_single d.count b.count,
      record {
        size = d.size ∙ sym b.size;
        top = d.top ∙ sym b.top;
        live = λ x. by_fact_bool (C x) (m'.live x) (m''.live x) (λ h. d.gone x h ∙ sym (b.gone x h)) (λ q. d.stays x q ∙ sym (b.stays x q));
        partner = λ j x. by_fact (C x) (m'.partner j x) (m''.partner j x)
            (λ h. d.still j x h ∙ sym (b.still j x h))
            (λ q. at_each i (λ s. m'.partner s x ≡ m''.partner s x) (led x (m''.partner i x) q (b.across x q)) (λ j e. d.others j x e q ∙ sym (b.others j x e q)) j);
      },
    )

  after : (j x : ℕ) → Dec (C x) → Dec (j ≡ i) → ℕ
  after j x (yes h) e = x
  after j x (no q) (yes e) = (leads_ends m law i t x q).0
  after j x (no q) (no e) = m.partner j x

  after_gone : (j x : ℕ) (d : Dec (C x)) (e : Dec (j ≡ i)) → C x → after j x d e ≡ x
  unfolding after
  after_gone j x (yes h) e k = refl
  after_gone j x (no q) e k = absurd (q k)

  after_other : (j x : ℕ) (d : Dec (C x)) (e : Dec (j ≡ i)) → ¬ C x → j ≢ i → after j x d e ≡ m.partner j x
  unfolding after
  after_other j x (yes h) e q n = absurd (q h)
  after_other j x (no p) (yes e) q n = absurd (n e)
  after_other j x (no p) (no e) q n = refl

  after_across : (x : ℕ) (d : Dec (C x)) (e : Dec (i ≡ i)) → ¬ C x → Leads m i t (m.partner i x) (after i x d e)
  unfolding after
  after_across x (yes h) e q = absurd (q h)
  after_across x (no p) (yes e) q = (leads_ends m law i t x p).1
  after_across x (no p) (no e) q = absurd (e refl)

  pub remove_exists : m.live t ≡ true → (n : ℕ) × ((m' : Map) × Removed m i t n m')
  remove_exists alive =
      let c : (x : ℕ) → Dec (C x) = dec_cell m law i t in
      let (n, k) = cell_counted m law i t alive in (
        n,
        (
          record { size = m.size; top = m.top; live = λ x. ite (c x) false (m.live x); partner = λ j x. after j x (c x) (ℕ_discrete j i) },
          record {
            size = refl;
            top = refl;
            gone = λ x h. if_pos (c x) h false (m.live x);
            still = λ j x h. after_gone j x (c x) (ℕ_discrete j i) h;
            stays = λ x q. if_neg (c x) q false (m.live x);
            others = λ j x e q. after_other j x (c x) (ℕ_discrete j i) q e;
            across = λ x q. after_across x (c x) (ℕ_discrete i i) q;
            count = k;
          },
        ),
      )
