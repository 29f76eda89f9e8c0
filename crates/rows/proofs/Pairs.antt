-- Two tuples that exchange their partners in a switch: what the maps before and after have in common.
use Rattle.std.proofs.Common.{◌≡◌, ℕ, false, cond, ◌&&◌, eqb, sym, refl, ap, ◌∙◌, inl, inr, arith}
use Rattle.std.proofs.lemmas.Bool.{cases_eq, eq-eqb, ne_eqb}
use Rattle.std.proofs.lemmas.Bool.Decides.{nat_tests}
use Rattle.gmap.specs.Map.{Map, Partners, Same, Free, DiffersIn}
use Rattle.gmap.specs.Acts.{tied, untied}
use Rattle.rows.specs.Changes.{FreeOrPartners}
use Rattle.rows.proofs.Places.{Off}

-- t and u have each other's partners, and nothing else is changed
pub record Exchanged (m : Map) (i t u : ℕ) (m' : Map) : Type 0 where
  pub frame : DiffersIn i m m'
  pub one : m'.partner i t ≡ m.partner i u
  pub two : m'.partner i u ≡ m.partner i t
  pub rest : (x : ℕ) → (x ≡ t → ⊥) → (x ≡ u → ⊥) → m'.partner i x ≡ m.partner i x

-- what holds at t and u in switch i, and off both, holds everywhere
pub by_place : (P : ℕ → ℕ → Type 0) (i t u : ℕ) → P i t → P i u → ((j x : ℕ) → Off i t j x → Off i u j x → P j x) → (j x : ℕ) → P j x
by_place P i t u one two off j x =
    elim (cases_eq j i) [
      | inl e ↦ elim (cases_eq x t) [
        | inl f ↦ rw (e, f) one
        | inr f ↦ elim (cases_eq x u) [ inl g ↦ rw (e, g) two | inr g ↦ off j x (λ p. f p.1) (λ p. g p.1) ]
      ]
      | inr e ↦ off j x (λ p. e p.0) (λ p. e p.0)
    ]

module _ {m m' : Map} {i t u : ℕ} (p : Exchanged m i t u m') where
  off_both : (j x : ℕ) → Off i t j x → Off i u j x → m'.partner j x ≡ m.partner j x
  off_both j x n o = elim (cases_eq j i) [ inl e ↦ rw e (p.rest x (λ f. n (e, f)) (λ f. o (e, f))) | inr e ↦ p.frame.others j x e ]

  -- partners still lead back
  pub exchange_back : FreeOrPartners m i t u → ((j x : ℕ) → m.partner j (m.partner j x) ≡ x) → (j x : ℕ) → m'.partner j (m'.partner j x) ≡ x
  exchange_back pair back =
      by_place (λ j x. m'.partner j (m'.partner j x) ≡ x) i t u
      (elim pair.how [ inl f ↦ cc | inr e ↦ cc ])
      (elim pair.how [ inl f ↦ cc | inr e ↦ cc ])
      (λ j x n o.
      let stays : (v : ℕ) (q : (j ≡ i) × (m.partner j x ≡ v)) → x ≡ m.partner i v = λ v q. cc (back j x) in
      ap (m'.partner j) (off_both j x n o)
      ∙ (off_both j (m.partner j x)
      (λ q. elim pair.how [ inl f ↦ n (q.0, stays t q ∙ f.0) | inr e ↦ o (q.0, stays t q ∙ e.0) ])
      (λ q. elim pair.how [ inl f ↦ o (q.0, stays u q ∙ f.1) | inr e ↦ n (q.0, stays u q ∙ e.1) ])
      ∙ back j x))

  -- the map after, by the partners of t and u as functions of the tuple
  abbrev repaired : (ℕ → ℕ) → (ℕ → ℕ) → Map
  repaired f g = record { size = m.size; top = m.top; live = m.live; partner = λ j x. cond (eqb j i && eqb x t) (f x) (cond (eqb j i && eqb x u) (g x) (m.partner j x)) }

  exchange_same : (t ≡ u → ⊥) → (f g : ℕ → ℕ) → m.partner i u ≡ f t → m.partner i t ≡ g u → Same m' (repaired f g)
  exchange_same apart f g one two = record {
    size = p.frame.size;
    top = p.frame.top;
    live = p.frame.live;
    partner =
        by_place (λ j x. m'.partner j x ≡ (repaired f g).partner j x) i t u
        (rw (eq-eqb i i refl, eq-eqb t t refl) (p.one ∙ one))
        (rw (eq-eqb i i refl, eq-eqb u u refl, ne_eqb u t (λ e. apart (sym e))) (p.two ∙ two))
        (λ j x n o.
        let not_at : (v : ℕ) → Off i v j x → (eqb j i && eqb x v) ≡ false = λ v h. grind (arith, nat_tests) in
        rw (not_at t n, not_at u o) (off_both j x n o));
  }

  -- free tuples become partners
  pub tie_same : (t ≡ u → ⊥) → Free m i t × Free m i u → Same m' (tied m i t u)
  tie_same apart free = exchange_same apart (λ _. u) (λ _. t) free.1 free.0

  -- partners become free tuples
  pub untie_same : Partners m → (t ≡ u → ⊥) → m.partner i t ≡ u → Same m' (untied m i t)
  untie_same law apart e = rw e (exchange_same apart (λ y. y) (λ y. y) (ap (m.partner i) (sym e) ∙ law.back i t) e)
