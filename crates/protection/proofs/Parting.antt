-- A part keeps the laws, and has one map that it leaves.
use Rattle.std.proofs.Common.{◌≡◌, ℕ, ◌<◌, sym, ap, ◌∙◌, subst, inl, inr, arith}
use mathlib.Core.Logic.Dec
use mathlib.Core.Logic.{ite, if_pos, if_neg}
use native.Mathlib.Decide.{dec_lt}
use Rattle.gmap.specs.Map.{Map, Partners, Far, Lawful, Same}
use Rattle.gmap.specs.Orbits.{step, FarOrbit}
use Rattle.gmap.specs.Building.{Meets, Parted}
use Rattle.protection.proofs.Cases.{by_fact, by_fact_bool, not_false_true, dec_sum}
use Rattle.protection.proofs.Counting.{counted, counts_single}
use Rattle.protection.proofs.Orbits.{dec_far_orbit}
use Rattle.protection.proofs.Frames.{lawful_framed, partners_framed, same_framed, with_switch, with_frame, with_here}

-- the link in i at x has an end in the far orbit of t
abbrev pub Cut : Map → ℕ → ℕ → ℕ → Type 0
Cut m i t = Meets m i (FarOrbit m i t)

module _ (m : Map) (law : Partners m) (i t : ℕ) where
  cut_across : (x : ℕ) → Cut m i t x → Cut m i t (m.partner i x)
  cut_across x (inl h) = inr (subst (FarOrbit m i t) (sym (law.back i x)) h)
  cut_across x (inr h) = inl h

  cut_off : (x : ℕ) → ¬ Cut m i t x → ¬ Cut m i t (m.partner i x)
  cut_off x q h = q (subst (Cut m i t) (law.back i x) (cut_across (m.partner i x) h))

  pub cut_far : Lawful m → (k x : ℕ) → Far i k → Cut m i t x → Cut m i t (m.partner k x)
  cut_far lawful k x f (inl h) = inl (step k f h)
  cut_far lawful k x f (inr h) = inr (subst (FarOrbit m i t) (sym (lawful i k x f)) (step k f h))

  dec_cut : (x : ℕ) → Dec (Cut m i t x)
  dec_cut x = dec_sum (dec_far_orbit m law i t x) (dec_far_orbit m law i t (m.partner i x))

  module _ (n : ℕ) (m' : Map) (p : Parted m i t n m') where
    abbrev N : ℕ → ℕ
    N = m'.partner i

    pub part_partners : Partners m'
    part_partners =
        partners_framed i m m' p.frame law
        (λ x. by_fact (Cut m i t x) (N (N x)) x (λ w. ap N (p.cuts x w) ∙ p.cuts x w) (λ q. ap N (p.rest x q) ∙ (p.rest (m.partner i x) (cut_off x q) ∙ law.back i x)))
        (λ x. by_fact_bool (Cut m i t x) (m.live (N x)) (m.live x) (λ w. ap m.live (p.cuts x w)) (λ q. ap m.live (p.rest x q) ∙ law.alive i x))
        (λ x h. by_fact (Cut m i t x) (N x) x (p.cuts x) (λ q. p.rest x q ∙ law.still i x h))
        (λ x h. by_fact (Cut m i t x) (N x) x (p.cuts x) (λ q. p.rest x q ∙ law.high i x h))

    pub part_lawful : Lawful m → Lawful m'
    part_lawful lawful =
        lawful_framed i m m' p.frame lawful (λ k x f. by_fact (Cut m i t x) (N (m.partner k x)) (m.partner k (N x))
        (λ w. p.cuts (m.partner k x) (cut_far lawful k x f w) ∙ ap (m.partner k) (sym (p.cuts x w)))
        (λ q. p.rest (m.partner k x) (λ w. q (subst (Cut m i t) (law.back k x) (cut_far lawful k (m.partner k x) f w))) ∙ (lawful i k x f ∙ ap (m.partner k) (sym (p.rest x q)))))

    pub part_single : (n' : ℕ) (m'' : Map) → Parted m i t n' m'' → (n ≡ n') × Same m' m''
    part_single n' m'' b = (
      counts_single p.count b.count,
      same_framed i m m' p.frame m'' b.frame (λ x. by_fact (Cut m i t x) (m'.partner i x) (m''.partner i x) (λ w. p.cuts x w ∙ sym (b.cuts x w)) (λ q. p.rest x q ∙ sym (b.rest x q))),
    )

  pub part_exists : (n : ℕ) × ((m' : Map) × Parted m i t n m')
  part_exists =
      let f : ℕ → ℕ = λ x. ite (dec_cut x) x (m.partner i x) in
      let (n, c) = counted (λ x. Cut m i t x × (x < m.partner i x)) (λ x. Dec.and (dec_cut x) (dec_lt x (m.partner i x))) m.size (λ x w. law.inside x (not_false_true (m.live x) (λ e. omega (arith, w.1, law.still i x e)))) in (
        n,
        (
          with_switch m i f,
          record {
            frame = with_frame m i f;
            cuts = λ x h. with_here m i f x ∙ if_pos (dec_cut x) h x (m.partner i x);
            rest = λ x q. with_here m i f x ∙ if_neg (dec_cut x) q x (m.partner i x);
            count = c;
          },
        ),
      )
