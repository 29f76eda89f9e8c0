-- The search: what one tuple adds, what those looked at have added, and that this is the orbit.
use Rattle.std.proofs.Common.{◌≡◌, ℕ, ◌+◌, ◌<◌, ◌≤◌, List, length, get_or, sym, ap, ◌∙◌, subst, ⊎_elim, arith, below_more}
use Rattle.std.proofs.lemmas.Bool.{cases_lt}
use Rattle.gmap.specs.Map.{Map, Partners}
use Rattle.gmap.specs.Orbits.{Orbit, here, step}
use Rattle.gmap.specs.Listing.{Among}
use Rattle.questions.specs.Search.{Kept, Added, Spread, Collected}
use Rattle.questions.proofs.Sets.{kept_apart}

pub among_more : (xs xs' : List ℕ) (n n' x : ℕ) → n ≤ n' → ((k : ℕ) → k < n → get_or xs' k 0 ≡ get_or xs k 0) → Among xs n x → Among xs' n' x
among_more xs xs' n n' x le same (k, h, e) = (k, omega arith, same k h ∙ e)

module _ (m : Map) (via : ℕ → Type 0) (u j : ℕ) (xs : List ℕ) (n : ℕ) (xs' : List ℕ) (n' : ℕ) (s : Spread m via u j xs n xs' n') where
  pub spread_skip : (via j → ⊥) → Spread m via u (j + 1) xs n xs' n'
  spread_skip off =
      record {
        long = s.long;
        grows = s.grows;
        same = s.same;
        there = below_more (λ i. via i → Among xs' n' (m.partner i u)) j s.there (λ on. absurd (off on));
        new = s.new;
      }

  pub spread_more : via j → (xs'' : List ℕ) (n'' : ℕ) → Added (m.partner j u) xs' n' xs'' n'' → Spread m via u (j + 1) xs n xs'' n''
  spread_more on xs'' n'' a =
      record {
        long = a.long ∙ s.long;
        grows = omega (arith, s.grows, a.grows);
        same = λ k h. a.same k (omega (arith, s.grows)) ∙ s.same k h;
        there = below_more (λ i. via i → Among xs'' n'' (m.partner i u)) j (λ i h o. among_more xs' xs'' n' n'' _ a.grows a.same (s.there i h o)) (λ _. a.there);
        new = λ k p q. ⊎_elim {C = (i : ℕ) × via i × (get_or xs'' k 0 ≡ m.partner i u)} (λ lt. let o = s.new k p lt in (o.0, o.1, a.same k lt ∙ o.2)) (λ le. (j, on, a.new k le q)) (cases_lt k n');
      }

-- the first `done` of those found have been looked at
pub record Progress (m : Map) (via : ℕ → Type 0) (t : ℕ) (xs xs' : List ℕ) (n done : ℕ) : Type 0 where
  pub long : length xs' ≡ length xs
  pub so_far : done ≤ n
  pub some : 0 < n
  pub first : get_or xs' 0 0 ≡ t
  pub only : (k : ℕ) → k < n → Orbit m via t (get_or xs' k 0)
  pub from : (k : ℕ) → 0 < k → k < n → (p i : ℕ) × (p < k) × via i × (get_or xs' k 0 ≡ m.partner i (get_or xs' p 0))
  pub closed : (k : ℕ) → k < done → (i : ℕ) → i < m.top + 1 → via i → Among xs' n (m.partner i (get_or xs' k 0))

pub progress_none : (m : Map) (via : ℕ → Type 0) (t : ℕ) (xs xs' ps' : List ℕ) (n : ℕ) → Kept xs' ps' n → Added t xs 0 xs' n → Progress m via t xs xs' n 0
progress_none m via t xs xs' ps' n kept a =
    let some : 0 < n = omega (arith, a.there.1) in
    record {
      long = a.long;
      so_far = omega arith;
      some = some;
      first = a.new 0 (omega arith) some;
      only = λ k h. subst (Orbit m via t) (sym (a.new k (omega arith) h)) here;
      from = λ k p h. absurd (kept_apart xs' ps' n kept 0 k p h (a.new 0 (omega arith) some ∙ sym (a.new k (omega arith) h)));
      closed = λ k h. absurd (omega arith);
    }

pub progress_more : (m : Map) (via : ℕ → Type 0) (t : ℕ) (xs xs' : List ℕ) (n done : ℕ) (xs'' : List ℕ) (n'' : ℕ) → Progress m via t xs xs' n done → done < n → Spread m via (get_or xs' done 0) (m.top + 1) xs' n xs'' n'' → Progress m via t xs xs'' n'' (done + 1)
progress_more m via t xs xs' n done xs'' n'' p lt s =
    record {
      long = s.long ∙ p.long;
      so_far = omega (arith, s.grows);
      some = omega (arith, s.grows, p.some);
      first = s.same 0 p.some ∙ p.first;
      only = λ k h. ⊎_elim {C = Orbit m via t (get_or xs'' k 0)}
          (λ l. subst (Orbit m via t) (sym (s.same k l)) (p.only k l))
          (λ l. let o = s.new k l h in subst (Orbit m via t) (sym o.2) (step o.0 o.1 (p.only done lt)))
          (cases_lt k n);
      from = λ k z h. ⊎_elim {C = (p i : ℕ) × (p < k) × via i × (get_or xs'' k 0 ≡ m.partner i (get_or xs'' p 0))}
          (λ l. let (q, i, b, on, e) = p.from k z l in (q, i, b, on, s.same k l ∙ e ∙ sym (ap (m.partner i) (s.same q (omega arith)))))
          (λ l. let (i, on, e) = s.new k l h in (done, i, omega arith, on, e ∙ sym (ap (m.partner i) (s.same done lt))))
          (cases_lt k n);
      closed = below_more (λ k. (i : ℕ) → i < m.top + 1 → via i → Among xs'' n'' (m.partner i (get_or xs'' k 0))) done
          (λ k h i li on. subst (λ v. Among xs'' n'' (m.partner i v)) (sym (s.same k (omega arith))) (among_more xs' xs'' n n'' _ s.grows s.same (p.closed k h i li on)))
          (λ i li on. subst (λ v. Among xs'' n'' (m.partner i v)) (sym (s.same done lt)) (s.there i li on));
    }

module _ (m : Map) (law : Partners m) (via : ℕ → Type 0) (t : ℕ) (xs xs' ps' : List ℕ) (n done : ℕ) (p : Progress m via t xs xs' n done) (kept : Kept xs' ps' n) (end : n ≤ done) where
  -- a switch above the top leads nowhere
  onward : (i u : ℕ) → via i → Among xs' n u → Among xs' n (m.partner i u)
  onward i u on (k, h, e) =
      ⊎_elim {C = Among xs' n (m.partner i u)}
      (λ l. subst (λ v. Among xs' n (m.partner i v)) e (p.closed k (omega arith) i l on))
      (λ l. subst (Among xs' n) (sym (law.high i u (omega arith))) (k, h, e))
      (cases_lt i (m.top + 1))

  all : {u : ℕ} → Orbit m via t u → Among xs' n u
  all here = (0, p.some, p.first)
  all (step {u} i on o) = onward i u on (all o)

  pub collected : Collected m via t n xs'
  collected = record { some = p.some; fits = kept.few; first = p.first; apart = kept_apart xs' ps' n kept; only = p.only; all = λ x o. all o; from = p.from }

pub collected_only : (m : Map) (via : ℕ → Type 0) (t n : ℕ) (xs : List ℕ) → Collected m via t n xs → (x : ℕ) → Among xs n x → Orbit m via t x
collected_only m via t n xs o x (k, h, e) = subst (Orbit m via t) e (o.only k h)
