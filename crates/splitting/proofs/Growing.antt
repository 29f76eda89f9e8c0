-- The stages of a split, put together.
use Rattle.std.proofs.Common.{◌≡◌, ℕ, ◌+◌, ◌<◌, sym, ap, ◌∙◌, slice_index, ⊎_elim, arith}
use Rattle.std.proofs.lemmas.Bool.{both_ways, cases_eq}
use Rattle.gmap.specs.Map.{Map, Partners, Free}
use Rattle.splitting.specs.Edges.{under, count, member, place, Closed, Vacancies, Seated, Tieable}
use Rattle.splitting.specs.Stages.{Opened, AllLinked, Ended, Grown}
use Rattle.splitting.specs.declared.edge.Edge.{Edge}
use Rattle.splitting.proofs.Linking.{all_seated}

module _ (m : Map) (law : Partners m) (edge : Edge) (closed : Closed m edge) (vacant : Vacancies m edge.first (count edge)) (opened : Map) (s : Opened edge.first (count edge) m opened) where
  new : (k l : ℕ) → k < count edge → l < count edge → member edge k ≡ edge.first + l → ⊥
  new k l h c e = both_ways (m.live (edge.first + l)) (vacant (edge.first + l) (omega arith) (omega arith)).1 (ap m.live (sym e) ∙ closed.live k h)

  pub seated : Seated opened edge
  seated =
      record {
        closed = record {
          live = λ k h. s.as_live (member edge k) (λ l c. new k l h c) ∙ closed.live k h;
          closed = λ i k on h. let (l, c, e) = closed.closed i k on h in (l, c, e ∙ sym (s.partner i (member edge k)));
        };
        born = s.born;
        new = new;
      }

  pub seated_free : (i k : ℕ) → k < count edge → Free opened i (edge.first + k)
  seated_free i k h = s.partner i (edge.first + k) ∙ law.still i (edge.first + k) (vacant (edge.first + k) (omega arith) (omega arith)).1

  module _ (linked : Map) (w : AllLinked opened edge (opened.top + 1) linked) where
    pub tieable : Tieable linked edge
    tieable = record { seated = all_seated opened edge seated (opened.top + 1) (omega arith) linked w; free = λ k h. w.rest 0 (edge.first + k) (λ o u l c e. omega arith) ∙ seated_free 0 k h }

    pub grown : (next : Map) → Ended linked edge (count edge) next → Grown edge m next
    grown next v =
        let places : (i l : ℕ) → place opened edge i l ≡ place m edge i l = λ i l. ap (λ y. slice_index edge.ranks.now y) (s.partner i (member edge l)) in
        record {
          size = v.frame.size ∙ w.size ∙ s.size;
          top = v.frame.top ∙ w.top ∙ s.top;
          born = λ l h. v.frame.live _ ∙ w.live _ ∙ s.born l h;
          as_live = λ y q. v.frame.live y ∙ w.live y ∙ s.as_live y q;
          ends = v.ends;
          back = v.back;
          links = λ j l o u h. v.frame.others j _ (λ e. omega arith) ∙ w.links j l o (omega (arith, s.top)) h ∙ ap (λ z. edge.first + z) (places (under j) l);
          others = λ j y off fresh.
              ⊎_elim (λ e. rw e (v.rest y (off e) fresh)) (λ e. v.frame.others j y e) (cases_eq j 0)
              ∙ w.rest j y (λ o u. fresh)
              ∙ s.partner j y;
        }
