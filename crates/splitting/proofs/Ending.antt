-- Tying the tuples of the edge to the new ones: one more of them.
use Rattle.std.proofs.Common.{◌≡◌, ℕ, ◌+◌, ◌<◌, ◌≤◌, sym, refl, ◌∙◌, ⊎_elim, arith, below_more}
use Rattle.gmap.specs.Map.{Map, Partners}
use Rattle.splitting.specs.Edges.{count, member, IsBeside, Tieable}
use Rattle.splitting.specs.Stages.{Retied, Ended}
use Rattle.splitting.specs.declared.edge.Edge.{Edge}
use Rattle.gmap.proofs.Frames.{frame_then}
use Rattle.splitting.proofs.Places.{same_place}

module _ (m : Map) (edge : Edge) (able : Tieable m edge) (k : ℕ) (h : k < count edge) (now : Map) (law : Partners now) (w : Ended m edge k now) (next : Map) (y : ℕ) (beside : IsBeside edge (member edge k) y) (tied : Retied (member edge k) y now next) where
  v : Retied (member edge k) (edge.first + k) now next
  v = rw (beside k h refl) at tied

  abbrev p : ℕ
  p = now.partner 0 (member edge k)

  new : (j l : ℕ) → j < count edge → l < count edge → member edge j ≡ edge.first + l → ⊥
  new = able.seated.new

  -- what was the partner stands in the list, and no tie was met there
  mate : (q : ℕ) × (q < count edge) × (k ≤ q) × (member edge q ≡ p)
  mate =
      let (q, b, e) = able.seated.closed.closed 0 k (λ z. omega arith) h in
      ⊎_elim
      (λ free. (k, h, omega arith, sym free))
      (λ old. (q, b, grind (arith, new k q h b, law.back 0 (member edge k), w.ends q, e, old), e ∙ sym old))
      (w.left k (omega arith) h)

  pub ended_more : Ended m edge (k + 1) next
  ended_more =
      let (q, b, c, e) = mate in
      record {
        frame = frame_then w.frame v.frame;
        ends = below_more (λ l. next.partner 0 (member edge l) ≡ edge.first + l) k (λ l s. v.rest _ (λ z. omega (arith, same_place edge l k (omega arith) h z)) (new l k (omega arith) h) (λ z. omega (arith, same_place edge l q (omega arith) b (z ∙ sym e))) ∙ w.ends l s) v.there;
        back = below_more (λ l. next.partner 0 (edge.first + l) ≡ member edge l) k (λ l s. grind (arith, w.back l s, v.rest (edge.first + l), new k l, new q l, e)) v.back;
        free = λ l s u. grind (arith, w.free l, v.rest (edge.first + l), new k l, new q l, e);
        left = λ l s u. grind (arith, w.left l, v.rest (member edge l), v.freed, same_place edge l k, new l k, e);
        rest = λ y off fresh. v.rest y (λ z. off (k, h, sym z)) (fresh k h) (λ z. off (q, b, e ∙ sym z)) ∙ w.rest y off fresh;
      }
