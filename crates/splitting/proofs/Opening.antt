-- Opening the slots of the new tuples: one more of them.
use Rattle.std.proofs.Common.{◌≡◌, ℕ, ◌+◌, ◌<◌, refl, ◌∙◌, arith}
use Rattle.std.proofs.lemmas.Bool.Decides.{nat_tests}
use Rattle.gmap.specs.Map.{Map, Same}
use Rattle.gmap.specs.Acts.{opened}
use Rattle.splitting.specs.Edges.{count, member, IsBeside}
use Rattle.splitting.specs.Stages.{Opened}
use Rattle.splitting.specs.declared.edge.Edge.{Edge}

pub opened_more : (m : Map) (edge : Edge) (k : ℕ) → k < count edge → (now : Map) → Opened edge.first k m now → (x : ℕ) → IsBeside edge (member edge k) x → (next : Map) → Same next (opened now x) → Opened edge.first (k + 1) m next
opened_more m edge k h now s x beside next same =
    let is : x ≡ edge.first + k = beside k h refl in
    record {
      size = same.size ∙ s.size;
      top = same.top ∙ s.top;
      born = λ l b. grind (arith, nat_tests, same.live (edge.first + l), s.born l, is);
      as_live = λ y q. grind (arith, nat_tests, same.live y, s.as_live y (λ l b. q l (omega arith)), q k (omega arith), is);
      partner = λ i y. same.partner i y ∙ s.partner i y;
    }
