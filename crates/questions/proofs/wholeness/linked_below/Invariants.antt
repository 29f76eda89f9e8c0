use Rattle.std.proofs.Common.{ℕ, ◌<◌}
use Rattle.gmap.specs.Map.{Free}
use Rattle.questions.proofs.wholeness.linked_below.Given as goal

abbrev pub invariant-loop-i : goal.invariant-loop-i
invariant-loop-i g l = (k : ℕ) → k < l.i → Free (g.C.Reads.meaning l.tuple.map.now) k l.tuple.slot → ⊥
