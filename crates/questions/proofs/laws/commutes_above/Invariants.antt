use Rattle.std.proofs.Common.{ℕ, ◌+◌, ◌<◌, ◌≤◌}
use Rattle.questions.specs.Laws.{Commute}
use Rattle.questions.proofs.laws.commutes_above.Given as goal

abbrev pub invariant-loop-j : goal.invariant-loop-j
invariant-loop-j g l = (k : ℕ) → l.i + 2 ≤ k → k < l.j → Commute (g.C.Reads.meaning l.tuple.map.now) l.i k l.tuple.slot
