use Rattle.std.proofs.Common.{ℕ, ◌+◌, ◌<◌, get_or}
use Rattle.questions.specs.Laws.{Commute}
use Rattle.removal.proofs.crossing.Crossing.twisted.Given as goal

abbrev pub invariant-loop-x : goal.invariant-loop-x
invariant-loop-x g l = (k : ℕ) → k < l.x-index → Commute (g.C.Reads.meaning l.self.map.now) (l.self.i + 1) (l.self.i + 2) (get_or l.self.members.now k 0)
