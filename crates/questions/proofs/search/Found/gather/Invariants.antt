use Rattle.std.proofs.Common.{◌≡◌, ◌-◌, length}
use Rattle.questions.specs.Via.{via}
use Rattle.questions.proofs.Finding.{Progress}
use Rattle.questions.proofs.search.Found.gather.Given as goal

abbrev pub invariant-loop-done : goal.invariant-loop-done
invariant-loop-done g l = Progress (g.C.Reads.meaning l.tuple.map.now) (via l.switches) l.tuple.slot l.fn.self.list.now l.self.list.now l.self.count l.done × (l.self.list.ghost_name ≡ l.initial.self.list.ghost_name)

abbrev pub decreases-loop-done : goal.decreases-loop-done
decreases-loop-done g l = length l.initial.self.list.now - l.done
