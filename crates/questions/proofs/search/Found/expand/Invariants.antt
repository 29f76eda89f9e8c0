use Rattle.std.proofs.Common.{◌≡◌}
use Rattle.questions.specs.Search.{Spread}
use Rattle.questions.specs.Via.{via}
use Rattle.questions.proofs.search.Found.expand.Given as goal

abbrev pub invariant-loop-j : goal.invariant-loop-j
invariant-loop-j g l = Spread (g.C.Reads.meaning l.tuple.map.now) (via l.switches) l.tuple.slot l.j l.initial.self.list.now l.initial.self.count l.self.list.now l.self.count × (l.self.list.ghost_name ≡ l.initial.self.list.ghost_name)
