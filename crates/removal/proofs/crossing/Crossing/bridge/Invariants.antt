use Rattle.removal.specs.Stages.{Bridged}
use Rattle.removal.proofs.crossing.Crossing.bridge.Given as goal

abbrev pub invariant-loop-a : goal.invariant-loop-a
invariant-loop-a g l = Bridged (g.C.Reads.meaning l.self.map.now) l.self.i l.self.members.now l.a-index l.count l.borders l.ends
