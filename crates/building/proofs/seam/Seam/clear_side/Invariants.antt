use Rattle.building.specs.Tying.{Cleared}
use Rattle.building.proofs.seam.Seam.clear_side.Given as goal

abbrev pub invariant-loop-x : goal.invariant-loop-x
invariant-loop-x g l = Cleared (g.C.Reads.meaning l.self.map.now) l.self.i l.side l.x-index l.initial.mates l.mates
