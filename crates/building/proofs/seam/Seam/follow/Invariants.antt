use Rattle.building.specs.Mates.{Followed}
use Rattle.building.proofs.seam.Seam.follow.Given as goal

abbrev pub invariant-loop-j : goal.invariant-loop-j
invariant-loop-j g l = Followed (g.C.Reads.meaning l.self.map.now) l.self.i l.self.t l.self.u l.x l.j l.initial.mates l.mates
