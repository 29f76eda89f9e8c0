use Rattle.building.proofs.Matching.{Pairing}
use Rattle.building.proofs.seam.Seam.match_sides.Given as goal

abbrev pub invariant-loop-x : goal.invariant-loop-x
invariant-loop-x g l = Pairing (g.C.Reads.meaning l.self.map.now) l.self.i l.self.t l.self.u l.side l.x-index l.mates
