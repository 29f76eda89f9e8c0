use Rattle.std.proofs.Common.{◌≡◌}
use Rattle.removal.specs.Crossing.{Trail}
use Rattle.removal.proofs.crossing.Crossing.walk.Given as goal

abbrev pub invariant-loop : goal.invariant-loop
invariant-loop g l = record { map : l.y.map ≡ l.self.map; trail : Trail (g.C.Reads.meaning l.self.map.now) l.self.i l.self.members.now l.x.slot l.index l.y.slot }
