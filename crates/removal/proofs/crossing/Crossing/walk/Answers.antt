use Rattle.std.proofs.Common.{arith}
use Rattle.removal.proofs.Walks.{trail_more, trail_out, trail_end}
use Rattle.removal.proofs.crossing.Crossing.walk.Goals as goal

pub returns-then-not-has : goal.returns-then-not-has
returns-then-not-has g c = trail_out (g.met.C.GMap.partners c.args.self.now.map.now) c.args.self.now.celled c.if-has.ensures c.loop.invariant.trail c.if-not-has.ensures

pub loop-preserved : goal.loop-preserved
loop-preserved g c = record { map = cc; trail = trail_more (g.met.C.GMap.partners c.args.self.now.map.now) c.args.self.now.celled c.if-has.ensures c.loop.invariant.trail c.if-not-has.ensures _ cc }

pub returns : goal.returns
returns g c = trail_end (g.met.C.GMap.partners c.args.self.now.map.now) c.args.self.now.celled c.if-has.ensures c.loop.invariant.trail (omega arith)
