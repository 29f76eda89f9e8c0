use Rattle.std.proofs.Common.{◌<◌, arith, rules}
use Rattle.removal.proofs.Bridging.{bridged_skip, bridged_more, bridged_front}
use Rattle.removal.proofs.crossing.Crossing.bridge.Goals as goal
use Rattle.removal.proofs.crossing.Crossing.bridge.Goals.{then-x-y, else-x-y}

pub loop-a-preserved : goal.loop-a-preserved
loop-a-preserved g c =
    let cell = c.args.self.now in
    let law = g.met.C.GMap.partners cell.map.now in
    let slot : c.partner-x.result.slot < (g.C.Reads.meaning cell.map.now).size = search rules in
    elim c.if-x-y.branch [
      | then-x-y w ↦ rw (w.count-is, w.borders-is, w.ends-is) (bridged_more law (omega arith) c.loop-a.invariant c.partner-x.ensures.slot c.walk-y.ensures (λ e. omega arith) (omega (arith, c.loop-a.invariant.few, cell.celled.few)) (omega (arith, slot)))
      | else-x-y w ↦ rw (w.count-is, w.borders-is, w.ends-is) (bridged_skip law (omega arith) c.loop-a.invariant c.partner-x.ensures.slot c.walk-y.ensures (omega arith))
    ]

pub returns : goal.returns
returns g c = bridged_front (omega arith) (omega (arith, c.loop-a.invariant.few, c.args.self.now.celled.few)) c.loop-a.invariant
