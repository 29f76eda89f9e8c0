use Rattle.std.proofs.Common.{arith}
use Rattle.building.proofs.Clearing.{cleared_more}
use Rattle.building.proofs.seam.Seam.clear_side.Goals as goal

pub loop-x-preserved : goal.loop-x-preserved
loop-x-preserved g c =
    let inside = (g.met.C.GMap.partners c.args.self.now.map.now).inside _ (c.requires.side.live c.loop-x.x-index (omega arith)) in
    cleared_more _ _ _ _ _ _ (omega (arith, inside, c.requires.long, c.loop-x.invariant.marked.long)) (omega (arith, c.partner.ensures.slot, c.if-partner-x.false)) c.loop-x.invariant
