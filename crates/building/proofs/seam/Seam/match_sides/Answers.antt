use Rattle.std.proofs.Common.{arith}
use Rattle.building.proofs.Matching.{blank_clash, pairing_none, pairing_known, pairing_more, pairing_done}
use Rattle.building.proofs.seam.Seam.match_sides.Goals as goal

pub returns-in_err-couple : goal.returns-in_err-couple
returns-in_err-couple g c =
    let seam = c.args.self.now in
    absurd (blank_clash _ (g.met.C.GMap.partners seam.map.now) _ _ _ seam.able _ c.requires.blank c.in_err-couple.ensures.1)

pub loop-x-init : goal.loop-x-init
loop-x-init g c =
    let seam = c.args.self.now in
    pairing_none _ (g.met.C.GMap.partners seam.map.now) _ _ _ seam.able _ _ _ c.requires.blank c.in_ok-couple.ensures

pub loop-x-preserved : goal.loop-x-preserved
loop-x-preserved g c =
    let seam = c.args.self.now in
    pairing_more _ (g.met.C.GMap.partners seam.map.now) _ _ _ seam.able _ c.requires.side c.loop-x.x-index (omega arith) _ c.loop-x.invariant _ c.in_ok-follow.ensures

pub returns : goal.returns
returns g c =
    let seam = c.args.self.now in
    pairing_done _ (g.met.C.GMap.partners seam.map.now) _ _ _ seam.able _ c.requires.side c.loop-x.x-index (omega arith) _ c.loop-x.invariant

pub follow-requires-clause-known : goal.follow-requires-clause-known
follow-requires-clause-known g c =
    let seam = c.args.self.now in
    pairing_known _ (g.met.C.GMap.partners seam.map.now) _ _ _ seam.able _ c.requires.side c.loop-x.x-index (omega arith) _ c.loop-x.invariant
