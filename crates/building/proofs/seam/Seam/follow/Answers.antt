use Rattle.std.proofs.Common.{arith, rules}
use Rattle.building.proofs.Matching.{side_live, mate_live, next_pair, followed_skip, followed_more, clash}
use Rattle.building.proofs.seam.Seam.follow.Goals as goal
use Rattle.building.proofs.seam.Seam.follow.Goals.{then-far+in_ok-couple, else-far}

pub bounds-mates-x : goal.bounds-mates-x
bounds-mates-x g c =
    let seam = c.args.self.now in
    let law = g.met.C.GMap.partners seam.map.now in
    omega (arith, c.requires.mates.long, law.inside c.args.x (side_live _ law _ _ _ seam.able c.args.x c.requires.side))

pub invariant_of-here : goal.invariant_of-here
invariant_of-here g c =
    let seam = c.args.self.now in
    record { live = side_live _ (g.met.C.GMap.partners seam.map.now) _ _ _ seam.able c.args.x c.requires.side }

pub invariant_of-mate : goal.invariant_of-mate
invariant_of-mate g c =
    let seam = c.args.self.now in
    record { live = mate_live _ (g.met.C.GMap.partners seam.map.now) _ _ _ seam.able _ c.requires.mates c.args.x c.requires.side c.requires.known }

pub returns-in_err-couple : goal.returns-in_err-couple
returns-in_err-couple g c =
    let seam = c.args.self.now in
    let law = g.met.C.GMap.partners seam.map.now in
    let pair = next_pair _ law _ _ _ seam.able _ _ c.requires.side c.loop-j.j _ c.loop-j.invariant c.requires.mates c.requires.known c.if-far.ensures in
    let clashes = rw (c.partner.ensures.slot, c.partner-then-far.ensures.slot) at c.in_err-couple.ensures.1 in
    let misfit = clash _ law _ _ _ seam.able _ c.loop-j.invariant.mates _ _ pair clashes in
    search rules

pub loop-j-preserved : goal.loop-j-preserved
loop-j-preserved g c =
    let seam = c.args.self.now in
    let law = g.met.C.GMap.partners seam.map.now in
    elim c.if-far.branch [
      | then-far+in_ok-couple w ↦
          let couples = rw (w.partner.ensures.slot, w.partner-then-far.ensures.slot) at w.in_ok-couple.ensures in
          rw w.mates-is (followed_more _ law _ _ _ seam.able _ _ c.requires.side _ _ c.loop-j.invariant c.requires.mates c.requires.known w.if-far.ensures _ couples)
      | else-far w ↦ rw w.mates-is (followed_skip _ law _ _ _ seam.able _ _ c.requires.side _ _ c.loop-j.invariant w.if-far.ensures)
    ]
