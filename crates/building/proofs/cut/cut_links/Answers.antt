use Rattle.std.proofs.Common.{arith}
use Rattle.building.proofs.Cutting.{cut_skip, cut_more}
use Rattle.building.proofs.cut.cut_links.Goals as goal
use Rattle.building.proofs.cut.cut_links.Goals.{then-partner-x+in_ok-untie, else-partner-x}

pub loop-x-preserved : goal.loop-x-preserved
loop-x-preserved g c =
    let law = g.met.B.GMap.partners c.args.board.now in
    let (s, few) = c.loop-x.invariant in
    let look = c.in_ok-partner.ensures.1 in
    elim c.if-partner-x.branch [
      | then-partner-x+in_ok-untie w ↦ (rw (w.board-is, w.links-is) (cut_more _ law _ _ _ _ _ s (λ e. omega (arith, look, e, w.if-partner-x.true)) _ w.in_ok-untie.ensures.1), omega (arith, w.links-is))
      | else-partner-x w ↦ (rw (w.board-is, w.links-is) (cut_skip _ law _ _ _ _ _ s (omega (arith, look, w.if-partner-x.false))), omega (arith, w.links-is))
    ]
