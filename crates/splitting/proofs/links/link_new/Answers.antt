use Rattle.std.proofs.Common.{arith}
use Rattle.splitting.proofs.Linking.{read_among, tie_passes, link_skip, link_more}
use Rattle.splitting.proofs.links.link_new.Goals as goal
use Rattle.splitting.proofs.links.link_new.Goals.{then-low-high+in_ok-tie, else-low-high}

pub beside-high-requires : goal.beside-high-requires
beside-high-requires g c =
    let law = g.met.B.GMap.partners c.args.board.now in
    read_among _ law _ _ c.requires _ (omega arith) _ c.loop-x.invariant _ _ c.mirrored-switch.ensures c.in_ok-partner.ensures.1

pub returns-in_err-tie : goal.returns-in_err-tie
returns-in_err-tie g c =
    let law = g.met.B.GMap.partners c.args.board.now in
    absurd (tie_passes _ law _ _ c.requires _ (omega arith) _ c.loop-x.invariant _ _ c.mirrored-switch.ensures c.in_ok-partner.ensures.1 _ _ c.beside-low.ensures c.beside-high.ensures c.if-low-high.true (g.met.B.GMap.partners c.loop-x.board) _ c.in_err-tie.ensures.0)

pub loop-x-preserved : goal.loop-x-preserved
loop-x-preserved g c =
    let law = g.met.B.GMap.partners c.args.board.now in
    elim c.if-low-high.branch [
      | then-low-high+in_ok-tie w ↦ rw w.board-is (link_more _ law _ _ c.requires _ (omega arith) _ c.loop-x.invariant _ _ c.mirrored-switch.ensures c.in_ok-partner.ensures.1 _ _ c.beside-low.ensures c.beside-high.ensures w.if-low-high.true _ w.in_ok-tie.ensures.1)
      | else-low-high w ↦ rw w.board-is (link_skip _ law _ _ c.requires _ (omega arith) _ c.loop-x.invariant _ _ c.mirrored-switch.ensures c.in_ok-partner.ensures.1 _ _ c.beside-low.ensures c.beside-high.ensures w.if-low-high.false)
    ]
