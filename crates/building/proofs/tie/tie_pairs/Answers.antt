use Rattle.std.proofs.Common.{arith}
use Rattle.building.proofs.Tying.{fresh, tie_accepts, tie_skip, tie_more}
use Rattle.building.proofs.tie.tie_pairs.Goals as goal
use Rattle.building.proofs.tie.tie_pairs.Goals.{then-partner-x+in_ok-tie, else-partner-x}

pub returns-in_err-tie : goal.returns-in_err-tie
returns-in_err-tie g c =
    absurd (tie_accepts _ _ _ _ _ c.requires c.loop-x.x-index (omega arith) _ _ c.loop-x.invariant.0 (g.met.B.GMap.partners c.loop-x.board) (omega (arith, c.in_ok-partner.ensures.1, c.if-partner-x.true)) _ c.in_err-tie.ensures.0)

pub loop-x-preserved : goal.loop-x-preserved
loop-x-preserved g c =
    let (s, few) = c.loop-x.invariant in
    let look = c.in_ok-partner.ensures.1 in
    elim c.if-partner-x.branch [
      | then-partner-x+in_ok-tie w ↦
          let new = fresh _ _ _ _ _ c.requires c.loop-x.x-index (omega arith) _ _ s (omega (arith, look, w.if-partner-x.true)) in
          (rw (w.board-is, w.links-is) (tie_more _ _ _ _ _ c.requires c.loop-x.x-index (omega arith) _ _ s new _ w.in_ok-tie.ensures.1), omega (arith, w.links-is))
      | else-partner-x w ↦ (rw (w.board-is, w.links-is) (tie_skip _ _ _ _ _ c.requires c.loop-x.x-index (omega arith) _ _ s (λ e. omega (arith, look, e, w.if-partner-x.false))), omega (arith, w.links-is))
    ]
