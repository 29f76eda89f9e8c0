use Rattle.std.proofs.Common.{length, rules}
use Rattle.gmap.specs.Map.{Same}
use Rattle.gmap.specs.Outcome.{Passes}
use Rattle.gmap.specs.Building.{part_checks}
use Rattle.gmap.proofs.Outcomes.{accepted}
use Rattle.building.proofs.Sides.{side_only}
use Rattle.building.proofs.Cutting.{cut_like}
use Rattle.building.proofs.cut.part.Goals as goal

pub returns-clause-outcome : goal.returns-clause-outcome
returns-clause-outcome g c =
    let m = g.B.Reads.meaning c.args.board.now in
    let o = c.far_side-side.ensures.collected in
    let passed : Passes (part_checks m (length c.args.scratch.now) c.args.i c.args.t) = search rules in
    accepted (part_checks m (length c.args.scratch.now) c.args.i c.args.t) _ _ (Same (g.B.Reads.meaning c.cut_links.new.board) m) _ passed c.cut_links.ensures (λ n s. cut_like m _ _ _ n _ (side_only m _ _ _ o) o.all s)
