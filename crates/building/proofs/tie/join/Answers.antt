use Rattle.std.proofs.Common.{length, rules}
use Rattle.gmap.specs.Building.{join_checks}
use Rattle.gmap.specs.Map.{Same}
use Rattle.gmap.specs.Outcome.{Passes}
use Rattle.gmap.proofs.Outcomes.{accepted}
use Rattle.building.proofs.Tying.{tie_like}
use Rattle.building.proofs.Ready.{ready_fits, ready_tieable, pairs_only, pairs_all}
use Rattle.building.proofs.tie.join.Goals as goal

pub tie_pairs-requires : goal.tie_pairs-requires
tie_pairs-requires g c =
    let (passes, (map, i, t, u)) = c.in_ok-seam.ensures in
    let ready = rw (map, i, t, u) at c.in_ok-side.ensures in
    let able = rw (map, i, t, u) at c.in_ok-seam.seam.able in
    ready_tieable _ _ _ _ (g.met.B.GMap.partners c.args.board.now) able _ _ ready

pub returns-clause-outcome : goal.returns-clause-outcome
returns-clause-outcome g c =
    let m = g.B.Reads.meaning c.args.board.now in
    let law = g.met.B.GMap.partners c.args.board.now in
    let (passes, (map, i, t, u)) = c.in_ok-seam.ensures in
    let ready = rw (map, i, t, u) at c.in_ok-side.ensures in
    let able = rw (map, i, t, u) at c.in_ok-seam.seam.able in
    let fits = ready_fits m _ _ _ law able _ _ ready in
    let passed : Passes (join_checks m (length c.args.scratch.now) c.args.i c.args.t c.args.u) = search rules in
    accepted (join_checks m (length c.args.scratch.now) c.args.i c.args.t c.args.u) _ _ (Same (g.B.Reads.meaning c.tie_pairs.new.board) m) _ passed c.tie_pairs.ensures (λ n s. tie_like m _ _ _ n _ (pairs_only m _ _ _ law able _ _ ready) (pairs_all m _ _ _ law able _ _ ready) s)
