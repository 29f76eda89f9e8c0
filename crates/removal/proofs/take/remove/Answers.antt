use Rattle.std.proofs.Common.{arith, rules}
use Rattle.gmap.proofs.Same.{same_refl}
use Rattle.removal.proofs.Fronts.{front_celled, front_ranks, front_twist, twist_front, removed}
use Rattle.removal.proofs.take.remove.Goals as goal

pub invariant_of-crossing : goal.invariant_of-crossing
invariant_of-crossing g c =
    let size = c.size-size.ensures in
    let (passed, ranked) = c.in_ok-count.ensures in
    record {
      celled = front_celled ranked (g.met.B.GMap.partners c.args.board.now) (omega (arith, c.top.ensures, c.if-i-top.false)) passed.1.1.0 (omega (arith, c.cell.auto.members, c.split_at_mut-list.ensures.front_len, size));
      ranked = front_ranks ranked;
      deep = omega (arith, c.cell.auto.ranks, c.split_at_mut-ranks.ensures.front_len, size);
    }

pub returns-then-twisted-clause-outcome : goal.returns-then-twisted-clause-outcome
returns-then-twisted-clause-outcome g c =
    let twist = front_twist c.in_ok-count.ensures.1 c.if-twisted.ensures in
    let same = same_refl (g.B.Reads.meaning c.args.board.now) in
    search rules

pub returns-clause-outcome : goal.returns-clause-outcome
returns-clause-outcome g c =
    let twist = twist_front c.in_ok-count.ensures.1 in
    let gone = removed c.in_ok-count.ensures.1 c.in_ok-take_out.ensures in
    search rules
