use Rattle.std.proofs.Common.{arith}
use Rattle.splitting.proofs.Opening.{opened_more}
use Rattle.splitting.proofs.slots.open_all.Goals as goal

pub loop-x-preserved : goal.loop-x-preserved
loop-x-preserved g c = opened_more _ c.args.edge.now _ (omega arith) _ c.loop-x.invariant _ c.beside.ensures _ c.in_ok-open_slot.ensures.1
