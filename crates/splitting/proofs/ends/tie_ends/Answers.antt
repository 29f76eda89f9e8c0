use Rattle.std.proofs.Common.{refl, arith}
use Rattle.splitting.proofs.Ending.{ended_more}
use Rattle.splitting.proofs.ends.tie_ends.Goals as goal

pub tie_end-requires-clause-apart : goal.tie_end-requires-clause-apart
tie_end-requires-clause-apart g c = rw (c.beside.ensures c.loop-x.x-index (omega arith) refl) (c.requires.seated.new _ _ (omega arith) (omega arith))

pub loop-x-preserved : goal.loop-x-preserved
loop-x-preserved g c = ended_more _ _ c.requires _ (omega arith) _ (g.met.B.GMap.partners c.loop-x.board) c.loop-x.invariant _ _ c.beside.ensures c.in_ok-tie_end.ensures
