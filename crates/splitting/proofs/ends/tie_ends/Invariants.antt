use Rattle.splitting.specs.Stages.{Ended}
use Rattle.splitting.proofs.ends.tie_ends.Given as goal

abbrev pub invariant-loop-x : goal.invariant-loop-x
invariant-loop-x g l = Ended (g.B.Reads.meaning l.initial.board) l.edge l.x-index (g.B.Reads.meaning l.board)
