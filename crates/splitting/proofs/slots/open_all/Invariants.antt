use Rattle.splitting.specs.Stages.{Opened}
use Rattle.splitting.proofs.slots.open_all.Given as goal

abbrev pub invariant-loop-x : goal.invariant-loop-x
invariant-loop-x g l = Opened l.edge.first l.x-index (g.B.Reads.meaning l.initial.board) (g.B.Reads.meaning l.board)
