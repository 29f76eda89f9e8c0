use Rattle.splitting.specs.Stages.{Linked}
use Rattle.splitting.proofs.links.link_new.Given as goal

abbrev pub invariant-loop-x : goal.invariant-loop-x
invariant-loop-x g l = Linked (g.B.Reads.meaning l.initial.board) l.j l.edge l.x-index (g.B.Reads.meaning l.board)
