use Rattle.splitting.specs.Stages.{AllLinked}
use Rattle.splitting.proofs.links.link_all.Given as goal

abbrev pub invariant-loop-j : goal.invariant-loop-j
invariant-loop-j g l = AllLinked (g.B.Reads.meaning l.initial.board) l.edge l.j (g.B.Reads.meaning l.board)
