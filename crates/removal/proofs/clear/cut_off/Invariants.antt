use Rattle.removal.specs.Crossing.{In}
use Rattle.removal.specs.Stages.{CutBelow}
use Rattle.removal.proofs.clear.cut_off.Given as goal

abbrev pub invariant-loop-j : goal.invariant-loop-j
invariant-loop-j g l = CutBelow (g.B.Reads.meaning l.initial.board) (In l.list) l.j (g.B.Reads.meaning l.board)
