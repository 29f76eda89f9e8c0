use Rattle.gmap.specs.Listing.{Among}
use Rattle.removal.specs.Stages.{Closed}
use Rattle.removal.proofs.clear.close_all.Given as goal

abbrev pub invariant-loop-x : goal.invariant-loop-x
invariant-loop-x g l = Closed (g.B.Reads.meaning l.initial.board) (Among l.list l.x-index) (g.B.Reads.meaning l.board)
