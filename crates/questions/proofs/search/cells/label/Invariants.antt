use Rattle.gmap.specs.Listing.{Among}
use Rattle.questions.specs.Marks.{Marked}
use Rattle.questions.proofs.search.cells.label.Given as goal

abbrev pub invariant-loop-x : goal.invariant-loop-x
invariant-loop-x l = Marked (Among l.found.list.now l.x-index) l.label l.initial.out l.out
