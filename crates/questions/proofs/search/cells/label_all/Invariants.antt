use Rattle.std.proofs.Common.{◌≡◌, length}
use Rattle.questions.proofs.Labels.{Labelling}
use Rattle.questions.proofs.search.cells.label_all.Given as goal

abbrev pub invariant-loop-t : goal.invariant-loop-t
invariant-loop-t g l =
    Labelling (g.C.Reads.meaning l.map) l.i l.t l.cells l.initial.out l.out
    × (length l.found.list.now ≡ (g.C.Reads.meaning l.map).size)
