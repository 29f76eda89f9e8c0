use Rattle.std.proofs.Common.{◌+◌, ◌<◌, get_or, ap, ◌∙◌, arith, rules}
use Rattle.std.proofs.lemmas.List.{get_or-take}
use Rattle.gmap.specs.Listing.{Among}
use Rattle.gmap.proofs.Listing.{among_suc, among_last, among_split}
use Rattle.questions.proofs.Marks.{marked_more}
use Rattle.questions.proofs.search.cells.label.Goals as goal

pub loop-x-preserved : goal.loop-x-preserved
loop-x-preserved c =
    let k = c.loop-x.x-index in
    let xs = c.args.found.now.list.now in
    let n = c.args.found.now.count in
    let lt : k < n = search rules in
    let e = ap (λ ys. get_or ys k 0) c.slots-x-items.ensures ∙ get_or-take n xs k 0 lt in
    rw e (marked_more (Among xs k) (Among xs (k + 1)) _ _ _ _ (omega (arith, c.args.found.now.kept.low k lt)) (among_last xs k) (among_suc xs k) (among_split xs k) c.loop-x.invariant)
