use Rattle.std.proofs.Common.{◌≡◌, length, sym, ◌∙◌, subst, arith}
use Rattle.questions.specs.declared.search.Found.{Found}
use Rattle.questions.proofs.Labels.{Labelling, labelling_skip, labelling_more, labelling_done}
use Rattle.questions.proofs.search.cells.label_all.Goals as goal
use Rattle.questions.proofs.search.cells.label_all.Goals.{then-is_unlabelled, else-is_unlabelled}

pub loop-t-preserved : goal.loop-t-preserved
loop-t-preserved g c =
    let m = g.C.Reads.meaning c.args.map.now in
    let law = g.met.C.GMap.partners c.args.map.now in
    let F : Found → Type 0 = λ f. length f.list.now ≡ m.size in
    let (s, room) = c.loop-t.invariant in
    elim c.if-is_unlabelled.branch [
      | then-is_unlabelled w ↦
          (rw (w.out-is, w.cells-is) (labelling_more m law _ _ _ _ _ s w.if-is_unlabelled.ensures _ _ w.gather.ensures.orbit _ w.label.ensures), subst F (sym w.found-is) (w.gather.ensures.long ∙ room))
      | else-is_unlabelled w ↦
          (rw (w.out-is, w.cells-is) (labelling_skip m law _ _ _ _ _ s w.if-is_unlabelled.ensures), subst F (sym w.found-is) room)
    ]

pub returns : goal.returns
returns g c =
    let m = g.C.Reads.meaning c.args.map.now in
    let law = g.met.C.GMap.partners c.args.map.now in
    let e : c.loop-t.t ≡ m.size = omega (arith, c.size-size.ensures, c.loop-t.auto.t-end, c.loop-t-test.false) in
    let s = subst (λ t. Labelling m c.args.i t c.loop-t.cells c.blank.new.out c.loop-t.out) e c.loop-t.invariant.0 in
    labelling_done m law _ _ _ _ _ (rw c.size-size.ensures at c.blank.ensures) s
