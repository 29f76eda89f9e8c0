use Rattle.std.proofs.Common.{◌≡◌, true, sym, ◌∙◌, below_more}
use Rattle.std.proofs.lemmas.Bool.{both_ways}
use Rattle.questions.specs.Laws.{LawfulAt}
use Rattle.questions.proofs.laws.lawful.Goals as goal
use Rattle.questions.proofs.laws.lawful.Goals.{else-is_live-via-then-is_live+else-not-lawful_at, else-is_live-via-else-is_live}

pub loop-t-preserved : goal.loop-t-preserved
loop-t-preserved g c =
    let m = g.C.Reads.meaning c.args.map.now in
    let here : m.live c.loop-t.t ≡ true → LawfulAt m c.loop-t.t = λ live. elim c.else-is_live.branch [
      | else-is_live-via-then-is_live+else-not-lawful_at w ↦ w.if-not-lawful_at.ensures
      | else-is_live-via-else-is_live w ↦ absurd (both_ways (m.live c.loop-t.t) (sym c.is_live.ensures ∙ w.if-is_live.false) live)
    ] in
    below_more (λ x. m.live x ≡ true → LawfulAt m x) c.loop-t.t c.loop-t.invariant here
