use Rattle.std.proofs.Common.{◌≡◌, ◌+◌, sym, ◌∙◌, subst}
use Rattle.questions.specs.declared.search.Found.{Found}
use Rattle.questions.specs.Search.{Spread}
use Rattle.questions.specs.Via.{via}
use Rattle.questions.proofs.Finding.{spread_skip, spread_more}
use Rattle.questions.proofs.search.Found.expand.Goals as goal
use Rattle.questions.proofs.search.Found.expand.Goals.{then-has, else-has}

pub loop-j-preserved : goal.loop-j-preserved
loop-j-preserved g c =
    let m = g.C.Reads.meaning c.args.tuple.now.map.now in
    let F : Found → Type 0 = λ f. Spread m (via c.args.switches) c.args.tuple.now.slot (c.loop-j.j + 1) c.args.self.now.list.now c.args.self.now.count f.list.now f.count × (f.list.ghost_name ≡ c.args.self.now.list.ghost_name) in
    elim c.if-has.branch [
      | then-has w ↦ subst F (sym w.self-is) (spread_more _ _ _ _ _ _ _ _ c.loop-j.invariant.0 w.if-has.ensures _ _ (rw w.partner.ensures.slot at w.add.ensures.set), w.add.ensures.same_list ∙ c.loop-j.invariant.1)
      | else-has w ↦ subst F (sym w.self-is) (spread_skip _ _ _ _ _ _ _ _ c.loop-j.invariant.0 w.if-has.ensures, c.loop-j.invariant.1)
    ]
