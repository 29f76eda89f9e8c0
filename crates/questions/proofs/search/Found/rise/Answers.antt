use Rattle.std.proofs.Common.{arith}
use Rattle.questions.proofs.Rising.{listed_like, listed_skip, listed_more}
use Rattle.questions.proofs.search.Found.rise.Goals as goal
use Rattle.questions.proofs.search.Found.rise.Goals.{then-has, else-has}

pub loop-x-preserved : goal.loop-x-preserved
loop-x-preserved c =
    elim c.if-has.branch [
      | then-has w ↦ (omega (arith, w.written-is), rw (w.out-is, w.written-is) (listed_more _ _ _ _ _ c.loop-x.invariant.1 w.if-has.ensures (omega arith)))
      | else-has w ↦ (omega (arith, w.written-is), rw (w.out-is, w.written-is) (listed_skip _ _ _ _ _ c.loop-x.invariant.1 w.if-has.ensures))
    ]

pub returns : goal.returns
returns c = listed_like _ _ _ _ _ (λ x p. p.1) (λ x p. let low = c.args.self.now.kept.low p.0 p.1 in (omega (arith, p.2), p)) c.loop-x.invariant.1
