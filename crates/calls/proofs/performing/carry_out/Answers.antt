-- Each call is the one that was asked for, and what it comes to is passed on.
use Rattle.std.proofs.Common.{rules}
use Rattle.calls.proofs.Performed.{performed}
use Rattle.calls.proofs.performing.carry_out.Goals as goal

pub returns-in-Make-clause-outcome : goal.returns-in-Make-clause-outcome
returns-in-Make-clause-outcome g c = performed _ _ _ _ _ c.in-Make.is _ (λ v a h. search rules) c.make.result c.map.result c.map.ensures.cases c.make.ensures

pub returns-in-Unmake-clause-outcome : goal.returns-in-Unmake-clause-outcome
returns-in-Unmake-clause-outcome g c = performed _ _ _ _ _ c.in-Unmake.is _ (λ v a h. search rules) c.unmake.result c.map-in-Unmake.result c.map-in-Unmake.ensures.cases c.unmake.ensures

pub returns-in-Join-clause-outcome : goal.returns-in-Join-clause-outcome
returns-in-Join-clause-outcome g c = performed _ _ _ _ _ c.in-Join.is _ (λ v a h. search rules) c.join.result c.map-in-Join.result c.map-in-Join.ensures.cases c.join.ensures.outcome

pub returns-in-Part-clause-outcome : goal.returns-in-Part-clause-outcome
returns-in-Part-clause-outcome g c = performed _ _ _ _ _ c.in-Part.is _ (λ v a h. search rules) c.part.result c.map-in-Part.result c.map-in-Part.ensures.cases c.part.ensures.outcome

pub returns-in-Split-clause-outcome : goal.returns-in-Split-clause-outcome
returns-in-Split-clause-outcome g c = performed _ _ _ _ _ c.in-Split.is _ (λ v a h. search rules) c.split.result c.map-in-Split.result c.map-in-Split.ensures.cases c.split.ensures.outcome

pub returns-in-Remove-clause-outcome : goal.returns-in-Remove-clause-outcome
returns-in-Remove-clause-outcome g c = performed _ _ _ _ _ c.in-Remove.is _ (λ v a h. search rules) c.remove.result c.map-in-Remove.result c.map-in-Remove.ensures.cases c.remove.ensures.outcome
