-- The first place cuts the bytes.
use Rattle.std.proofs.Common.{◌==◌, rules, tests}
use Rattle.std.proofs.lemmas.Iterator.{YieldsList-from_slice}
use Rattle.std.proofs.lemmas.Iterator.Search.{position_from_yields_List}
use Rattle.reading.proofs.Cuts.{placed}
use Rattle.reading.proofs.cut.find.Goals as goal

pub returns-clause-parts : goal.returns-clause-parts
returns-clause-parts c = placed _ _ _ (position_from_yields_List (λ x. x == c.args.by) _ _ _ c.position.ensures.ran (YieldsList-from_slice c.args.bytes.now cc) (λ x b q k. search (rules, tests)))
