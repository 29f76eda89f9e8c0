use Rattle.std.proofs.Common.{⊎_elim, arith, rules}
use Rattle.std.proofs.lemmas.Bool.{cases_lt}
use Rattle.questions.proofs.Masks.{bit_none}
use Rattle.questions.proofs.search.orbit.within.Goals as goal

pub returns : goal.returns
returns c i b = ⊎_elim (λ l. c.loop-i.invariant i (omega (arith, l, c.loop-i-test.false)) b) (λ l. absurd (bit_none c.args.mask i (search rules) l b)) (cases_lt i 8)
