use Rattle.std.proofs.Common.{rules}
use Rattle.questions.proofs.Masks.{bit_none}
use Rattle.questions.proofs.switches.Switches.has.Goals as goal

pub returns-else-j-lt8 : goal.returns-else-j-lt8
returns-else-j-lt8 c = search (rules, bit_none)
