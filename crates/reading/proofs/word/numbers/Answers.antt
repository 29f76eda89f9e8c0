-- So many words, each a number.
use Rattle.std.proofs.Common.{sym, ◌∙◌, rules}
use Rattle.reading.proofs.Numbers.{numbers_other, numbering_refused, numbering_more}
use Rattle.reading.proofs.word.numbers.Goals as goal

pub returns-then-words : goal.returns-then-words
returns-then-words g c = search (rules, numbers_other)

pub returns-in_err-found : goal.returns-in_err-found
returns-in_err-found g c = search (rules, numbering_refused)

pub loop-k-preserved : goal.loop-k-preserved
loop-k-preserved g c = numbering_more _ _ _ _ _ c.loop-k.invariant (search rules) (search rules) _ (sym c.in_ok-found.was ∙ c.number.ensures)
