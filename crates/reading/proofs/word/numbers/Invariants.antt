-- The numbers of the words before the k-th are found.
use Rattle.std.proofs.Common.{map}
use Rattle.reading.specs.Words.{sense}
use Rattle.reading.proofs.Numbers.{Numbering}
use Rattle.reading.proofs.word.numbers.Given as goal

abbrev pub invariant-loop-k : goal.invariant-loop-k
invariant-loop-k g l = Numbering g.row.N l.k l.found (map sense l.words)
