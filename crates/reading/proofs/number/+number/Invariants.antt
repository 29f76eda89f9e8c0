-- The leading digits are fewer than all.
use Rattle.std.proofs.Common.{length}
use Rattle.reading.proofs.number.+number.Given as goal

abbrev pub decreases-number : goal.decreases-number
decreases-number l = length l.word.now
