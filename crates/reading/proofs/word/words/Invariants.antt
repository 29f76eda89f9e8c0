-- The words of the front were read.
use Rattle.std.proofs.Common.{vec_items}
use Rattle.reading.specs.Pieces.{pieces}
use Rattle.reading.proofs.Lines.{Reading}
use Rattle.reading.proofs.word.words.Given as goal

abbrev pub invariant-loop-piece : goal.invariant-loop-piece
invariant-loop-piece l = Reading l.line (vec_items l.found) (pieces l.piece-iterator.by l.piece-iterator.rest.now) l.bytes
