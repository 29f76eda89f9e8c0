-- The lines before those left are played.
use Rattle.std.proofs.Common.{vec_items, vec_len}
use Rattle.reading.specs.Pieces.{pieces, lines_of}
use Rattle.script.proofs.Plays.{Playing}
use Rattle.script.proofs.print.play.play.Given as goal

abbrev pub invariant-loop-line : goal.invariant-loop-line
invariant-loop-line g l = Playing (g.B.Reads.meaning l.initial.board) (g.B.Reads.meaning l.board) (lines_of l.lines) (pieces l.line-iterator.b.by l.line-iterator.b.rest.now) l.line-iterator.a.start (vec_items l.initial.out) (vec_items l.out) (vec_len l.scratch) (vec_len l.list)
