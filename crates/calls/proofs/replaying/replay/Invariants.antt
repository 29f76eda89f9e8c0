-- The calls so far were carried out.
use Rattle.std.proofs.Common.{length, take}
use Rattle.protection.specs.Runs.{Run, each}
use Rattle.calls.proofs.replaying.replay.Given as goal

abbrev pub invariant-loop-call : goal.invariant-loop-call
invariant-loop-call g l = Run (each (length l.initial.scratch) (take l.call-index l.calls)) (g.B.Reads.meaning l.initial.board) (g.B.Reads.meaning l.board)
