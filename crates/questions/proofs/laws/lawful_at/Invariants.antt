use Rattle.std.proofs.Common.{ℕ, ◌+◌, ◌<◌, ◌≤◌}
use Rattle.questions.specs.Laws.{Commute}
use Rattle.questions.proofs.laws.lawful_at.Given as goal

abbrev pub invariant-loop-i : goal.invariant-loop-i
invariant-loop-i g l = (k : ℕ) → k < l.i → (j : ℕ) → k + 2 ≤ j → Commute (g.C.Reads.meaning l.tuple.map.now) k j l.tuple.slot
