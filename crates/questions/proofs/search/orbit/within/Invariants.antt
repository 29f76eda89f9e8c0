use Rattle.std.proofs.Common.{ℕ, ◌<◌, ◌≤◌}
use Rattle.gmap.specs.Asking.{Bit}
use Rattle.questions.proofs.search.orbit.within.Given as goal

abbrev pub invariant-loop-i : goal.invariant-loop-i
invariant-loop-i l = (k : ℕ) → k < l.i → Bit l.mask k → k ≤ l.top
