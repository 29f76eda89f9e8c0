-- The rows so far have the number.
use Rattle.rows.specs.Numbers.{Filled}
use Rattle.rows.proofs.store.fill.Given as goal

abbrev pub invariant-loop-i : goal.invariant-loop-i
invariant-loop-i l = Filled l.i l.size l.t l.v l.initial.numbers l.numbers
