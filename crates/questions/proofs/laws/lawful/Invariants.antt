use Rattle.std.proofs.Common.{◌≡◌, ℕ, ◌<◌, true}
use Rattle.questions.specs.Laws.{LawfulAt}
use Rattle.questions.proofs.laws.lawful.Given as goal

abbrev pub invariant-loop-t : goal.invariant-loop-t
invariant-loop-t g l = (x : ℕ) → x < l.t → (g.C.Reads.meaning l.map).live x ≡ true → LawfulAt (g.C.Reads.meaning l.map) x
