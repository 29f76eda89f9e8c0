use Rattle.std.proofs.Common.{◌≡◌, ℕ, ◌<◌, true}
use Rattle.gmap.specs.Map.{Free}
use Rattle.questions.proofs.wholeness.whole.Given as goal

abbrev pub invariant-loop-t : goal.invariant-loop-t
invariant-loop-t g l = (x : ℕ) → x < l.t → (g.C.Reads.meaning l.map).live x ≡ true → (i : ℕ) → i < (g.C.Reads.meaning l.map).top → Free (g.C.Reads.meaning l.map) i x → ⊥
