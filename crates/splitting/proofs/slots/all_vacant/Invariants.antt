use Rattle.std.proofs.Common.{ℕ, ◌≤◌, ◌<◌, ◌≡◌, false}
use Rattle.splitting.proofs.slots.all_vacant.Given as goal

abbrev pub invariant-loop-x : goal.invariant-loop-x
invariant-loop-x g l = (x : ℕ) → l.f ≤ x → x < l.x → (x < (g.C.Reads.meaning l.map).size) × ((g.C.Reads.meaning l.map).live x ≡ false)
