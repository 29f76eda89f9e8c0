-- The slot is free in the switches so far.
use Rattle.std.proofs.Common.{ℕ, ◌<◌}
use Rattle.gmap.specs.Map.{Free}
use Rattle.gmap.proofs.store.is_linked.Given as goal

abbrev pub invariant-loop-i : goal.invariant-loop-i
invariant-loop-i g l = (k : ℕ) → k < l.i → Free (g.C.Reads.meaning l.map) k l.t
