use Rattle.std.proofs.Common.{◌≤◌}
use Rattle.gmap.specs.Building.{AllTied}
use Rattle.building.specs.Tying.{PairsOf}
use Rattle.building.proofs.tie.tie_pairs.Given as goal

abbrev pub invariant-loop-x : goal.invariant-loop-x
invariant-loop-x g l = AllTied (g.B.Reads.meaning l.initial.board) l.i (PairsOf l.side l.x-index l.mates) l.links (g.B.Reads.meaning l.board) × (l.links ≤ l.x-index)
