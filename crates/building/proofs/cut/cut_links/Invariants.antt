use Rattle.std.proofs.Common.{◌≤◌}
use Rattle.gmap.specs.Building.{AllCut}
use Rattle.gmap.specs.Listing.{Among}
use Rattle.building.proofs.cut.cut_links.Given as goal

abbrev pub invariant-loop-x : goal.invariant-loop-x
invariant-loop-x g l = AllCut (g.B.Reads.meaning l.initial.board) l.i (Among l.side l.x-index) l.links (g.B.Reads.meaning l.board) × (l.links ≤ l.x-index)
