use Rattle.std.proofs.Common.{◌≤◌}
use Rattle.gmap.specs.Listing.{Among, Listed}
use Rattle.questions.proofs.Rising.{Upto}
use Rattle.questions.proofs.search.Found.rise.Given as goal

abbrev pub invariant-loop-x : goal.invariant-loop-x
invariant-loop-x l = (l.written ≤ l.x) × Listed (Upto (Among l.self.list.now l.self.count) l.x) l.written l.initial.out l.out
