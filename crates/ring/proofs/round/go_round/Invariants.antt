use Rattle.std.proofs.Common.{◌≡◌, ◌-◌, ◌*◌, ◌<◌}
use Rattle.ring.specs.Round.{Round}
use Rattle.ring.proofs.round.go_round.Given as goal

-- the walk is under way: behind the first turn it is not back
abbrev pub invariant-loop-x : goal.invariant-loop-x
invariant-loop-x g l =
    (l.x.map ≡ l.fn.start.map)
    × Round (g.C.Reads.meaning l.fn.start.map.now) l.k l.t l.steps l.x.slot l.closed l.initial.out l.out
    × (0 < l.steps → l.x.slot ≡ l.t → ⊥)

abbrev pub decreases-loop-x : goal.decreases-loop-x
decreases-loop-x g l = 2 * (g.C.Reads.meaning l.fn.start.map.now).size - l.steps
