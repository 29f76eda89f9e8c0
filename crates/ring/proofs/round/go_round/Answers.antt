use Rattle.std.proofs.Common.{◌≡◌, ◌+◌, ◌*◌, ◌≤◌, ◌&&◌, ◌-◌, length, ◌∙◌, arith, rules}
use Rattle.ring.specs.Round.{Round}
use borrow.Rule.Slice.PartMut.{put_mid}
use Rattle.ring.proofs.Rounds.{round_room, round_done, round_more}
use Rattle.ring.proofs.Encircling.{encircles}
use Rattle.ring.proofs.round.go_round.Given as given
use Rattle.ring.proofs.round.go_round.Goals as goal
use Rattle.ring.proofs.round.go_round.Goals.{At-loop-x, After-turn-leads_on}

-- a turn more fits
room : (g : given.Over) (c : At-loop-x g) → c.loop-x.steps + 2 ≤ 2 * (g.C.Reads.meaning c.args.start.map.now).size
room g c = round_room (g.met.C.GMap.partners c.args.start.map.now) c.requires.above c.loop-x.invariant.1 c.args.start.live c.loop-x.invariant.2

fits : (g : given.Over) (c : At-loop-x g) → c.loop-x.steps + 2 ≤ length c.loop-x.out
fits g c = omega (arith, room g c, c.requires.room, c.loop-x.auto.out)

pub slice_bounds-turn-end : goal.slice_bounds-turn-end
slice_bounds-turn-end g c = fits g (goal.at.slice_bounds-turn-end g c).At-loop-x

pub overflow_add-steps : goal.overflow_add-steps
overflow_add-steps g c = omega (arith, room g (goal.at.overflow_add-steps g c).At-loop-x, (g.met.C.GMap.partners c.args.start.map.now).few)

pub loop-x-smaller : goal.loop-x-smaller
loop-x-smaller g c = omega (arith, room g (goal.at.loop-x-smaller g c).At-loop-x)

-- the round after the turn
more : (g : given.Over) (c : After-turn-leads_on g) → c.loop-x.steps + 2 ≤ length c.loop-x.out → Round (g.C.Reads.meaning c.args.start.map.now) c.args.k c.args.start.slot (c.loop-x.steps + 2) c.turn-leads_on.result.0.slot (c.loop-x.closed && c.turn-leads_on.result.1) c.args.out.now (put_mid c.loop-x.steps (c.loop-x.steps + 2 - c.loop-x.steps) c.loop-x.out c.turn-leads_on.new.pair)
more g c fits =
    let (same, round, away) = c.loop-x.invariant in
    let pair : length c.turn-leads_on.new.pair ≡ 2 = search rules in
    round_more (g.met.C.GMap.partners c.args.start.map.now) c.requires.above round away _ _ _ (rw same at c.turn-leads_on.ensures.turned) fits pair

pub loop-x-preserved : goal.loop-x-preserved
loop-x-preserved g c =
    let at = goal.at.loop-x-preserved g c in
    (c.turn-leads_on.ensures.map ∙ c.loop-x.invariant.0, more g at.After-turn-leads_on (fits g at.At-loop-x), λ s e. c.if-x-t.false e)

pub returns-then-x-t : goal.returns-then-x-t
returns-then-x-t g c =
    let at = goal.at.returns-then-x-t g c in
    let law = g.met.C.GMap.partners c.args.start.map.now in
    let steps = round_done law c.requires.above (more g at.After-turn-leads_on (fits g at.At-loop-x)) (omega arith) c.if-x-t.true (omega (arith, room g at.At-loop-x, c.requires.room)) in
    record { steps = steps; orbit = encircles _ law _ c.requires.above _ _ _ _ steps }
