use Rattle.std.proofs.Common.{◌≡◌, true, subst, rules, arith}
use Rattle.gmap.specs.Outcome.{Passes}
use Rattle.gmap.specs.Splitting.{SplitAt}
use Rattle.gmap.proofs.Orbits.{orbit_live}
use Rattle.splitting.specs.Edges.{edge_checks}
use Rattle.splitting.proofs.Besides.{closed, front_long, front_ranked, all_fit, taken_none, taken_some, split_at}
use Rattle.splitting.proofs.vertex.add_vertex.Goals as goal

pub returns-then-not-all_vacant : goal.returns-then-not-all_vacant
returns-then-not-all_vacant g c =
    let m = g.B.Reads.meaning c.args.board.now in
    let (x, le, lt, d) = c.if-not-all_vacant.ensures in
    let taken = taken_some m c.args.t _ _ _ c.in_ok-count.ensures.1 c.args.f x le lt d in
    search rules

pub invariant_of-edge : goal.invariant_of-edge
invariant_of-edge g c =
    let m = g.B.Reads.meaning c.args.board.now in
    let law = g.met.B.GMap.partners c.args.board.now in
    let live : m.live c.args.t ≡ true = search rules in
    let r = c.in_ok-count.ensures.1 in
    let s = front_ranked _ _ _ _ r in
    record { fits = omega (arith, front_long _ _ _ _ r, all_fit _ _ _ _ _ r c.args.f law c.if-not-all_vacant.ensures); inside = λ k h. omega (arith, law.inside _ (orbit_live m law _ true live (s.only k h)), c.requires.ranks, c.cell.auto.ranks); ranked = s.rank }

pub grow-requires : goal.grow-requires
grow-requires g c =
    let m = g.B.Reads.meaning c.args.board.now in
    let law = g.met.B.GMap.partners c.args.board.now in
    let live : m.live c.args.t ≡ true = search rules in
    let r = c.in_ok-count.ensures.1 in
    record { closed = closed m law c.args.t live _ (front_ranked _ _ _ _ r); vacant = λ x le lt. c.if-not-all_vacant.ensures x le (omega (arith, lt, front_long _ _ _ _ r)) }

pub returns : goal.returns
returns g c =
    let m = g.B.Reads.meaning c.args.board.now in
    let law = g.met.B.GMap.partners c.args.board.now in
    let live : m.live c.args.t ≡ true = search rules in
    let r = c.in_ok-count.ensures.1 in
    let m' = g.B.Reads.meaning c.grow.new.board in
    let free = taken_none m c.args.t _ _ _ r c.args.f c.if-not-all_vacant.ensures in
    let passed : Passes (edge_checks m c.args.t c.args.f) = search rules in
    (passed, subst (λ k. SplitAt m c.args.t c.args.f (c.args.f, k) m') (front_long _ _ _ _ r) (split_at m law c.args.t live _ (front_ranked _ _ _ _ r) c.requires.switch m' (g.met.B.GMap.partners c.grow.new.board) c.in_ok-grow.ensures))
