use Rattle.std.proofs.Common.{inl, inr, rules}
use Rattle.building.proofs.Clearing.{not_loose, both_blank, both_free}
use Rattle.building.proofs.seam.Seam.pair_sides.Goals as goal

pub returns : goal.returns
returns g c =
    let (s, o, a) = c.in_ok-side.ensures in
    let (_, p, b) = c.in_ok-collect_side.ensures in
    record { side = s; collected = o; matched = c.in_ok-match_sides.ensures; free = both_free _ _ _ _ _ _ _ _ o p _ _ _ a b }

pub returns-in_err-side : goal.returns-in_err-side
returns-in_err-side g c =
    let (_, (x, o, linked)) = c.in_err-side.ensures in
    let misfit = not_loose _ _ _ c.args.self.now.u x (inl o) linked in
    search rules

pub returns-in_err-collect_side : goal.returns-in_err-collect_side
returns-in_err-collect_side g c =
    let (_, (x, o, linked)) = c.in_err-collect_side.ensures in
    let misfit = not_loose _ _ c.args.self.now.t _ x (inr o) linked in
    search rules

pub match_sides-requires-clause-blank : goal.match_sides-requires-clause-blank
match_sides-requires-clause-blank g c =
    let (_, o, a) = c.in_ok-side.ensures in
    let (_, p, b) = c.in_ok-collect_side.ensures in
    both_blank _ _ _ _ _ _ _ _ o p _ _ _ a b c.requires.left.mates
