use Rattle.std.proofs.lemmas.Result.{MatchResult-weaker}
use Rattle.splitting.proofs.Growing.{seated, tieable, grown}
use Rattle.splitting.proofs.vertex.grow.Goals as goal

pub link_all-requires-clause-seated : goal.link_all-requires-clause-seated
link_all-requires-clause-seated g c = seated _ (g.met.B.GMap.partners c.args.board.now) _ c.requires.closed c.requires.vacant _ c.in_ok-open_all.ensures

pub tie_ends-requires : goal.tie_ends-requires
tie_ends-requires g c =
    tieable _ (g.met.B.GMap.partners c.args.board.now) _ c.requires.closed c.requires.vacant _ c.in_ok-open_all.ensures _ c.in_ok-link_all.ensures

pub returns : goal.returns
returns g c =
    MatchResult-weaker c.tie_ends.result c.tie_ends.ensures
    (λ _ v. grown _ (g.met.B.GMap.partners c.args.board.now) _ c.requires.closed c.requires.vacant _ c.in_ok-open_all.ensures _ c.in_ok-link_all.ensures _ v)
    (λ _ none. none)
