use Rattle.std.proofs.lemmas.Result.{MatchResult-weaker}
use Rattle.removal.proofs.Taking.{tieable, closable, taken_out}
use Rattle.removal.proofs.take.take_out.Goals as goal

pub tie_ends-requires : goal.tie_ends-requires
tie_ends-requires g c = tieable (g.met.B.GMap.partners c.args.board.now) c.requires.cell c.requires.bridges c.in_ok-cut_off.ensures c.requires.ends

pub close_all-requires : goal.close_all-requires
close_all-requires g c = closable (g.met.B.GMap.partners c.args.board.now) c.requires.cell c.requires.bridges c.in_ok-cut_off.ensures c.in_ok-tie_ends.ensures

pub returns : goal.returns
returns g c = MatchResult-weaker c.close_all.result c.close_all.ensures (λ _. taken_out (g.met.B.GMap.partners c.args.board.now) c.requires.cell c.requires.bridges c.in_ok-cut_off.ensures c.in_ok-tie_ends.ensures) (λ _ e. e)
