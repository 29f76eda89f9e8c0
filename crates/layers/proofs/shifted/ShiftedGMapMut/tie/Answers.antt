-- The act below, at the slots that t and u stand for.
use Rattle.layers.proofs.ShiftActs.{tie_shifted}
use Rattle.layers.proofs.shifted.ShiftedGMapMut.tie.Goals as goal

pub returns : goal.returns
returns g c = tie_shifted _ _ (g.met.B.GMap.partners c.args.self.now.below) _ c.tie.result _ _ _ _ _ c.in_ok-d.ensures.0 c.in_ok-e.ensures.0 c.in_ok-d.ensures.1 c.in_ok-e.ensures.1 c.tie.ensures
