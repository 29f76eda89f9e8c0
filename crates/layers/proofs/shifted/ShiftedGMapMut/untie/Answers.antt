-- The act below, at the slot that t stands for.
use Rattle.layers.proofs.ShiftActs.{untie_shifted}
use Rattle.layers.proofs.shifted.ShiftedGMapMut.untie.Goals as goal

pub returns : goal.returns
returns g c = untie_shifted _ _ (g.met.B.GMap.partners c.args.self.now.below) _ c.untie.result _ _ _ c.in_ok-d.ensures.0 c.in_ok-d.ensures.1 c.untie.ensures
