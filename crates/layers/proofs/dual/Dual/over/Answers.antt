-- The laws of the dual.
use Rattle.std.proofs.Common.{refl}
use Rattle.layers.proofs.DualLaw.{dual_laws}
use Rattle.layers.proofs.dual.Dual.over.Goals as goal

pub returns : goal.returns
returns g c = record { below = refl; laws = dual_laws _ (g.met.B.GMap.partners c.args.below) }
