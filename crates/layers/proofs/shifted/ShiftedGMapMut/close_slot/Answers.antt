-- The act below, at the slot that t stands for.
use Rattle.std.proofs.Common.{rules}
use Rattle.layers.proofs.ShiftActs.{close_shifted}
use Rattle.layers.proofs.shifted.ShiftedGMapMut.close_slot.Goals as goal

pub returns : goal.returns
returns g c = search (rules, close_shifted)
