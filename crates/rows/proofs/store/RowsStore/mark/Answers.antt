-- The number is that of a free tuple or of a vacant slot.
use Rattle.rows.proofs.Slots.{slot_sound, slot_same}
use Rattle.rows.proofs.store.RowsStore.mark.Goals as goal

pub invariant_of-self : goal.invariant_of-self
invariant_of-self c = record { sound = slot_sound c.args.live c.args.self.now.sound c.requires.slot c.requires.free c.number-v.ensures c.fill.ensures }

pub returns : goal.returns
returns c = slot_same c.args.live c.args.self.now.sound c.requires.slot c.requires.free c.number-v.ensures c.fill.ensures
