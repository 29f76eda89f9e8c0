-- The record is that of a live slot or of a vacant one.
use Rattle.slips.proofs.Slots.{slot_sound}
use Rattle.slips.proofs.store.SlipsStore.mark.Goals as goal

pub invariant_of-self : goal.invariant_of-self
invariant_of-self c = record { sound = slot_sound c.args.live c.args.self.now.sound c.requires.slot c.requires.free c.of_slot.ensures }
