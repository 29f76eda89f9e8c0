-- Each row has a place for the slot, and one more row is filled.
use Rattle.std.proofs.Common.{rules}
use Rattle.rows.proofs.Places.{in_room, fill_more}
use Rattle.rows.proofs.store.fill.Goals as goal

pub bounds-numbers-i : goal.bounds-numbers-i
bounds-numbers-i c = search (rules, in_room)

pub loop-i-preserved : goal.loop-i-preserved
loop-i-preserved c = search (rules, fill_more)
