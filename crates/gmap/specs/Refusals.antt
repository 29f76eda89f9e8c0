-- The number of each refusal, as it is printed.
use Rattle.std.specs.Prelude.{ℕ}
use Rattle.gmap.specs.declared.refusal.Refusal.{Refusal}
use Rattle.gmap.specs.declared.refusal.Refusal.TheVariants.{NoSwitch, NoSlot, Vacant, Live, Linked, SameTuple, Misfit, NotLinked, Twisted, Occupied, Short, Malformed, Oversize}

abbrev pub number : Refusal → ℕ
-- no such switch
number NoSwitch = 1
-- no such slot
number NoSlot = 2
-- the slot is vacant
number Vacant = 3
-- the slot is live
number Live = 4
-- the tuple is linked
number Linked = 5
-- the two tuples are one
number SameTuple = 6
-- the sides of a join do not fit
number Misfit = 7
-- the tuple is not linked
number NotLinked = 8
-- the two switches above do not commute on the cell
number Twisted = 9
-- a new number is taken or too large
number Occupied = 10
-- the scratch or the list is too short
number Short = 11
-- the line is malformed
number Malformed = 12
-- out of range, or too little memory
number Oversize = 13
