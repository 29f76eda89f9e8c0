-- What one record says.
--   says_something  it says something
--   says_slot       a slot is live
--   names           it is a link of x
--   other           the other end of a link of x
use Rattle.std.specs.Prelude.{ℕ, Bool, true, false, cond, ◌||◌, ◌==◌}
use Rattle.slips.specs.declared.record.Record.{Record}
use Rattle.slips.specs.declared.record.Record.TheVariants.{Unused, Slot, Link}

abbrev pub says_something : Record → Bool
says_something Unused = false
says_something Slot = true
says_something (Link t u) = true

abbrev pub says_slot : Record → Bool
says_slot Unused = false
says_slot Slot = true
says_slot (Link t u) = false

abbrev pub names : ℕ → Record → Bool
names x Unused = false
names x Slot = false
names x (Link t u) = x == t || x == u

abbrev pub other : ℕ → Record → ℕ
other x Unused = x
other x Slot = x
other x (Link t u) = cond (x == t) u t
