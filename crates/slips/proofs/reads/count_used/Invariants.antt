-- The count is that of the used records so far, which are no more than there are.
use Rattle.std.proofs.Common.{◌≡◌, ◌≤◌, length, take}
use Rattle.std.specs.List.{filter}
use Rattle.slips.specs.Links.{says_something}
use Rattle.slips.proofs.reads.count_used.Given as goal

abbrev pub invariant-loop-record : goal.invariant-loop-record
invariant-loop-record l = (l.count ≤ l.record-index) × (l.count ≡ length (filter says_something (take l.record-index l.records)))
