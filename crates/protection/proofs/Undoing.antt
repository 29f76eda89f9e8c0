-- The theorem of undoing.
use Rattle.gmap.specs.Map.{Map, Partners, Lawful}
use Rattle.protection.specs.Undoing.{Undoing}
use Rattle.protection.proofs.JoinPart as joined
use Rattle.protection.proofs.PartJoin as parted
use Rattle.protection.proofs.SplitRemove as split

pub undoing : (m : Map) → Partners m → Lawful m → Undoing m
undoing m law lawful = record { join_part = joined.join_part m law; part_join = parted.part_join m law lawful; split_remove = split.split_remove m law lawful }
