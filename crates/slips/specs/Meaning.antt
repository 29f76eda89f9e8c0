-- The map that a storage stands for.
--   map_of  that which its records hold
use Rattle.gmap.specs.Map.{Map}
use Rattle.slips.specs.Blocks.{slips_map}
use Rattle.slips.specs.declared.slips.Slips.{Slips}

abbrev pub map_of : Slips → Map
map_of s = slips_map s.top s.size s.records.now
