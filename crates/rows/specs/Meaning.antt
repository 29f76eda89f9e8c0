-- The map that a storage stands for.
--   map_of  that which its rows hold
use Rattle.gmap.specs.Map.{Map}
use Rattle.rows.specs.Numbers.{rows_map}
use Rattle.rows.specs.declared.rows.Rows.{Rows}

abbrev pub map_of : Rows → Map
map_of r = rows_map r.top r.size r.numbers.now
