use Rattle.std.proofs.Common.{◌≤◌, true, length, arith, rules}
use Rattle.gmap.proofs.Orbits.{orbit_live}
use Rattle.questions.proofs.Ranking.{rankable, ranked}
use Rattle.questions.proofs.search.cell.cell.Goals as goal

-- the tuples of the cell are slots
pub rank-requires : goal.rank-requires
rank-requires g c =
    let tuple = c.in_ok-tuple.tuple in
    let law = g.met.C.GMap.partners tuple.map.now in
    let s = c.write_cell-count.ensures in
    let deep : (g.C.Reads.meaning tuple.map.now).size ≤ length c.write_cell-count.new.places = search rules in
    rankable s _ (omega (arith, law.few, s.fits)) (λ x o. omega (arith, deep, law.inside _ (orbit_live _ law _ true tuple.live o)))

pub returns : goal.returns
returns g c =
    let (passes, (map, slot)) = c.in_ok-tuple.ensures in
    (passes, rw (map, slot) at (ranked c.write_cell-count.ensures _ c.rank.ensures))
