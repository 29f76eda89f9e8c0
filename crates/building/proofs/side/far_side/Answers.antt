use Rattle.std.proofs.Common.{arith}
use Rattle.building.proofs.Sides.{collected_front, front_side}
use Rattle.building.proofs.side.far_side.Goals as goal

pub returns : goal.returns
returns g c =
    let o = c.far_orbit-count.ensures in
    record { side = front_side _ (g.met.C.GMap.partners c.args.tuple.now.map.now) _ _ _ _ o c.requires.switch c.args.tuple.now.live (omega (arith, c.requires.room, c.far_orbit-count.auto.list)); collected = collected_front _ _ _ _ _ o }
