-- A slot that is free in each switch up to the top is free in all.
use Rattle.std.proofs.Common.{arith}
use Rattle.gmap.proofs.Looks.{free_in_all}
use Rattle.gmap.proofs.store.is_linked.Goals as goal

pub returns : goal.returns
returns g c = free_in_all (g.met.C.GMap.partners c.args.map.now) (omega (arith, c.loop-i-test.false)) c.loop-i.invariant
