-- The members stand in front of the list.
use Rattle.std.proofs.Common.{arith}
use Rattle.script.proofs.Listings.{orbit_listed}
use Rattle.script.proofs.serve.Desk.list_orbit.Goals as goal

pub returns : goal.returns
returns g c =
    let narrow = c.in-Ok.ensures in
    let o = rw narrow.1 at c.in_ok-count.ensures.outcome in
    ((λ wide. omega (arith, narrow.0), o.0), orbit_listed _ _ _ _ _ o.1)
