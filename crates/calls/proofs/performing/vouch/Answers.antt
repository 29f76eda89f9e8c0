-- The two theorems, at the board's map.
use Rattle.protection.proofs.Protection.{protection}
use Rattle.protection.proofs.Undoing.{undoing}
use Rattle.calls.proofs.performing.vouch.Goals as goal

pub returns : goal.returns
returns g c = record { undoing = undoing _ (g.met.B.GMap.partners c.args.board.now); protection = protection _ _ }
