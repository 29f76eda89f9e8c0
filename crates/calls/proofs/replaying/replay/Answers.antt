-- The board keeps the law of partners.
use Rattle.calls.proofs.Runs.{run_protected}
use Rattle.calls.proofs.replaying.replay.Goals as goal

pub returns-clause-protected : goal.returns-clause-protected
returns-clause-protected g c = run_protected _ _ _ _ _ c.loop-call.invariant (g.met.B.GMap.partners c.args.board.now)
