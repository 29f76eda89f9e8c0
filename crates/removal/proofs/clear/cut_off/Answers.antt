use Rattle.removal.proofs.Cutting.{cut_below_more}
use Rattle.removal.proofs.clear.cut_off.Goals as goal

pub loop-j-preserved : goal.loop-j-preserved
loop-j-preserved g c = cut_below_more c.loop-j.invariant c.in_ok-cut_links.ensures
