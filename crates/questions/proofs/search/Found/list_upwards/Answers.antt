use Rattle.questions.proofs.Rising.{listed_like}
use Rattle.questions.proofs.Finding.{collected_only}
use Rattle.questions.proofs.search.Found.list_upwards.Goals as goal

pub returns : goal.returns
returns g c = let o = c.gather.ensures.orbit in listed_like _ _ _ _ _ (collected_only _ _ _ _ _ o) o.all c.rise.ensures
