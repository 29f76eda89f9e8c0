-- Words ask for the one request whose words they are, or for none.
use Rattle.std.proofs.Common.{◌≡◌, List, Some, None, Option, arith, MatchOption}
use Rattle.std.proofs.lemmas.Grind.{common_steps}
use Rattle.reading.specs.declared.request.Request.{Request}
use Rattle.reading.specs.Words.{Sense}
use Rattle.reading.specs.Requests.{asks, asked_of}
use Rattle.reading.proofs.request.ask.Goals as goal

form_is : (ss : List Sense) (o : Option Request) → o ≡ asked_of ss → MatchOption o ((q : Request) → ss ≡ asks q → ⊥) (λ q. ss ≡ asks q)
form_is ss None e = λ q is. grind arith
form_is ss (Some q) e = grind arith

pub returns-clause-form : goal.returns-clause-form
returns-clause-form c = form_is _ _ (grind (arith, common_steps))
