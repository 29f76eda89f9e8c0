use Rattle.std.proofs.Common.{ℕ, List, sym, ◌∙◌, subst, rules}
use Rattle.questions.specs.Search.{Collected}
use Rattle.questions.specs.Via.{via}
use Rattle.questions.proofs.search.collect.Goals as goal

-- the list that was lent is the one that the search has filled
pub returns : goal.returns
returns g c =
    let F : List ℕ → Type 0 = λ xs. Collected (g.C.Reads.meaning c.args.tuple.now.map.now) (via c.args.switches) c.args.tuple.now.slot c.gather.new.self.count xs in
    let e = sym (c.gather.ensures.same_list ∙ c.new-found.ensures.same_list) in
    subst F (search (rules, e)) c.gather.ensures.orbit
