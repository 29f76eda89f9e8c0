-- A tuple that is linked has a record, which becomes unused.
use Rattle.std.proofs.Common.{◌≡◌, true, sym, ◌∙◌, rules}
use Rattle.std.proofs.lemmas.Option.{MatchOption-at_some}
use Rattle.std.proofs.lemmas.Bool.{some_since}
use Rattle.slips.specs.Links.{names}
use Rattle.slips.specs.Blocks.{link_at}
use Rattle.slips.specs.Law.{unnamed}
use Rattle.slips.proofs.Writes.{admits_unused, link_sound, untie_same}
use Rattle.slips.proofs.store.SlipsStore.unlink.Goals as goal

pub unwrap-p-requires : goal.unwrap-p-requires
unwrap-p-requires c = some_since c.find.result _ _ c.find.ensures (λ none. c.requires.two.apart (sym (unnamed c.args.self.now.sound c.args.i c.args.t (λ k h. let missed = none k h in search (rules, missed))) ∙ c.requires.linked))

pub invariant_of-self : goal.invariant_of-self
invariant_of-self c =
    let hit = MatchOption-at_some _ _ c.unwrap-p.result c.unwrap-p.ensures c.find.ensures in
    record { sound = link_sound c.args.self.now.sound c.requires.two.switch hit.within hit.at admits_unused }

pub returns : goal.returns
returns c =
    let s = c.args.self.now in
    let hit = MatchOption-at_some _ _ c.unwrap-p.result c.unwrap-p.ensures c.find.ensures in
    let named : names c.args.t (link_at s.records.now s.size c.args.i hit.k) ≡ true = search (rules, hit.passes) in
    untie_same s.sound c.requires.two.switch hit.within hit.at c.args.t named
