-- The block of two free tuples has an unused record, which becomes their link.
use Rattle.std.proofs.Common.{◌≡◌, false, rules}
use Rattle.std.proofs.lemmas.Option.{MatchOption-at_some}
use Rattle.std.proofs.lemmas.Bool.{some_since}
use Rattle.slips.specs.Links.{says_something}
use Rattle.slips.specs.Blocks.{link_at}
use Rattle.slips.proofs.Full.{room_left}
use Rattle.slips.proofs.Writes.{admits_link, link_sound, tie_same}
use Rattle.slips.proofs.store.SlipsStore.link.Goals as goal

pub unwrap-p-requires : goal.unwrap-p-requires
unwrap-p-requires c = some_since c.find.result _ _ c.find.ensures (λ none. room_left c.args.self.now.sound c.requires.two c.requires.free (λ k h. let missed = none k h in search (rules, missed)))

pub invariant_of-self : goal.invariant_of-self
invariant_of-self c =
    let sound = c.args.self.now.sound in
    let hit = MatchOption-at_some _ _ c.unwrap-p.result c.unwrap-p.ensures c.find.ensures in
    record { sound = link_sound sound c.requires.two.switch hit.within hit.at (admits_link sound c.requires.two c.requires.free) }

pub returns : goal.returns
returns c =
    let s = c.args.self.now in
    let hit = MatchOption-at_some _ _ c.unwrap-p.result c.unwrap-p.ensures c.find.ensures in
    let unused : says_something (link_at s.records.now s.size c.args.i hit.k) ≡ false = search (rules, hit.passes) in
    tie_same s.sound c.requires.two.switch hit.within hit.at c.args.t c.args.u (admits_link s.sound c.requires.two c.requires.free) unused
