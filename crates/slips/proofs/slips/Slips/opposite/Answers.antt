-- The partner of a slot is the other end of its link, or the slot itself if it has none.
use Rattle.std.proofs.Common.{◌≡◌, true, sym, rules}
use Rattle.slips.specs.Links.{names}
use Rattle.slips.specs.Blocks.{link_at}
use Rattle.slips.specs.Law.{unnamed, partner_read}
use Rattle.slips.proofs.slips.Slips.opposite.Goals as goal

pub returns-in-Some : goal.returns-in-Some
returns-in-Some c =
    let s = c.args.self.now in
    let hit = c.in-Some.ensures in
    let named : names c.args.t (link_at s.records.now s.size c.args.i hit.k) ≡ true = search (rules, hit.passes) in
    partner_read s.sound c.args.i hit.k c.args.t c.in-Some.p c.other.result (record { switch = c.requires; within = hit.within; named = named }) hit.at c.other.ensures

pub returns-in-None : goal.returns-in-None
returns-in-None c = sym (unnamed c.args.self.now.sound c.args.i c.args.t (λ k h. let missed = c.in-None.ensures k h in search (rules, missed)))
