-- One more record is counted if it is used, and in the end all that are.
use Rattle.std.proofs.Common.{arith, rules}
use Rattle.std.proofs.lemmas.Grind.{common_steps}
use Rattle.std.proofs.lemmas.List.{take_all}
use Rattle.std.proofs.lemmas.List.Filters.{length-filter_more}
use Rattle.slips.specs.Links.{says_something}
use Rattle.slips.specs.declared.record.Record.TheVariants.{Unused}
use Rattle.slips.proofs.reads.count_used.Goals as goal

pub loop-record-preserved : goal.loop-record-preserved
loop-record-preserved c =
    let more = length-filter_more says_something c.args.records.now c.loop-record.record-index Unused (omega arith) in
    let (few, counted) = c.loop-record.invariant in
    grind (arith, common_steps, more, few, counted)

pub returns : goal.returns
returns c = search (rules, take_all)
