-- The entries are written one by one behind the count.
use Rattle.std.proofs.Common.{[], ◌∷◌, sym, ap, rules}
use Rattle.std.proofs.Output.{has_written_append, has_written_of_eq}
use Rattle.std.proofs.lemmas.List.{take_all}
use Rattle.script.specs.Printing.{spaced}
use Rattle.script.proofs.Entries.{spaced_more}
use Rattle.script.proofs.reply.ReplyDisplay.fmt.Goals as goal

pub loop-entry-preserved : goal.loop-entry-preserved
loop-entry-preserved g c = λ plain.
    let more = spaced_more [] c.in-Listed.entries.now c.loop-entry.entry-index c.loop-entry-test.true in
    has_written_of_eq _ _ _ _ _ (sym more) (has_written_append _ _ _ _ _ _ (c.loop-entry.invariant plain) (search rules))

pub returns-after-loop-entry-clause-writes : goal.returns-after-loop-entry-clause-writes
returns-after-loop-entry-clause-writes g c = λ plain ok.
    let count = c.in_ok-put-in-Listed.ensures plain ok in
    let all = ap (λ entries. spaced (c.in-Listed.count ∷ entries)) (take_all _ _ c.loop-entry-test.false) in
    rw c.in-Listed.is (has_written_of_eq _ _ _ _ _ all (has_written_append _ _ _ _ _ _ count (c.loop-entry.invariant count.plain)))
