-- A refused opening, or an accepted one with the lines behind it.
use Rattle.std.proofs.lemmas.Result.{IfOk-weaker}
use Rattle.reading.specs.Openings.{opening_of}
use Rattle.script.proofs.Readings.{some_bytes, read_from}
use Rattle.script.proofs.Scripts.{script_refused, script_played}
use Rattle.script.proofs.print.play.run.Goals as goal

pub returns-in-Ok : goal.returns-in-Ok
returns-in-Ok c =
    let some = some_bytes c.args.script.now c.if-is_empty.ensures in
    let opening = read_from opening_of c.in_ok-found.ensures c.as_slice.ensures.value c.in-Ok.ensures.value in
    IfOk-weaker c.start.result _ _
    (λ _ played. script_played _ _ some c.if-script-gt-LONGEST.false c.split_first.ensures.front _ _ _ _ _ opening c.split_first.ensures.back c.in_ok-push_line-in-Ok.ensures played)
    c.start.ensures

pub returns : goal.returns
returns c =
    let some = some_bytes c.args.script.now c.if-is_empty.ensures in
    let opening = read_from opening_of c.in_ok-found.ensures c.as_slice.ensures.value c.in-Err.ensures.value in
    IfOk-weaker c.push_line-in-Err.result _ _
    (λ _ printed. script_refused _ _ some c.if-script-gt-LONGEST.false c.split_first.ensures.front _ _ _ opening printed)
    c.push_line-in-Err.ensures
