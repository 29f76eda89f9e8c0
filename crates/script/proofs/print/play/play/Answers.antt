-- One line more, and in the end all of them.
use Rattle.std.proofs.Common.{refl, ⊎_elim, arith}
use Rattle.reading.specs.Requests.{request_of}
use Rattle.script.proofs.Plays.{few_pieces, playing_more, playing_done}
use Rattle.script.proofs.Readings.{read_from}
use Rattle.script.proofs.print.play.play.Goals as goal

pub loop-line-preserved : goal.loop-line-preserved
loop-line-preserved g c =
    let request = read_from request_of c.in_ok-found.ensures c.as_slice.ensures.value refl in
    playing_more _ c.loop-line.invariant c.in-Some.ensures.steps.1 c.in-Some.ensures.steps.0.0 c.in-Some.ensures.steps.0.1 request c.as_mut_slice.ensures.len c.as_mut_slice-in-loop-line.ensures.len c.answer-answer.ensures c.in_ok-push_line.ensures

-- The numbers of the lines do not run out before the lines.
pub returns : goal.returns
returns g c =
    let few = few_pieces 10 c.args.lines.now in
    playing_done (g.met.B.GMap.partners c.args.board.now) c.requires.fresh c.loop-line.invariant
    (⊎_elim (λ end. absurd (omega (arith, end.1.0, c.loop-line.invariant.few, few, c.requires.few))) (λ end. end.1.0) c.in-None.ensures.steps)
