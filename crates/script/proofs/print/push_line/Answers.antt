-- What is written to the output is the line.
use Rattle.std.proofs.Common.{◌≡◌, ◌++◌, true, Ok, Err, Result, OnOk, refl, sym, ap, ◌∙◌}
use Rattle.std.specs.Result.{is_ok}
use Rattle.std.proofs.lemmas.Fmt.{contents_after_writes}
use Rattle.script.specs.Printing.{printed}
use Rattle.script.specs.Replies.{answer_of}
use Rattle.script.proofs.print.push_line.Goals as goal

on_ok : {T E P : Type 0} (r : Result T E) → (is_ok r ≡ true → P) → OnOk r P
on_ok (Ok x) p = p refl
on_ok (Err e) p = tt

pub returns : goal.returns
returns c =
    let bs = printed c.args.number (answer_of c.args.answer) in
    on_ok c.map_err.result (λ ok.
    let wrote = (c.write-printed.ensures.writes c.new-f.ensures.plain (sym c.map_err.ensures.variant ∙ ok)).wrote in
    ap (λ o. o.bytes.items) c.into_inner.ensures
    ∙ contents_after_writes _ (λ o. o.bytes.items) (λ w l v t. t) _ bs _ wrote
    ∙ ap (λ o. o.bytes.items ++ bs) c.new-f.ensures.writer
    ∙ ap (λ v. v.items ++ bs) c.replace-bytes.ensures.value)
