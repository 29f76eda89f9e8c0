-- A piece that is not empty is a word.
use Rattle.std.proofs.Common.{[], ◌∷◌, refl, rules}
use Rattle.std.proofs.lemmas.Slice.{pushed}
use Rattle.reading.proofs.Lines.{reading_more}
use Rattle.reading.proofs.word.words.Goals as goal

pub loop-piece-preserved : goal.loop-piece-preserved
loop-piece-preserved c =
    let more = pushed (c.read.result ∷ []) refl c.in_ok-push.was c.push.ensures.items in
    reading_more _ _ _ _ _ c.loop-piece.invariant record { line = c.args.line; bytes = c.in-Some.piece } (search rules) (search rules) refl _ (rw c.read.ensures at more)
