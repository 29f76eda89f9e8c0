-- What is read of a line that is there.
use Rattle.std.proofs.Common.{◌≡◌, ℕ, ◌<◌, false, eqb, List, map, length, sym, ap, ◌∙◌, arith}
use borrow.Author.Tests.{eqb-false}
use Rattle.reading.specs.Pieces.{words_of}
use Rattle.reading.specs.Words.{Sense, sense, sense_of, Reads}
use Rattle.reading.specs.declared.word.Word.{Word}

pub some_bytes : (s : List ℕ) → false ≡ eqb (length s) 0 → 0 < length s
some_bytes s test = omega (arith, eqb-false (length s) 0 (sym test))

-- the words us, a slice of ws, say what the bytes of the line say
pub read_from : {X : Type 0} {x : X} (f : List Sense → X) {ws us : List Word} {n : ℕ} {l : List ℕ} → Reads n ws l → us ≡ ws → x ≡ f (map sense us) → x ≡ f (map sense_of (words_of l))
read_from f read slice is = is ∙ ap (λ vs. f (map sense vs)) slice ∙ ap f read.senses
