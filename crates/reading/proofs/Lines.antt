-- The words of a line, read one by one.
use Rattle.std.proofs.Common.{◌≡◌, ℕ, ◌<◌, List, [], ◌∷◌, ◌++◌, map, length, refl, ap, ◌∙◌, append_assoc, arith}
use Rattle.std.specs.List.{AllByRecursion}
use Rattle.std.proofs.ByRecursion.{All-push}
use Rattle.std.proofs.lemmas.List.{map_push}
use Rattle.reading.specs.declared.word.Part.{Part}
use Rattle.reading.specs.declared.word.Word.{Word}
use Rattle.reading.specs.Pieces.{filled, words_of}
use Rattle.reading.specs.Words.{Sense, names, orders, counts, nothing, sense_of, said_by, word_of, sense, part_of, text_of, line_of}

sense_said_by : (s : Sense) (p : Part) → sense (said_by s p) ≡ s
sense_said_by (names k) p = refl
sense_said_by (orders c) p = refl
sense_said_by (counts n) p = refl
sense_said_by nothing p = refl

part_said_by : (s : Sense) (p : Part) → part_of (said_by s p) ≡ p
part_said_by (names k) p = refl
part_said_by (orders c) p = refl
part_said_by (counts n) p = refl
part_said_by nothing p = refl

-- ws are the words of the front of the line l, and ps are the pieces that are left
pub record Reading (n : ℕ) (ws : List Word) (ps : List (List ℕ)) (l : List ℕ) : Type 0 where
  pub texts : map text_of ws ++ filled ps ≡ words_of l
  pub senses : map sense ws ++ map sense_of (filled ps) ≡ map sense_of (words_of l)
  pub line : AllByRecursion (λ w. line_of w ≡ n) ws

filled_more : (p : List ℕ) (ps : List (List ℕ)) → 0 < length p → filled (p ∷ ps) ≡ p ∷ filled ps
filled_more [] ps some = absurd (omega arith)
filled_more (c ∷ p) ps some = refl

-- a word more, in place of what is left
moved : {X : Type 0} (f : Word → X) (ws : List Word) (w : Word) (more : List X) → map f (ws ++ w ∷ []) ++ more ≡ map f ws ++ (f w ∷ more)
moved f ws w more = rw map_push (append_assoc (map f ws) (f w ∷ []) more)

pub reading_more : (n : ℕ) (ws : List Word) (ps qs : List (List ℕ)) (l : List ℕ) → Reading n ws ps l → (p : Part) → ps ≡ p.bytes.now ∷ qs → 0 < length p.bytes.now → p.line ≡ n → (vs : List Word) → vs ≡ ws ++ word_of p ∷ [] → Reading n vs qs l
reading_more n ws ps qs l h p is some at vs is_vs =
    let e : filled ps ≡ p.bytes.now ∷ filled qs = ap filled is ∙ filled_more p.bytes.now qs some in
    let s = sense_of p.bytes.now in
    record {
      texts = rw (is_vs, moved text_of ws (word_of p) (filled qs), ap (λ q. q.bytes.now) (part_said_by s p), ← e) h.texts;
      senses = rw (is_vs, moved sense ws (word_of p) (map sense_of (filled qs)), sense_said_by s p, ← ap (map sense_of) e) h.senses;
      line = rw is_vs (All-push (λ w. line_of w ≡ n) ws (word_of p) h.line (ap (λ q. q.line) (part_said_by s p) ∙ at));
    }
