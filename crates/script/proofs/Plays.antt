-- A script is played line by line.
use Rattle.std.proofs.Common.{◌≡◌, ℕ, ◌+◌, ◌*◌, ◌≤◌, List, [], ◌∷◌, ◌++◌, map, length, Ok, Err, Result, sym, refl, ap, ◌∙◌, subst, append_assoc, append-nil, arith}
use Rattle.gmap.specs.Map.{Map, Partners, Fresh}
use Rattle.gmap.specs.declared.refusal.Refusal.{Refusal}
use Rattle.reading.specs.Pieces.{onto, pieces, words_of}
use Rattle.reading.specs.Requests.{request_of}
use Rattle.reading.specs.Words.{sense_of}
use Rattle.reading.specs.declared.request.Request.{Request}
use Rattle.reading.specs.declared.request.Request.TheVariants as request
use Rattle.script.specs.Answering.{Answers}
use Rattle.script.specs.Printing.{printed}
use Rattle.script.specs.Transcript.{empty, Asked, Says, Told, Appended}

-- No request changes how many slots there are.
answers_size : (a b : ℕ) (m m' : Map) (q : Request) (r : Result (List ℕ) Refusal) → Answers a b m q r m' → m'.size ≡ m.size
answers_size a b m m' (request.Make t) (Ok vs) h = h.1.1.size
answers_size a b m m' (request.Make t) (Err e) h = h.1.size
answers_size a b m m' (request.Unmake t) (Ok vs) h = h.1.1.size
answers_size a b m m' (request.Unmake t) (Err e) h = h.1.size
answers_size a b m m' (request.Join i t u) (Ok vs) h = h.1.2.frame.size
answers_size a b m m' (request.Join i t u) (Err e) h = h.1.size
answers_size a b m m' (request.Part i t) (Ok vs) h = h.1.2.frame.size
answers_size a b m m' (request.Part i t) (Err e) h = h.1.size
answers_size a b m m' (request.Orbit mask t) (Ok vs) h = h.1.3.size
answers_size a b m m' (request.Orbit mask t) (Err e) h = h.1.size
answers_size a b m m' (request.Cells i) (Ok vs) h = h.1.5.size
answers_size a b m m' (request.Cells i) (Err e) h = h.1.size
answers_size a b m m' request.Lawful r h = h.1.size
answers_size a b m m' request.Whole r h = h.1.size

asked_size : (a b : ℕ) (m m' : Map) (q : Result Request Refusal) (r : Result (List ℕ) Refusal) → Asked a b m q r m' → m'.size ≡ m.size
asked_size a b m m' (Ok q) r h = answers_size a b m m' q r h
asked_size a b m m' (Err e) r h = h.1.size

few_onto : (c : ℕ) (ps : List (List ℕ)) (n : ℕ) → length ps ≤ n → length (onto c ps) ≤ n + 1
few_onto c [] n few = omega arith
few_onto c (p ∷ ps) n few = omega arith

-- There are no more pieces than bytes.
pub few_pieces : (b : ℕ) (s : List ℕ) → length (pieces b s) ≤ length s
few_pieces b [] = omega arith
few_pieces b (c ∷ s) = let few = few_pieces b s in let more = few_onto c (pieces b s) (length s) few in grind arith

-- The lines ls found the map m. Those left of them are rs, which begin with line n and find the map k.
-- The lines before rs print what old grew by to new. The scratch has a entries and the list b.
pub record Playing (m k : Map) (ls rs : List (List ℕ)) (n : ℕ) (old new : List ℕ) (a b : ℕ) : Type 0 where
  pub few : n + length rs ≤ length ls + 2
  pub told : Appended (λ done. (rest : List ℕ) → Told k n rs rest → Told m 2 ls (done ++ rest)) old new
  pub scratch : a ≡ 4 * k.size
  pub list : b ≡ k.size

module _ {m k k' : Map} {ls rs qs : List (List ℕ)} {front : List ℕ} {n line n' : ℕ} {old new after : List ℕ} {a b a' b' : ℕ} {q : Result Request Refusal} (r : Result (List ℕ) Refusal) where
  pub playing_more : Playing m k ls rs n old new a b → rs ≡ front ∷ qs → line ≡ n → n' ≡ line + 1 → q ≡ request_of (map sense_of (words_of front)) → a' ≡ a → b' ≡ b → Asked a' b' k q r k' → after ≡ new ++ printed line r → Playing m k' ls qs n' old after a b
  playing_more h is_rs is_line is_next is_q is_a is_b asked is =
      let size = asked_size a' b' k k' q r asked in
      let says : Says k front r k' = subst (λ x. Asked x k.size k (request_of (map sense_of (words_of front))) r k') (is_a ∙ h.scratch) (subst (λ x. Asked a' x k (request_of (map sense_of (words_of front))) r k') (is_b ∙ h.list) (subst (λ x. Asked a' b' k x r k') is_q asked)) in
      let done = h.told.0 in
      rw is_next (record {
        few = omega (arith, h.few, ap length is_rs, is_line);
        told = (
          done ++ printed line r,
          is ∙ ap (λ x. x ++ printed line r) h.told.1 ∙ append_assoc old done (printed line r),
          λ rest more.
              subst (Told m 2 ls) (sym (append_assoc done (printed line r) rest))
              (h.told.2 (printed line r ++ rest) (rw (is_rs, ← is_line) (r, k', rest, says, more, refl))),
        );
        scratch = h.scratch ∙ ap (λ n. 4 * n) (sym size);
        list = h.list ∙ sym size;
      })

-- The law leaves a map with no tuples no other partners.
fresh_empty : (m : Map) → Partners m → Fresh m → m ≡ empty m.top m.size
fresh_empty m law fresh = λ x. record { size = m.size; top = m.top; live = λ t. fresh t x; partner = λ i t. law.still i t (fresh t) x }

pub playing_done : {m k : Map} {ls rs : List (List ℕ)} {n : ℕ} {old new : List ℕ} {a b : ℕ} → Partners m → Fresh m → Playing m k ls rs n old new a b → rs ≡ [] → Appended (Told (empty m.top m.size) 2 ls) old new
playing_done {m = m} {ls = ls} law fresh h none = (h.told.0, h.told.1, subst (λ x. Told x 2 ls h.told.0) (fresh_empty m law fresh) (rw append-nil at (h.told.2 [] (rw none refl))))
