-- What a script prints.
--   empty       the map with no tuples
--   Asked       what a line comes to, by the request that it asks for
--   Says        the same, by the bytes of the line
--   Told        what the lines from some line on print, on the map that they find
--   Opened      what all the lines print, by the opening that the first of them is
--   Begun       the same, by the bytes of the lines
--   Transcript  what a script prints, by its bytes
--   Appended    a list grew by bytes of which something holds
use Rattle.std.specs.Prelude.{◌≡◌, ℕ, ◌+◌, ◌*◌, ◌<◌, ◌≤◌, false, List, [], ◌∷◌, ◌++◌, map, length, Ok, Err, Result}
use Rattle.gmap.specs.Map.{Map, Same}
use Rattle.gmap.specs.declared.refusal.Refusal.{Refusal}
use Rattle.gmap.specs.declared.refusal.Refusal.TheVariants.{Oversize}
use Rattle.reading.specs.Openings.{opening_of}
use Rattle.reading.specs.Pieces.{lines_of, words_of}
use Rattle.reading.specs.Requests.{request_of}
use Rattle.reading.specs.Words.{sense_of}
use Rattle.reading.specs.declared.opening.Opening.{Opening}
use Rattle.reading.specs.declared.request.Request.{Request}
use Rattle.script.specs.Answering.{Answers}
use Rattle.script.specs.Printing.{printed}

abbrev pub empty : ℕ → ℕ → Map
empty top size = record { size = size; top = top; live = λ t. false; partner = λ i t. t }

abbrev pub Asked : ℕ → ℕ → Map → Result Request Refusal → Result (List ℕ) Refusal → Map → Type 0
Asked scratch list m (Ok q) r m' = Answers scratch list m q r m'
Asked scratch list m (Err e) r m' = (r ≡ Err e) × Same m' m

-- the scratch has four entries to a slot, and the list has one
abbrev pub Says : Map → List ℕ → Result (List ℕ) Refusal → Map → Type 0
Says m l r m' = Asked (4 * m.size) m.size m (request_of (map sense_of (words_of l))) r m'

-- n is the number of the first of the lines
abbrev pub Told : Map → ℕ → List (List ℕ) → List ℕ → Type 0
Told m n [] out = out ≡ []
Told m n (l ∷ ls) out = (r : Result (List ℕ) Refusal) × (m' : Map) × (rest : List ℕ) × Says m l r m' × Told m' (n + 1) ls rest × (out ≡ printed n r ++ rest)

-- A refused opening ends the run.
abbrev pub Opened : Result Opening Refusal → List (List ℕ) → List ℕ → Type 0
Opened (Ok o) ls out = (rest : List ℕ) × Told (empty o.top o.size) 2 ls rest × (out ≡ printed 1 (Ok []) ++ rest)
Opened (Err e) ls out = out ≡ printed 1 (Err e)

abbrev pub Begun : List (List ℕ) → List ℕ → Type 0
Begun [] out = out ≡ []
Begun (l ∷ ls) out = Opened (opening_of (map sense_of (words_of l))) ls out

-- Of a script that is too long no line is read: its refusal is numbered 0.
pub record Transcript (script out : List ℕ) : Type 0 where
  pub long : 65536 < length script → out ≡ printed 0 (Err Oversize)
  pub lines : length script ≤ 65536 → Begun (lines_of script) out

abbrev pub Appended : (List ℕ → Type 0) → List ℕ → List ℕ → Type 0
Appended P old new = (bytes : List ℕ) × (new ≡ old ++ bytes) × P bytes
