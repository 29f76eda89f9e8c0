-- What a line asks for.
--   asks            the words by which a request is asked for
--   request_checks  why a line is refused
--   request_of      the request that words ask for, or its refusal
use Rattle.std.specs.Prelude.{◌≡◌, ℕ, List, [], ◌∷◌, Some, None, Option, Result, slice_index}
use Rattle.std.specs.Option.{option_map, ok_or}
use Rattle.gmap.specs.declared.refusal.Refusal.{Refusal}
use Rattle.gmap.specs.declared.refusal.Refusal.TheVariants.{Malformed}
use Rattle.reading.specs.declared.word.Command.{Command}
use Rattle.reading.specs.declared.word.Command.TheVariants as command
use Rattle.reading.specs.declared.request.Request.{Request}
use Rattle.reading.specs.declared.request.Request.TheVariants as request
use Rattle.reading.specs.Words.{Sense, names, orders, counts, nothing}
use Rattle.reading.specs.Counts.{numbers_of}

abbrev pub asks : Request → List Sense
asks (request.Make t) = orders command.Make ∷ counts t ∷ []
asks (request.Unmake t) = orders command.Unmake ∷ counts t ∷ []
asks (request.Join i t u) = orders command.Join ∷ counts i ∷ counts t ∷ counts u ∷ []
asks (request.Part i t) = orders command.Part ∷ counts i ∷ counts t ∷ []
asks (request.Orbit mask t) = orders command.Orbit ∷ counts mask ∷ counts t ∷ []
asks (request.Cells i) = orders command.Cells ∷ counts i ∷ []
asks request.Lawful = orders command.Lawful ∷ []
asks request.Whole = orders command.Whole ∷ []

abbrev pub request_checks : List Sense → List (Type 0 × ℕ)
request_checks ss = ((q : Request) → ss ≡ asks q → ⊥, 12) ∷ []

-- a request that takes no numbers
abbrev pub alone_of : Request → List Sense → Option Request
alone_of q [] = Some q
alone_of q (s ∷ ss) = None

-- a command with just its numbers
abbrev pub filled_of : Command → List Sense → Option Request
filled_of command.Make ss = option_map (λ n. request.Make (slice_index n 0)) (numbers_of 1 ss)
filled_of command.Unmake ss = option_map (λ n. request.Unmake (slice_index n 0)) (numbers_of 1 ss)
filled_of command.Join ss = option_map (λ n. request.Join (slice_index n 0) (slice_index n 1) (slice_index n 2)) (numbers_of 3 ss)
filled_of command.Part ss = option_map (λ n. request.Part (slice_index n 0) (slice_index n 1)) (numbers_of 2 ss)
filled_of command.Orbit ss = option_map (λ n. request.Orbit (slice_index n 0) (slice_index n 1)) (numbers_of 2 ss)
filled_of command.Cells ss = option_map (λ n. request.Cells (slice_index n 0)) (numbers_of 1 ss)
filled_of command.Lawful ss = alone_of request.Lawful ss
filled_of command.Whole ss = alone_of request.Whole ss

-- the command that a word says
abbrev pub ordered : Sense → Option Command
ordered (names k) = None
ordered (orders c) = Some c
ordered (counts n) = None
ordered nothing = None

-- the request of a first word that is a command
abbrev pub begun_of : Option Command → List Sense → Option Request
begun_of None ss = None
begun_of (Some c) ss = filled_of c ss

-- the request that words ask for, if they do
abbrev pub asked_of : List Sense → Option Request
asked_of [] = None
asked_of (s ∷ ss) = begun_of (ordered s) ss

abbrev pub request_of : List Sense → Result Request Refusal
request_of ss = ok_or (asked_of ss) Malformed
