-- A script is its opening and the lines behind it.
use Rattle.std.proofs.Common.{◌≡◌, ℕ, ◌<◌, ◌≤◌, List, [], ◌∷◌, ◌++◌, map, length, Ok, Err, Result, refl, ap, ◌∙◌, subst, append_assoc, arith}
use Rattle.gmap.specs.declared.refusal.Refusal.{Refusal}
use Rattle.reading.specs.Openings.{opening_of}
use Rattle.reading.specs.Pieces.{before, behind, lines_of, words_of}
use Rattle.reading.specs.Words.{sense_of}
use Rattle.reading.specs.declared.opening.Opening.{Opening}
use Rattle.reading.proofs.Cuts.{pieces_step}
use Rattle.script.specs.Printing.{printed}
use Rattle.script.specs.Transcript.{empty, Told, Opened, Transcript, Appended}

module _ (s front : List ℕ) (some : 0 < length s) (few : length s ≤ 65536) (is_front : front ≡ before 10 s) where
  opened_transcript : (o : Result Opening Refusal) (out : List ℕ) → o ≡ opening_of (map sense_of (words_of front)) → Opened o (lines_of (behind 10 s)) out → Transcript s out
  opened_transcript o out is_o h =
      let lines : lines_of s ≡ front ∷ lines_of (behind 10 s) = rw is_front (pieces_step 10 s some) in
      record { long = λ long. absurd (omega arith); lines = λ _. rw lines (subst (λ x. Opened x (lines_of (behind 10 s)) out) is_o h) }

  pub script_refused : (e : Refusal) (old new : List ℕ) → Err e ≡ opening_of (map sense_of (words_of front)) → new ≡ old ++ printed 1 (Err e) → Appended (Transcript s) old new
  script_refused e old new refused is = (printed 1 (Err e), is, opened_transcript (Err e) _ refused refl)

  pub script_played : (o : Opening) (back old opened new : List ℕ) → Ok o ≡ opening_of (map sense_of (words_of front)) → back ≡ behind 10 s → opened ≡ old ++ printed 1 (Ok []) → Appended (Told (empty o.top o.size) 2 (lines_of back)) opened new → Appended (Transcript s) old new
  script_played o back old opened new accepted is_back is h = (
    printed 1 (Ok []) ++ h.0,
    h.1 ∙ ap (λ x. x ++ h.0) is ∙ append_assoc old (printed 1 (Ok [])) h.0,
    opened_transcript (Ok o) _ accepted (h.0, rw is_back at h.2, refl),
  )
