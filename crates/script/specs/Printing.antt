-- What is printed for a line.
--   spaced   each number behind a space
--   printed  the line for an answer: its number, the verdict, and the numbers of the result or of the refusal
use Rattle.std.specs.Prelude.{ℕ, List, [], ◌∷◌, ◌++◌, Ok, Err, codes, decimal, Result}
use Rattle.std.specs.List.{flat_map}
use Rattle.gmap.specs.Refusals.{number}
use Rattle.gmap.specs.declared.refusal.Refusal.{Refusal}

-- a space is 32
abbrev pub spaced : List ℕ → List ℕ
spaced vs = flat_map (λ v. 32 ∷ decimal v) vs

abbrev pub printed : ℕ → Result (List ℕ) Refusal → List ℕ
printed n (Ok vs) = decimal n ++ (codes " OK" ++ (spaced vs ++ codes "\n"))
printed n (Err e) = decimal n ++ (codes " NO" ++ (spaced (number e ∷ []) ++ codes "\n"))
