-- What a call that may refuse comes to.
--   First    a refusal is the first in a table whose condition holds
--   Passes   no condition of the table holds
--   Outcome  accepted exactly if the table passes, else refused with the first
use Rattle.std.specs.Prelude.{◌≡◌, ℕ, ◌⊎◌, List, [], ◌∷◌, Ok, Err, Result}
use Rattle.gmap.specs.Refusals.{number}
use Rattle.gmap.specs.declared.refusal.Refusal.{Refusal}

-- A table lists the refusals of a call in their order: each with its condition and its number.
abbrev pub First : List (Type 0 × ℕ) → Refusal → Type 0
First [] e = ⊥
First (c ∷ cs) e = (c.0 × (number e ≡ c.1)) ⊎ ((c.0 → ⊥) × First cs e)

abbrev pub Passes : List (Type 0 × ℕ) → Type 0
Passes [] = Unit {0}
Passes (c ∷ cs) = (c.0 → ⊥) × Passes cs

-- accepted is what holds of the answer, untouched what holds after a refusal
abbrev pub Outcome : {A : Type 0} → List (Type 0 × ℕ) → (A → Type 0) → Type 0 → Result A Refusal → Type 0
Outcome checks accepted untouched (Ok a) = Passes checks × accepted a
Outcome checks accepted untouched (Err e) = First checks e × untouched
