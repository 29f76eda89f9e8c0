-- Tables of refusals: one behind another, and a step that is never refused.
use Rattle.std.proofs.Common.{ℕ, List, [], ◌∷◌, ◌++◌, Ok, Err, Result, inl, inr, ⊎_elim, MatchResult}
use Rattle.gmap.specs.Outcome.{First, Passes, Outcome}
use Rattle.gmap.specs.declared.refusal.Refusal.{Refusal}

pub first_front : (cs ds : List (Type 0 × ℕ)) (e : Refusal) → First cs e → First (cs ++ ds) e
first_front [] ds e f = absurd f
first_front (c ∷ cs) ds e f = ⊎_elim (λ h. inl h) (λ (n, g). inr (n, first_front cs ds e g)) f

pub first_behind : (cs ds : List (Type 0 × ℕ)) (e : Refusal) → Passes cs → First ds e → First (cs ++ ds) e
first_behind [] ds e p f = f
first_behind (c ∷ cs) ds e (n, p) f = inr (n, first_behind cs ds e p f)

pub passes_both : (cs ds : List (Type 0 × ℕ)) → Passes cs → Passes ds → Passes (cs ++ ds)
passes_both [] ds p q = q
passes_both (c ∷ cs) ds (n, p) q = (n, passes_both cs ds p q)

-- behind checks that pass, a step that is never refused decides the outcome
pub accepted : {A : Type 0} (checks : List (Type 0 × ℕ)) (P Q : A → Type 0) (untouched : Type 0) (r : Result A Refusal) → Passes checks → MatchResult r P (λ _. ⊥) → ((a : A) → P a → Q a) → Outcome checks Q untouched r
accepted checks P Q untouched (Ok a) passed p to = (passed, to a p)
accepted checks P Q untouched (Err e) passed p to = absurd p
