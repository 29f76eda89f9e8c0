-- A table of refusals comes to one outcome, and to some outcome where each condition is decided.
use Rattle.std.proofs.Common.{◌≡◌, ℕ, cond, eqb, ◌⊎◌, List, [], ◌∷◌, Ok, Err, Result, sym, refl, ap, ◌∙◌, inl, inr, ⊎_elim}
use Rattle.gmap.specs.Map.{Map, Same}
use Rattle.gmap.specs.Refusals.{number}
use Rattle.gmap.specs.Outcome.{First, Passes, Outcome}
use Rattle.gmap.specs.declared.refusal.Refusal.{Refusal}
use Rattle.gmap.specs.declared.refusal.Refusal.TheVariants.{NoSwitch, NoSlot, Vacant, Live, Linked, SameTuple, Misfit, NotLinked, Twisted, Occupied, Short, Malformed, Oversize}
use Rattle.gmap.proofs.Same.{same_refl}
use Rattle.protection.proofs.Same.{same_sym, same_trans, same_holds}

-- the refusal with a number
abbrev pub named : ℕ → Refusal
named n = cond (eqb n 1) NoSwitch (cond (eqb n 2) NoSlot (cond (eqb n 3) Vacant (cond (eqb n 4) Live (cond (eqb n 5) Linked (cond (eqb n 6) SameTuple (cond (eqb n 7) Misfit (cond (eqb n 8) NotLinked (cond (eqb n 9) Twisted (cond (eqb n 10) Occupied (cond (eqb n 11) Short (cond (eqb n 12) Malformed Oversize)))))))))))

named_number : (e : Refusal) → named (number e) ≡ e
named_number NoSwitch = refl
named_number NoSlot = refl
named_number Vacant = refl
named_number Live = refl
named_number Linked = refl
named_number SameTuple = refl
named_number Misfit = refl
named_number NotLinked = refl
named_number Twisted = refl
named_number Occupied = refl
named_number Short = refl
named_number Malformed = refl
named_number Oversize = refl

number_single : (e e' : Refusal) → number e ≡ number e' → e ≡ e'
number_single e e' q = sym (named_number e) ∙ (ap named q ∙ named_number e')

pub passes_first : (cs : List (Type 0 × ℕ)) (e : Refusal) → Passes cs → First cs e → ⊥
passes_first [] e p f = f
passes_first (c ∷ cs) e (q, p) (inl f) = q f.0
passes_first (c ∷ cs) e (q, p) (inr f) = passes_first cs e p f.1

first_single : (cs : List (Type 0 × ℕ)) (e e' : Refusal) → First cs e → First cs e' → e ≡ e'
first_single [] e e' f g = absurd f
first_single (c ∷ cs) e e' (inl f) (inl g) = number_single e e' (f.1 ∙ sym g.1)
first_single (c ∷ cs) e e' (inl f) (inr g) = absurd (g.0 f.0)
first_single (c ∷ cs) e e' (inr f) (inl g) = absurd (f.0 g.0)
first_single (c ∷ cs) e e' (inr f) (inr g) = first_single cs e e' f.1 g.1

-- each number is that of a refusal, and each condition is decided where those before it fail
abbrev pub Settles : List (Type 0 × ℕ) → Type 0
Settles [] = Unit {0}
Settles (c ∷ cs) = (number (named c.1) ≡ c.1) × Dec c.0 × ((c.0 → ⊥) → Settles cs)

settles_comes : (cs : List (Type 0 × ℕ)) → Settles cs → Passes cs ⊎ ((e : Refusal) × First cs e)
settles_comes [] s = inl tt
settles_comes (c ∷ cs) (e, d, s) = go (λ q. settles_comes cs (s q)) d
  where
    go : ((c.0 → ⊥) → Passes cs ⊎ ((e : Refusal) × First cs e)) → Dec c.0 → Passes (c ∷ cs) ⊎ ((e : Refusal) × First (c ∷ cs) e)
    go ih (yes h) = inr (named c.1, inl (h, e))
    go ih (no q) = ⊎_elim (λ p. inl (q, p)) (λ f. inr (f.0, inr (q, f.1))) (ih q)

module _ {A : Type 0} (cs : List (Type 0 × ℕ)) (m : Map) (accepted : Map → A → Type 0) where
  pub outcome_single : ((a a' : A) (m' m'' : Map) → Passes cs → accepted m' a → accepted m'' a' → (a ≡ a') × Same m' m'') → (r r' : Result A Refusal) (m' m'' : Map) → Outcome cs (accepted m') (Same m' m) r → Outcome cs (accepted m'') (Same m'' m) r' → (r ≡ r') × Same m' m''
  outcome_single one (Ok a) (Ok a') m' m'' (p, x) (q, y) = let (e, s) = one a a' m' m'' p x y in (ap Ok e, s)
  outcome_single one (Ok a) (Err e) m' m'' (p, x) (q, y) = absurd (passes_first cs e p q)
  outcome_single one (Err e) (Ok a) m' m'' (p, x) (q, y) = absurd (passes_first cs e q p)
  outcome_single one (Err e) (Err e') m' m'' (p, x) (q, y) = (ap Err (first_single cs e e' p q), same_trans x (same_sym y))

  pub outcome_exists : Settles cs → (Passes cs → (a : A) × ((m' : Map) × accepted m' a)) → (r : Result A Refusal) × ((m' : Map) × Outcome cs (accepted m') (Same m' m) r)
  outcome_exists s f = ⊎_elim (λ p. let (a, w) = f p in (Ok a, (w.0, (p, w.1)))) (λ e. (Err e.0, (m, (e.1, same_refl m)))) (settles_comes cs s)

  -- what holds of m and of what is accepted holds of what is left
  pub outcome_keeps : (P : Map → Type 0) → P m → ((a : A) (m' : Map) → Passes cs → accepted m' a → P m') → (r : Result A Refusal) (m' : Map) → Outcome cs (accepted m') (Same m' m) r → P m'
  outcome_keeps P h f (Ok a) m' (p, x) = f a m' p x
  outcome_keeps P h f (Err e) m' (p, x) = same_holds P (same_sym x) h
