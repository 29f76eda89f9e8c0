-- Bytes cut at a separator, at its first place and piece by piece.
use Rattle.std.proofs.Common.{◌≡◌, ℕ, ◌+◌, ◌-◌, ◌<◌, ◌≤◌, ◌⊎◌, ◌==◌, Bool, true, false, cond, not, eqb, add_comm, add-one, List, [], ◌∷◌, ◌++◌, length, take, drop, position, slice_range, Some, None, Option, MatchOption, sym, refl, ap, ◌∙◌, inl, inr, arith}
use Rattle.std.specs.List.{AllByRecursion, position_or_len}
use Rattle.std.proofs.lemmas.Bool.Decides.{nat_tests}
use Rattle.std.proofs.lemmas.List.{take_rest, take_all, drop_all}
use Rattle.std.proofs.lemmas.Grind.{common_steps}
use Rattle.reading.specs.Pieces.{before, behind, pieces, Parted}

-- c is not b
abbrev Other : ℕ → ℕ → Type 0
Other b c = c ≡ b → ⊥

-- the first place of b in s, or how long s is
abbrev first : ℕ → List ℕ → ℕ
first b s = position_or_len (λ c. c == b) s

front_step : (t : Bool) (c n : ℕ) (s f : List ℕ) → f ≡ take n s → cond t [] (c ∷ f) ≡ take (cond (not t) (1 + n) 0) (c ∷ s)
front_step true c n s f e = refl
front_step false c n s f e = rw (add_comm 1 n, add-one) (ap (λ l. c ∷ l) e)

back_step : (t : Bool) (c n : ℕ) (s f : List ℕ) → f ≡ drop (n + 1) s → cond t s f ≡ drop (cond (not t) (1 + n) 0 + 1) (c ∷ s)
back_step true c n s f e = refl
back_step false c n s f e = rw (add_comm 1 n, add-one (n + 1)) e

pub before_first : (b : ℕ) (s : List ℕ) → before b s ≡ take (first b s) s
before_first b [] = refl
before_first b (c ∷ s) = front_step (c == b) c (first b s) s (before b s) (before_first b s)

behind_drop : (b : ℕ) (s : List ℕ) → behind b s ≡ drop (first b s + 1) s
behind_drop b [] = refl
behind_drop b (c ∷ s) = back_step (c == b) c (first b s) s (behind b s) (behind_drop b s)

pub behind_first : (b : ℕ) (s : List ℕ) → behind b s ≡ take (length s - (first b s + 1)) (drop (first b s + 1) s)
behind_first b s = rw take_rest (behind_drop b s)

parted : (b : ℕ) (s : List ℕ) → Parted b s (before b s) (behind b s)
parted b [] = record { whole = inr (refl, refl); none = tt }
parted b (c ∷ s) = let more = parted b s in record { whole = grind (arith, nat_tests); none = grind (arith, nat_tests) }

parted_by : (b : ℕ) (s front back : List ℕ) → front ≡ before b s → back ≡ behind b s → Parted b s front back
parted_by b s front back is_front is_back = rw (is_front, is_back) (parted b s)

cut_at : (b : ℕ) (front back : List ℕ) → AllByRecursion (Other b) front → (front ≡ before b (front ++ (b ∷ back))) × (back ≡ behind b (front ++ (b ∷ back)))
cut_at b [] back none = grind (arith, nat_tests)
cut_at b (c ∷ front) back none = let more = cut_at b front back none.1 in grind (arith, nat_tests)

cut_none : (b : ℕ) (front : List ℕ) → AllByRecursion (Other b) front → (front ≡ before b front) × ([] ≡ behind b front)
cut_none b [] none = (refl, refl)
cut_none b (c ∷ front) none = let more = cut_none b front none.1 in grind (arith, nat_tests)

-- one place at most is the first
pub parted_is : (b : ℕ) (s front back : List ℕ) → Parted b s front back → (front ≡ before b s) × (back ≡ behind b s)
parted_is b s front back h = let at = cut_at b front back h.none in let none = cut_none b front h.none in grind arith

pub placed : (b : ℕ) (s : List ℕ) (r : Option ℕ) → r ≡ position (λ c. c == b) s → MatchOption r (Parted b s s []) (λ n. Parted b s (take n s) (slice_range s (n + 1) (length s)))
placed b s None e = parted_by b s s [] (grind (arith, common_steps, before_first)) (grind (arith, common_steps, behind_first))
placed b s (Some n) e = parted_by b s _ _ (grind (arith, common_steps, before_first)) (grind (arith, common_steps, behind_first))

-- what stands before and behind the first place
pub ruleset cuts = (before_first, behind_first, take_all)

pub length_behind : (b : ℕ) (s : List ℕ) → 0 < length s → length (behind b s) < length s
length_behind b [] h = absurd (omega arith)
length_behind b (c ∷ []) h = grind arith
length_behind b (c ∷ d ∷ cs) h = let more = length_behind b (d ∷ cs) (omega arith) in grind arith

-- the first piece, and the others
pub pieces_step : (b : ℕ) (s : List ℕ) → 0 < length s → pieces b s ≡ before b s ∷ pieces b (behind b s)
pieces_step b [] h = absurd (omega arith)
pieces_step b (c ∷ []) h = grind arith
pieces_step b (c ∷ d ∷ cs) h = let more = pieces_step b (d ∷ cs) (omega arith) in grind arith
