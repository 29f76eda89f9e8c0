-- How many numbers a set has.
use Rattle.std.proofs.Common.{◌≡◌, ℕ, zero, suc, ◌+◌, ◌<◌, ◌⊎◌, [], ◌∷◌, length, get_or, sym, refl, subst, ⊎_elim, arith}
use Rattle.gmap.specs.Listing.{Among, Counts}

pub counts_none : (P : ℕ → Type 0) → ((x : ℕ) → P x → ⊥) → Counts P 0
counts_none P none = ([], record { apart = λ k l h b. absurd (omega arith); sound = λ k h. absurd (omega arith); whole = λ x p. absurd (none x p) }, refl)

pub counts_like : (P Q : ℕ → Type 0) (n : ℕ) → ((x : ℕ) → P x → Q x) → ((x : ℕ) → Q x → P x) → Counts P n → Counts Q n
counts_like P Q n to fro (xs, p, e) = (xs, record { apart = p.apart; sound = λ k h. to (get_or xs k 0) (p.sound k h); whole = λ x q. p.whole x (fro x q) }, e)

-- one number more
pub counts_more : (P Q : ℕ → Type 0) (n z : ℕ) → (P z → ⊥) → ((x : ℕ) → P x → Q x) → Q z → ((x : ℕ) → Q x → P x ⊎ (x ≡ z)) → Counts P n → Counts Q (n + 1)
counts_more P Q n z new to here fro (xs, p, e) = (z ∷ xs, record { apart = apart; sound = sound; whole = whole }, omega arith)
  where
    sound : (k : ℕ) → k < length (z ∷ xs) → Q (get_or (z ∷ xs) k 0)
    sound zero h = here
    sound (suc k) h = to (get_or xs k 0) (p.sound k (omega arith))

    apart : (k l : ℕ) → k < l → l < length (z ∷ xs) → get_or (z ∷ xs) k 0 ≡ get_or (z ∷ xs) l 0 → ⊥
    apart k zero h b q = omega arith
    apart zero (suc l) h b q = new (subst P (sym q) (p.sound l (omega arith)))
    apart (suc k) (suc l) h b q = p.apart k l (omega arith) (omega arith) q

    whole : (x : ℕ) → Q x → Among (z ∷ xs) (length (z ∷ xs)) x
    whole x q = ⊎_elim (λ h. let (k, l, w) = p.whole x h in (suc k, omega arith, w)) (λ h. (0, omega arith, sym h)) (fro x q)
