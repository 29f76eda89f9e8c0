-- Writing the numbers of a set upwards.
use Rattle.std.proofs.Common.{◌≡◌, ℕ, ◌+◌, ◌<◌, List, length, get_or, set, sym, ◌∙◌, subst, arith, below_more}
use Rattle.std.proofs.lemmas.List.{length-set, get_or-set_same, get_or-set_other}
use Rattle.gmap.specs.Listing.{Among, Listed}

pub listed_like : (P Q : ℕ → Type 0) (n : ℕ) (old new : List ℕ) → ((x : ℕ) → P x → Q x) → ((x : ℕ) → Q x → P x) → Listed P n old new → Listed Q n old new
listed_like P Q n old new to fro s = record { fits = s.fits; long = s.long; rises = s.rises; only = λ k h. to _ (s.only k h); all = λ x q. s.all x (fro x q); rest = s.rest }

-- the numbers of P below b
abbrev pub Upto : (ℕ → Type 0) → ℕ → ℕ → Type 0
Upto P b x = (x < b) × P x

module _ (P : ℕ → Type 0) (n : ℕ) (old new : List ℕ) (b : ℕ) (s : Listed (Upto P b) n old new) where
  pub listed_skip : (P b → ⊥) → Listed (Upto P (b + 1)) n old new
  listed_skip off =
      listed_like (Upto P b) (Upto P (b + 1)) n old new
      (λ x (l, q). (omega arith, q))
      (λ x (l, q). below_more (λ v. P v → Upto P b v) b (λ v lv pv. (lv, pv)) (λ pb. absurd (off pb)) x l q)
      s

  pub listed_more : P b → n < length new → Listed (Upto P (b + 1)) (n + 1) old (set new n b)
  listed_more pb lt =
      let here : get_or (set new n b) n 0 ≡ b = get_or-set_same new n b 0 lt in
      let below : (k : ℕ) → k < n → get_or (set new n b) k 0 ≡ get_or new k 0 = λ k h. get_or-set_other new n k b 0 (λ e. omega arith) in
      record {
        fits = omega (arith, s.long);
        long = length-set new n b ∙ s.long;
        rises = λ k l h a. below_more (λ l. (k : ℕ) → k < l → get_or (set new n b) k 0 < get_or (set new n b) l 0) n
            (λ l a k h. omega (arith, below l a, below k (omega arith), s.rises k l h a))
            (λ k h. omega (arith, here, below k h, (s.only k h).0))
            l a k h;
        only = below_more (λ k. Upto P (b + 1) (get_or (set new n b) k 0)) n
            (λ k h. subst (Upto P (b + 1)) (sym (below k h)) (omega (arith, (s.only k h).0), (s.only k h).1))
            (subst (Upto P (b + 1)) (sym here) (omega arith, pb));
        all = λ x (l, q). below_more (λ v. P v → Among (set new n b) (n + 1) v) b
            (λ v lv pv. let a = s.all v (lv, pv) in (a.0, omega (arith, a.1), below a.0 a.1 ∙ a.2))
            (λ _. (n, omega arith, here))
            x l q;
        rest = λ k h. get_or-set_other new n k b 0 (λ e. omega arith) ∙ s.rest k (omega arith);
      }
