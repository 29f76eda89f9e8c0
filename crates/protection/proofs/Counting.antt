-- A decided set below a bound can be counted, and its number is one number.
use Rattle.std.proofs.Common.{◌≡◌, ℕ, zero, suc, ◌+◌, ◌<◌, ◌≤◌, ◌≢◌, ◌⊎◌, List, map, length, get_or, sym, refl, ap, ◌∙◌, subst, inl, inr, ⊎_elim, arith}
use lib.ListN.{length-map}
use Rattle.std.proofs.lemmas.List.{get_or-map}
use Rattle.std.proofs.lemmas.Bool.{cases_eq, cases_lt}
use Rattle.gmap.specs.Listing.{Members, Counts}
use Rattle.gmap.proofs.Pigeon.{pigeon}
use Rattle.gmap.proofs.Counting.{counts_none, counts_like, counts_more}

module _ {P Q : ℕ → Type 0} (xs ys : List ℕ) (p : Members P xs) (q : Members Q ys) (into : (x : ℕ) → P x → Q x) where
  place : (k : ℕ) → (l : ℕ) × (k < length xs → (l < length ys) × (get_or ys l 0 ≡ get_or xs k 0))
  place k = ⊎_elim (λ (h : k < length xs). let (l, b, e) = q.whole (get_or xs k 0) (into (get_or xs k 0) (p.sound k h)) in (l, λ _. (b, e))) (λ (h : length xs ≤ k). (0, λ l. absurd (omega arith))) (cases_lt k (length xs))

  place_apart : (k l : ℕ) → k < l → l < length xs → (place k).0 ≢ (place l).0
  place_apart k l h b e = p.apart k l h b (sym ((place k).1 (omega arith)).1 ∙ (ap (λ s. get_or ys s 0) e ∙ ((place l).1 b).1))

  members_le : length xs ≤ length ys
  members_le = pigeon (length ys) (length xs) (λ k. (place k).0) (λ k h. ((place k).1 h).0) place_apart

module _ {P Q : ℕ → Type 0} {a b : ℕ} (p : Counts P a) (q : Counts Q b) (into : (x : ℕ) → P x → Q x) where
  counts_le : a ≤ b
  counts_le = omega (arith, members_le p.0 q.0 p.1 q.1 into, p.2, q.2)

pub counts_single : {P : ℕ → Type 0} {a b : ℕ} → Counts P a → Counts P b → a ≡ b
counts_single p q = omega (arith, counts_le p q (λ x h. h), counts_le q p (λ x h. h))

-- one of Q is not in P
pub counts_lt : {P Q : ℕ → Type 0} {a b : ℕ} → Counts P a → Counts Q b → ((x : ℕ) → P x → Q x) → (z : ℕ) → Q z → ¬ P z → a < b
counts_lt {P} {Q} {a} p q into z qz new =
    let more : Counts (λ x. P x ⊎ (x ≡ z)) (a + 1) = counts_more P (λ x. P x ⊎ (x ≡ z)) a z new (λ x h. inl h) (inr refl) (λ x h. h) p in
    omega (arith, counts_le more q (λ x. ⊎_elim (into x) (λ e. subst Q (sym e) qz)))

pub counts_few : {P : ℕ → Type 0} {a : ℕ} (n : ℕ) → Counts P a → ((x : ℕ) → P x → x < n) → a ≤ n
counts_few n (xs, p, e) low = omega (arith, pigeon n (length xs) (λ k. get_or xs k 0) (λ k h. low (get_or xs k 0) (p.sound k h)) p.apart)

-- as many as its image under a function that is injective on it
pub counts_image : {P Q : ℕ → Type 0} {n : ℕ} (f : ℕ → ℕ) → ((x : ℕ) → P x → Q (f x)) → ((x y : ℕ) → P x → P y → f x ≡ f y → x ≡ y) → ((z : ℕ) → Q z → (x : ℕ) × P x × (f x ≡ z)) → Counts P n → Counts Q n
counts_image {P} {Q} f into inj onto (xs, p, e) =
    let at : (k : ℕ) → k < length xs → get_or (map f xs) k 0 ≡ f (get_or xs k 0) = λ k h. get_or-map f xs k 0 0 h in
    let l : length (map f xs) ≡ length xs = length-map xs f in (
      map f xs,
      record {
        apart = λ j k h b w. p.apart j k h (omega arith) (inj (get_or xs j 0) (get_or xs k 0) (p.sound j (omega arith)) (p.sound k (omega arith)) (sym (at j (omega arith)) ∙ (w ∙ at k (omega arith))));
        sound = λ k h. subst Q (sym (at k (omega arith))) (into (get_or xs k 0) (p.sound k (omega arith)));
        whole = λ z q. let (x, px, w) = onto z q in let (k, h, v) = p.whole x px in (k, omega arith, at k h ∙ (ap f v ∙ w));
      },
      l ∙ e,
    )

abbrev Upto : (ℕ → Type 0) → ℕ → ℕ → Type 0
Upto P n x = (x < n) × P x

counted_upto : (P : ℕ → Type 0) → ((x : ℕ) → Dec (P x)) → (n : ℕ) → (c : ℕ) × Counts (Upto P n) c
counted_upto P d zero = (0, counts_none (Upto P 0) (λ x h. omega (arith, h.0)))
counted_upto P d (suc n) = go (d n) (counted_upto P d n)
  where
    wider : (x : ℕ) → Upto P n x → Upto P (suc n) x
    wider x (l, p) = (omega arith, p)

    go : Dec (P n) → (c : ℕ) × Counts (Upto P n) c → (c : ℕ) × Counts (Upto P (suc n)) c
    go (yes p) (c, s) = (c + 1, counts_more (Upto P n) (Upto P (suc n)) c n (λ h. omega (arith, h.0)) wider (omega arith, p) (λ x (l, h). ⊎_elim (λ e. inr e) (λ (e : x ≡ n → ⊥). inl (omega arith, h)) (cases_eq x n)) s)
    go (no q) (c, s) = (c, counts_like (Upto P n) (Upto P (suc n)) c wider (λ x (l, h). (⊎_elim (λ e. absurd (q (subst P e h))) (λ (e : x ≡ n → ⊥). omega arith) (cases_eq x n), h)) s)

pub counted : (P : ℕ → Type 0) → ((x : ℕ) → Dec (P x)) → (n : ℕ) → ((x : ℕ) → P x → x < n) → (c : ℕ) × Counts P c
counted P d n low = let (c, s) = counted_upto P d n in (c, counts_like (Upto P n) P c (λ x h. h.1) (λ x h. (low x h, h)) s)
