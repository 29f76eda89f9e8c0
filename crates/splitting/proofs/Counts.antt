-- A set has one number of members, and the first entries of a list count those that stand there.
use Rattle.std.proofs.Common.{◌≡◌, ℕ, ◌<◌, ◌≤◌, List, length, get_or, take, sym, ap, ◌∙◌, subst, ⊎_elim, arith}
use Rattle.std.proofs.lemmas.List.{get_or-take, length-take-le}
use Rattle.std.proofs.lemmas.Bool.{cases_lt}
use Rattle.gmap.specs.Listing.{Among, Members, Counts}
use Rattle.gmap.proofs.Pigeon.{pigeon}

-- the place in ys of what stands at k in xs
place_in : (P : ℕ → Type 0) (xs ys : List ℕ) → Members P xs → Members P ys → (k : ℕ) → (l : ℕ) × (k < length xs → (l < length ys) × (get_or ys l 0 ≡ get_or xs k 0))
place_in P xs ys p q k = ⊎_elim (λ h. let (l, b, e) = q.whole (get_or xs k 0) (p.sound k h) in (l, λ _. (b, e))) (λ h. (0, λ l. absurd (omega arith))) (cases_lt k (length xs))

members_le : (P : ℕ → Type 0) (xs ys : List ℕ) → Members P xs → Members P ys → length xs ≤ length ys
members_le P xs ys p q =
    let at = place_in P xs ys p q in
    pigeon (length ys) (length xs) (λ k. (at k).0) (λ k h. ((at k).1 h).0) (λ k l h b e. p.apart k l h b (sym ((at k).1 (omega arith)).1 ∙ ap (λ s. get_or ys s 0) e ∙ ((at l).1 b).1))

pub counts_single : (P : ℕ → Type 0) (a b : ℕ) → Counts P a → Counts P b → a ≡ b
counts_single P a b (xs, p, e) (ys, q, h) = omega (arith, members_le P xs ys p q, members_le P ys xs q p)

pub counts_front : (P : ℕ → Type 0) (xs : List ℕ) (n : ℕ) → n ≤ length xs → ((k l : ℕ) → k < l → l < n → get_or xs k 0 ≡ get_or xs l 0 → ⊥) → ((k : ℕ) → k < n → P (get_or xs k 0)) → ((x : ℕ) → P x → Among xs n x) → Counts P n
counts_front P xs n fits apart only all =
    let long : length (take n xs) ≡ n = length-take-le n xs fits in
    let at : (k : ℕ) → k < n → get_or (take n xs) k 0 ≡ get_or xs k 0 = λ k h. get_or-take n xs k 0 h in (
      take n xs,
      record {
        apart = λ k l h b e. apart k l h (omega arith) (sym (at k (omega arith)) ∙ e ∙ at l (omega arith));
        sound = λ k h. subst P (sym (at k (omega arith))) (only k (omega arith));
        whole = λ x p. let (k, h, e) = all x p in (k, omega arith, at k h ∙ e);
      },
      long,
    )
