-- Sums in parts, and sums that count.
use Rattle.std.proofs.Common.{◌≡◌, ℕ, zero, suc, ◌+◌, ◌*◌, ◌<◌, Bool, true, false, cond, ◌⊎◌, List, [], ◌∷◌, length, get_or, sym, refl, ap, ◌∙◌, subst, inl, inr, add-zero, add_assoc, add-suc, suc-mul, zero-mul, arith}
use Rattle.std.specs.List.{filter}
use Rattle.std.proofs.lemmas.Bool.{cases_Bool, cases_eq, both_ways, cond-true, cond-false}
use Rattle.gmap.specs.Listing.{Counts}
use Rattle.gmap.proofs.Counting.{counts_none, counts_like, counts_more}
use Rattle.slips.specs.Uses.{up_to}

pub sum_none : (f : ℕ → ℕ) (n : ℕ) → ((k : ℕ) → f k ≡ 0) → up_to f n ≡ 0
sum_none f zero h = refl
sum_none f (suc n) h = rw (h n, sum_none f n h) refl

sum_first : (f : ℕ → ℕ) (n : ℕ) → up_to f (suc n) ≡ f 0 + up_to (λ k. f (suc k)) n
sum_first f zero = omega arith
sum_first f (suc n) = let before = sum_first f n in omega (arith, before)

pub sum_parts : (f : ℕ → ℕ) (a b : ℕ) → up_to f (a + b) ≡ up_to f a + up_to (λ k. f (a + k)) b
sum_parts f a zero = rw (add-zero a) (sym (add-zero (up_to f a)))
sum_parts f a (suc b) = rw (add-suc a b) (rw (sum_parts f a b) (add_assoc (up_to f a) (up_to (λ k. f (a + k)) b) (f (a + b))))

-- blocks of h numbers each
pub sum_blocks : (f : ℕ → ℕ) (h n : ℕ) → up_to f (n * h) ≡ up_to (λ i. up_to (λ k. f (i * h + k)) h) n
sum_blocks f h zero = rw (zero-mul h) refl
sum_blocks f h (suc n) = rw (suc-mul n h) (sum_parts f (n * h) h ∙ ap (λ s. s + up_to (λ k. f (n * h + k)) h) (sum_blocks f h n))

-- x is the number of one of the first n places that pass a test
pub record Placed (test : ℕ → Bool) (number : ℕ → ℕ) (n x : ℕ) : Type 0 where
  pub place : ℕ
  pub within : place < n
  pub passes : test place ≡ true
  pub is : number place ≡ x

-- how many of the first n places pass
abbrev pub passing : (ℕ → Bool) → ℕ → ℕ
passing test n = up_to (λ k. cond (test k) 1 0) n

count_one : (test : ℕ → Bool) (n : ℕ) → test n ≡ true → passing test (suc n) ≡ passing test n + 1
count_one test n y = ap (λ c. passing test n + c) (cond-true (test n) 1 0 y)

count_none : (test : ℕ → Bool) (n : ℕ) → test n ≡ false → passing test (suc n) ≡ passing test n
count_none test n z = ap (λ c. passing test n + c) (cond-false (test n) 1 0 z) ∙ add-zero (passing test n)

-- a filter keeps as many elements as pass
pub filter_sum : {A : Type 0} (test : A → Bool) (d : A) (xs : List A) → length (filter test xs) ≡ passing (λ k. test (get_or xs k d)) (length xs)
filter_sum test d [] = refl
filter_sum test d (x ∷ xs) =
    let sum = sum_first (λ k. cond (test (get_or (x ∷ xs) k d)) 1 0) (length xs) in
    let rest = filter_sum test d xs in
    elim (cases_Bool (test x)) [ inl y ↦ rw (sum, y) (omega (arith, rest)) | inr z ↦ rw (sum, z) (omega (arith, rest)) ]

module _ (test : ℕ → Bool) (number : ℕ → ℕ) where
  placed_more : (n x : ℕ) → Placed test number n x → Placed test number (suc n) x
  placed_more n x p = record { place = p.place; within = omega arith; passes = p.passes; is = p.is }

  placed_last : (n : ℕ) → test n ≡ true → Placed test number (suc n) (number n)
  placed_last n y = record { place = n; within = omega arith; passes = y; is = refl }

  placed_split : (n x : ℕ) → Placed test number (suc n) x → Placed test number n x ⊎ ((test n ≡ true) × (x ≡ number n))
  placed_split n x p =
      elim (cases_eq p.place n) [
        | inl e ↦ inr (sym (ap test e) ∙ p.passes, sym p.is ∙ ap number e)
        | inr e ↦ inl (record { place = p.place; within = omega arith; passes = p.passes; is = p.is })
      ]

  last_new : (n : ℕ) → test n ≡ true → ((k l : ℕ) → k < l → l < suc n → (test k ≡ true) × (test l ≡ true) → number k ≡ number l → ⊥) → Placed test number n (number n) → ⊥
  last_new n y apart p = apart p.place n p.within (omega arith) (p.passes, y) p.is

  -- where the places that pass have different numbers, they count the numbers
  pub sum_counts : (n : ℕ) → ((k l : ℕ) → k < l → l < n → (test k ≡ true) × (test l ≡ true) → number k ≡ number l → ⊥) → Counts (Placed test number n) (passing test n)
  sum_counts zero apart = counts_none (Placed test number 0) (λ x p. omega (arith, p.within))
  sum_counts (suc n) apart =
      let before : Counts (Placed test number n) (passing test n) = sum_counts n (λ k l h b. apart k l h (omega arith)) in
      elim (cases_Bool (test n)) [
        | inl y ↦ subst (Counts (Placed test number (suc n))) (sym (count_one test n y)) (counts_more (Placed test number n) (Placed test number (suc n)) (passing test n) (number n) (last_new n y apart) (placed_more n) (placed_last n y) (λ x p. elim (placed_split n x p) [ inl q ↦ inl q | inr q ↦ inr q.1 ]) before)
        | inr z ↦ subst (Counts (Placed test number (suc n))) (sym (count_none test n z)) (counts_like (Placed test number n) (Placed test number (suc n)) (passing test n) (placed_more n) (λ x p. elim (placed_split n x p) [ inl q ↦ q | inr q ↦ absurd (both_ways (test n) z q.0) ]) before)
      ]
