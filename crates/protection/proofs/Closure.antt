-- What is reached from a thing by moves, each its own inverse, is decided if it is among finitely many things.
use Rattle.std.proofs.Common.{◌≡◌, ℕ, zero, suc, ◌+◌, ◌<◌, ◌≤◌, ◌⊎◌, sym, refl, subst, inl, inr, ⊎_elim, arith}
use mathlib.Core.Logic.Dec
use native.Mathlib.Decide.{dec_lt, map_dec}
use Rattle.std.proofs.lemmas.Bool.{cases_lt}
use Rattle.gmap.specs.Listing.{Counts}
use Rattle.protection.proofs.Search.{SomeBelow, dec_below}
use Rattle.protection.proofs.Cases.{dec_sum}
use Rattle.protection.proofs.Counting.{counted, counts_lt, counts_few}

pub data Reached {A : Type 0} (move : ℕ → A → A) (via : ℕ → Type 0) (t : A) : A → Type 0 where
  start : Reached move via t t
  onward : {a : A} (j : ℕ) → via j → Reached move via t a → Reached move via t (move j a)

-- all moves from K on stay, and what is reached is among N things
module _ {A : Type 0} (disc : Discrete A) (move : ℕ → A → A) (back : (j : ℕ) (a : A) → move j (move j a) ≡ a) (K : ℕ) (high : (j : ℕ) (a : A) → K ≤ j → move j a ≡ a) (via : ℕ → Type 0) (dv : (j : ℕ) → Dec (via j)) (t : A) (enum : ℕ → A) (N : ℕ) (found : (a : A) → Reached move via t a → (k : ℕ) × (k < N) × (enum k ≡ a)) where
  -- a is reached in at most k steps
  abbrev Near : ℕ → A → Type 0
  Near zero a = a ≡ t
  Near (suc k) a = Near k a ⊎ SomeBelow (λ j. via j × Near k (move j a)) K

  near_dec : (k : ℕ) (a : A) → Dec (Near k a)
  near_dec zero a = disc a t
  near_dec (suc k) a = dec_sum (near_dec k a) (dec_below (λ j. via j × Near k (move j a)) (λ j. Dec.and (dv j) (near_dec k (move j a))) K)

  near_start : (k : ℕ) → Near k t
  near_start zero = refl
  near_start (suc k) = inl (near_start k)

  near_reached : (k : ℕ) (a : A) → Near k a → Reached move via t a
  near_reached zero a e = subst (Reached move via t) (sym e) start
  near_reached (suc k) a (inl h) = near_reached k a h
  near_reached (suc k) a (inr (j, l, (v, h))) = subst (Reached move via t) (back j a) (onward j v (near_reached k (move j a) h))

  -- one step more leads no farther
  abbrev Settled : ℕ → Type 0
  Settled k = (a : A) → Near (suc k) a → Near k a

  near_step : (k : ℕ) → Settled k → (j : ℕ) (a : A) → via j → Near k a → Near k (move j a)
  near_step k s j a v h =
      ⊎_elim
      (λ (l : j < K). s (move j a) (inr (j, l, (v, subst (Near k) (sym (back j a)) h))))
      (λ (l : K ≤ j). subst (Near k) (sym (high j a l)) h)
      (cases_lt j K)

  settled_near : (k : ℕ) → Settled k → {a : A} → Reached move via t a → Near k a
  settled_near k s start = near_start k
  settled_near k s (onward {a} j v h) = near_step k s j a v (settled_near k s h)

  abbrev Within : ℕ → ℕ → Type 0
  Within k x = (x < N) × Near k (enum x)

  many : (k : ℕ) → (c : ℕ) × Counts (Within k) c
  many k = counted (Within k) (λ x. Dec.and (dec_lt x N) (near_dec k (enum x))) N (λ x h. h.0)

  abbrev Farther : ℕ → ℕ → Type 0
  Farther k x = Near (suc k) (enum x) × ¬ Near k (enum x)

  farther_or_settled : (k : ℕ) → ((many k).0 < (many (suc k)).0) ⊎ Settled k
  farther_or_settled k = go (dec_below (Farther k) (λ x. Dec.and (near_dec (suc k) (enum x)) (Dec.not (near_dec k (enum x)))) N)
    where
      keep : (a : A) → ¬ (Near (suc k) a × ¬ Near k a) → Dec (Near k a) → Near (suc k) a → Near k a
      keep a q (yes h) n = h
      keep a q (no p) n = absurd (q (n, p))

      go : Dec (SomeBelow (Farther k) N) → ((many k).0 < (many (suc k)).0) ⊎ Settled k
      go (yes (x, b, (h, q))) = inl (counts_lt (many k).1 (many (suc k)).1 (λ x h. (h.0, inl h.1)) x (b, h) (λ w. q w.1))
      go (no none) = inr (λ a n. let (x, l, e) = found a (near_reached (suc k) a n) in subst (Near k) e (keep (enum x) (λ w. none (x, l, w)) (near_dec k (enum x)) (subst (Near (suc k)) (sym e) n)))

  settle : (fuel k : ℕ) → N ≤ (many k).0 + fuel → (k : ℕ) × Settled k
  settle zero k l = ⊎_elim (λ (g : (many k).0 < (many (suc k)).0). absurd (omega (arith, counts_few N (many (suc k)).1 (λ x h. h.0)))) (λ (s : Settled k). (k, s)) (farther_or_settled k)
  settle (suc fuel) k l = ⊎_elim (λ (g : (many k).0 < (many (suc k)).0). settle fuel (suc k) (omega arith)) (λ (s : Settled k). (k, s)) (farther_or_settled k)

  pub dec_reached : (a : A) → Dec (Reached move via t a)
  dec_reached a = let (k, s) = settle N 0 (omega arith) in map_dec (near_reached k a) (settled_near k s) (near_dec k a)
