-- A ring: the tuples met where two neighbouring switches take turns.
--   walk         the tuple at each step
--   ring_checks  why a ring is refused
--   Open         a tuple is free in one of the two switches
--   Ring         the steps up to the first even one that is back at the start
--   OnRing       what the two switches reach from a tuple
--   Places       where a number stands in a list
--   Encircles    a list has just what the two switches reach, each tuple once, or each twice
use Rattle.std.specs.Prelude.{◌≡◌, ℕ, zero, suc, ◌+◌, ◌-◌, ◌*◌, ◌%◌, ◌<◌, ◌≤◌, Bool, false, ◌⊎◌, List, [], ◌∷◌, length, MatchBool, ◌≢◌, slice_index}
use Rattle.gmap.specs.Map.{Map, Free}
use Rattle.gmap.specs.Listing.{Counts}
use Rattle.gmap.specs.Orbits.{Orbit}

-- switch k - 1 at odd steps, k at even ones
abbrev pub walk : Map → ℕ → ℕ → ℕ → ℕ
walk m k t zero = t
walk m k t (suc p) = m.partner (k - 1 + p % 2) (walk m k t p)

abbrev pub ring_checks : Map → ℕ → ℕ → ℕ → List (Type 0 × ℕ)
ring_checks m list k t = (list < 2 * m.size, 11) ∷ ((k ≡ 0) ⊎ (m.top < k), 1) ∷ (m.size ≤ t, 2) ∷ (m.live t ≡ false, 3) ∷ []

abbrev pub Open : Map → ℕ → ℕ → Type 0
Open m k x = Free m (k - 1) x ⊎ Free m k x

-- r is the number of steps, and whether no tuple met is free in one of the two switches
pub record Ring (m : Map) (k t : ℕ) (r : ℕ × Bool) (old new : List ℕ) : Type 0 where
  pub even : r.0 % 2 ≡ 0
  pub some : 0 < r.0
  pub back : walk m k t r.0 ≡ t
  pub first : (p : ℕ) → 0 < p → p < r.0 → p % 2 ≡ 0 → walk m k t p ≢ t
  pub fits : r.0 ≤ length old
  pub long : length new ≡ length old
  pub steps : (p : ℕ) → p < r.0 → slice_index new p ≡ walk m k t p
  pub rest : (p : ℕ) → r.0 ≤ p → slice_index new p ≡ slice_index old p
  pub closed : MatchBool r.1 ((p : ℕ) → p < r.0 → Open m k (walk m k t p) → ⊥) ((p : ℕ) × (p < r.0) × Open m k (walk m k t p))

abbrev pub OnRing : Map → ℕ → ℕ → ℕ → Type 0
OnRing m k t = Orbit m (λ i. (i + 1 ≡ k) ⊎ (i ≡ k)) t

abbrev pub Places : List ℕ → ℕ → ℕ → ℕ → Type 0
Places xs n x p = (p < n) × (slice_index xs p ≡ x)

-- of the first n entries of xs: each tuple stands there once if none is free in one of the two switches, else twice
pub record Encircles (m : Map) (k t n : ℕ) (xs : List ℕ) : Type 0 where
  pub only : (p : ℕ) → p < n → OnRing m k t (slice_index xs p)
  pub once : ((y : ℕ) → OnRing m k t y → Open m k y → ⊥) → (x : ℕ) → OnRing m k t x → Counts (Places xs n x) 1
  pub twice : (y : ℕ) → OnRing m k t y → Open m k y → (x : ℕ) → OnRing m k t x → Counts (Places xs n x) 2
