-- The new tuple beside each tuple of a split edge, as a function.
use Rattle.std.proofs.Common.{◌≡◌, ℕ, ◌+◌, ◌<◌, refl, ⊎_elim, arith}
use mathlib.Core.Logic.Dec
use native.Mathlib.Decide.{dec_lt}
use Rattle.std.proofs.lemmas.Bool.{cases_order}
use Rattle.gmap.specs.Map.{Map, Partners}
use Rattle.gmap.specs.Orbits.{Cell}
use Rattle.gmap.specs.Listing.{Counts}
use Rattle.gmap.specs.Splitting.{Beside}
use Rattle.protection.proofs.Counting.{counted, counts_single, counts_lt}
use Rattle.protection.proofs.Orbits.{dec_cell}

module _ (m : Map) (law : Partners m) (t f : ℕ) where
  abbrev Lower : ℕ → ℕ → Type 0
  Lower x y = Cell m 1 t y × (y < x)

  lower : (x : ℕ) → (n : ℕ) × Counts (Lower x) n
  lower x = counted (Lower x) (λ y. Dec.and (dec_cell m law 1 t y) (dec_lt y x)) x (λ y h. h.1)

  pub beside : ℕ → ℕ
  beside x = f + (lower x).0

  pub beside_stands : (x : ℕ) → Cell m 1 t x → Beside m t f x (beside x)
  unfolding beside
  beside_stands x h = record { on = h; below = (lower x).0; place = (lower x).1; number = refl }

  pub beside_only : (x x' : ℕ) → Beside m t f x x' → beside x ≡ x'
  unfolding beside
  beside_only x x' b = omega (arith, b.number, counts_single (lower x).1 b.place)

  beside_rises : (x y : ℕ) → Cell m 1 t x → x < y → beside x < beside y
  unfolding beside
  beside_rises x y h l = omega (arith, counts_lt (lower x).1 (lower y).1 (λ z w. (w.0, omega (arith, w.1))) x (h, l) (λ w. omega (arith, w.1)))

  pub beside_single : (x y : ℕ) → Cell m 1 t x → Cell m 1 t y → beside x ≡ beside y → x ≡ y
  beside_single x y h k e =
      ⊎_elim (λ (q : x ≡ y). q) (⊎_elim (λ (q : x < y). absurd (omega (arith, beside_rises x y h q))) (λ (q : y < x). absurd (omega (arith, beside_rises y x k q)))) (cases_order x y)
