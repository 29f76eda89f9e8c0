-- Counting slots from another one: there and back again.
use Rattle.std.specs.Prelude.{◌≡◌, ℕ, ◌+◌, ◌-◌, ◌*◌, ◌/◌, ◌%◌, ◌<◌, ◌≤◌, ◌==◌}
use Rattle.std.proofs.Common.{sym, ap, ◌∙◌, ⊎_elim, arith, mod-lt, mod-eq_of_lt}
use Rattle.std.proofs.Math.Nat.{mod-eq-sub-mod, mod-add-mod, add-mod-mod, mod-add-div, add-mod_right, add-mul-mod_self_left}
use Rattle.std.proofs.lemmas.Bool.{cases_eq, eq-eqb, ne_eqb}

module _ (s f : ℕ) where
  abbrev pub down : ℕ → ℕ
  down t = (t + f) % s

  abbrev pub up : ℕ → ℕ
  up u = (u + (s - f % s)) % s

  pub down_below : (t : ℕ) → t < s → down t < s
  down_below t h = mod-lt (t + f) (omega (arith, h))

  pub up_below : (u : ℕ) → u < s → up u < s
  up_below u h = mod-lt (u + (s - f % s)) (omega (arith, h))

  -- all the way round
  round : (t : ℕ) → t < s → (t + f + (s - f % s)) % s ≡ t
  round t h =
      let l : f % s < s = mod-lt f (omega (arith, h)) in
      let e : t + f + (s - f % s) ≡ t + s * (f / s) + s = omega (arith, l, mod-add-div f s) in
      ap (λ n. n % s) e ∙ (add-mod_right (t + s * (f / s)) s ∙ (add-mul-mod_self_left t s (f / s) ∙ mod-eq_of_lt h))

  pub up_down : (t : ℕ) → t < s → up (down t) ≡ t
  up_down t h = mod-add-mod (t + f) s (s - f % s) ∙ round t h

  pub down_up : (u : ℕ) → u < s → down (up u) ≡ u
  down_up u h =
      let e : u + (s - f % s) + f ≡ u + f + (s - f % s) = omega arith in
      mod-add-mod (u + (s - f % s)) s f ∙ (ap (λ n. n % s) e ∙ round u h)

  pub down_same : (x t : ℕ) → x < s → t < s → down x ≡ down t → x ≡ t
  down_same x t h g e = sym (up_down x h) ∙ (ap up e ∙ up_down t g)

  pub down_eqb : (x t : ℕ) → x < s → t < s → (down x == down t) ≡ (x == t)
  down_eqb x t h g =
      ⊎_elim (λ e. eq-eqb (down x) (down t) (ap down e) ∙ sym (eq-eqb x t e)) (λ n. ne_eqb (down x) (down t) (λ e. n (down_same x t h g e)) ∙ sym (ne_eqb x t n)) (cases_eq x t)

  -- where r is what is left of f behind the last round, no remainder has to be taken
  module _ (r : ℕ) (left : r ≡ f % s) where
    pub down_low : (t : ℕ) → t + r < s → t + r ≡ down t
    down_low t h = sym (mod-eq_of_lt h) ∙ (ap (λ n. (t + n) % s) left ∙ add-mod-mod t f s)

    pub down_high : (t : ℕ) → t < s → s ≤ t + r → t + r - s ≡ down t
    down_high t g h =
        let l : f % s < s = mod-lt f (omega (arith, g)) in
        let b : t + r - s < s = omega (arith, l, left) in
        sym (mod-eq_of_lt b) ∙ (sym (mod-eq-sub-mod h) ∙ (ap (λ n. (t + n) % s) left ∙ add-mod-mod t f s))

    pub up_low : (u : ℕ) → u < s → u < r → u + (s - r) ≡ up u
    up_low u g h =
        let l : f % s < s = mod-lt f (omega (arith, g)) in
        let b : u + (s - r) < s = omega (arith, l, left) in
        sym (mod-eq_of_lt b) ∙ ap (λ n. (u + (s - n)) % s) left

    pub up_high : (u : ℕ) → u < s → r ≤ u → u - r ≡ up u
    up_high u g h =
        let l : f % s < s = mod-lt f (omega (arith, g)) in
        let b : u - r < s = omega (arith, l, left) in
        let e : u - r + s ≡ u + (s - r) = omega (arith, l, left) in
        sym (mod-eq_of_lt b) ∙ (sym (add-mod_right (u - r) s) ∙ (ap (λ n. n % s) e ∙ ap (λ n. (u + (s - n)) % s) left))
