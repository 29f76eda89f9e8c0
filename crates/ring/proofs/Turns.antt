-- Two involutions a and b in turn.
use Rattle.std.proofs.Common.{◌≡◌, ℕ, zero, suc, ◌+◌, sym, refl, ap, ◌∙◌, arith}

abbrev pub pow : (ℕ → ℕ) → ℕ → ℕ → ℕ
pow f zero x = x
pow f (suc e) x = f (pow f e x)

pub pow_add : (f : ℕ → ℕ) (d e x : ℕ) → pow f (d + e) x ≡ pow f d (pow f e x)
pow_add f zero e x = let q : 0 + e ≡ e = omega arith in ap (λ n. pow f n x) q
pow_add f (suc d) e x = let q : suc d + e ≡ suc (d + e) = omega arith in ap (λ n. pow f n x) q ∙ ap f (pow_add f d e x)

pub pow_out : (f : ℕ → ℕ) (e x : ℕ) → pow f e (f x) ≡ f (pow f e x)
pow_out f zero x = refl
pow_out f (suc e) x = ap f (pow_out f e x)

-- a turn is a and then b
abbrev pub turn : (a b : ℕ → ℕ) → ℕ → ℕ
turn a b x = b (a x)

module _ (a b : ℕ → ℕ) (ia : (x : ℕ) → a (a x) ≡ x) (ib : (x : ℕ) → b (b x) ≡ x) where
  pub a_inj : (x y : ℕ) → a x ≡ a y → x ≡ y
  a_inj x y e = cc (ia x, ia y)

  turn_inj : (x y : ℕ) → turn a b x ≡ turn a b y → x ≡ y
  turn_inj x y e = cc (ia x, ia y, ib (a x), ib (a y))

  pub pow_inj : (e x y : ℕ) → pow (turn a b) e x ≡ pow (turn a b) e y → x ≡ y
  pow_inj zero x y h = h
  pow_inj (suc e) x y h = pow_inj e x y (turn_inj _ _ h)

  -- e turns, a, e turns: a
  pub around_a : (e x : ℕ) → pow (turn a b) e (a (pow (turn a b) e x)) ≡ a x
  around_a zero x = refl
  around_a (suc e) x =
      let y = pow (turn a b) e x in
      sym (pow_out (turn a b) e (a (turn a b y))) ∙ (ap (λ z. pow (turn a b) e (b z)) (ia (turn a b y)) ∙ (ap (pow (turn a b) e) (ib (a y)) ∙ around_a e x))
