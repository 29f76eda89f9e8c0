-- The pairs of a join: what they share with the two that are named, the far orbits that they run over, and that they are decided.
use Rattle.std.proofs.Common.{◌≡◌, ℕ, suc, ◌+◌, ◌*◌, ◌/◌, ◌%◌, ◌<◌, true, ◌≢◌, ◌⊎◌, sym, ap, ◌∙◌, subst, inl, inr, ⊎_elim, arith}
use mathlib.Core.Logic.Dec
use native.Mathlib.Decide.{ℕ_discrete, map_dec}
use lib.Arith.{digits_div, digits_mod, digits_lt}
use Rattle.gmap.specs.Map.{Map, Partners, Far, Free, Lawful}
use Rattle.gmap.specs.Orbits.{here, step, FarOrbit}
use Rattle.gmap.specs.Building.{Pair, given, turned, moved}
use Rattle.protection.proofs.Cases.{dec_sum}
use Rattle.protection.proofs.Switches.{dec_far}
use Rattle.protection.proofs.Search.{dec_some}
use Rattle.protection.proofs.Closure.{Reached, start, onward, dec_reached}
use Rattle.protection.proofs.Orbits.{partner_below}

module _ (m : Map) (i t u : ℕ) where
  -- x stands first in a pair
  abbrev pub Touched : ℕ → Type 0
  Touched x = (y : ℕ) × Pair m i t u x y

  pub pair_sym : {x y : ℕ} → Pair m i t u x y → Pair m i t u y x
  pair_sym given = turned
  pair_sym turned = given
  pair_sym (moved j f p) = moved j f (pair_sym p)

  pub pair_swap : {x y : ℕ} → Pair m i t u x y → Pair m i u t x y
  pair_swap given = turned
  pair_swap turned = given
  pair_swap (moved j f p) = moved j f (pair_swap p)

  pub pair_apart : Partners m → t ≢ u → {x y : ℕ} → Pair m i t u x y → x ≢ y
  pair_apart law ne given e = ne e
  pair_apart law ne turned e = ne (sym e)
  pair_apart law ne (moved {x} {y} j f p) e = pair_apart law ne p (sym (law.back j x) ∙ (ap (m.partner j) e ∙ law.back j y))

  pub pair_free : Lawful m → Free m i t → Free m i u → {x y : ℕ} → Pair m i t u x y → Free m i x
  pair_free lawful a b given = a
  pair_free lawful a b turned = b
  pair_free lawful a b (moved {x} {y} j f p) = lawful i j x f ∙ ap (m.partner j) (pair_free lawful a b p)

  pub pair_live : Partners m → m.live t ≡ true → m.live u ≡ true → {x y : ℕ} → Pair m i t u x y → m.live x ≡ true
  pair_live law a b given = a
  pair_live law a b turned = b
  pair_live law a b (moved {x} {y} j f p) = law.alive j x ∙ pair_live law a b p

  -- a step back along a far switch
  pub pair_back : Partners m → (j : ℕ) → Far i j → {x y : ℕ} → Pair m i t u (m.partner j x) y → Pair m i t u x (m.partner j y)
  pair_back law j f {x} {y} p = subst (λ z. Pair m i t u z (m.partner j y)) (law.back j x) (moved j f p)

  pub orbit_touched : {s v x : ℕ} → Pair m i t u s v → FarOrbit m i s x → Touched x
  orbit_touched {v = v} p here = (v, p)
  orbit_touched p (step j f h) = let (y, q) = orbit_touched p h in (m.partner j y, moved j f q)

  pub pair_orbit : {x y : ℕ} → Pair m i t u x y → FarOrbit m i t x ⊎ FarOrbit m i u x
  pair_orbit given = inl here
  pair_orbit turned = inr here
  pair_orbit (moved j f p) = ⊎_elim (λ h. inl (step j f h)) (λ h. inr (step j f h)) (pair_orbit p)

  -- one of any pair is in the far orbit of what has t or u in its own
  pub pair_near : {x : ℕ} → FarOrbit m i x t ⊎ FarOrbit m i x u → {z w : ℕ} → Pair m i t u z w → FarOrbit m i x z ⊎ FarOrbit m i x w
  pair_near s given = s
  pair_near s turned = ⊎_elim (λ h. inr h) (λ h. inl h) s
  pair_near s (moved j f p) = ⊎_elim (λ h. inl (step j f h)) (λ h. inr (step j f h)) (pair_near s p)

discrete_both : Discrete (ℕ × ℕ)
discrete_both a b = map_dec (λ e k. (e.0 k, e.1 k)) (λ e. (ap (λ (p : ℕ × ℕ). p.0) e, ap (λ (p : ℕ × ℕ). p.1) e)) (Dec.and (ℕ_discrete a.0 b.0) (ℕ_discrete a.1 b.1))

module _ (m : Map) (law : Partners m) (i t u : ℕ) where
  abbrev both : ℕ → ℕ × ℕ → ℕ × ℕ
  both j a = (m.partner j a.0, m.partner j a.1)

  abbrev Met : ℕ × ℕ → ℕ × ℕ → Type 0
  Met = Reached both (Far i)

  met_pair : {s a : ℕ × ℕ} → Met s a → Pair m i t u s.0 s.1 → Pair m i t u a.0 a.1
  met_pair start p = p
  met_pair (onward j f h) p = moved j f (met_pair h p)

  pair_met : {x y : ℕ} → Pair m i t u x y → Met (t, u) (x, y) ⊎ Met (u, t) (x, y)
  pair_met given = inl start
  pair_met turned = inr start
  pair_met (moved {x} {y} j f p) = ⊎_elim (λ h. inl (onward {a = (x, y)} j f h)) (λ h. inr (onward {a = (x, y)} j f h)) (pair_met p)

  dec_met : (s a : ℕ × ℕ) → Dec (Met s a)
  dec_met s = dec_reached discrete_both both (λ j a k. (law.back j a.0 k, law.back j a.1 k)) (suc m.top) (λ j a l k. (law.high j a.0 l k, law.high j a.1 l k)) (Far i) (dec_far i) s (λ c. (c / B, c % B)) (B * B) coded
    where
      B : ℕ
      B = m.size + suc (s.0 + s.1)

      low : {a : ℕ × ℕ} → Met s a → (a.0 < B) × (a.1 < B)
      low start = (omega arith, omega arith)
      low (onward {a} j f h) = let (p, q) = low h in (partner_below m law B (omega arith) j a.0 p, partner_below m law B (omega arith) j a.1 q)

      coded : (a : ℕ × ℕ) → Met s a → (c : ℕ) × (c < B * B) × (◌≡◌ {A = ℕ × ℕ} (c / B, c % B) a)
      coded a h = let (p, q) = low h in (a.0 * B + a.1, digits_lt p q, λ k. (digits_div a.0 q k, digits_mod a.0 q k))

  pub dec_pair : (x y : ℕ) → Dec (Pair m i t u x y)
  dec_pair x y = map_dec (⊎_elim (λ h. met_pair h given) (λ h. met_pair h turned)) pair_met (dec_sum (dec_met (t, u) (x, y)) (dec_met (u, t) (x, y)))

  module _ (left : m.live t ≡ true) (right : m.live u ≡ true) where
    pub pair_inside : {x y : ℕ} → Pair m i t u x y → (x < m.size) × (y < m.size)
    pair_inside {x} {y} p = (law.inside x (pair_live m i t u law left right p), law.inside y (pair_live m i t u law left right (pair_sym m i t u p)))

    -- of one first member, the second with a decided fact is found or is not there
    pub dec_second : (Q : ℕ → Type 0) → ((y : ℕ) → Dec (Q y)) → (x : ℕ) → Dec ((y : ℕ) × Pair m i t u x y × Q y)
    dec_second Q d x = dec_some (λ y. Pair m i t u x y) Q m.size (λ y p. (pair_inside p).1) (dec_pair x) d
