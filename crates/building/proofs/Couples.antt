-- The pairs of a join.
use Rattle.std.proofs.Common.{◌≡◌, ℕ, true, sym, ap, ◌∙◌, inl, inr, ⊎_elim}
use Rattle.gmap.specs.Map.{Map, Partners}
use Rattle.gmap.specs.Orbits.{FarOrbit, here, step}
use Rattle.gmap.specs.Building.{Pair, given, turned, moved}
use Rattle.building.specs.Mates.{OnSides}

module _ (m : Map) (i t u : ℕ) where
  pub pair_sym : {x y : ℕ} → Pair m i t u x y → Pair m i t u y x
  pair_sym given = turned
  pair_sym turned = given
  pair_sym (moved j f p) = moved j f (pair_sym p)

  pub pair_apart : Partners m → (t ≡ u → ⊥) → {x y : ℕ} → Pair m i t u x y → x ≡ y → ⊥
  pair_apart law ne given e = ne e
  pair_apart law ne turned e = ne (sym e)
  pair_apart law ne (moved {x} {y} j f p) e = pair_apart law ne p (sym (law.back j x) ∙ (ap (m.partner j) e ∙ law.back j y))

  pub pair_live : Partners m → m.live t ≡ true → m.live u ≡ true → {x y : ℕ} → Pair m i t u x y → m.live x ≡ true
  pair_live law a b given = a
  pair_live law a b turned = b
  pair_live law a b (moved j f p) = law.alive j _ ∙ pair_live law a b p

  -- what stands first in a pair is on a side
  pub pair_side : {x y : ℕ} → Pair m i t u x y → OnSides m i t u x
  pair_side given = inl here
  pair_side turned = inr here
  pair_side (moved j f p) = ⊎_elim (λ o. inl (step j f o)) (λ o. inr (step j f o)) (pair_side p)

  -- and the other way round
  left_pair : {x : ℕ} → FarOrbit m i t x → (y : ℕ) × Pair m i t u x y
  left_pair here = (u, given)
  left_pair (step j f o) = let (y, p) = left_pair o in (m.partner j y, moved j f p)

  right_pair : {x : ℕ} → FarOrbit m i u x → (y : ℕ) × Pair m i t u x y
  right_pair here = (t, turned)
  right_pair (step j f o) = let (y, p) = right_pair o in (m.partner j y, moved j f p)

  pub side_pair : {x : ℕ} → OnSides m i t u x → (y : ℕ) × Pair m i t u x y
  side_pair (inl o) = left_pair o
  side_pair (inr o) = right_pair o
