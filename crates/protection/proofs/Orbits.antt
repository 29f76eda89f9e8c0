-- Orbits are decided, cells can be counted, and what is outside of a cell stays outside.
use Rattle.std.proofs.Common.{◌≡◌, ℕ, suc, ◌+◌, ◌<◌, ◌≤◌, true, false, refl, subst, ⊎_elim, arith}
use mathlib.Core.Logic.Dec
use native.Mathlib.Decide.{ℕ_discrete, map_dec}
use Rattle.std.proofs.lemmas.Bool.{cases_Bool}
use Rattle.gmap.specs.Map.{Map, Partners, Far}
use Rattle.gmap.specs.Orbits.{Orbit, here, step, FarOrbit, Cell}
use Rattle.gmap.specs.Listing.{Counts}
use Rattle.gmap.proofs.Looks.{partner_inside}
use Rattle.gmap.proofs.Orbits.{orbit_live}
use Rattle.protection.proofs.Switches.{dec_far}
use Rattle.protection.proofs.Search.{dec_some}
use Rattle.protection.proofs.Counting.{counted}
use Rattle.protection.proofs.Closure.{Reached, start, onward, dec_reached}

-- partners of numbers below a bound are below it, if all slots are
pub partner_below : (m : Map) → Partners m → (B : ℕ) → m.size ≤ B → (j x : ℕ) → x < B → m.partner j x < B
partner_below m law B l j x h = ⊎_elim (λ (e : m.live x ≡ true). omega (arith, partner_inside m law j x e)) (λ (e : m.live x ≡ false). omega (arith, law.still j x e)) (cases_Bool (m.live x))

module _ (m : Map) (law : Partners m) (via : ℕ → Type 0) where
  reached_orbit : {t x : ℕ} → Reached m.partner via t x → Orbit m via t x
  reached_orbit start = here
  reached_orbit (onward j v h) = step j v (reached_orbit h)

  orbit_reached : {t x : ℕ} → Orbit m via t x → Reached m.partner via t x
  orbit_reached here = start
  orbit_reached (step j v h) = onward j v (orbit_reached h)

  dec_orbit : ((j : ℕ) → Dec (via j)) → (t x : ℕ) → Dec (Orbit m via t x)
  dec_orbit dv t x = map_dec reached_orbit orbit_reached (dec_reached ℕ_discrete m.partner law.back (suc m.top) (λ j a l. law.high j a l) via dv t (λ k. k) (m.size + suc t) (λ a h. (a, low h, refl)) x)
    where
      low : {a : ℕ} → Reached m.partner via t a → a < m.size + suc t
      low start = omega arith
      low (onward {a} j v h) = partner_below m law (m.size + suc t) (omega arith) j a (low h)

pub dec_far_orbit : (m : Map) → Partners m → (i t x : ℕ) → Dec (FarOrbit m i t x)
dec_far_orbit m law i = dec_orbit m law (λ j. Far i j) (dec_far i)

module _ (m : Map) (law : Partners m) (i t : ℕ) where
  pub dec_cell : (x : ℕ) → Dec (Cell m i t x)
  dec_cell = dec_orbit m law (λ j. j ≡ i → ⊥) (λ j. Dec.not (ℕ_discrete j i)) t

  pub cell_off : (j : ℕ) → (j ≡ i → ⊥) → (x : ℕ) → ¬ Cell m i t x → ¬ Cell m i t (m.partner j x)
  cell_off j e x q h = q (subst (Cell m i t) (law.back j x) (step j e h))

  pub cell_live : m.live t ≡ true → {x : ℕ} → Cell m i t x → m.live x ≡ true
  cell_live alive h = orbit_live m law (λ j. j ≡ i → ⊥) true alive h

  cell_inside : m.live t ≡ true → (x : ℕ) → Cell m i t x → x < m.size
  cell_inside alive x h = law.inside x (cell_live alive h)

  pub cell_counted : m.live t ≡ true → (n : ℕ) × Counts (Cell m i t) n
  cell_counted alive = counted (Cell m i t) dec_cell m.size (cell_inside alive)

  pub dec_some_in_cell : m.live t ≡ true → (Q : ℕ → Type 0) → ((x : ℕ) → Dec (Q x)) → Dec ((x : ℕ) × Cell m i t x × Q x)
  dec_some_in_cell alive Q = dec_some (Cell m i t) Q m.size (cell_inside alive) dec_cell
