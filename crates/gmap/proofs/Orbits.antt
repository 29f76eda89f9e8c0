-- Orbits: all their members are live, and two that meet are one.
use Rattle.std.proofs.Common.{◌≡◌, ℕ, Bool, ◌∙◌, subst}
use Rattle.gmap.specs.Map.{Map, Partners}
use Rattle.gmap.specs.Orbits.{Orbit, here, step}

module _ (m : Map) (law : Partners m) (via : ℕ → Type 0) where
  pub orbit_live : {t u : ℕ} (b : Bool) → m.live t ≡ b → Orbit m via t u → m.live u ≡ b
  orbit_live b l here = l
  orbit_live b l (step i v o) = law.alive i _ ∙ orbit_live b l o

  pub orbit_trans : {t u x : ℕ} → Orbit m via t u → Orbit m via u x → Orbit m via t x
  orbit_trans o here = o
  orbit_trans o (step i v p) = step i v (orbit_trans o p)

  pub orbit_back : {t u : ℕ} → Orbit m via t u → Orbit m via u t
  orbit_back here = here
  orbit_back (step {u} i v o) = orbit_trans (subst (Orbit m via (m.partner i u)) (law.back i u) (step i v here)) (orbit_back o)
