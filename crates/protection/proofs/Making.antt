-- Making and unmaking a tuple that is free in every switch keep the laws.
use Rattle.std.proofs.Common.{◌≡◌, ℕ, ◌+◌, ◌<◌, Bool, true, false, cond, eqb, ◌≢◌, sym, ap, ◌∙◌, ⊎_elim, arith}
use mathlib.Core.Logic.Dec
use native.Mathlib.Decide.{ℕ_discrete, map_dec}
use Rattle.std.proofs.lemmas.Bool.{cases_eq, ne_eqb}
use Rattle.gmap.specs.Map.{Map, Partners, Free}
use Rattle.gmap.specs.Outcome.{Passes}
use Rattle.gmap.specs.Acts.{open_checks, opened, close_checks, closed}
use Rattle.protection.proofs.Cases.{stable, not_true_false}
use Rattle.protection.proofs.Search.{dec_below}

abbrev set_live : Map → ℕ → Bool → Map
set_live m t b = record { size = m.size; top = m.top; live = λ u. cond (eqb u t) b (m.live u); partner = m.partner }

module _ (m : Map) (law : Partners m) (t : ℕ) (b : Bool) (free : (i : ℕ) → Free m i t) (within : t < m.size) where
  abbrev new : ℕ → Bool
  new = (set_live m t b).live

  other : (u : ℕ) → u ≢ t → new u ≡ m.live u
  other u e = ap (λ v. cond v b (m.live u)) (ne_eqb u t e)

  live_partners : Partners (set_live m t b)
  live_partners =
      record {
        few = law.few;
        low = law.low;
        inside = λ u h. ⊎_elim (λ (e : u ≡ t). omega arith) (λ (e : u ≡ t → ⊥). law.inside u (sym (other u e) ∙ h)) (cases_eq u t);
        back = law.back;
        alive = λ i u. ⊎_elim
            (λ (e : u ≡ t). ap new (ap (m.partner i) e ∙ (free i ∙ sym e)))
            (λ (e : u ≡ t → ⊥). other (m.partner i u) (λ q. e (sym (law.back i u) ∙ (ap (m.partner i) q ∙ free i))) ∙ (law.alive i u ∙ sym (other u e)))
            (cases_eq u t);
        still = λ i u h. ⊎_elim (λ (e : u ≡ t). ap (m.partner i) e ∙ (free i ∙ sym e)) (λ (e : u ≡ t → ⊥). law.still i u (sym (other u e) ∙ h)) (cases_eq u t);
        high = law.high;
      }

module _ (m : Map) (law : Partners m) (t : ℕ) where
  pub make_partners : Passes (open_checks m t) → Partners (opened m t)
  make_partners (a, (b, c)) = live_partners m law t true (λ i. law.still i t (not_true_false (m.live t) b)) (omega arith)

  pub unmake_partners : Passes (close_checks m t) → Partners (closed m t)
  unmake_partners (a, (b, (c, d))) = live_partners m law t false (λ i. stable (m.partner i t) t (λ q. c (i, q))) (omega arith)

  pub dec_linked : Dec ((i : ℕ) × (Free m i t → ⊥))
  dec_linked =
      map_dec (λ (i, l, q). (i, q)) (λ (i, q). let low : m.top < i → ⊥ = λ l. q (law.high i t l) in (i, omega arith, q))
      (dec_below (λ i. Free m i t → ⊥) (λ i. Dec.not (ℕ_discrete (m.partner i t) t)) (m.top + 1))
