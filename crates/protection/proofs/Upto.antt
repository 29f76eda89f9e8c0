-- The switches of a lawful map up to some number make a lawful map.
use Rattle.std.proofs.Common.{◌≡◌, ℕ, ◌<◌, ◌≤◌, Bool, true, false, cond, leb, refl, ap}
use Rattle.std.proofs.lemmas.Bool.{le-leb, lt-leb}
use Rattle.gmap.specs.Map.{Map, Partners, Lawful}

-- the goal's switches up to k, and none above
unfoldable pub upto : Map → ℕ → Map
upto goal k = record { size = goal.size; top = goal.top; live = goal.live; partner = λ j x. cond (leb j k) (goal.partner j x) x }

module _ (goal : Map) (k : ℕ) where
  pub upto_in : (j : ℕ) → j ≤ k → (x : ℕ) → (upto goal k).partner j x ≡ goal.partner j x
  unfolding upto
  upto_in j l x = ap (λ v. cond v (goal.partner j x) x) (le-leb j k l)

  pub upto_out : (j : ℕ) → k < j → (x : ℕ) → (upto goal k).partner j x ≡ x
  unfolding upto
  upto_out j l x = ap (λ v. cond v (goal.partner j x) x) (lt-leb j k l)

  -- what holds of the goal's switches and of a switch that links nothing
  upto_each : (P : (ℕ → ℕ) → Type 0) (j : ℕ) → P (goal.partner j) → P (λ x. x) → P ((upto goal k).partner j)
  unfolding upto
  upto_each P j p q = go (leb j k)
    where
      go : (v : Bool) → P (λ x. cond v (goal.partner j x) x)
      go true = p
      go false = q

  pub upto_partners : Partners goal → Partners (upto goal k)
  unfolding upto
  upto_partners law =
      record {
        few = law.few;
        low = law.low;
        inside = law.inside;
        back = λ j. upto_each (λ f. (x : ℕ) → f (f x) ≡ x) j (law.back j) (λ x. refl);
        alive = λ j. upto_each (λ f. (x : ℕ) → goal.live (f x) ≡ goal.live x) j (law.alive j) (λ x. refl);
        still = λ j. upto_each (λ f. (x : ℕ) → goal.live x ≡ false → f x ≡ x) j (law.still j) (λ x h. refl);
        high = λ j. upto_each (λ f. (x : ℕ) → goal.top < j → f x ≡ x) j (law.high j) (λ x h. refl);
      }

  pub upto_lawful : Lawful goal → Lawful (upto goal k)
  upto_lawful lawful i j x f =
      upto_each (λ g. g ((upto goal k).partner j x) ≡ (upto goal k).partner j (g x)) i
      (upto_each (λ h. goal.partner i (h x) ≡ h (goal.partner i x)) j (lawful i j x f) refl)
      refl
