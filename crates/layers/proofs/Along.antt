-- An act on the map below a layer is an act on the layer.
use Rattle.std.proofs.Common.{◌≡◌, ℕ, Bool, true, false, cond, List, Result, sym, refl, subst}
use Rattle.gmap.specs.Map.{Map, Same}
use Rattle.gmap.specs.Outcome.{Outcome}
use Rattle.gmap.specs.declared.refusal.Refusal.{Refusal}
use Rattle.gmap.proofs.Same.{same_refl, same_path}
use Rattle.layers.proofs.Checks.{Agree, same_outcome}

same_along : (F : Map → Map) (m m' n : Map) → Same m m' → Same (F m') n → Same (F m) n
same_along F m m' n s h = let P : Map → Type 0 = λ x. Same (F x) n in subst P (sym (same_path m m' s)) h

pub ap_cond : {X Y : Type 0} (g : X → Y) (b : Bool) (x y : X) → g (cond b x y) ≡ cond b (g x) (g y)
ap_cond g true x y = refl
ap_cond g false x y = refl

-- what an act comes to on m, where it makes F of it, is what it comes to on L m, where it makes G
pub layer_act : (L : Map → Map) (m m' F G : Map) (cs ds : List (Type 0 × ℕ)) → Agree cs ds → Same (L F) G → (r : Result (Unit {0}) Refusal)
    → Outcome cs (λ _. Same m' F) (Same m' m) r → Outcome ds (λ _. Same (L m') G) (Same (L m') (L m)) r
layer_act L m m' F G cs ds agree h r o =
    same_outcome cs ds (λ _. Same m' F) (λ _. Same (L m') G) (Same m' m) (Same (L m') (L m)) agree (λ _ s. same_along L m' F G s h) (λ s. same_along L m' m (L m) s (same_refl (L m))) r o
