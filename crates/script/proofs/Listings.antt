-- What a question wrote to the front of a list is what it is answered with.
use Rattle.std.proofs.Common.{◌≡◌, ℕ, ◌<◌, List, ◌∷◌, length, get_or, take, sym, ap, ◌∙◌, arith}
use Rattle.std.proofs.lemmas.List.{get_or-take, length-take-le}
use Rattle.gmap.specs.Listing.{Listed}
use Rattle.gmap.specs.Map.{Map, Same}
use Rattle.gmap.proofs.Same.{same_refl}
use Rattle.script.specs.Answering.{Upward}

listed_upward : (P : ℕ → Type 0) (n : ℕ) (old new : List ℕ) → Listed P n old new → Upward P (take n new)
listed_upward P n old new h =
    let long : length (take n new) ≡ n = length-take-le n new (omega (arith, h.fits, h.long)) in
    let at : (k : ℕ) → k < n → get_or (take n new) k 0 ≡ get_or new k 0 = λ k k<n. get_or-take n new k 0 k<n in
    record {
      rises = λ k l k<l l<n. let l_in : l < n = omega arith in rw (at k (omega arith), at l l_in) (h.rises k l k<l l_in);
      only = λ k k<n. let k_in : k < n = omega arith in rw (at k k_in) (h.only k k_in);
      all = λ x p. let a = h.all x p in (a.0, omega (arith, a.1), at a.0 a.1 ∙ a.2);
    }

pub orbit_listed : (m : Map) (P : ℕ → Type 0) (n : ℕ) (old new : List ℕ) → Listed P n old new → (xs : List ℕ) × (n ∷ take n new ≡ length xs ∷ xs) × Upward P xs × Same m m
orbit_listed m P n old new h =
    let long : length (take n new) ≡ n = length-take-le n new (omega (arith, h.fits, h.long)) in
    (take n new, ap (λ k. k ∷ take n new) (sym long), listed_upward P n old new h, same_refl m)
