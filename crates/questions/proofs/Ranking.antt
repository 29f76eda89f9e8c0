-- The front of a list that rises, and the places of its numbers in another list.
use Rattle.std.proofs.Common.{◌≡◌, ℕ, ◌^◌, ◌<◌, List, length, take, get_or, sym, ap, ◌∙◌, arith}
use Rattle.std.proofs.lemmas.List.{get_or-take, length-take-le}
use Rattle.gmap.specs.Listing.{Listed, Ranked}
use Rattle.questions.specs.Ranks.{Rankable}

module _ {P : ℕ → Type 0} {n : ℕ} {old new : List ℕ} (s : Listed P n old new) where
  front : length (take n new) ≡ n
  front = length-take-le n new (omega (arith, s.fits, s.long))

  pub rankable : (ranks : List ℕ) → n < 2 ^ 16 → ((x : ℕ) → P x → x < length ranks) → Rankable (take n new) ranks
  rankable ranks few low =
      record {
        few = omega (arith, front);
        rises = λ k l h b. let lt : l < n = omega (arith, front) in
            omega (arith, get_or-take n new k 0 (omega arith), get_or-take n new l 0 lt, s.rises k l h lt);
        low = λ k b. let lt : k < n = omega (arith, front) in
            omega (arith, get_or-take n new k 0 lt, low _ (s.only k lt));
      }

  pub ranked : (ranks : List ℕ) → ((k : ℕ) → k < length (take n new) → get_or ranks (get_or (take n new) k 0) 0 ≡ k) → Ranked P n new ranks
  ranked ranks place =
      record {
        fits = omega (arith, s.fits, s.long);
        rises = s.rises;
        only = s.only;
        all = s.all;
        rank = λ k h. ap (λ x. get_or ranks x 0) (sym (get_or-take n new k 0 h)) ∙ place k (omega (arith, front));
      }
