-- Just n numbers, read one by one.
use Rattle.std.proofs.Common.{◌≡◌, ℕ, zero, suc, ◌+◌, ◌-◌, ◌<◌, List, [], ◌∷◌, ◌++◌, map, length, get_or, take, drop, Some, None, Option, sym, refl, ap, add-one, append_assoc, arith}
use Rattle.std.specs.Option.{option_map}
use Rattle.std.proofs.Math.ListN.{set}
use Rattle.std.proofs.Math.Seq.{take-suc-set}
use Rattle.std.proofs.lemmas.List.{drop_more, length-map, length-set, get_or-map}
use Rattle.reading.specs.declared.word.Word.{Word}
use Rattle.reading.specs.Words.{Sense, sense}
use Rattle.reading.specs.Counts.{both, counted, numbers_of}

pub numbers_other : (n : ℕ) (ws : List Word) → (length ws ≡ n → ⊥) → None ≡ numbers_of n (map sense ws)
numbers_other zero [] h = absurd (h refl)
numbers_other zero (w ∷ ws) h = refl
numbers_other (suc n) [] h = refl
numbers_other (suc n) (w ∷ ws) h = let more = numbers_other n ws (λ e. h (ap suc e)) in grind arith

onto : {X : Type 0} (front : List X) (m : X) (o : Option (List X)) → option_map (λ ms. front ++ ms) (both (λ m ms. m ∷ ms) (Some m) o) ≡ option_map (λ ms. (front ++ m ∷ []) ++ ms) o
onto front m None = refl
onto front m (Some ms) = ap (λ l. Some l) (sym (append_assoc front (m ∷ []) ms))

-- n numbers are asked of ss: those of the first k words are found, and the words behind them say the others
pub record Numbering (n k : ℕ) (found : List ℕ) (ss : List Sense) : Type 0 where
  pub wide : length found ≡ n
  pub is : numbers_of n ss ≡ option_map (λ ms. take k found ++ ms) (numbers_of (n - k) (drop k ss))

module _ (n k : ℕ) (found : List ℕ) (ws : List Word) (d : Word) (h : Numbering n k found (map sense ws)) (below : k < length ws) (long : length ws ≡ n) where
  next : numbers_of (n - k) (drop k (map sense ws)) ≡ both (λ m ms. m ∷ ms) (counted (sense (get_or ws k d))) (numbers_of (n - (k + 1)) (drop (k + 1) (map sense ws)))
  next =
      let e : n - k ≡ suc (n - (k + 1)) = omega arith in
      rw (drop_more (map sense ws) k (sense d) (omega (arith, length-map ws sense)), get_or-map sense ws k d (sense d) below, e) refl

  pub numbering_refused : None ≡ counted (sense (get_or ws k d)) → None ≡ numbers_of n (map sense ws)
  numbering_refused none = rw (h.is, next, ← none) refl

  pub numbering_more : (m : ℕ) → Some m ≡ counted (sense (get_or ws k d)) → Numbering n (k + 1) (set found k m) (map sense ws)
  numbering_more m some =
      let front : take (k + 1) (set found k m) ≡ take k found ++ m ∷ [] = rw add-one (take-suc-set found k m (omega arith)) in
      record { wide = rw length-set h.wide; is = rw (front, h.is, next, ← some) (onto (take k found) m _) }
