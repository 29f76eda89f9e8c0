-- Words that are just so many numbers.
--   counted     the number that a word says
--   both        what two values make, if both are there
--   numbers_of  just n numbers
use Rattle.std.specs.Prelude.{ℕ, zero, suc, List, [], ◌∷◌, Some, None, Option}
use Rattle.reading.specs.Words.{Sense, names, orders, counts, nothing}

abbrev pub both : {A B C : Type 0} → (A → B → C) → Option A → Option B → Option C
both f None p = None
both f (Some a) None = None
both f (Some a) (Some b) = Some (f a b)

abbrev pub counted : Sense → Option ℕ
counted (names k) = None
counted (orders c) = None
counted (counts n) = Some n
counted nothing = None

abbrev pub numbers_of : ℕ → List Sense → Option (List ℕ)
numbers_of zero [] = Some []
numbers_of zero (s ∷ ss) = None
numbers_of (suc n) [] = None
numbers_of (suc n) (s ∷ ss) = both (λ m ms. m ∷ ms) (counted s) (numbers_of n ss)
