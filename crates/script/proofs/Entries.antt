-- Entries are printed one by one.
use Rattle.std.proofs.Common.{◌≡◌, ℕ, ◌+◌, ◌<◌, List, ◌∷◌, ◌++◌, length, get_or, take, decimal, sym, ap, ◌∙◌}
use Rattle.std.proofs.lemmas.List.{take_more, flat_map_more}
use Rattle.script.specs.Printing.{spaced}

pub spaced_more : (bs es : List ℕ) (i : ℕ) → i < length es → bs ++ spaced (take (i + 1) es) ≡ (bs ++ spaced (take i es)) ++ (32 ∷ decimal (get_or es i 0))
spaced_more bs es i h = ap (λ l. bs ++ spaced l) (take_more es i 0 h) ∙ sym (flat_map_more (λ e. 32 ∷ decimal e) bs (take i es) (get_or es i 0))
