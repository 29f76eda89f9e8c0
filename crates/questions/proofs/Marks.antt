-- Writing one number at each place of a set.
use Rattle.std.proofs.Common.{◌≡◌, ℕ, ◌<◌, ◌⊎◌, List, length, get_or, set, sym, refl, ap, ◌∙◌, subst, ⊎_elim}
use Rattle.std.proofs.lemmas.List.{length-set, get_or-set_same, get_or-set_other}
use Rattle.std.proofs.lemmas.Bool.{cases_eq}
use Rattle.questions.specs.Marks.{Marked}

pub marked_none : (P : ℕ → Type 0) (v : ℕ) (xs : List ℕ) → ((x : ℕ) → P x → ⊥) → Marked P v xs xs
marked_none P v xs none = record { long = refl; there = λ x p. absurd (none x p); rest = λ x q. refl }

pub marked_more : (P Q : ℕ → Type 0) (v y : ℕ) (old new : List ℕ) → y < length new → Q y → ((x : ℕ) → P x → Q x) → ((x : ℕ) → Q x → P x ⊎ (x ≡ y)) → Marked P v old new → Marked Q v old (set new y v)
marked_more P Q v y old new lt here to fro s =
    record {
      long = length-set new y v ∙ s.long;
      there = λ x q. ⊎_elim
          (λ e. ap (λ z. get_or (set new y v) z 0) e ∙ get_or-set_same new y v 0 lt)
          (λ e. get_or-set_other new y x v 0 e ∙ s.there x (⊎_elim (λ p. p) (λ w. absurd (e w)) (fro x q)))
          (cases_eq x y);
      rest = λ x q. get_or-set_other new y x v 0 (λ e. q (subst Q (sym e) here)) ∙ s.rest x (λ p. q (to x p));
    }
