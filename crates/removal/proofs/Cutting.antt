-- Cutting the links at a set, switch by switch.
use Rattle.std.proofs.Common.{◌≡◌, ℕ, ◌+◌, ◌<◌, ◌∙◌, sym, subst, ⊎_elim, arith}
use Rattle.std.proofs.lemmas.Bool.{cases_eq}
use Rattle.gmap.specs.Map.{Map, Free}
use Rattle.gmap.specs.Building.{Meets, AllCut}
use Rattle.removal.specs.Stages.{CutBelow}

pub cut_below_more : {m now next : Map} {P : ℕ → Type 0} {b n : ℕ} → CutBelow m P b now → AllCut now b P n next → CutBelow m P (b + 1) next
cut_below_more {m} {now} {next} {P} {b} s c =
    let as_was : (x : ℕ) → now.partner b x ≡ m.partner b x = λ x. s.rest b x (λ h. absurd (omega arith)) in
    record {
      size = c.frame.size ∙ s.size;
      top = c.frame.top ∙ s.top;
      live = λ x. c.frame.live x ∙ s.live x;
      cuts = λ j x h. ⊎_elim
          (λ (e : j ≡ b). subst (λ v. Meets m v P x → Free next v x) (sym e) (λ w. c.cuts x (rw as_was w)))
          (λ (e : j ≡ b → ⊥) w. c.frame.others j x e ∙ s.cuts j x (omega arith) w)
          (cases_eq j b);
      rest = λ j x. ⊎_elim
          (λ (e : j ≡ b). subst (λ v. (v < b + 1 → Meets m v P x → ⊥) → next.partner v x ≡ m.partner v x) (sym e) (λ q. c.rest x (rw as_was (q (omega arith))) ∙ as_was x))
          (λ (e : j ≡ b → ⊥) q. c.frame.others j x e ∙ s.rest j x (λ h. q (omega arith)))
          (cases_eq j b);
    }
