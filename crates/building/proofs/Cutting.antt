-- Cutting the links at a list of tuples, one after the other.
use Rattle.std.proofs.Common.{◌≡◌, ℕ, ◌+◌, ◌<◌, ◌⊎◌, List, get_or, sym, ap, ◌∙◌, subst, inl, inr, ⊎_elim, arith}
use Rattle.std.proofs.lemmas.Bool.{cases_eq, cases_lt}
use Rattle.gmap.specs.Map.{Map, Partners, Free, Same}
use Rattle.gmap.specs.Acts.{untied}
use Rattle.gmap.specs.Building.{Meets, AllCut}
use Rattle.gmap.specs.Listing.{Among}
use Rattle.gmap.proofs.Counting.{counts_like, counts_more}
use Rattle.gmap.proofs.Listing.{among_cases, among_suc, among_last, among_split}
use Rattle.gmap.proofs.Acts.{untied_frame, untied_left, untied_right, untied_rest}
use Rattle.gmap.proofs.Frames.{frame_then, frame_same}

pub cut_like : (m : Map) (i : ℕ) (P Q : ℕ → Type 0) (n : ℕ) (m' : Map) → ((x : ℕ) → P x → Q x) → ((x : ℕ) → Q x → P x) → AllCut m i P n m' → AllCut m i Q n m'
cut_like m i P Q n m' to fro s =
    let into : (x : ℕ) → Meets m i P x → Meets m i Q x = λ x. ⊎_elim (λ p. inl (to x p)) (λ p. inr (to (m.partner i x) p)) in
    let back : (x : ℕ) → Meets m i Q x → Meets m i P x = λ x. ⊎_elim (λ p. inl (fro x p)) (λ p. inr (fro (m.partner i x) p)) in
    record { frame = s.frame; cuts = λ x q. s.cuts x (back x q); rest = λ x q. s.rest x (λ p. q (into x p)); count = counts_like _ _ n (λ x p. (into x p.0, p.1)) (λ x q. (back x q.0, q.1)) s.count }

module _ (m : Map) (law : Partners m) (i : ℕ) (xs : List ℕ) (k n : ℕ) (now : Map) (s : AllCut m i (Among xs k) n now) where
  abbrev x : ℕ
  x = get_or xs k 0

  abbrev Before : ℕ → Type 0
  Before = Meets m i (Among xs k)

  abbrev After : ℕ → Type 0
  After = Meets m i (Among xs (k + 1))

  grows : (y : ℕ) → Before y → After y
  grows y = ⊎_elim (λ a. inl (among_suc xs k y a)) (λ a. inr (among_suc xs k (m.partner i y) a))

  -- y or its partner is the tuple at hand, or the link of y was met before
  splits : (y : ℕ) → After y → Before y ⊎ ((y ≡ x) ⊎ (m.partner i y ≡ x))
  splits y = ⊎_elim
      (λ a. ⊎_elim (λ b. inl (inl b)) (λ e. inr (inl e)) (among_split xs k y a))
      (λ a. ⊎_elim (λ b. inl (inr b)) (λ e. inr (inr e)) (among_split xs k (m.partner i y) a))

  other : (y : ℕ) → m.partner i y ≡ x → y ≡ m.partner i x
  other y e = sym (law.back i y) ∙ ap (m.partner i) e

  before_x : Before x ⊎ (Before x → ⊥)
  before_x = ⊎_elim
      (λ a. inl (inl a))
      (λ a. ⊎_elim (λ b. inl (inr b)) (λ b. inr (⊎_elim a b)) (among_cases xs k (m.partner i x)))
      (among_cases xs k x)

  -- the link of x was met from its other end too
  turned : Before x → Before (m.partner i x)
  turned = ⊎_elim (λ a. inr (subst (Among xs k) (sym (law.back i x)) a)) (λ a. inl a)

  -- x is free now: nothing is left to cut
  pub cut_skip : Free now i x → AllCut m i (Among xs (k + 1)) n now
  cut_skip free =
      let settled : (y : ℕ) → After y → Before y ⊎ Free m i y = λ y a. ⊎_elim (λ b. inl b) (λ e. ⊎_elim
      (λ b. ⊎_elim (λ w. inl (subst Before (sym w) b)) (λ w. inl (subst Before (sym (other y w)) (turned b))) e)
      (λ b. let still : Free m i x = sym (s.rest x b) ∙ free in
      let is : y ≡ x = ⊎_elim (λ w. w) (λ w. other y w ∙ still) e in
      inr (subst (Free m i) (sym is) still))
      before_x) (splits y a) in
      record {
        frame = s.frame;
        cuts = λ y a. ⊎_elim (λ b. s.cuts y b) (λ f. ⊎_elim (λ b. s.cuts y b) (λ e. ⊎_elim
            (λ w. subst (Free now i) (sym w) free)
            (λ w. subst (Free now i) (sym (sym f ∙ w)) free) e) (splits y a)) (settled y a);
        rest = λ y q. s.rest y (λ b. q (grows y b));
        count = counts_like _ _ n (λ y (b, l). (grows y b, l)) (λ y (a, l). ⊎_elim (λ b. (b, l)) (λ f. absurd (omega (arith, f))) (settled y a)) s.count;
      }

  module _ (linked : Free now i x → ⊥) (next : Map) (same : Same next (untied now i x)) where
    fresh : Before x → ⊥
    fresh b = linked (s.cuts x b)

    partner_x : now.partner i x ≡ m.partner i x
    partner_x = s.rest x fresh

    apart : m.partner i x ≡ x → ⊥
    apart e = linked (partner_x ∙ e)

    free_here : (y : ℕ) → (y ≡ x) ⊎ (y ≡ m.partner i x) → Free next i y
    free_here y e = same.partner i y ∙ ⊎_elim (λ w. untied_left now i x y w) (λ w. untied_right now i x y (w ∙ sym partner_x)) e

    elsewhere : (y : ℕ) → (y ≡ x → ⊥) → (y ≡ m.partner i x → ⊥) → next.partner i y ≡ now.partner i y
    elsewhere y a b = same.partner i y ∙ untied_rest now i x y a (λ e. b (e ∙ partner_x))

    -- the lower end of the link that is cut
    lower : (z : ℕ) × After z × (z < m.partner i z) × (Before z → ⊥) × ((y : ℕ) → (y ≡ x) ⊎ (m.partner i y ≡ x) → y < m.partner i y → y ≡ z)
    lower = ⊎_elim
        (λ l. (x, inl (among_last xs k), l, fresh, λ y e h. ⊎_elim (λ w. w) (λ w. absurd (omega (arith, other y w, w))) e))
        (λ l. (m.partner i x, inr (subst (Among xs (k + 1)) (sym (law.back i x)) (among_last xs k)), omega (arith, law.back i x, apart), (λ b. fresh (⊎_elim (λ a. inr a) (λ a. inl (subst (Among xs k) (law.back i x) a)) b)), λ y e h. ⊎_elim (λ w. absurd (omega (arith, w, ap (m.partner i) w))) (λ w. other y w) e))
        (cases_lt x (m.partner i x))

    pub cut_more : AllCut m i (Among xs (k + 1)) (n + 1) next
    cut_more =
        record {
          frame = frame_then s.frame (frame_same (untied_frame now i x) same);
          cuts = λ y a. ⊎_elim
              (λ e. free_here y (inl e))
              (λ e. ⊎_elim
              (λ f. free_here y (inr f))
              (λ f. ⊎_elim (λ b. elsewhere y e f ∙ s.cuts y b) (λ w. absurd (⊎_elim e (λ v. f (other y v)) w)) (splits y a))
              (cases_eq y (m.partner i x)))
              (cases_eq y x);
          rest = λ y q.
              elsewhere y (λ e. q (inl (subst (Among xs (k + 1)) (sym e) (among_last xs k)))) (λ e. q (inr (subst (Among xs (k + 1)) (sym (ap (m.partner i) e ∙ law.back i x)) (among_last xs k)))) ∙ s.rest y (λ b. q (grows y b));
          count = let (z, here, low, new, only) = lower in counts_more _ _ n z (λ (b, l). new b) (λ y (b, l). (grows y b, l)) (here, low) (λ y (a, l). ⊎_elim (λ b. inl (b, l)) (λ e. inr (only y e l)) (splits y a)) s.count;
        }
