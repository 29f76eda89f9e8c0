-- The bridges across a cell: finding them one by one, and their two sides.
use Rattle.std.proofs.Common.{◌≡◌, ℕ, ◌+◌, ◌<◌, ◌≤◌, List, length, get_or, set, take, sym, ap, ◌∙◌, inl, inr, ⊎_elim, arith, below_more}
use Rattle.std.proofs.lemmas.List.{get_or-set_same, get_or-set_other, get_or-take, length-take-le}
use Rattle.std.proofs.lemmas.Bool.{cases_eq}
use Rattle.gmap.specs.Listing.{Among}
use Rattle.gmap.specs.Map.{Map, Partners}
use Rattle.gmap.proofs.Listing.{among_split}
use Rattle.removal.specs.Crossing.{In, out, Lands}
use Rattle.removal.specs.Stages.{Celled, Bridge, Bridged}
use Rattle.removal.proofs.Walks.{crosses_off, crosses_single, crosses_back, crosses_beside}

module _ {m : Map} (law : Partners m) {i : ℕ} {xs : List ℕ} {k : ℕ} (below : k < length xs) {n : ℕ} {bs ends : List ℕ} (s : Bridged m i xs k n bs ends) {x end : ℕ} (is : x ≡ m.partner i (get_or xs k 0)) (lands : Lands m i xs x end) where
  inward : m.partner i x ≡ get_or xs k 0
  inward = ap (m.partner i) is ∙ law.back i (get_or xs k 0)

  -- what has the tuple at hand as its partner is x
  only_x : (y : ℕ) → m.partner i y ≡ get_or xs k 0 → y ≡ x
  only_x y e = sym (law.back i y) ∙ ap (m.partner i) e ∙ sym is

  pub bridged_skip : x ≡ end → Bridged m i xs (k + 1) n bs ends
  bridged_skip e =
      record {
        few = omega (arith, s.few);
        each = s.each;
        all = λ y q a. ⊎_elim (s.all y q) (λ w. let f = only_x y w in inr (rw f (rw (← e) at (lands.outside (λ p. q (rw f p)))))) (among_split xs k (m.partner i y) a);
      }

  module _ (apart : x ≡ end → ⊥) (room : n < length bs) (slot : x < length ends) where
    abbrev bs' : List ℕ
    bs' = set bs n x

    abbrev ends' : List ℕ
    ends' = set ends x end

    -- y is bridged as ends' has it
    abbrev Good : ℕ → Type 0
    Good y = Bridge m i xs y (get_or ends' y 0)

    off : In xs x → ⊥
    off p = apart (sym (lands.inside p))

    here : get_or bs' n 0 ≡ x
    here = get_or-set_same bs n x 0 room

    as_was : (l : ℕ) → l < n → get_or bs' l 0 ≡ get_or bs l 0
    as_was l h = get_or-set_other bs n l x 0 (λ e. omega arith)

    good_x : Good x
    good_x = rw (get_or-set_same ends x end 0 slot) (record { outside = off; beside = (k, below, sym inward); apart = apart; leads = lands.outside off })

    good_before : (l : ℕ) → l < n → Good (get_or bs l 0)
    good_before l h = ⊎_elim (λ e. rw e good_x) (λ e. rw (get_or-set_other ends x (get_or bs l 0) end 0 e) (s.each l h)) (cases_eq (get_or bs l 0) x)

    pub bridged_more : Bridged m i xs (k + 1) (n + 1) bs' ends'
    bridged_more =
        record {
          few = omega (arith, s.few);
          each = below_more (λ l. Good (get_or bs' l 0)) n (λ l h. rw (as_was l h) (good_before l h)) (rw here good_x);
          all = λ y q a. ⊎_elim
              (λ b. ⊎_elim (λ (l, h, e). inl (l, omega arith, as_was l h ∙ e)) (λ o. inr o) (s.all y q b))
              (λ w. inl (n, omega arith, here ∙ sym (only_x y w)))
              (among_split xs k (m.partner i y) a);
        }

-- the bridges as a list of their own
pub bridged_front : {m : Map} {i : ℕ} {xs : List ℕ} {k n : ℕ} {bs ends : List ℕ} → k ≡ length xs → n ≤ length bs → Bridged m i xs k n bs ends → Bridged m i xs (length xs) (length (take n bs)) (take n bs) ends
bridged_front {m} {i} {xs} {k} {n} {bs} {ends} all fits s =
    let long : length (take n bs) ≡ n = length-take-le n bs fits in
    let at : (l : ℕ) → l < n → get_or (take n bs) l 0 ≡ get_or bs l 0 = λ l h. get_or-take n bs l 0 h in
    record {
      few = omega (arith, long, s.few);
      each = λ l h. let b : l < n = omega (arith, long) in rw (at l b) (s.each l b);
      all = λ x q a. ⊎_elim (λ (l, h, e). inl (l, omega (arith, long), at l h ∙ e)) (λ o. inr o) (s.all x q (rw all a));
    }

pub bridge_of : {m : Map} {i : ℕ} {xs : List ℕ} {k n : ℕ} {bs ends : List ℕ} → Bridged m i xs k n bs ends → (x : ℕ) → Among bs n x → Bridge m i xs x (get_or ends x 0)
bridge_of s x (l, h, e) = rw (← e) (s.each l h)

module _ {m : Map} (law : Partners m) {i : ℕ} {xs : List ℕ} (cell : Celled m i xs) where
  pub bridge_turn : {x y : ℕ} → Bridge m i xs x y → Bridge m i xs y x
  bridge_turn {x} b =
      record {
        outside = crosses_off law cell b.leads;
        beside = crosses_beside law cell b.beside b.leads;
        apart = λ e. b.apart (sym e);
        leads = crosses_back law cell x b.leads (rw (law.back i x) (out b.outside));
      }

  -- each bridge is found
  pub bridge_known : {n : ℕ} {bs ends : List ℕ} → Bridged m i xs (length xs) n bs ends → {x y : ℕ} → Bridge m i xs x y → get_or ends x 0 ≡ y
  bridge_known {ends} s {x} b =
      ⊎_elim
      (λ a. crosses_single law cell (bridge_of s x a).leads b.leads)
      (λ o. absurd (b.apart (crosses_single law cell o b.leads)))
      (s.all x b.outside b.beside)
