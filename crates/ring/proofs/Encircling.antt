-- A ring lists its orbit: each tuple once if none of them is free in one of the two switches, else each twice.
use Rattle.std.proofs.Common.{◌≡◌, ℕ, zero, suc, ◌+◌, ◌-◌, ◌*◌, ◌/◌, ◌%◌, ◌<◌, ◌≤◌, Bool, ◌⊎◌, List, sym, refl, ap, ◌∙◌, subst, inl, inr, ⊎_elim, arith}
use Rattle.std.proofs.lemmas.Bool.{cases_eq}
use Rattle.gmap.specs.Map.{Map, Partners}
use Rattle.gmap.specs.Orbits.{here, step}
use Rattle.gmap.specs.Listing.{Counts}
use Rattle.gmap.specs.Rings.{walk, Ring, OnRing, Places, Encircles}
use Rattle.gmap.proofs.Counting.{counts_none, counts_more}
use Rattle.ring.proofs.Turns.{pow, turn}
use Rattle.ring.proofs.Walks.{walk_even, walk_odd}
use Rattle.ring.proofs.Closing.{Closes, same_a, distinct, Even, Odd, Ringed, ringed_a, ringed_b, Meet, meet_from, even_odd, odd_even, meet_fixed, fixed_meet}

counts_one : (P : ℕ → Type 0) (p : ℕ) → P p → ((s : ℕ) → P s → s ≡ p) → Counts P 1
counts_one P p h only = counts_more (λ _. ⊥) P 0 p (λ x. x) (λ s x. absurd x) h (λ s x. inr (only s x)) (counts_none (λ _. ⊥) (λ s x. x))

counts_two : (P : ℕ → Type 0) (p q : ℕ) → P p → P q → (q ≡ p → ⊥) → ((s : ℕ) → P s → (s ≡ p) ⊎ (s ≡ q)) → Counts P 2
counts_two P p q h k ne only = counts_more (λ s. s ≡ p) P 1 q ne (λ s e. subst P (sym e) h) k only (counts_one (λ s. s ≡ p) p refl (λ s e. e))

walked : (m : Map) (k : ℕ) → 1 ≤ k → (t p : ℕ) → OnRing m k t (walk m k t p)
walked m k above t zero = here
walked m k above t (suc p) = step (k - 1 + p % 2) (⊎_elim (λ (e : p % 2 ≡ 0). inl (omega arith)) (λ (e : p % 2 ≡ 0 → ⊥). inr (omega arith)) (cases_eq (p % 2) 0)) (walked m k above t p)

module _ (m : Map) (law : Partners m) (k : ℕ) (above : 1 ≤ k) (t : ℕ) (n : ℕ) (shut : Bool) (old new : List ℕ) (ring : Ring m k t (n, shut) old new) where
  abbrev A : ℕ → ℕ
  A = m.partner (k - 1)

  abbrev B : ℕ → ℕ
  B = m.partner k

  abbrev d : ℕ
  d = n / 2

  twice_d : n ≡ 2 * d
  twice_d = omega (arith, ring.even)

  even_step : (e : ℕ) → walk m k t (2 * e) ≡ pow (turn A B) e t
  even_step = walk_even m law k above t

  odd_step : (e : ℕ) → walk m k t (suc (2 * e)) ≡ A (pow (turn A B) e t)
  odd_step = walk_odd m law k above t

  closes : Closes A B t d
  closes =
      record {
        back_a = law.back (k - 1);
        back_b = law.back k;
        some = omega (arith, ring.some, ring.even);
        closed = sym (even_step d) ∙ (ap (walk m k t) (sym twice_d) ∙ ring.back);
        first = λ e p l h. ring.first (2 * e) (omega arith) (omega (arith, twice_d)) (omega arith) (even_step e ∙ h);
      }

  orbit_on : {x : ℕ} → OnRing m k t x → Ringed closes x
  orbit_on here = inl (0, closes.some, refl)
  orbit_on (step {u} i v h) =
      ⊎_elim
      (λ (e : i + 1 ≡ k). let q : k - 1 ≡ i = omega arith in subst (λ j. Ringed closes (m.partner j u)) q (ringed_a closes u (orbit_on h)))
      (λ (e : i ≡ k). subst (λ j. Ringed closes (m.partner j u)) (sym e) (ringed_b closes u (orbit_on h)))
      v

  on_orbit : (x : ℕ) → Ringed closes x → OnRing m k t x
  on_orbit x (inl (e, l, h)) = subst (OnRing m k t) (even_step e ∙ h) (walked m k above t (2 * e))
  on_orbit x (inr (e, l, h)) = subst (OnRing m k t) (odd_step e ∙ h) (walked m k above t (suc (2 * e)))

  even_place : (x e : ℕ) → e < d → pow (turn A B) e t ≡ x → Places new n x (2 * e)
  even_place x e l h = (omega (arith, twice_d), ring.steps (2 * e) (omega (arith, twice_d)) ∙ (even_step e ∙ h))

  odd_place : (x e : ℕ) → e < d → A (pow (turn A B) e t) ≡ x → Places new n x (suc (2 * e))
  odd_place x e l h = (omega (arith, twice_d), ring.steps (suc (2 * e)) (omega (arith, twice_d)) ∙ (odd_step e ∙ h))

  -- the two kinds of places
  place_cases : (x p : ℕ) → Places new n x p → ((e : ℕ) × (p ≡ 2 * e) × (e < d) × (pow (turn A B) e t ≡ x)) ⊎ ((e : ℕ) × (p ≡ suc (2 * e)) × (e < d) × (A (pow (turn A B) e t) ≡ x))
  place_cases x p (l, h) =
      let w : walk m k t p ≡ x = sym (ring.steps p l) ∙ h in
      ⊎_elim
      (λ (e : p % 2 ≡ 0). let q : p ≡ 2 * (p / 2) = omega arith in inl (p / 2, q, omega (arith, twice_d), sym (even_step (p / 2)) ∙ (ap (walk m k t) (sym q) ∙ w)))
      (λ (e : p % 2 ≡ 0 → ⊥). let q : p ≡ suc (2 * (p / 2)) = omega arith in inr (p / 2, q, omega (arith, twice_d), sym (odd_step (p / 2)) ∙ (ap (walk m k t) (sym q) ∙ w)))
      (cases_eq (p % 2) 0)

  same_even : (e f x : ℕ) → e < d → f < d → pow (turn A B) e t ≡ x → pow (turn A B) f t ≡ x → e ≡ f
  same_even e f x l h p q = distinct closes e f l h (p ∙ sym q)

  same_odd : (e f x : ℕ) → e < d → f < d → A (pow (turn A B) e t) ≡ x → A (pow (turn A B) f t) ≡ x → e ≡ f
  same_odd e f x l h p q = distinct closes e f l h (same_a closes (pow (turn A B) e t) (pow (turn A B) f t) (p ∙ sym q))

  single : (x : ℕ) → (Meet closes → ⊥) → Ringed closes x → Counts (Places new n x) 1
  single x none (inl (e, l, h)) =
      counts_one (Places new n x) (2 * e) (even_place x e l h) (λ p s. ⊎_elim (λ (f, q, i, w). q ∙ ap (λ v. 2 * v) (same_even f e x i l w h)) (λ (f, q, i, w). absurd (none (meet_from closes e f (h ∙ sym w)))) (place_cases x p s))
  single x none (inr (e, l, h)) =
      counts_one (Places new n x) (suc (2 * e)) (odd_place x e l h) (λ p s. ⊎_elim (λ (f, q, i, w). absurd (none (meet_from closes f e (w ∙ sym h)))) (λ (f, q, i, w). q ∙ ap (λ v. suc (2 * v)) (same_odd f e x i l w h)) (place_cases x p s))

  both : (x : ℕ) → Even closes x → Odd closes x → Counts (Places new n x) 2
  both x (e, l, h) (o, j, g) =
      counts_two (Places new n x) (2 * e) (suc (2 * o)) (even_place x e l h) (odd_place x o j g) (λ w. omega arith)
      (λ p s. ⊎_elim (λ (f, q, i, w). inl (q ∙ ap (λ v. 2 * v) (same_even f e x i l w h))) (λ (f, q, i, w). inr (q ∙ ap (λ v. suc (2 * v)) (same_odd f o x i j w g))) (place_cases x p s))

  double : (x : ℕ) → Meet closes → Ringed closes x → Counts (Places new n x) 2
  double x w (inl h) = both x h (even_odd closes w x h)
  double x w (inr h) = both x (odd_even closes w x h) h

  all : Encircles m k t n new
  all =
      record {
        only = λ p l. subst (OnRing m k t) (sym (ring.steps p l)) (walked m k above t p);
        once = λ none x h. single x (λ w. let (y, o, f) = fixed_meet closes w in none y (on_orbit y o) f) (orbit_on h);
        twice = λ y o f x h. double x (meet_fixed closes y (orbit_on o) f) (orbit_on h);
      }

pub encircles : (m : Map) → Partners m → (k : ℕ) → 1 ≤ k → (t : ℕ) (r : ℕ × Bool) (old new : List ℕ) → Ring m k t r old new → Encircles m k t r.0 new
encircles m law k above t r old new ring = all m law k above t r.0 r.1 old new ring
