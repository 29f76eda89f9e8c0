-- A ring turn by turn: room for one more, one turn more, and the end.
use Rattle.std.proofs.Common.{◌≡◌, ℕ, suc, ◌+◌, ◌-◌, ◌*◌, ◌%◌, ◌<◌, ◌≤◌, Bool, true, false, ◌&&◌, ◌⊎◌, List, length, get_or, MatchBool, sym, ap, ◌∙◌, subst, inl, inr, ⊎_elim, arith}
use Rattle.std.proofs.lemmas.Bool.{cases_eq, cases_lt}
use Rattle.gmap.specs.Map.{Map, Partners, Free}
use Rattle.gmap.specs.Rings.{walk, Open, Ring}
use Rattle.ring.specs.Round.{Stays, Turned, Round}
use Rattle.ring.proofs.Pairs.{paired, paired_long, paired_there, paired_before, paired_behind}
use Rattle.ring.proofs.Walks.{to_odd, to_even, walk_turn, walk_soon, stays_open, open_stays}

module _ {m : Map} (law : Partners m) {k t n x : ℕ} (above : 1 ≤ k) {closed : Bool} {old xs : List ℕ} (r : Round m k t n x closed old xs) where
  -- no even step so far is back, up to the last
  on_way : (0 < n → x ≡ t → ⊥) → (p : ℕ) → 0 < p → p ≤ n → p % 2 ≡ 0 → walk m k t p ≡ t → ⊥
  on_way away p s l e h =
      ⊎_elim (λ (q : p ≡ n). away (omega arith) (sym r.at ∙ (ap (walk m k t) (sym q) ∙ h))) (λ (q : p ≡ n → ⊥). r.first p s (omega arith) e h) (cases_eq p n)

  pub round_room : m.live t ≡ true → (0 < n → x ≡ t → ⊥) → n + 2 ≤ 2 * m.size
  round_room live away = walk_soon m law k above t live n r.even (on_way away)

  pub round_done : 0 < n → x ≡ t → n ≤ length old → Ring m k t (n, closed) old xs
  round_done some home fits =
      record {
        even = r.even;
        some = some;
        back = back;
        first = r.first;
        fits = fits;
        long = r.long;
        steps = r.steps;
        rest = r.rest;
        closed = all closed r.leads;
      }
    where
      back : walk m k t n ≡ t
      back = r.at ∙ home

      all : (b : Bool) → MatchBool b ((p : ℕ) → p < n → Stays m k t p → ⊥) ((p : ℕ) × (p < n) × Stays m k t p) → MatchBool b ((p : ℕ) → p < n → Open m k (walk m k t p) → ⊥) ((p : ℕ) × (p < n) × Open m k (walk m k t p))
      all true none = λ p l o. let (q, h, s) = open_stays m law k above t n r.even back p l o in none q h s
      all false some = stays_open m law k above t n some

  module _ (away : 0 < n → x ≡ t → ⊥) (y : ℕ) (leads : Bool) (pair : List ℕ) (w : Turned m k x y leads pair) (room : n + 2 ≤ length xs) (pairs : length pair ≡ 2) where
    abbrev ys : List ℕ
    ys = paired n xs pair room pairs

    two : n + 2 ≡ suc (suc n)
    two = omega arith

    odd : walk m k t (suc n) ≡ m.partner (k - 1) x
    odd = to_odd m law k above t n r.even ∙ ap (m.partner (k - 1)) r.at

    ends : walk m k t (n + 2) ≡ y
    ends = ap (walk m k t) two ∙ (walk_turn m law k above t n r.even ∙ (ap (λ z. m.partner k (m.partner (k - 1) z)) r.at ∙ sym w.next))

    here : get_or ys n 0 ≡ x
    here = let q : n ≡ n + 0 = omega arith in ap (λ j. get_or ys j 0) q ∙ (paired_there n xs pair room pairs 0 (omega arith) ∙ w.here)

    beside : get_or ys (n + 1) 0 ≡ m.partner (k - 1) x
    beside = paired_there n xs pair room pairs 1 (omega arith) ∙ w.beside

    steps : (p : ℕ) → p < n + 2 → get_or ys p 0 ≡ walk m k t p
    steps p l =
        ⊎_elim
        (λ (h : p < n). paired_before n xs pair room pairs p h ∙ r.steps p h)
        (λ (h : n ≤ p). ⊎_elim
        (λ (e : p ≡ n). ap (λ j. get_or ys j 0) e ∙ (here ∙ (sym r.at ∙ ap (walk m k t) (sym e))))
        (λ (e : p ≡ n → ⊥). let q : p ≡ n + 1 = omega arith in let s : suc n ≡ p = omega arith in ap (λ j. get_or ys j 0) q ∙ (beside ∙ (sym odd ∙ ap (walk m k t) s)))
        (cases_eq p n))
        (cases_lt p n)

    -- the turn's steps
    free_first : Stays m k t n → Free m (k - 1) x
    free_first s = ap (m.partner (k - 1)) (sym r.at) ∙ (sym (to_odd m law k above t n r.even) ∙ (s ∙ r.at))

    first_stays : Free m (k - 1) x → Stays m k t n
    first_stays f = odd ∙ (f ∙ sym r.at)

    free_second : Stays m k t (suc n) → Free m k (m.partner (k - 1) x)
    free_second s = ap (m.partner k) (sym odd) ∙ (sym (to_even m law k above t (suc n) (omega (arith, r.even))) ∙ (s ∙ odd))

    second_stays : Free m k (m.partner (k - 1) x) → Stays m k t (suc n)
    second_stays f = to_even m law k above t (suc n) (omega (arith, r.even)) ∙ (ap (m.partner k) odd ∙ (f ∙ sym odd))

    all : (b c : Bool)
        → MatchBool b ((p : ℕ) → p < n → Stays m k t p → ⊥) ((p : ℕ) × (p < n) × Stays m k t p)
        → MatchBool c (Free m (k - 1) x ⊎ Free m k (m.partner (k - 1) x) → ⊥) (Free m (k - 1) x ⊎ Free m k (m.partner (k - 1) x))
        → MatchBool (b && c) ((p : ℕ) → p < n + 2 → Stays m k t p → ⊥) ((p : ℕ) × (p < n + 2) × Stays m k t p)
    all true true none on = λ p l s.
        ⊎_elim
        (λ (h : p < n). none p h s)
        (λ (h : n ≤ p). ⊎_elim
        (λ (e : p ≡ n). on (inl (free_first (subst (Stays m k t) e s))))
        (λ (e : p ≡ n → ⊥). let q : p ≡ suc n = omega arith in on (inr (free_second (subst (Stays m k t) q s))))
        (cases_eq p n))
        (cases_lt p n)
    all true false none (inl f) = (n, omega arith, first_stays f)
    all true false none (inr f) = (suc n, omega arith, second_stays f)
    all false c (p, l, s) on = (p, omega arith, s)

    pub round_more : Round m k t (n + 2) y (closed && leads) old ys
    round_more =
        record {
          even = omega (arith, r.even);
          at = ends;
          first = λ p s l e. on_way away p s (omega (arith, r.even)) e;
          long = paired_long n xs pair room pairs ∙ r.long;
          steps = steps;
          rest = λ p l. paired_behind n xs pair room pairs p l ∙ r.rest p (omega arith);
          leads = all closed leads r.leads w.leads_on;
        }
