-- A walk across a list leads to one tuple, leads back the same way, and is out after as many steps as the list has tuples.
use Rattle.std.proofs.Common.{◌≡◌, ℕ, zero, suc, ◌+◌, ◌<◌, ◌≤◌, List, length, get_or, sym, refl, ap, ◌∙◌, ⊎_elim, add-one, arith, below_more}
use Rattle.std.proofs.lemmas.Bool.{cases_lt}
use Rattle.gmap.specs.Map.{Map, Partners}
use Rattle.gmap.specs.Orbits.{Cell}
use Rattle.gmap.specs.Removing.{Leads, out as leads_out, on as leads_on}
use Rattle.gmap.proofs.Listing.{among_cases}
use Rattle.gmap.proofs.Pigeon.{pigeon}
use Rattle.removal.specs.Crossing.{In, onward, Crosses, out, on, Trail, Lands}
use Rattle.removal.specs.Stages.{Celled}

-- across the tuples of a cell, the walk is that of a removal
pub crosses_leads : {m : Map} {i t : ℕ} {xs : List ℕ} → ((x : ℕ) → In xs x → Cell m i t x) → ((x : ℕ) → Cell m i t x → In xs x) → {x y : ℕ} → Crosses m i xs x y → Leads m i t x y
crosses_leads to fro (out {x} q) = leads_out (λ p. q (fro x p))
crosses_leads to fro (on {x} p o) = leads_on (to x p) (crosses_leads to fro o)

module _ {m : Map} (law : Partners m) {i : ℕ} {xs : List ℕ} (cell : Celled m i xs) where
  above : (x : ℕ) → In xs x → In xs (m.partner (i + 1) x)
  above x p = ⊎_elim (λ a. a) (λ q. absurd (cell.closed (i + 1) _ (λ e. omega arith) q (rw law.back p))) (among_cases xs (length xs) (m.partner (i + 1) x))

  pub crosses_off : {x y : ℕ} → Crosses m i xs x y → In xs y → ⊥
  crosses_off (out q) = q
  crosses_off (on p o) = crosses_off o

  pub crosses_single : {x y z : ℕ} → Crosses m i xs x y → Crosses m i xs x z → y ≡ z
  crosses_single (out q) (out p) = refl
  crosses_single (out q) (on p o) = absurd (q p)
  crosses_single (on p o) (out q) = absurd (q p)
  crosses_single (on p o) (on q r) = crosses_single o r

  -- what leads on from the start backwards leads on from the end backwards too
  pub crosses_back : (x : ℕ) {y z : ℕ} → Crosses m i xs y z → Crosses m i xs (m.partner i y) x → Crosses m i xs (m.partner i z) x
  crosses_back x (out q) b = b
  crosses_back x (on {x = y} p o) b =
      crosses_back x o (rw (law.back i (m.partner (i + 1) y)) (on (above y p) (rw (← law.back (i + 1) y) at b)))

  -- a walk that was on the list comes out of it
  pub crosses_beside : {x y : ℕ} → In xs x → Crosses m i xs x y → In xs (m.partner i y)
  crosses_beside p (out q) = absurd (q p)
  crosses_beside p (on {x} q (out r)) = rw (law.back i (m.partner (i + 1) x)) (above x q)
  crosses_beside p (on q (on r o)) = crosses_beside r (on r o)

  -- what the walk from x has met so far is on the list
  abbrev Met : ℕ → ℕ → Type 0
  Met x k = (l : ℕ) → l < k → In xs (onward m i x l)

  -- what leads on from where the walk is leads on from its start
  onward_crosses : (x k : ℕ) {y : ℕ} → Met x k → Crosses m i xs (onward m i x k) y → Crosses m i xs (m.partner i x) y
  onward_crosses x zero met o = o
  onward_crosses x (suc k) met o = onward_crosses x k (λ l h. met l (omega arith)) (on (met k (omega arith)) o)

  module _ {x : ℕ} (off : In xs x → ⊥) where
    -- the tuples met on the list are different
    onward_apart : (k l : ℕ) → k < l → Met x l → onward m i x k ≡ onward m i x l → ⊥
    onward_apart k zero h met e = omega arith
    onward_apart zero (suc l) h met e =
        off (rw (sym (law.back i x) ∙ ap (m.partner i) e ∙ law.back i _) (above _ (met l (omega arith))))
    onward_apart (suc k) (suc l) h met e =
        onward_apart k l (omega arith) (λ n b. met n (omega arith))
        (sym (law.back (i + 1) _) ∙ ap (m.partner (i + 1)) (sym (law.back i _) ∙ ap (m.partner i) e ∙ law.back i _) ∙ law.back (i + 1) _)

    -- the list has no room for one more
    onward_room : Met x (length xs + 1) → ⊥
    onward_room met =
        let n = length xs in
        let at : (k : ℕ) → (p : ℕ) × (k < n + 1 → (p < n) × (get_or xs p 0 ≡ onward m i x k)) = λ k. ⊎_elim (λ h. let (p, l, e) = met k h in (p, λ _. (l, e))) (λ h. (0, λ l. absurd (omega arith))) (cases_lt k (n + 1)) in
        let room : n + 1 ≤ n = pigeon n (n + 1) (λ k. (at k).0) (λ k h. ((at k).1 h).0) (λ k l h b e. onward_apart k l h (λ p q. met p (omega arith)) (sym ((at k).1 (omega arith)).1 ∙ ap (λ z. get_or xs z 0) e ∙ ((at l).1 b).1)) in
        omega arith

    module _ {k y : ℕ} (s : Trail m i xs x k y) where
      pub trail_more : In xs y → (z : ℕ) → z ≡ m.partner i (m.partner (i + 1) y) → Trail m i xs x (k + 1) z
      trail_more p z e =
          record {
            here = e ∙ ap (λ w. m.partner i (m.partner (i + 1) w)) s.here ∙ ap (onward m i x) (sym (add-one k));
            before = below_more (λ l. In xs (onward m i x l)) k s.before (rw (← s.here) p);
          }

      pub trail_out : (In xs y → ⊥) → Lands m i xs x y
      trail_out q = record { inside = λ p. absurd (off p); outside = λ _. onward_crosses x k s.before (rw (← s.here) (out q)) }

      -- a walk that has taken as many steps as the list has tuples is out
      pub trail_end : length xs ≤ k → Lands m i xs x y
      trail_end h = trail_out (λ p. onward_room (λ l b. below_more (λ v. In xs (onward m i x v)) k s.before (rw (← s.here) p) l (omega arith)))
