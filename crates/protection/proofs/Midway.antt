-- A map on its way to a goal: where a link of switch k is yet to be tied, a join ties it and nothing that the goal has not.
use Rattle.std.proofs.Common.{◌≡◌, ℕ, suc, ◌<◌, ◌≤◌, true, ◌≢◌, ◌⊎◌, sym, ap, ◌∙◌, subst, inl, inr, ⊎_elim, arith}
use Rattle.std.proofs.lemmas.Bool.{cases_eq, cases_lt}
use Rattle.gmap.specs.Map.{Map, Partners, Free, Lawful}
use Rattle.gmap.specs.Building.{given, Fits, Joined}
use Rattle.protection.specs.Ties.{Ties}
use Rattle.protection.proofs.Cases.{by_fact, not_false_true}
use Rattle.protection.proofs.Switches.{at_each}
use Rattle.protection.proofs.Pairs.{Touched}
use Rattle.protection.proofs.Joining.{Joinable, untouched, join_partners, join_lawful, join_least, ties_fits}
use Rattle.protection.proofs.Upto.{upto, upto_in, upto_out, upto_partners, upto_lawful}

-- switches below k are as in the goal, those above link nothing, and k has some of its links
pub record Midway (goal : Map) (k : ℕ) (m : Map) : Type 0 where
  pub size : m.size ≡ goal.size
  pub top : m.top ≡ goal.top
  pub live : (x : ℕ) → m.live x ≡ goal.live x
  pub under : (j : ℕ) → j < k → (x : ℕ) → m.partner j x ≡ goal.partner j x
  pub over : (j : ℕ) → k < j → (x : ℕ) → m.partner j x ≡ x
  pub some : (x : ℕ) → (m.partner k x ≡ x) ⊎ (m.partner k x ≡ goal.partner k x)
  pub law : Partners m
  pub lawful : Lawful m

-- those of the slots below s among them
abbrev pub Done : Map → ℕ → ℕ → Map → Type 0
Done goal k s m = (x : ℕ) → x < s → m.partner k x ≡ goal.partner k x

pub done_more : (goal m : Map) (k s : ℕ) → Done goal k s m → m.partner k s ≡ goal.partner k s → Done goal k (suc s) m
done_more goal m k s h e x l = ⊎_elim (λ (q : x ≡ s). subst (λ z. m.partner k z ≡ goal.partner k z) (sym q) e) (λ (q : x ≡ s → ⊥). h x (omega arith)) (cases_eq x s)

-- a slot whose link in k is yet to be tied can be joined with its partner in the goal
module _ (goal : Map) (law : Partners goal) (lawful : Lawful goal) (k s : ℕ) (m : Map) (b : Midway goal k m) (ne : m.partner k s ≢ goal.partner k s) where
  abbrev u : ℕ
  u = goal.partner k s

  s_free : Free m k s
  s_free = ⊎_elim (λ e. e) (λ e. absurd (ne e)) (b.some s)

  u_new : u ≢ s
  u_new e = ne (s_free ∙ sym e)

  u_free : Free m k u
  u_free = ⊎_elim (λ e. e) (λ e. absurd (u_new (sym (b.law.back k u) ∙ (ap (m.partner k) (e ∙ law.back k s) ∙ s_free)))) (b.some u)

  pub s_live : goal.live s ≡ true
  s_live = not_false_true (goal.live s) (λ e. u_new (law.still k s e))

  pub u_live : goal.live u ≡ true
  u_live = law.alive k s ∙ s_live

  pub k_known : k ≤ goal.top
  k_known = let h : goal.top < k → ⊥ = λ h. u_new (law.high k s h) in omega arith

  pub able : Joinable m k s u
  able = record { switch = omega (arith, k_known, b.top); left = b.live s ∙ s_live; right = b.live u ∙ u_live; apart = λ e. u_new (sym e); left_free = s_free; right_free = u_free }

  here : (x : ℕ) → (upto goal k).partner k x ≡ goal.partner k x
  here = upto_in goal k k (omega arith)

  others : (j x : ℕ) → j ≢ k → (upto goal k).partner j x ≡ m.partner j x
  others j x e = ⊎_elim (λ (h : j < k). upto_in goal k j (omega arith) x ∙ sym (b.under j h x)) (λ (h : k ≤ j). upto_out goal k j (omega arith) x ∙ sym (b.over j (omega arith) x)) (cases_lt j k)

  ties : Ties m k s u (upto goal k)
  unfolding upto
  ties =
      record {
        partners = upto_partners goal k law;
        lawful = upto_lawful goal k lawful;
        frame = record { size = sym b.size; top = sym b.top; live = λ t. sym (b.live t); others = others };
        keeps = at_each k (λ j. (x : ℕ) → (Free m j x → ⊥) → (upto goal k).partner j x ≡ m.partner j x)
            (λ x q. here x ∙ ⊎_elim (λ (e : m.partner k x ≡ x). absurd (q e)) (λ (e : m.partner k x ≡ goal.partner k x). sym e) (b.some x))
            (λ j e x q. others j x e);
        tie = here s;
      }

  pub fits : Fits m k s u
  fits = ties_fits m (upto goal k) k s u b.lawful s_free u_free ties

  -- what the join leaves is midway too
  module _ (n : ℕ) (m' : Map) (j : Joined m k s u n m') where
    some_too : (x : ℕ) → (m'.partner k x ≡ x) ⊎ (m'.partner k x ≡ goal.partner k x)
    some_too x = ⊎_elim (λ (e : m'.partner k x ≡ x). inl e) (λ (e : m'.partner k x ≡ x → ⊥). inr (sym (join_least m k s u n m' (upto goal k) j ties k x e) ∙ here x)) (cases_eq (m'.partner k x) x)

    pub linked : Midway goal k m'
    linked =
        record {
          size = j.frame.size ∙ b.size;
          top = j.frame.top ∙ b.top;
          live = λ x. j.frame.live x ∙ b.live x;
          under = λ i h x. j.frame.others i x (λ e. omega arith) ∙ b.under i h x;
          over = λ i h x. j.frame.others i x (λ e. omega arith) ∙ b.over i h x;
          some = some_too;
          law = join_partners m k s u n m' j b.law able fits;
          lawful = join_lawful m k s u n m' j b.law b.lawful;
        }

    pub linked_done : Done goal k s m → Done goal k (suc s) m'
    linked_done d =
        done_more goal m' k s
        (λ x l. by_fact (Touched m k s u x) (m'.partner k x) (goal.partner k x)
        (λ w. ⊎_elim (λ (q : m'.partner k x ≡ x). q ∙ sym (sym (d x l) ∙ fits.loose x w.0 w.1)) (λ (q : m'.partner k x ≡ goal.partner k x). q) (some_too x))
        (λ q. untouched m k s u n m' j x q ∙ d x l))
        (j.ties s u given)
