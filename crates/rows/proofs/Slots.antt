-- A slot that is linked in no switch and becomes a tuple or vacant: what the numbers then hold.
use Rattle.std.proofs.Common.{◌≡◌, ℕ, ◌+◌, ◌<◌, ◌≤◌, Bool, false, cond, ◌&&◌, eqb, leb, List, sym, refl, ◌∙◌, inl, inr, zero-le, arith}
use Rattle.std.proofs.lemmas.Bool.{cases_Bool, cases_eq, cases_lt, lt-ltb, lt-leb, eq-eqb, ne_eqb, and_right, cond_both}
use Rattle.gmap.specs.Map.{Same, Free}
use Rattle.gmap.specs.Acts.{marked}
use Rattle.rows.specs.Numbers.{number_at, holds, rows_map, Sound, Filled}
use Rattle.rows.proofs.Keeps.{not_vacant, holds_same, partner_same, keeps}

module _ {top size : ℕ} {xs ys : List ℕ} {t v : ℕ} (live : Bool) (sound : Sound top size xs) (below : t < size) (free : (j : ℕ) → Free (rows_map top size xs) j t) (is : v ≡ cond live t 65535) (filled : Filled (top + 1) size t v xs ys) where
  others : (j x : ℕ) → (x ≡ t → ⊥) → x < size → number_at ys size j x ≡ number_at xs size j x
  others j x n l = filled.others j x l (λ p. n p.1)

  here : (j : ℕ) → j ≤ top → number_at ys size j t ≡ v
  here j h = filled.here j (omega (arith, h))

  new_holds : (j x : ℕ) → j ≤ top → holds ys size j x ≡ cond (eqb x t) live (holds xs size 0 x)
  new_holds j x h =
      elim (cases_eq x t) [
        | inl e ↦ rw (e, eq-eqb t t refl, lt-ltb t size below, here j h, is) (elim (cases_Bool live) [ inl y ↦ rw (y, not_vacant sound.few below) refl | inr z ↦ rw z refl ])
        | inr n ↦ rw (ne_eqb x t n) (holds_same size xs ys j x (others j x n) ∙ sound.alike j x h)
      ]

  still_free : (j : ℕ) → Free (rows_map top size ys) j t
  still_free j =
      let live_is : holds ys size 0 t ≡ live = new_holds 0 t zero-le ∙ rw (eq-eqb t t refl) refl in
      elim (cases_lt top j) [
        | inl h ↦ rw (lt-leb j top h) refl
        | inr h ↦ elim (cases_Bool live) [
          | inl y ↦ rw (here j h, is, y) (cond_both (leb j top && holds ys size 0 t) t t (λ z. z ≡ t) (λ _. refl) (λ _. refl))
          | inr z ↦ rw (live_is, z, and_right (leb j top) false refl) refl
        ]
      ]

  same_partners : (j x : ℕ) → (rows_map top size ys).partner j x ≡ (rows_map top size xs).partner j x
  same_partners j x =
      elim (cases_eq x t) [
        | inl e ↦ rw e (still_free j ∙ sym (free j))
        | inr n ↦ partner_same top size xs ys j x (holds_same size xs ys 0 x (others 0 x n)) (others j x n)
      ]

  pub slot_sound : Sound top size ys
  slot_sound = keeps top size xs ys (λ x. cond (eqb x t) live (holds xs size 0 x)) sound filled.long new_holds (λ j x. cc (same_partners j x, same_partners j ((rows_map top size xs).partner j x), sound.back j x))

  pub slot_same : Same (rows_map top size ys) (marked (rows_map top size xs) t live)
  slot_same = record { size = refl; top = refl; live = λ x. new_holds 0 x zero-le; partner = same_partners }
