-- A block has an unused record while two tuples have no link in it.
use Rattle.std.proofs.Common.{◌≡◌, ℕ, ◌+◌, ◌*◌, ◌/◌, ◌%◌, ◌<◌, ◌≤◌, true, false, cond, eqb, ltb, ◌⊎◌, List, sym, refl, ap, ◌∙◌, subst, inl, inr, arith}
use Rattle.std.proofs.lemmas.Bool.{cases_eq, cases_lt, both_ways, eq-eqb, ne_eqb, lt-ltb, le-ltb}
use Rattle.gmap.specs.Acts.{Couple}
use Rattle.gmap.specs.Map.{Free}
use Rattle.gmap.proofs.Pigeon.{pigeon}
use Rattle.slips.specs.Links.{says_something, names, other}
use Rattle.slips.specs.Blocks.{link_at, slips_map, Named, Sound}
use Rattle.slips.specs.declared.record.Record.{Record}
use Rattle.slips.specs.Ends.{lower, names_lower, names_other}
use Rattle.slips.specs.Law.{inside, free_unnamed}
use Rattle.slips.proofs.Places.{no_slot}

-- what holds of a block b of h records that is full, while t and u have no link in it
pub record Crowded (size h t u : ℕ) (b : ℕ → Record) : Type 0 where
  pub halved : size < 2 * h + 2
  pub inside : (k x : ℕ) → k < h → names x (b k) ≡ true → x < size
  pub apart : (k x : ℕ) → k < h → names x (b k) ≡ true → other x (b k) ≡ x → ⊥
  pub single : (k l x : ℕ) → k < h → l < h → names x (b k) ≡ true → names x (b l) ≡ true → k ≡ l
  pub t_below : t < size
  pub u_below : u < size
  pub differ : t ≡ u → ⊥
  pub t_free : (k : ℕ) → k < h → names t (b k) ≡ false
  pub u_free : (k : ℕ) → k < h → names u (b k) ≡ false
  pub full : (k : ℕ) → k < h → names (lower (b k)) (b k) ≡ true

-- end 0 or 1 of a record
abbrev end : ℕ → Record → ℕ
end p r = cond (eqb p 0) (lower r) (other (lower r) r)

names_end : (p : ℕ) (r : Record) → names (lower r) r ≡ true → names (end p r) r ≡ true
names_end p r h = elim (cases_eq p 0) [ inl e ↦ rw (eq-eqb p 0 e) h | inr e ↦ rw (ne_eqb p 0 e) (names_other (lower r) r h) ]

module _ (size h t u : ℕ) (b : ℕ → Record) (c : Crowded size h t u b) where
  -- the ends of the records one after the other, and then t and u: more different slots than there are
  abbrev slots : ℕ → ℕ
  slots j = cond (ltb j (2 * h)) (end (j % 2) (b (j / 2))) (cond (eqb j (2 * h)) t u)

  slots_end : (j : ℕ) → j < 2 * h → slots j ≡ end (j % 2) (b (j / 2))
  slots_end j l = rw (lt-ltb j (2 * h) l) refl

  slots_rest : (j : ℕ) → 2 * h ≤ j → ((slots j ≡ t) × (j ≡ 2 * h)) ⊎ ((slots j ≡ u) × (j ≡ 2 * h → ⊥))
  slots_rest j l = elim (cases_eq j (2 * h)) [ inl e ↦ inl (rw (le-ltb j (2 * h) l, eq-eqb j (2 * h) e) refl, e) | inr e ↦ inr (rw (le-ltb j (2 * h) l, ne_eqb j (2 * h) e) refl, e) ]

  slots_names : (j : ℕ) → j < 2 * h → names (slots j) (b (j / 2)) ≡ true
  slots_names j l = rw (slots_end j l) (names_end (j % 2) (b (j / 2)) (c.full (j / 2) (omega (arith, l))))

  slots_below : (j : ℕ) → j < 2 * h + 2 → slots j < size
  slots_below j l =
      elim (cases_lt j (2 * h)) [
        | inl q ↦ c.inside (j / 2) (slots j) (omega (arith, q)) (slots_names j q)
        | inr q ↦ elim (slots_rest j q) [ inl p ↦ rw p.0 c.t_below | inr p ↦ rw p.0 c.u_below ]
      ]

  -- the two ends of one record
  two_ends : (j l : ℕ) → j < l → l < 2 * h → j / 2 ≡ l / 2 → slots j ≡ slots l → ⊥
  two_ends j l i q s e =
      let k : j / 2 < h = omega (arith, i, q) in
      let even : j % 2 ≡ 0 = omega (arith, i, s) in
      let odd : l % 2 ≡ 0 → ⊥ = λ z. omega (arith, i, s, z, even) in
      let one : slots j ≡ lower (b (j / 2)) = slots_end j (omega (arith, i, q)) ∙ rw (eq-eqb (j % 2) 0 even) refl in
      let two : slots l ≡ other (lower (b (j / 2))) (b (j / 2)) = slots_end l q ∙ (rw (ne_eqb (l % 2) 0 odd) (ap (λ n. other (lower (b n)) (b n)) (sym s))) in
      c.apart (j / 2) (lower (b (j / 2))) k (c.full (j / 2) k) (sym two ∙ (sym e ∙ one))

  slots_apart : (j l : ℕ) → j < l → l < 2 * h + 2 → slots j ≡ slots l → ⊥
  slots_apart j l i q e =
      elim (cases_lt l (2 * h)) [
        | inl z ↦
            let P : ℕ → Type 0 = λ x. names x (b (l / 2)) ≡ true in
            two_ends j l i z (c.single (j / 2) (l / 2) (slots j) (omega (arith, i, z)) (omega (arith, z)) (slots_names j (omega (arith, i, z))) (subst P (sym e) (slots_names l z))) e
        | inr z ↦ elim (cases_lt j (2 * h)) [
          | inl y ↦
              let n = slots_names j y in
              let k : j / 2 < h = omega (arith, y) in
              let P : ℕ → Type 0 = λ x. names x (b (j / 2)) ≡ true in
              elim (slots_rest l z) [
                | inl p ↦ both_ways (names t (b (j / 2))) (c.t_free (j / 2) k) (subst P (e ∙ p.0) n)
                | inr p ↦ both_ways (names u (b (j / 2))) (c.u_free (j / 2) k) (subst P (e ∙ p.0) n)
              ]
          | inr y ↦ elim (slots_rest j y) [
            | inl p ↦ elim (slots_rest l z) [ inl o ↦ absurd (omega (arith, i, y, o.1)) | inr o ↦ c.differ (sym p.0 ∙ (e ∙ o.0)) ]
            | inr p ↦ p.1 (omega (arith, i, q, y))
          ]
        ]
      ]

  pub not_crowded : ⊥
  not_crowded = let p = pigeon size (2 * h + 2) slots slots_below slots_apart in omega (arith, p, c.halved)

-- so a link between two more tuples finds room
pub room_left : {top size : ℕ} {rs : List Record} {i t u : ℕ} → Sound top size rs → Couple (slips_map top size rs) i t u → Free (slips_map top size rs) i t × Free (slips_map top size rs) i u → ((k : ℕ) → k < size / 2 → says_something (link_at rs size i k) ≡ true) → ⊥
room_left {top} {size} {rs} {i} {t} {u} sound two free full =
    let named : (k x : ℕ) → k < size / 2 → names x (link_at rs size i k) ≡ true → Named top size rs i k x = λ k x h e. record { switch = two.switch; within = h; named = e } in
    not_crowded size (size / 2) t u (link_at rs size i) (record {
      halved = omega arith;
      inside = λ k x h e. inside sound x (sound.alive i k x (named k x h e));
      apart = λ k x h e. sound.apart i k x (named k x h e);
      single = λ k l x h g e f. sound.single i k l (record { end = x; one = named k x h e; two = named l x g f });
      t_below = inside sound t two.one;
      u_below = inside sound u two.two;
      differ = two.apart;
      t_free = free_unnamed sound i t two.switch free.0;
      u_free = free_unnamed sound i u two.switch free.1;
      full = λ k h. names_lower (link_at rs size i k) (full k h) (no_slot top size _ (link_at rs size i k) (omega arith) (sound.tidy _));
    })
