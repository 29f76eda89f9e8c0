-- The used records are those of the tuples and of the links, each once.
use Rattle.std.proofs.Common.{◌≡◌, ℕ, ◌+◌, ◌-◌, ◌*◌, ◌/◌, ◌<◌, ◌≤◌, true, cond, ltb, List, length, get_or, sym, refl, ap, ◌∙◌, subst, inl, inr, add-zero, add_assoc, arith}
use Rattle.std.specs.List.{filter}
use Rattle.std.proofs.lemmas.Bool.{and_from, and_parts, lt-ltb, cond-false}
use Rattle.gmap.specs.Laying.{slips_need}
use Rattle.gmap.specs.Listing.{Counts}
use Rattle.gmap.specs.Map.{Map}
use Rattle.gmap.proofs.Counting.{counts_like}
use Rattle.slips.specs.Links.{says_something, says_slot, other}
use Rattle.slips.specs.Blocks.{link_at, slips_map, Named, Sound}
use Rattle.slips.specs.Uses.{up_to, Uses}
use Rattle.slips.specs.declared.record.Record.{Record}
use Rattle.slips.specs.declared.record.Record.TheVariants.{Unused}
use Rattle.slips.specs.Ends.{lower, names_lower, names_used, lower_below, lower_is}
use Rattle.slips.specs.Law.{inside, named_partner, free_or_named}
use Rattle.slips.proofs.Places.{no_slot, used_slot, unused_behind}
use Rattle.slips.proofs.Sums.{Placed, sum_none, sum_parts, sum_blocks, sum_counts, filter_sum}

whole : (a n : ℕ) → a ≤ n → n ≡ a + (n - a)
whole a n h = omega arith

module _ {top size : ℕ} {rs : List Record} (sound : Sound top size rs) where
  abbrev m : Map
  m = slips_map top size rs

  abbrev mark : ℕ → ℕ
  mark p = cond (says_something (get_or rs p Unused)) 1 0

  slot_is : (t : ℕ) → t < size → says_something (get_or rs t Unused) ≡ says_slot (get_or rs t Unused)
  slot_is t h = used_slot top size t (get_or rs t Unused) h (sound.tidy t)

  tuples_counted : Counts (λ t. m.live t ≡ true) (up_to mark size)
  tuples_counted =
      counts_like (Placed (λ t. says_something (get_or rs t Unused)) (λ t. t) size) (λ t. m.live t ≡ true) (up_to mark size)
      (λ x p. rw (← p.is) (and_from (ltb p.place size) (says_slot (get_or rs p.place Unused)) (lt-ltb p.place size p.within) (sym (slot_is p.place p.within) ∙ p.passes)))
      (λ x y. record { place = x; within = inside sound x y; passes = slot_is x (inside sound x y) ∙ (and_parts (ltb x size) (says_slot (get_or rs x Unused)) y).1; is = refl })
      (sum_counts (λ t. says_something (get_or rs t Unused)) (λ t. t) size (λ k l h b y e. omega (arith, h, e)))

  lower_named : (i k : ℕ) → i ≤ top → k < size / 2 → says_something (link_at rs size i k) ≡ true → Named top size rs i k (lower (link_at rs size i k))
  lower_named i k s h y = record {
    switch = s;
    within = h;
    named = names_lower (link_at rs size i k) y (no_slot top size (size + i * (size / 2) + k) (link_at rs size i k) (omega arith) (sound.tidy (size + i * (size / 2) + k)));
  }

  -- x is the lower end of a link in i
  abbrev Lower : ℕ → ℕ → Type 0
  Lower i x = Placed (λ k. says_something (link_at rs size i k)) (λ k. lower (link_at rs size i k)) (size / 2) x

  lower_leads : (i : ℕ) → i ≤ top → (x : ℕ) → Lower i x → x < m.partner i x
  lower_leads i s x p =
      let P : ℕ → Type 0 = λ z. Named top size rs i p.place z in
      let named : Named top size rs i p.place x = subst P p.is (lower_named i p.place s p.within p.passes) in
      rw (named_partner sound i p.place x named) (lower_below x (link_at rs size i p.place) p.is named.named (sound.apart i p.place x named))

  leads_lower : (i x : ℕ) → x < m.partner i x → Lower i x
  leads_lower i x l =
      elim (free_or_named sound i x) [
        | inl e ↦ absurd (omega (arith, l, e))
        | inr p ↦
            let q : x < other x (link_at rs size i p.0) = rw (← named_partner sound i p.0 x p.1) l in
            record { place = p.0; within = p.1.within; passes = names_used x (link_at rs size i p.0) p.1.named; is = lower_is x (link_at rs size i p.0) p.1.named q }
      ]

  lower_apart : (i : ℕ) → i ≤ top → (k l : ℕ) → k < l → l < size / 2 → (says_something (link_at rs size i k) ≡ true) × (says_something (link_at rs size i l) ≡ true) → lower (link_at rs size i k) ≡ lower (link_at rs size i l) → ⊥
  lower_apart i s k l h b y e =
      let P : ℕ → Type 0 = λ z. Named top size rs i k z in
      let q : k ≡ l = sound.single i k l (record { end = lower (link_at rs size i l); one = subst P e (lower_named i k s (omega (arith, h, b)) y.0); two = lower_named i l s b y.1 }) in
      omega (arith, h, q)

  links_counted : (i : ℕ) → i ≤ top → Counts (λ t. t < m.partner i t) (up_to (λ k. mark (size + i * (size / 2) + k)) (size / 2))
  links_counted i s =
      counts_like (Lower i) (λ t. t < m.partner i t) (up_to (λ k. mark (size + i * (size / 2) + k)) (size / 2)) (lower_leads i s) (leads_lower i)
      (sum_counts (λ k. says_something (link_at rs size i k)) (λ k. lower (link_at rs size i k)) (size / 2) (lower_apart i s))

  -- the records of the slots, those of the blocks, and what lies behind
  slots_and_blocks : up_to mark (slips_need top size) ≡ up_to mark size + up_to (λ i. up_to (λ k. mark (size + i * (size / 2) + k)) (size / 2)) (top + 1)
  slots_and_blocks =
      sum_parts mark size ((top + 1) * (size / 2))
      ∙ ap (λ n. up_to mark size + n) (sum_blocks (λ k. mark (size + k)) (size / 2) (top + 1) ∙ simp add_assoc)

  nothing_behind : (n : ℕ) → up_to (λ k. mark (slips_need top size + k)) n ≡ 0
  nothing_behind n =
      sum_none (λ k. mark (slips_need top size + k)) n
      (λ k. cond-false (says_something (get_or rs (slips_need top size + k) Unused)) 1 0 (unused_behind top size (slips_need top size + k) (get_or rs (slips_need top size + k) Unused) (omega arith) (sound.tidy (slips_need top size + k))))

  parts : up_to mark (length rs) ≡ up_to mark size + up_to (λ i. up_to (λ k. mark (size + i * (size / 2) + k)) (size / 2)) (top + 1)
  parts =
      ap (up_to mark) (whole (slips_need top size) (length rs) sound.room)
      ∙ (sum_parts mark (slips_need top size) (length rs - slips_need top size)
      ∙ (ap (λ n. up_to mark (slips_need top size) + n) (nothing_behind (length rs - slips_need top size)) ∙ (add-zero (up_to mark (slips_need top size)) ∙ slots_and_blocks)))

  pub slips_use : (n : ℕ) → n ≡ length (filter says_something rs) → Uses m n
  slips_use n is = record {
    tuples = up_to mark size;
    links = λ i. up_to (λ k. mark (size + i * (size / 2) + k)) (size / 2);
    live = tuples_counted;
    linked = links_counted;
    all = is ∙ (filter_sum says_something Unused rs ∙ parts);
  }
