-- Slips hold a map that keeps the law of partners.
use Rattle.std.specs.Prelude.{◌≡◌, ℕ, ◌+◌, ◌*◌, ◌/◌, ◌<◌, ◌≤◌, true, false, ◌⊎◌, List, nat_lt, slice_index_or, refl}
use Rattle.std.proofs.Common.{sym, ap, ◌∙◌, inl, inr}
use Rattle.std.proofs.lemmas.Bool.{cases_lt, cases_Bool, both_ways, le-leb, lt-leb, ltb-true, and_parts}
use Rattle.gmap.specs.Map.{Map, Partners, Free}
use Rattle.slips.specs.Links.{names, other}
use Rattle.slips.specs.Blocks.{link_at, living, slips_map, Named, Sound}
use Rattle.slips.specs.declared.record.Record.{Record}
use Rattle.slips.specs.declared.record.Record.TheVariants.{Unused}
use Rattle.slips.specs.Ends.{names_other, other_other, opposite_none, opposite_at, search_block}

module _ {top size : ℕ} {rs : List Record} (sound : Sound top size rs) where
  abbrev m : Map
  m = slips_map top size rs

  high : (i x : ℕ) → top < i → m.partner i x ≡ x
  high i x h = rw (lt-leb i top h) refl

  -- without a link a slot is its own partner, and with one the other end is
  pub unnamed : (i x : ℕ) → ((k : ℕ) → k < size / 2 → names x (link_at rs size i k) ≡ false) → m.partner i x ≡ x
  unnamed i x h = elim (cases_lt top i) [ inl g ↦ high i x g | inr g ↦ rw (le-leb i top g) (opposite_none (link_at rs size i) x (size / 2) h) ]

  pub named_partner : (i k x : ℕ) → Named top size rs i k x → m.partner i x ≡ other x (link_at rs size i k)
  named_partner i k x h =
      rw (le-leb i top h.switch) (opposite_at (link_at rs size i) x (size / 2) k
      (λ l g y. sound.single i l k (record { end = x; one = record { switch = h.switch; within = g; named = y }; two = h })) h.within h.named)

  -- as the record at place p says
  pub partner_read : (i k x p v : ℕ) → Named top size rs i k x → p ≡ size + i * (size / 2) + k → v ≡ other x (slice_index_or rs p Unused) → v ≡ m.partner i x
  partner_read i k x p v h at is = is ∙ (ap (λ q. other x (slice_index_or rs q Unused)) at ∙ sym (named_partner i k x h))

  pub free_or_named : (i x : ℕ) → Free m i x ⊎ ((k : ℕ) × Named top size rs i k x)
  free_or_named i x =
      elim (cases_lt top i) [
        | inl g ↦ inl (high i x g)
        | inr g ↦ elim (search_block (link_at rs size i) x (size / 2)) [
          | inl p ↦ inr (p.0, record { switch = g; within = p.1; named = p.2 })
          | inr h ↦ inl (unnamed i x h)
        ]
      ]

  pub named_linked : (i k x : ℕ) → Named top size rs i k x → Free m i x → ⊥
  named_linked i k x h e = sound.apart i k x h (sym (named_partner i k x h) ∙ e)

  pub free_unnamed : (i x : ℕ) → i ≤ top → Free m i x → (k : ℕ) → k < size / 2 → names x (link_at rs size i k) ≡ false
  free_unnamed i x h e k l =
      elim (cases_Bool (names x (link_at rs size i k))) [ inl y ↦ absurd (named_linked i k x (record { switch = h; within = l; named = y }) e) | inr z ↦ z ]

  pub named_other : (i k x : ℕ) → Named top size rs i k x → Named top size rs i k (other x (link_at rs size i k))
  named_other i k x h = record { switch = h.switch; within = h.within; named = names_other x (link_at rs size i k) h.named }

  pub inside : (t : ℕ) → living rs size t ≡ true → t < size
  inside t h = ltb-true t size (and_parts (nat_lt t size) _ h).0

  pub slips_partners : Partners m
  slips_partners = record {
    few = sound.few;
    low = sound.low;
    inside = inside;
    back = λ i x. elim (free_or_named i x) [
      | inl e ↦ ap (m.partner i) e ∙ e
      | inr p ↦
          ap (m.partner i) (named_partner i p.0 x p.1)
          ∙ (named_partner i p.0 (other x (link_at rs size i p.0)) (named_other i p.0 x p.1) ∙ other_other x (link_at rs size i p.0) p.1.named)
    ];
    alive = λ i x. elim (free_or_named i x) [
      | inl e ↦ ap m.live e
      | inr p ↦
          ap m.live (named_partner i p.0 x p.1)
          ∙ (sound.alive i p.0 (other x (link_at rs size i p.0)) (named_other i p.0 x p.1) ∙ sym (sound.alive i p.0 x p.1))
    ];
    still = λ i x e. elim (free_or_named i x) [ inl h ↦ h | inr p ↦ absurd (both_ways (m.live x) e (sound.alive i p.0 x p.1)) ];
    high = high;
  }
