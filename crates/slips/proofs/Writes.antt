-- A record of a block is written: what the records then hold.
use Rattle.std.proofs.Common.{◌≡◌, ℕ, ◌+◌, ◌*◌, ◌/◌, ◌<◌, ◌≤◌, true, false, ◌⊎◌, List, length, set, sym, refl, ap, ◌∙◌, inl, inr, arith}
use Rattle.std.proofs.lemmas.List.{get_or-set_same, length-set}
use Rattle.std.proofs.lemmas.Bool.{cases_Bool, cases_eq, both_ways, eq-eqb, ne_eqb, and_from, le-leb, lt-ltb}
use Rattle.gmap.specs.Acts.{Couple, tied, untied}
use Rattle.gmap.specs.Laying.{slips_need}
use Rattle.gmap.specs.Map.{Map, Same, Free}
use Rattle.slips.specs.Links.{says_something, says_slot, names, other}
use Rattle.slips.specs.Blocks.{link_at, living, slips_map, belongs, Named, Single, Sound}
use Rattle.slips.specs.declared.record.Record.{Record}
use Rattle.slips.specs.declared.record.Record.TheVariants.{Unused, Slot, Link}
use Rattle.slips.specs.Ends.{ends, names_one, names_two, names_other, other_one, other_two, not_end, either_end, unused_names, opposite_same, search_block}
use Rattle.slips.specs.Law.{unnamed, named_partner, free_unnamed}
use Rattle.slips.proofs.Places.{At, in_room, cases_at, link_else, live_still, belongs_set}

-- r may stand at place k of block i
pub record Admits (size : ℕ) (rs : List Record) (i k : ℕ) (r : Record) : Type 0 where
  pub kind : says_slot r ≡ false
  pub tuples : (x : ℕ) → names x r ≡ true → living rs size x ≡ true
  pub differ : (x : ℕ) → names x r ≡ true → other x r ≡ x → ⊥
  pub alone : (l x : ℕ) → l < size / 2 → (l ≡ k → ⊥) → names x r ≡ true → names x (link_at rs size i l) ≡ false

pub admits_unused : {size : ℕ} {rs : List Record} {i k : ℕ} → Admits size rs i k Unused
admits_unused = record {
  kind = refl;
  tuples = λ x h. absurd (both_ways false refl h);
  differ = λ x h e. both_ways false refl h;
  alone = λ l x g n h. absurd (both_ways false refl h);
}

pub admits_link : {top size : ℕ} {rs : List Record} {i k t u : ℕ} → Sound top size rs → Couple (slips_map top size rs) i t u → Free (slips_map top size rs) i t × Free (slips_map top size rs) i u → Admits size rs i k (Link t u)
admits_link {size = size} {rs = rs} {i = i} {t = t} {u = u} sound two free = record {
  kind = refl;
  tuples = λ x n. elim (ends x t u n) [ inl e ↦ rw e two.one | inr e ↦ rw e.0 two.two ];
  differ = λ x n q. elim (ends x t u n) [ inl e ↦ two.apart (cc (other_one t u)) | inr e ↦ two.apart (cc (other_two t u)) ];
  alone = λ l x b n m. elim (ends x t u m) [
    | inl e ↦ rw e (free_unnamed sound i t two.switch free.0 l b)
    | inr e ↦ rw e.0 (free_unnamed sound i u two.switch free.1 l b)
  ];
}

-- a block is where links belong
link_belongs : (top size i k : ℕ) (r : Record) → i ≤ top → k < size / 2 → says_slot r ≡ false → belongs top size (size + i * (size / 2) + k) r ≡ true
link_belongs top size i k Unused h l s = refl
link_belongs top size i k Slot h l s = absurd (both_ways true s refl)
link_belongs top size i k (Link t u) h l s =
    and_from _ _ (le-leb size (size + i * (size / 2) + k) (omega arith)) (lt-ltb (size + i * (size / 2) + k) (slips_need top size) (in_room top size (slips_need top size) i k (omega arith) h l))

module _ {top size : ℕ} {rs : List Record} {i k p : ℕ} {r : Record} (sound : Sound top size rs) (switch : i ≤ top) (within : k < size / 2) (at : p ≡ size + i * (size / 2) + k) (ok : Admits size rs i k r) where
  abbrev ss : List Record
  ss = set rs p r

  inside : size + i * (size / 2) + k < length rs
  inside = in_room top size (length rs) i k sound.room switch within

  here : (j l : ℕ) → At i k j l → link_at ss size j l ≡ r
  here j l q = rw (at, q.0, q.1) (get_or-set_same rs (size + i * (size / 2) + k) r Unused inside)

  else : (j l : ℕ) → l < size / 2 → (At i k j l → ⊥) → link_at ss size j l ≡ link_at rs size j l
  else j l g n = rw at (link_else rs size i k r within j l g n)

  live : (x : ℕ) → living ss size x ≡ living rs size x
  live x = rw at (live_still rs size i k r within x)

  -- a link after the write is the new one, or was there before
  was : (j l x : ℕ) → Named top size ss j l x → (At i k j l × (names x r ≡ true)) ⊎ (Named top size rs j l x × (At i k j l → ⊥))
  was j l x h =
      elim (cases_at i k j l) [
        | inl p ↦ inl (p, sym (ap (names x) (here j l p)) ∙ h.named)
        | inr n ↦ inr (record { switch = h.switch; within = h.within; named = sym (ap (names x) (else j l h.within n)) ∙ h.named }, n)
      ]

  alone : (j l x : ℕ) → At i k j k → names x r ≡ true → Named top size rs j l x → (l ≡ k → ⊥) → ⊥
  alone j l x a m h n = both_ways (names x (link_at rs size i l)) (ok.alone l x h.within n m) (sym (ap (λ z. names x (link_at rs size z l)) a.0) ∙ h.named)

  single : Single top size ss
  single j l l' w =
      elim (was j l w.end w.one) [
        | inl a ↦ elim (was j l' w.end w.two) [
          | inl b ↦ a.0.1 ∙ sym b.0.1
          | inr b ↦ absurd (alone j l' w.end (a.0.0, refl) a.1 b.0 (λ e. b.1 (a.0.0, e)))
        ]
        | inr a ↦ elim (was j l' w.end w.two) [
          | inl b ↦ absurd (alone j l w.end (b.0.0, refl) b.1 a.0 (λ e. a.1 (b.0.0, e)))
          | inr b ↦ sound.single j l l' (record { end = w.end; one = a.0; two = b.0 })
        ]
      ]

  pub link_sound : Sound top size ss
  link_sound = record {
    low = sound.low;
    few = sound.few;
    room = rw (at, length-set) sound.room;
    tidy = rw at (belongs_set top size rs (size + i * (size / 2) + k) r inside (link_belongs top size i k r switch within ok.kind) sound.tidy);
    alive = λ j l x h. live x ∙ elim (was j l x h) [ inl a ↦ ok.tuples x a.1 | inr a ↦ sound.alive j l x a.0 ];
    apart = λ j l x h e. elim (was j l x h) [
      | inl a ↦ ok.differ x a.1 (ap (other x) (sym (here j l a.0)) ∙ e)
      | inr a ↦ sound.apart j l x a.0 (ap (other x) (sym (else j l h.within a.1)) ∙ e)
    ];
    single = single;
  }

  abbrev m : Map
  m = slips_map top size rs

  abbrev m' : Map
  m' = slips_map top size ss

  -- other switches, and tuples that neither the old nor the new record names, keep their partners
  elsewhere : (j x : ℕ) → (j ≡ i → ⊥) → m'.partner j x ≡ m.partner j x
  elsewhere j x n = rw (opposite_same (link_at ss size j) (link_at rs size j) x (size / 2) (λ l g. else j l g (λ p. n p.0))) refl

  untouched : (x : ℕ) → names x r ≡ false → names x (link_at rs size i k) ≡ false → m'.partner i x ≡ m.partner i x
  untouched x new old =
      elim (search_block (link_at rs size i) x (size / 2)) [
        | inl p ↦
            let n : p.0 ≡ k → ⊥ = λ e. both_ways (names x (link_at rs size i k)) old (sym (ap (λ z. names x (link_at rs size i z)) e) ∙ p.2) in
            let q : link_at ss size i p.0 ≡ link_at rs size i p.0 = else i p.0 p.1 (λ z. n z.1) in
            named_partner link_sound i p.0 x (record { switch = switch; within = p.1; named = ap (names x) q ∙ p.2 })
            ∙ (ap (other x) q ∙ sym (named_partner sound i p.0 x (record { switch = switch; within = p.1; named = p.2 })))
        | inr h ↦
            unnamed link_sound i x (λ l g. elim (cases_at i k i l) [ inl p ↦ ap (names x) (here i l p) ∙ new | inr n ↦ ap (names x) (else i l g n) ∙ h l g ])
            ∙ sym (unnamed sound i x h)
      ]

  new_end : (x : ℕ) → names x r ≡ true → m'.partner i x ≡ other x r
  new_end x h = named_partner link_sound i k x (record { switch = switch; within = within; named = ap (names x) (here i k (refl, refl)) ∙ h }) ∙ ap (other x) (here i k (refl, refl))

  old_end : (x : ℕ) → names x (link_at rs size i k) ≡ true → names x r ≡ false → m'.partner i x ≡ x
  old_end x old new =
      unnamed link_sound i x (λ l g. elim (cases_at i k i l) [
        | inl p ↦ ap (names x) (here i l p) ∙ new
        | inr n ↦ ap (names x) (else i l g n) ∙ elim (cases_Bool (names x (link_at rs size i l))) [
          | inl y ↦ absurd (n (refl, sound.single i l k (record { end = x; one = record { switch = switch; within = g; named = y }; two = record { switch = switch; within = within; named = old } })))
          | inr z ↦ z
        ]
      ])

module _ {top size : ℕ} {rs : List Record} {i k p : ℕ} (sound : Sound top size rs) (switch : i ≤ top) (within : k < size / 2) (at : p ≡ size + i * (size / 2) + k) where
  -- a link in place of an unused record
  pub tie_same : (t u : ℕ) → Admits size rs i k (Link t u) → says_something (link_at rs size i k) ≡ false → Same (slips_map top size (set rs p (Link t u))) (tied (slips_map top size rs) i t u)
  tie_same t u ok free = record {
    size = refl;
    top = refl;
    live = live sound switch within at ok;
    partner = λ j x. elim (cases_eq j i) [
      | inr d ↦ rw (ne_eqb j i d) (elsewhere sound switch within at ok j x d)
      | inl d ↦ rw (d, eq-eqb i i refl) (elim (cases_eq x t) [
        | inl e ↦ rw (e, eq-eqb t t refl) (new_end sound switch within at ok t (names_one t u) ∙ other_one t u)
        | inr e ↦ rw (ne_eqb x t e) (elim (cases_eq x u) [
          | inl f ↦ rw (f, eq-eqb u u refl) (new_end sound switch within at ok u (names_two t u) ∙ other_two t u)
          | inr f ↦ rw (ne_eqb x u f) (untouched sound switch within at ok x (not_end x t u e f) (unused_names x (link_at rs size i k) free))
        ])
      ])
    ];
  }

  -- an unused record in place of a link of t
  pub untie_same : (t : ℕ) → names t (link_at rs size i k) ≡ true → Same (slips_map top size (set rs p Unused)) (untied (slips_map top size rs) i t)
  untie_same t h =
      let ok : Admits size rs i k Unused = admits_unused in
      let u = other t (link_at rs size i k) in
      record {
        size = refl;
        top = refl;
        live = live sound switch within at ok;
        partner = λ j x. rw (named_partner sound i k t (record { switch = switch; within = within; named = h })) (elim (cases_eq j i) [
          | inr d ↦ rw (ne_eqb j i d) (elsewhere sound switch within at ok j x d)
          | inl d ↦ rw (d, eq-eqb i i refl) (elim (cases_eq x t) [
            | inl e ↦ rw (e, eq-eqb t t refl) (old_end sound switch within at ok t h refl)
            | inr e ↦ rw (ne_eqb x t e) (elim (cases_eq x u) [
              | inl f ↦ rw (f, eq-eqb u u refl) (old_end sound switch within at ok u (names_other t (link_at rs size i k) h) refl)
              | inr f ↦ rw (ne_eqb x u f) (untouched sound switch within at ok x refl (elim (cases_Bool (names x (link_at rs size i k))) [
                | inl y ↦ absurd (elim (either_end x t (link_at rs size i k) h y) [ inl z ↦ e z | inr z ↦ f z ])
                | inr z ↦ z
              ]))
            ])
          ])
        ]);
      }
