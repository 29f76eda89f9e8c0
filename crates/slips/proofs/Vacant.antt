-- Unused records hold an empty map.
use Rattle.std.proofs.Common.{◌≡◌, ℕ, ◌<◌, false, ltb, List, get_or, replicate, sym, refl, ap, ◌∙◌, inl, inr, arith}
use Rattle.std.proofs.lemmas.List.{get_or-replicate, get_or_past, length-replicate}
use Rattle.std.proofs.lemmas.Bool.{cases_lt, both_ways, and_right}
use Rattle.gmap.specs.Laying.{slips_need, TooLarge}
use Rattle.gmap.specs.Map.{Fresh}
use Rattle.slips.specs.Links.{names}
use Rattle.slips.specs.Blocks.{slips_map, Named, Sound}
use Rattle.slips.specs.declared.record.Record.{Record}
use Rattle.slips.specs.declared.record.Record.TheVariants.{Unused}

module _ (n : ℕ) (rs : List Record) (is : rs ≡ replicate n Unused) where
  unused : (p : ℕ) → get_or rs p Unused ≡ Unused
  unused p =
      rw is (elim (cases_lt p n) [ inl h ↦ get_or-replicate n p Unused Unused h | inr h ↦ get_or_past (replicate n Unused) p Unused (rw (length-replicate n Unused) h) ])

  none : (top size i k x : ℕ) → Named top size rs i k x → ⊥
  none top size i k x h = both_ways false refl (sym (ap (names x) (unused _)) ∙ h.named)

  pub vacant_fresh : (top size : ℕ) → Fresh (slips_map top size rs)
  vacant_fresh top size t = rw (unused t) (and_right (ltb t size) false refl)

  pub vacant_sound : (top size : ℕ) → (TooLarge n (slips_need top size) top size → ⊥) → Sound top size rs
  vacant_sound top size fits = record {
    low = let h : 7 < top → ⊥ = λ l. fits (inl l) in omega arith;
    few = let h : 4096 < size → ⊥ = λ l. fits (inr (inl l)) in omega arith;
    room = let h : n < slips_need top size → ⊥ = λ l. fits (inr (inr l)) in rw (is, length-replicate) (omega arith);
    tidy = λ p. rw (unused p) refl;
    alive = λ i k x h. absurd (none top size i k x h);
    apart = λ i k x h e. none top size i k x h;
    single = λ i k l w. absurd (none top size i k w.end w.one);
  }
