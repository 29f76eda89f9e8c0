-- The record of a slot that is linked in no switch is written: what the records then hold.
use Rattle.std.proofs.Common.{◌≡◌, ℕ, ◌/◌, ◌<◌, Bool, true, cond, eqb, List, length, set, sym, refl, ap, ◌∙◌, subst, inl, inr, arith}
use Rattle.std.proofs.lemmas.List.{length-set}
use Rattle.std.proofs.lemmas.Bool.{cases_Bool, ne_eqb, lt-ltb}
use Rattle.gmap.specs.Acts.{marked}
use Rattle.gmap.specs.Map.{Same, Free}
use Rattle.slips.specs.Links.{says_slot, names, other}
use Rattle.slips.specs.Blocks.{link_at, living, slips_map, belongs, Named, Sound}
use Rattle.slips.specs.declared.record.Record.{Record}
use Rattle.slips.specs.declared.record.Record.TheVariants.{Unused, Slot}
use Rattle.slips.specs.Ends.{opposite_same}
use Rattle.slips.specs.Law.{named_linked}
use Rattle.slips.proofs.Places.{links_still, live_new, belongs_set}

module _ {top size : ℕ} {rs : List Record} {t : ℕ} {r : Record} (live : Bool) (sound : Sound top size rs) (below : t < size) (free : (j : ℕ) → Free (slips_map top size rs) j t) (is : r ≡ cond live Slot Unused) where
  inside : t < length rs
  inside = omega (arith, below, sound.room)

  still : (j l : ℕ) → link_at (set rs t r) size j l ≡ link_at rs size j l
  still = links_still rs size t r below

  says : says_slot r ≡ live
  says = rw is (elim (cases_Bool live) [ inl y ↦ rw y refl | inr z ↦ rw z refl ])

  new_live : (x : ℕ) → living (set rs t r) size x ≡ cond (eqb x t) live (living rs size x)
  new_live x = live_new rs size t r below inside x ∙ ap (λ w. cond (eqb x t) w (living rs size x)) says

  was : (j l x : ℕ) → Named top size (set rs t r) j l x → Named top size rs j l x
  was j l x h = record { switch = h.switch; within = h.within; named = sym (ap (names x) (still j l)) ∙ h.named }

  other_live : (j l x : ℕ) → Named top size rs j l x → living (set rs t r) size x ≡ true
  other_live j l x h =
      let n : x ≡ t → ⊥ = λ e. let P : ℕ → Type 0 = λ z. Named top size rs j l z in named_linked sound j l t (subst P e h) (free j) in
      new_live x ∙ rw (ne_eqb x t n) (sound.alive j l x h)

  belongs_here : belongs top size t r ≡ true
  belongs_here = rw is (elim (cases_Bool live) [ inl y ↦ rw y (lt-ltb t size below) | inr z ↦ rw z refl ])

  pub slot_sound : Sound top size (set rs t r)
  slot_sound = record {
    low = sound.low;
    few = sound.few;
    room = rw (length-set rs t r) sound.room;
    tidy = belongs_set top size rs t r inside belongs_here sound.tidy;
    alive = λ i k x h. other_live i k x (was i k x h);
    apart = λ i k x h e. sound.apart i k x (was i k x h) (ap (other x) (sym (still i k)) ∙ e);
    single = λ i k l w. sound.single i k l (record { end = w.end; one = was i k w.end w.one; two = was i l w.end w.two });
  }

  same_partner : (j x : ℕ) → (slips_map top size (set rs t r)).partner j x ≡ (slips_map top size rs).partner j x
  same_partner j x = rw (opposite_same (link_at (set rs t r) size j) (link_at rs size j) x (size / 2) (λ l g. still j l)) refl

  pub slot_same : Same (slips_map top size (set rs t r)) (marked (slips_map top size rs) t live)
  slot_same = record { size = refl; top = refl; live = new_live; partner = same_partner }
