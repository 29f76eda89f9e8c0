-- Rows hold a map that keeps the law of partners.
use Rattle.std.specs.Prelude.{◌≡◌, ℕ, false, List, nat_le, nat_lt, refl}
use Rattle.std.proofs.Common.{sym, ap, ◌∙◌, inl, inr}
use Rattle.std.proofs.lemmas.Bool.{cases_Bool, and_parts, and_right, lt-leb, ltb-true}
use Rattle.gmap.specs.Map.{Map, Partners}
use Rattle.rows.specs.Numbers.{rows_map, Sound}

module _ {top size : ℕ} {xs : List ℕ} (sound : Sound top size xs) where
  abbrev m : Map
  m = rows_map top size xs

  still : (i t : ℕ) → m.live t ≡ false → m.partner i t ≡ t
  still i t h = rw (and_right (nat_le i top) (m.live t) h) refl

  -- a partner that is no tuple is its own partner, so it is the slot itself
  alive : (i t : ℕ) → m.live (m.partner i t) ≡ m.live t
  alive i t =
      elim (cases_Bool (m.live (m.partner i t))) [
        | inl g ↦ elim (cases_Bool (m.live t)) [ inl h ↦ g ∙ sym h | inr h ↦ ap m.live (still i t h) ]
        | inr g ↦ ap m.live (sym (still i (m.partner i t) g) ∙ sound.back i t)
      ]

  pub rows_partners : Partners m
  rows_partners = record {
    few = sound.few;
    low = sound.low;
    inside = λ t h. ltb-true t size (and_parts (nat_lt t size) _ h).0;
    back = sound.back;
    alive = alive;
    still = still;
    high = λ i t h. rw (lt-leb i top h) refl;
  }
