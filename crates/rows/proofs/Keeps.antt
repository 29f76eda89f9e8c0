-- What changed numbers still hold.
use Rattle.std.proofs.Common.{◌≡◌, ℕ, ◌<◌, ◌≤◌, Bool, false, eqb, leb, List, length, sym, refl, ◌∙◌, inl, inr, zero-le, arith}
use Rattle.std.proofs.lemmas.Bool.{cases_lt, le-ltb, ne_eqb, and_right}
use Rattle.rows.specs.Numbers.{number_at, holds, rows_map, Back, Sound}

-- the number of a tuple is not that of a vacant slot
pub not_vacant : {size x : ℕ} → size ≤ 4096 → x < size → eqb x 65535 ≡ false
not_vacant {size} {x} few below = ne_eqb x 65535 (λ e. omega arith)

-- where a number is as before, slot and partner are
pub holds_same : (size : ℕ) (xs ys : List ℕ) (j x : ℕ) → (x < size → number_at ys size j x ≡ number_at xs size j x) → holds ys size j x ≡ holds xs size j x
holds_same size xs ys j x same = elim (cases_lt x size) [ inl l ↦ rw (same l) refl | inr l ↦ rw (le-ltb x size l) refl ]

pub partner_same : (top size : ℕ) (xs ys : List ℕ) (j x : ℕ) → holds ys size 0 x ≡ holds xs size 0 x → (x < size → number_at ys size j x ≡ number_at xs size j x) → (rows_map top size ys).partner j x ≡ (rows_map top size xs).partner j x
partner_same top size xs ys j x live same =
    elim (cases_lt x size) [ inl l ↦ rw (live, same l) refl | inr l ↦ rw (live, le-ltb x size l, and_right (leb j top) false refl) refl ]

-- all that holds of a storage, from which slots are live and that partners lead back
pub keeps : (top size : ℕ) (xs ys : List ℕ) (live : ℕ → Bool) → Sound top size xs → length ys ≡ length xs → ((j x : ℕ) → j ≤ top → holds ys size j x ≡ live x) → Back top size ys → Sound top size ys
keeps top size xs ys live sound long here back = record {
  low = sound.low;
  few = sound.few;
  room = rw long sound.room;
  back = back;
  alike = λ j x h. here j x h ∙ sym (here 0 x zero-le);
}
