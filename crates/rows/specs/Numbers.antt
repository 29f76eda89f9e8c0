-- Rows of numbers, and the map that they hold.
--   number_at  number t of row i
--   holds      slot t is not vacant in row i
--   rows_map   the map
--   Back       a partner's partner is the tuple itself
--   Alike      a slot is vacant in every row or in none
--   Sound      what holds of the numbers of every storage
--   Filled     a slot has one number in the first rows, and all else is as before
use Rattle.std.specs.Prelude.{◌≡◌, ℕ, ◌+◌, ◌*◌, ◌<◌, ◌≤◌, Bool, cond, not, ◌&&◌, List, length, ◌==◌, nat_le, nat_lt, slice_index}
use Rattle.gmap.specs.Map.{Map}
use Rattle.gmap.specs.Laying.{rows_need}

abbrev pub number_at : List ℕ → ℕ → ℕ → ℕ → ℕ
number_at xs size i t = slice_index xs (i * size + t)

-- 65535 is the number of a vacant slot
abbrev pub holds : List ℕ → ℕ → ℕ → ℕ → Bool
holds xs size i t = nat_lt t size && not (number_at xs size i t == 65535)

-- row 0 says which slots are live
abbrev pub rows_map : ℕ → ℕ → List ℕ → Map
rows_map top size xs =
    record {
      size = size;
      top = top;
      live = λ t. holds xs size 0 t;
      partner = λ i t. cond (nat_le i top && holds xs size 0 t) (number_at xs size i t) t;
    }

abbrev pub Back : ℕ → ℕ → List ℕ → Type 0
Back top size xs = (i t : ℕ) → (rows_map top size xs).partner i ((rows_map top size xs).partner i t) ≡ t

abbrev pub Alike : ℕ → ℕ → List ℕ → Type 0
Alike top size xs = (i t : ℕ) → i ≤ top → holds xs size i t ≡ holds xs size 0 t

pub record Sound (top size : ℕ) (xs : List ℕ) : Type 0 where
  pub low : top ≤ 7
  pub few : size ≤ 4096
  pub room : rows_need top size ≤ length xs
  pub back : Back top size xs
  pub alike : Alike top size xs

pub record Filled (rows size t v : ℕ) (xs ys : List ℕ) : Type 0 where
  pub long : length ys ≡ length xs
  pub here : (i : ℕ) → i < rows → number_at ys size i t ≡ v
  pub others : (i x : ℕ) → x < size → ((i < rows) × (x ≡ t) → ⊥) → number_at ys size i x ≡ number_at xs size i x
