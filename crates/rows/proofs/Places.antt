-- Where the numbers of rows stand, and what a write of one leaves of the others.
use Rattle.std.proofs.Common.{◌≡◌, ℕ, ◌+◌, ◌*◌, ◌/◌, ◌%◌, ◌<◌, ◌≤◌, List, length, set, sym, ap, ◌∙◌, inl, inr, mul_comm, arith}
use Rattle.std.proofs.lemmas.Nat.{mul-add-lt, div-mul-add, mod-mul-add}
use Rattle.std.proofs.lemmas.List.{get_or-set_same, get_or-set_other, length-set}
use Rattle.std.proofs.lemmas.Bool.{cases_eq}
use Rattle.rows.specs.Numbers.{number_at, Filled}

-- x in switch j is not t in switch i
abbrev pub Off : ℕ → ℕ → ℕ → ℕ → Type 0
Off i t j x = (j ≡ i) × (x ≡ t) → ⊥

-- each row has its place for each slot
pub in_room : (rows size n i t : ℕ) → rows * size ≤ n → i < rows → t < size → i * size + t < n
in_room rows size n i t room h g = omega (arith, mul-add-lt i size t rows h g, mul_comm size rows, room)

-- different numbers have different places
pub one_place : (size i t j x : ℕ) → t < size → x < size → j * size + x ≡ i * size + t → (j ≡ i) × (x ≡ t)
one_place size i t j x h g e = (
  sym (div-mul-add j size x g) ∙ (ap (λ n. n / size) e ∙ div-mul-add i size t h),
  sym (mod-mul-add j size x g) ∙ (ap (λ n. n % size) e ∙ mod-mul-add i size t h),
)

pub number_other : (xs : List ℕ) (size i t v j x : ℕ) → t < size → x < size → Off i t j x → number_at (set xs (i * size + t) v) size j x ≡ number_at xs size j x
number_other xs size i t v j x h g off = get_or-set_other xs (i * size + t) (j * size + x) v 0 (λ e. off (one_place size i t j x h g e))

-- one more row of a slot
pub fill_more : (rows size t v n : ℕ) (xs ys : List ℕ) → t < size → n < rows → rows * size ≤ length xs → Filled n size t v xs ys → Filled (n + 1) size t v xs (set ys (n * size + t) v)
fill_more rows size t v n xs ys h g room f = record {
  long = length-set ys (n * size + t) v ∙ f.long;
  here = λ i l. elim (cases_eq i n) [
    | inl e ↦ rw e (get_or-set_same ys (n * size + t) v 0 (in_room rows size (length ys) n t (rw f.long room) g h))
    | inr e ↦ number_other ys size n t v i t h h (λ p. e p.0) ∙ f.here i (omega (arith, l, e))
  ];
  others = λ i x l e. number_other ys size n t v i x h l (λ p. e (omega (arith, p.0), p.1)) ∙ f.others i x l (λ p. e (omega (arith, p.0), p.1));
}
