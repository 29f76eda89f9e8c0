-- Where records stand, and what a write of one leaves of the others.
use Rattle.std.proofs.Common.{◌≡◌, ℕ, ◌+◌, ◌*◌, ◌/◌, ◌%◌, ◌<◌, ◌≤◌, true, false, cond, ◌&&◌, eqb, ltb, leb, ◌⊎◌, List, length, get_or, set, sym, refl, ap, ◌∙◌, inl, inr, mul_comm, arith}
use Rattle.std.proofs.lemmas.Nat.{mul-add-lt, div-mul-add, mod-mul-add}
use Rattle.std.proofs.lemmas.List.{get_or-set_same, get_or-set_other}
use Rattle.std.proofs.lemmas.Bool.{cases_lt, cases_eq, both_ways, lt-ltb, le-ltb, lt-leb, eq-eqb, ne_eqb, and_parts}
use Rattle.gmap.specs.Laying.{slips_need}
use Rattle.slips.specs.Links.{says_something, says_slot}
use Rattle.slips.specs.Blocks.{link_at, living, belongs}
use Rattle.slips.specs.declared.record.Record.{Record}
use Rattle.slips.specs.declared.record.Record.TheVariants.{Unused, Slot, Link}

-- each block has its place for each record
pub in_room : (top size n i k : ℕ) → slips_need top size ≤ n → i ≤ top → k < size / 2 → size + i * (size / 2) + k < n
in_room top size n i k room h g =
    let l : i < top + 1 = omega (arith, h) in
    omega (arith, mul-add-lt i (size / 2) k (top + 1) l g, mul_comm (size / 2) (top + 1), room)

-- different records have different places
one_place : (size i k j l : ℕ) → k < size / 2 → l < size / 2 → size + j * (size / 2) + l ≡ size + i * (size / 2) + k → (j ≡ i) × (l ≡ k)
one_place size i k j l h g e =
    let same : j * (size / 2) + l ≡ i * (size / 2) + k = omega (arith, e) in (
      sym (div-mul-add j (size / 2) l g) ∙ (ap (λ n. n / (size / 2)) same ∙ div-mul-add i (size / 2) k h),
      sym (mod-mul-add j (size / 2) l g) ∙ (ap (λ n. n % (size / 2)) same ∙ mod-mul-add i (size / 2) k h),
    )

-- record l of block j is record k of block i
abbrev pub At : ℕ → ℕ → ℕ → ℕ → Type 0
At i k j l = (j ≡ i) × (l ≡ k)

pub cases_at : (i k j l : ℕ) → At i k j l ⊎ (At i k j l → ⊥)
cases_at i k j l = elim (cases_eq j i) [ inl e ↦ elim (cases_eq l k) [ inl f ↦ inl (e, f) | inr f ↦ inr (λ p. f p.1) ] | inr e ↦ inr (λ p. e p.0) ]

-- a record of a block is written
module _ (rs : List Record) (size i k : ℕ) (r : Record) (within : k < size / 2) where
  pub link_else : (j l : ℕ) → l < size / 2 → (At i k j l → ⊥) → link_at (set rs (size + i * (size / 2) + k) r) size j l ≡ link_at rs size j l
  link_else j l g ne = get_or-set_other rs (size + i * (size / 2) + k) (size + j * (size / 2) + l) r Unused (λ e. ne (one_place size i k j l within g e))

  pub live_still : (x : ℕ) → living (set rs (size + i * (size / 2) + k) r) size x ≡ living rs size x
  live_still x =
      elim (cases_lt x size) [
        | inl h ↦ ap (λ q. ltb x size && says_slot q) (get_or-set_other rs (size + i * (size / 2) + k) x r Unused (λ e. omega (arith, h, e)))
        | inr h ↦ rw (le-ltb x size h) refl
      ]

-- the record of a slot is written
module _ (rs : List Record) (size t : ℕ) (r : Record) (below : t < size) where
  pub links_still : (j l : ℕ) → link_at (set rs t r) size j l ≡ link_at rs size j l
  links_still j l = get_or-set_other rs t (size + j * (size / 2) + l) r Unused (λ e. omega (arith, below, e))

  pub live_new : t < length rs → (x : ℕ) → living (set rs t r) size x ≡ cond (eqb x t) (says_slot r) (living rs size x)
  live_new h x =
      elim (cases_eq x t) [
        | inl e ↦ rw (e, eq-eqb t t refl, lt-ltb t size below, get_or-set_same rs t r Unused h) refl
        | inr n ↦ rw (ne_eqb x t n) (ap (λ q. ltb x size && says_slot q) (get_or-set_other rs t x r Unused n))
      ]

-- every record still belongs where it stands
pub belongs_set : (top size : ℕ) (rs : List Record) (p : ℕ) (r : Record) → p < length rs → belongs top size p r ≡ true → ((q : ℕ) → belongs top size q (get_or rs q Unused) ≡ true) → (q : ℕ) → belongs top size q (get_or (set rs p r) q Unused) ≡ true
belongs_set top size rs p r h new old q =
    elim (cases_eq q p) [ inl e ↦ rw (e, get_or-set_same rs p r Unused h) new | inr n ↦ rw (get_or-set_other rs p q r Unused n) (old q) ]

-- a record that belongs behind those of slots is none of them
pub no_slot : (top size p : ℕ) (r : Record) → size ≤ p → belongs top size p r ≡ true → says_slot r ≡ false
no_slot top size p Unused h b = refl
no_slot top size p Slot h b = absurd (both_ways (ltb p size) (le-ltb p size h) b)
no_slot top size p (Link t u) h b = refl

-- below them it says that a slot is live, if it says anything, and behind the blocks it says nothing
pub used_slot : (top size p : ℕ) (r : Record) → p < size → belongs top size p r ≡ true → says_something r ≡ says_slot r
used_slot top size p Unused h b = refl
used_slot top size p Slot h b = refl
used_slot top size p (Link t u) h b = absurd (both_ways (leb size p) (lt-leb size p h) (and_parts (leb size p) _ b).0)

pub unused_behind : (top size p : ℕ) (r : Record) → slips_need top size ≤ p → belongs top size p r ≡ true → says_something r ≡ false
unused_behind top size p Unused h b = refl
unused_behind top size p Slot h b = absurd (both_ways (ltb p size) (le-ltb p size (omega (arith, h))) b)
unused_behind top size p (Link t u) h b = absurd (both_ways (ltb p (slips_need top size)) (le-ltb p (slips_need top size) h) (and_parts (leb size p) _ b).1)
