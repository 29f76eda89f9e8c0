-- The two ends of a link, and the links of a tuple among the records of a block.
use Rattle.std.specs.Prelude.{◌≡◌, ℕ, zero, suc, ◌<◌, true, false, cond, ◌⊎◌, ◌≢◌, nat_lt, refl}
use Rattle.std.proofs.Common.{sym, ap, ◌∙◌, inl, inr, arith}
use Rattle.std.proofs.lemmas.Bool.{cases_eq, cases_Bool, both_ways}
use Rattle.std.proofs.lemmas.Bool.Decides.{nat_tests}
use Rattle.slips.specs.Links.{says_something, says_slot, names, other}
use Rattle.slips.specs.Blocks.{opposite}
use Rattle.slips.specs.declared.record.Record.{Record}
use Rattle.slips.specs.declared.record.Record.TheVariants.{Unused, Slot, Link}

-- the end that is not the first is the second
pub ends : (x t u : ℕ) → names x (Link t u) ≡ true → (x ≡ t) ⊎ ((x ≡ u) × (x ≢ t))
ends x t u h = elim (cases_eq x t) [ inl e ↦ inl e | inr n ↦ inr (grind (arith, nat_tests), n) ]

pub names_one : (t u : ℕ) → names t (Link t u) ≡ true
names_one t u = grind (arith, nat_tests)

pub names_two : (t u : ℕ) → names u (Link t u) ≡ true
names_two t u = grind (arith, nat_tests)

pub other_one : (t u : ℕ) → other t (Link t u) ≡ u
other_one t u = grind (arith, nat_tests)

pub other_two : (t u : ℕ) → other u (Link t u) ≡ t
other_two t u = grind (arith, nat_tests)

pub not_end : (x t u : ℕ) → (x ≢ t) → (x ≢ u) → names x (Link t u) ≡ false
not_end x t u n o = grind (arith, nat_tests)

-- the other end is an end, and leads back
pub names_other : (x : ℕ) (r : Record) → names x r ≡ true → names (other x r) r ≡ true
names_other x Unused h = h
names_other x Slot h = h
names_other x (Link t u) h = grind (arith, nat_tests)

pub other_other : (x : ℕ) (r : Record) → names x r ≡ true → other (other x r) r ≡ x
other_other x Unused h = refl
other_other x Slot h = refl
other_other x (Link t u) h = grind (arith, nat_tests)

-- an end is the one or the other
pub either_end : (x t : ℕ) (r : Record) → names t r ≡ true → names x r ≡ true → (x ≡ t) ⊎ (x ≡ other t r)
either_end x t Unused h g = absurd (both_ways false refl h)
either_end x t Slot h g = absurd (both_ways false refl h)
either_end x t (Link a b) h g = elim (cases_eq x t) [ inl e ↦ inl e | inr n ↦ inr (grind (arith, nat_tests)) ]

pub unused_names : (x : ℕ) (r : Record) → says_something r ≡ false → names x r ≡ false
unused_names x Unused h = refl
unused_names x Slot h = refl
unused_names x (Link t u) h = absurd (both_ways true h refl)

pub names_used : (x : ℕ) (r : Record) → names x r ≡ true → says_something r ≡ true
names_used x Unused h = h
names_used x Slot h = refl
names_used x (Link t u) h = refl

-- the lower end of a link
abbrev pub lower : Record → ℕ
lower Unused = 0
lower Slot = 0
lower (Link t u) = cond (nat_lt t u) t u

pub names_lower : (r : Record) → says_something r ≡ true → says_slot r ≡ false → names (lower r) r ≡ true
names_lower Unused h g = h
names_lower Slot h g = absurd (both_ways true g refl)
names_lower (Link t u) h g = grind (arith, nat_tests)

pub lower_below : (x : ℕ) (r : Record) → lower r ≡ x → names x r ≡ true → (other x r ≢ x) → x < other x r
lower_below x Unused e h n = absurd (both_ways false refl h)
lower_below x Slot e h n = absurd (both_ways false refl h)
lower_below x (Link t u) e h n = grind (arith, nat_tests)

pub lower_is : (x : ℕ) (r : Record) → names x r ≡ true → x < other x r → lower r ≡ x
lower_is x Unused h l = absurd (both_ways false refl h)
lower_is x Slot h l = absurd (both_ways false refl h)
lower_is x (Link t u) h l = grind (arith, nat_tests)

-- a block without a link of x
pub opposite_none : (b : ℕ → Record) (x n : ℕ) → ((k : ℕ) → k < n → names x (b k) ≡ false) → opposite b x n ≡ x
opposite_none b x zero h = refl
opposite_none b x (suc n) h = rw (h n (omega arith)) (opposite_none b x n (λ k l. h k (omega (arith, l))))

-- a block with one link of x
pub opposite_at : (b : ℕ → Record) (x n k : ℕ) → ((l : ℕ) → l < n → names x (b l) ≡ true → l ≡ k) → k < n → names x (b k) ≡ true → opposite b x n ≡ other x (b k)
opposite_at b x zero k one h e = absurd (omega (arith, h))
opposite_at b x (suc n) k one h e =
    elim (cases_Bool (names x (b n))) [
      | inl y ↦ rw y (ap (λ w. other x (b w)) (one n (omega arith) y))
      | inr z ↦
          let ne : k ≡ n → ⊥ = λ q. both_ways (names x (b n)) z (sym (ap (λ w. names x (b w)) q) ∙ e) in
          rw z (opposite_at b x n k (λ l g. one l (omega (arith, g))) (omega (arith, h, ne)) e)
    ]

pub opposite_same : (b c : ℕ → Record) (x n : ℕ) → ((l : ℕ) → l < n → b l ≡ c l) → opposite b x n ≡ opposite c x n
opposite_same b c x zero h = refl
opposite_same b c x (suc n) h = let e = h n (omega arith) in let o = opposite_same b c x n (λ l g. h l (omega (arith, g))) in rw (e, o) refl

-- some record of a block is a link of x, or none
pub search_block : (b : ℕ → Record) (x n : ℕ) → ((k : ℕ) × (k < n) × (names x (b k) ≡ true)) ⊎ ((k : ℕ) → k < n → names x (b k) ≡ false)
search_block b x zero = inr (λ k h. absurd (omega (arith, h)))
search_block b x (suc n) =
    elim (cases_Bool (names x (b n))) [
      | inl y ↦ inl (n, omega arith, y)
      | inr z ↦ elim (search_block b x n) [
        | inl p ↦ inl (p.0, omega (arith, p.1), p.2)
        | inr h ↦ inr (λ k l. elim (cases_eq k n) [ inl e ↦ rw e z | inr ne ↦ h k (omega (arith, l, ne)) ])
      ]
    ]
