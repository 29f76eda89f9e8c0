-- The four acts, each by its table of refusals and the map that it leaves; and the table of a look at a partner.
use Rattle.std.specs.Prelude.{◌≡◌, ℕ, ◌<◌, ◌≤◌, Bool, true, false, cond, ◌&&◌, ◌⊎◌, List, [], ◌∷◌, ◌==◌}
use Rattle.gmap.specs.Map.{Map, Free}

abbrev pub partner_checks : Map → ℕ → ℕ → List (Type 0 × ℕ)
partner_checks m i t = (m.top < i, 1) ∷ (m.size ≤ t, 2) ∷ (m.live t ≡ false, 3) ∷ []

-- those of a tuple alone
abbrev pub tuple_checks : Map → ℕ → List (Type 0 × ℕ)
tuple_checks m t = (m.size ≤ t, 2) ∷ (m.live t ≡ false, 3) ∷ []

abbrev pub open_checks : Map → ℕ → List (Type 0 × ℕ)
open_checks m t = (m.size ≤ t, 2) ∷ (m.live t ≡ true, 4) ∷ []

-- A vacant slot is its own partner, so the new tuple is free in every switch.
abbrev pub opened : Map → ℕ → Map
opened m t = record { size = m.size; top = m.top; live = λ u. cond (u == t) true (m.live u); partner = m.partner }

abbrev pub close_checks : Map → ℕ → List (Type 0 × ℕ)
close_checks m t = (m.size ≤ t, 2) ∷ (m.live t ≡ false, 3) ∷ ((i : ℕ) × (Free m i t → ⊥), 5) ∷ []

abbrev pub closed : Map → ℕ → Map
closed m t = record { size = m.size; top = m.top; live = λ u. cond (u == t) false (m.live u); partner = m.partner }

abbrev pub tie_checks : Map → ℕ → ℕ → ℕ → List (Type 0 × ℕ)
tie_checks m i t u =
    (m.top < i, 1)
    ∷ ((m.size ≤ t) ⊎ (m.size ≤ u), 2)
    ∷ ((m.live t ≡ false) ⊎ (m.live u ≡ false), 3)
    ∷ (t ≡ u, 6)
    ∷ ((Free m i t → ⊥) ⊎ (Free m i u → ⊥), 5)
    ∷ []

abbrev pub tied : Map → ℕ → ℕ → ℕ → Map
tied m i t u =
    record {
      size = m.size;
      top = m.top;
      live = m.live;
      partner = λ j x. cond (j == i && x == t) u (cond (j == i && x == u) t (m.partner j x));
    }

abbrev pub untie_checks : Map → ℕ → ℕ → List (Type 0 × ℕ)
untie_checks m i t = (m.top < i, 1) ∷ (m.size ≤ t, 2) ∷ (m.live t ≡ false, 3) ∷ (Free m i t, 8) ∷ []

abbrev pub untied : Map → ℕ → ℕ → Map
untied m i t =
    record {
      size = m.size;
      top = m.top;
      live = m.live;
      partner = λ j x. cond (j == i && x == t) x (cond (j == i && x == m.partner i t) x (m.partner j x));
    }

-- A storage writes less than it is asked for: a slot made live or vacant, and a switch with two different tuples.
abbrev pub marked : Map → ℕ → Bool → Map
marked m t b = record { size = m.size; top = m.top; live = λ u. cond (u == t) b (m.live u); partner = m.partner }

pub record Couple (m : Map) (i t u : ℕ) : Type 0 where
  pub switch : i ≤ m.top
  pub one : m.live t ≡ true
  pub two : m.live u ≡ true
  pub apart : t ≡ u → ⊥
