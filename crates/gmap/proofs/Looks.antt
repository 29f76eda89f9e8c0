-- What the law of partners says of a tuple, and of what is free.
use Rattle.std.proofs.Common.{◌≡◌, ℕ, ◌<◌, true, ◌∙◌, inl, inr, arith}
use Rattle.std.proofs.lemmas.Bool.{cases_lt}
use Rattle.gmap.specs.Map.{Map, Partners, Free}

-- a tuple's partner is a slot
pub partner_inside : (m : Map) → Partners m → (i t : ℕ) → m.live t ≡ true → m.partner i t < m.size
partner_inside m law i t live = law.inside (m.partner i t) (law.alive i t ∙ live)

-- what is free in each switch up to the top is free in all
pub free_in_all : {m : Map} {n t : ℕ} → Partners m → m.top < n → ((k : ℕ) → k < n → Free m k t) → (i : ℕ) → Free m i t
free_in_all {m} {n} {t} law h free i = elim (cases_lt i n) [ inl l ↦ free i l | inr l ↦ law.high i t (omega (arith, h, l)) ]
