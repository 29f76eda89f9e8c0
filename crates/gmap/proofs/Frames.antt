-- Maps that differ in one switch alone.
use Rattle.std.proofs.Common.{ℕ, refl, ◌∙◌}
use Rattle.gmap.specs.Map.{Map, Same, DiffersIn}

pub frame_refl : (i : ℕ) (m : Map) → DiffersIn i m m
frame_refl i m = record { size = refl; top = refl; live = λ t. refl; others = λ j t e. refl }

pub frame_then : {i : ℕ} {m now next : Map} → DiffersIn i m now → DiffersIn i now next → DiffersIn i m next
frame_then w v = record { size = v.size ∙ w.size; top = v.top ∙ w.top; live = λ t. v.live t ∙ w.live t; others = λ j t e. v.others j t e ∙ w.others j t e }

-- what gives the same answers as n differs as n does
pub frame_same : {i : ℕ} {m n k : Map} → DiffersIn i m n → Same k n → DiffersIn i m k
frame_same a s = record { size = s.size ∙ a.size; top = s.top ∙ a.top; live = λ t. s.live t ∙ a.live t; others = λ j t e. s.partner j t ∙ a.others j t e }
