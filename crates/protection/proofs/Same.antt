-- Maps with the same answers are one map, so what holds of one holds of the other.
use Rattle.std.proofs.Common.{sym, ◌∙◌, subst}
use Rattle.gmap.specs.Map.{Map, Same}

pub same_sym : {m n : Map} → Same m n → Same n m
same_sym s = record { size = sym s.size; top = sym s.top; live = λ t. sym (s.live t); partner = λ i t. sym (s.partner i t) }

pub same_trans : {m n k : Map} → Same m n → Same n k → Same m k
same_trans a b = record { size = a.size ∙ b.size; top = a.top ∙ b.top; live = λ t. a.live t ∙ b.live t; partner = λ i t. a.partner i t ∙ b.partner i t }

pub same_holds : (P : Map → Type 0) {m n : Map} → Same m n → P m → P n
same_holds P s = subst P (λ k. record { size = s.size k; top = s.top k; live = λ t. s.live t k; partner = λ i t. s.partner i t k })
