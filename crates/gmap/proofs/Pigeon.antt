-- Different numbers below n are at most n.
use Rattle.std.proofs.Common.{◌≡◌, ℕ, zero, suc, ◌-◌, ◌<◌, ◌≤◌, cond, ltb, suc-le-suc, zero-le, arith}
use Rattle.std.proofs.lemmas.Bool.Decides.{nat_tests}

-- closes the gap at v
abbrev squeeze : ℕ → ℕ → ℕ
squeeze v a = cond (ltb a v) a (a - 1)

squeeze_low : (v a n : ℕ) → a < suc n → v < suc n → (a ≡ v → ⊥) → squeeze v a < n
squeeze_low v a n la lv ne = grind (arith, nat_tests)

squeeze_apart : (v a b : ℕ) → (a ≡ v → ⊥) → (b ≡ v → ⊥) → (a ≡ b → ⊥) → squeeze v a ≡ squeeze v b → ⊥
squeeze_apart v a b na nb ne e = grind (arith, nat_tests)

pub pigeon : (n c : ℕ) (f : ℕ → ℕ) → ((k : ℕ) → k < c → f k < n) → ((k l : ℕ) → k < l → l < c → f k ≡ f l → ⊥) → c ≤ n
pigeon n zero f low apart = zero-le
pigeon zero (suc c) f low apart = omega (arith, low 0 (omega arith))
pigeon (suc n) (suc c) f low apart =
    let v : f c < suc n = low c (omega arith) in
    suc-le-suc (pigeon n c (λ k. squeeze (f c) (f k)) (λ k h. squeeze_low (f c) (f k) n (low k (omega arith)) v (apart k c h (omega arith))) (λ k l h b. squeeze_apart (f c) (f k) (f l) (apart k c (omega arith) (omega arith)) (apart l c b (omega arith)) (apart k l h (omega arith))))

-- where x is none of them, there is room for one more
pub pigeon_room : (n c : ℕ) (f : ℕ → ℕ) (x : ℕ) → ((k : ℕ) → k < c → f k < n) → ((k l : ℕ) → k < l → l < c → f k ≡ f l → ⊥) → x < n → ((k : ℕ) → k < c → f k ≡ x → ⊥) → c < n
pigeon_room zero c f x low apart lx none = omega arith
pigeon_room (suc n) c f x low apart lx none =
    suc-le-suc (pigeon n c (λ k. squeeze x (f k)) (λ k h. squeeze_low x (f k) n (low k h) lx (none k h)) (λ k l h b. squeeze_apart x (f k) (f l) (none k (omega arith)) (none l b) (apart k l h b)))
