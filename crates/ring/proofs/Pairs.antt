-- A list in which a pair is written as one part.
use Rattle.std.proofs.Common.{◌≡◌, ℕ, ◌+◌, ◌-◌, ◌<◌, ◌≤◌, List, length, drop, get_or, sym, ap, ◌∙◌, arith}
use Rattle.std.proofs.lemmas.List.{get_or-take, get_or-drop, length-drop, length-take-le}
use Rattle.std.proofs.lemmas.Slice.{take-put_mid_below, drop-put_mid, between-put_mid}
use borrow.Rule.Slice.PartMut.{put_mid, same_len_mid}

module _ (n : ℕ) (xs pair : List ℕ) (room : n + 2 ≤ length xs) (two : length pair ≡ 2) where
  abbrev pub paired : List ℕ
  paired = put_mid n (n + 2 - n) xs pair

  pub paired_long : length paired ≡ length xs
  paired_long = same_len_mid n (n + 2 - n) xs pair (omega (arith, two, length-take-le (n + 2 - n) (drop n xs) (omega (arith, room, length-drop n xs))))

  pub paired_there : (i : ℕ) → i < 2 → get_or paired (n + i) 0 ≡ get_or pair i 0
  paired_there i h =
      sym (get_or-drop n paired i 0) ∙ (sym (get_or-take (n + 2 - n) (drop n paired) i 0 (omega arith)) ∙ ap (λ l. get_or l i 0) (between-put_mid n (n + 2 - n) xs pair (n + 2) (omega (arith, room)) (omega (arith, two))))

  pub paired_before : (p : ℕ) → p < n → get_or paired p 0 ≡ get_or xs p 0
  paired_before p h =
      sym (get_or-take n paired p 0 h) ∙ (ap (λ l. get_or l p 0) (take-put_mid_below n (n + 2 - n) xs pair n (omega arith) (omega (arith, room))) ∙ get_or-take n xs p 0 h)

  pub paired_behind : (p : ℕ) → n + 2 ≤ p → get_or paired p 0 ≡ get_or xs p 0
  paired_behind p h =
      let q : n + 2 + (p - (n + 2)) ≡ p = omega arith in
      let at : (l : List ℕ) → get_or (drop (n + 2) l) (p - (n + 2)) 0 ≡ get_or l p 0 = λ l. get_or-drop (n + 2) l (p - (n + 2)) 0 ∙ ap (λ j. get_or l j 0) q in
      sym (at paired) ∙ (ap (λ l. get_or l (p - (n + 2)) 0) (drop-put_mid n (n + 2 - n) xs pair (n + 2) (omega arith) (omega (arith, room)) (omega (arith, two))) ∙ at xs)
