-- Memory whose first numbers are those of vacant slots holds an empty map.
use Rattle.std.proofs.Common.{◌≡◌, ℕ, ◌+◌, ◌*◌, ◌<◌, ◌≤◌, false, ltb, leb, List, ◌++◌, length, get_or, take, drop, replicate, sym, refl, ap, ◌∙◌, inl, inr, zero-le, arith, rules}
use Rattle.std.proofs.lemmas.List.{places, length-take-le}
use Rattle.std.proofs.lemmas.Bool.{cases_lt, le-ltb, and_right}
use Rattle.gmap.specs.Laying.{rows_need, TooLarge}
use Rattle.gmap.specs.Map.{Fresh}
use Rattle.rows.specs.Numbers.{holds, rows_map, Sound}
use Rattle.rows.proofs.Places.{in_room}

module _ {top size : ℕ} (memory : List ℕ) {front : List ℕ} {n : ℕ} (fits : TooLarge (length memory) (rows_need top size) top size → ⊥) (all : n ≡ rows_need top size) (filled : front ≡ replicate (length (take n memory)) 65535) where
  abbrev xs : List ℕ
  xs = front ++ drop n memory

  room : n ≤ length memory
  room = let h : length memory < rows_need top size → ⊥ = λ l. fits (inr (inr l)) in omega (arith, all)

  is : xs ≡ replicate n 65535 ++ drop n memory
  is = ap (λ l. l ++ drop n memory) (filled ∙ ap (λ k. replicate k 65535) (length-take-le n memory room))

  none : (i t : ℕ) → i ≤ top → holds xs size i t ≡ false
  none i t h =
      elim (cases_lt t size) [
        | inl l ↦
            let k : i * size + t < n = in_room (top + 1) size n i t (omega (arith, all)) (omega (arith, h)) l in
            let e : get_or xs (i * size + t) 0 ≡ 65535 = rw is (search (rules, places)) in
            rw e (and_right (ltb t size) false refl)
        | inr l ↦ rw (le-ltb t size l) refl
      ]

  pub vacant_fresh : Fresh (rows_map top size xs)
  vacant_fresh t = none 0 t zero-le

  pub vacant_sound : Sound top size xs
  vacant_sound =
      let self : (i t : ℕ) → (rows_map top size xs).partner i t ≡ t = λ i t. rw (vacant_fresh t, and_right (leb i top) false refl) refl in
      record {
        low = let h : 7 < top → ⊥ = λ l. fits (inl l) in omega arith;
        few = let h : 4096 < size → ⊥ = λ l. fits (inr (inl l)) in omega arith;
        room = let h = room in rw (is, ← all) (search (rules, places));
        back = λ i t. cc (self i t);
        alike = λ i t h. none i t h ∙ sym (none 0 t zero-le);
      }
