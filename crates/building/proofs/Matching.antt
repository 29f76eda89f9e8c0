-- The table of mates: what coupling two tuples leaves, and that following the far switches finds every pair.
use Rattle.std.proofs.Common.{◌≡◌, ℕ, ◌+◌, ◌<◌, ◌≤◌, true, ◌⊎◌, List, length, get_or, set, sym, refl, ap, ◌∙◌, subst, inl, inr, ⊎_elim, arith, below_more}
use Rattle.std.proofs.lemmas.List.{length-set, get_or-set_same, get_or-set_other}
use Rattle.std.proofs.lemmas.Bool.{cases_eq, cases_lt}
use Rattle.gmap.specs.Map.{Map, Partners, Far}
use Rattle.gmap.specs.Orbits.{FarOrbit, here, step}
use Rattle.gmap.specs.Building.{Pair, given, turned, moved, Fits}
use Rattle.questions.specs.Search.{Collected}
use Rattle.building.specs.Mates.{Known, Couples, Clashes, Joinable, OnSides, Mates, Extends, Blank, Followed, Matched}
use Rattle.building.proofs.Couples.{pair_sym, pair_apart, pair_live, pair_side, side_pair}

-- the far switches have been followed at the first k tuples of a side
pub record Pairing (m : Map) (i t u : ℕ) (xs : List ℕ) (k : ℕ) (ms : List ℕ) : Type 0 where
  pub mates : Mates m i t u ms
  pub left : get_or ms t 0 ≡ u
  pub known : (l : ℕ) → l < k → Known ms (get_or xs l 0)
  pub onward : (l : ℕ) → l < k → (j : ℕ) → Far i j → get_or ms (m.partner j (get_or xs l 0)) 0 ≡ m.partner j (get_or ms (get_or xs l 0) 0)

module _ (m : Map) (law : Partners m) (i t u : ℕ) (able : Joinable m i t u) where
  -- a tuple of a side is a slot, and its number is none of a mate that is not known
  pub side_live : (x : ℕ) → OnSides m i t u x → m.live x ≡ true
  side_live x o = let (y, p) = side_pair m i t u o in pair_live m i t u law able.left able.right p

  pub live_known : (x : ℕ) → m.live x ≡ true → x ≡ 65535 → ⊥
  live_known x live e = omega (arith, law.inside x live, law.few)

  pub pair_below : {x y : ℕ} → Pair m i t u x y → x < m.size
  pair_below p = law.inside _ (pair_live m i t u law able.left able.right p)

  pub mate_live : (ms : List ℕ) → Mates m i t u ms → (x : ℕ) → OnSides m i t u x → Known ms x → m.live (get_or ms x 0) ≡ true
  mate_live ms w x on k = pair_live m i t u law able.left able.right (pair_sym m i t u (w.sound x on k))

  module _ (ms : List ℕ) (w : Mates m i t u ms) (x y : ℕ) (p : Pair m i t u x y) where
    pub clash : Clashes x y ms → Fits m i t u → ⊥
    clash (ne, known) f =
        ⊎_elim
        (λ k. ne (f.single x (get_or ms x 0) y (w.sound x (pair_side m i t u p) k) p))
        (λ k. let back = pair_sym m i t u p in
        let on = pair_side m i t u back in
        let e : get_or ms y 0 ≡ x = f.single y (get_or ms y 0) x (w.sound y on k) back in
        ne (sym (ap (λ z. get_or ms z 0) e) ∙ w.turned y on k))
        known

    new : get_or ms x 0 ≡ 65535 → get_or ms y 0 ≡ 65535 → Mates m i t u (set (set ms x y) y x) × Extends m i t u ms (set (set ms x y) y x) × (get_or (set (set ms x y) y x) x 0 ≡ y)
    new nx ny =
        let ne : x ≡ y → ⊥ = pair_apart m i t u law able.apart p in
        let ms' = set (set ms x y) y x in
        let lx : x < length ms = omega (arith, w.long, pair_below p) in
        let ly : y < length (set ms x y) = omega (arith, w.long, pair_below (pair_sym m i t u p), length-set ms x y) in
        let at_y : get_or ms' y 0 ≡ x = get_or-set_same (set ms x y) y x 0 ly in
        let at_x : get_or ms' x 0 ≡ y = get_or-set_other (set ms x y) y x x 0 ne ∙ get_or-set_same ms x y 0 lx in
        let at : (z : ℕ) → (z ≡ x → ⊥) → (z ≡ y → ⊥) → get_or ms' z 0 ≡ get_or ms z 0 = λ z a b. get_or-set_other (set ms x y) y z x 0 b ∙ get_or-set_other ms x z y 0 a in
        let kept : Extends m i t u ms ms' = λ z o k. at z (λ e. k (ap (λ v. get_or ms v 0) e ∙ nx)) (λ e. k (ap (λ v. get_or ms v 0) e ∙ ny)) in (
          record {
            long = length-set (set ms x y) y x ∙ length-set ms x y ∙ w.long;
            sound = λ z o k. ⊎_elim
                (λ e. subst (λ v. Pair m i t u v (get_or ms' v 0)) (sym e) (subst (Pair m i t u x) (sym at_x) p))
                (λ a. ⊎_elim
                (λ e. subst (λ v. Pair m i t u v (get_or ms' v 0)) (sym e) (subst (Pair m i t u y) (sym at_y) (pair_sym m i t u p)))
                (λ b. let same = at z a b in subst (Pair m i t u z) (sym same) (w.sound z o (λ q. k (same ∙ q))))
                (cases_eq z y))
                (cases_eq z x);
            turned = λ z o k. ⊎_elim
                (λ e. ap (λ v. get_or ms' (get_or ms' v 0) 0) e ∙ ap (λ v. get_or ms' v 0) at_x ∙ at_y ∙ sym e)
                (λ a. ⊎_elim
                (λ e. ap (λ v. get_or ms' (get_or ms' v 0) 0) e ∙ ap (λ v. get_or ms' v 0) at_y ∙ at_x ∙ sym e)
                (λ b. let same = at z a b in
                let old = w.turned z o (λ q. k (same ∙ q)) in
                let there : Known ms (get_or ms z 0) = λ q. live_known z (side_live z o) (sym old ∙ q) in
                ap (λ v. get_or ms' v 0) same ∙ at (get_or ms z 0) (λ e. there (ap (λ v. get_or ms v 0) e ∙ nx)) (λ e. there (ap (λ v. get_or ms v 0) e ∙ ny)) ∙ old)
                (cases_eq z y))
                (cases_eq z x);
          },
          kept,
          at_x,
        )

    pub coupled : (ms' : List ℕ) → Couples x y ms ms' → Mates m i t u ms' × Extends m i t u ms ms' × (get_or ms' x 0 ≡ y)
    coupled ms' (inl (e, q)) = rw q (w, (λ z o k. refl), e)
    coupled ms' (inr (a, b, q)) = rw q (new a b)

  module _ (ms : List ℕ) (x : ℕ) (on : OnSides m i t u x) where
    module _ (j : ℕ) (ms' : List ℕ) (s : Followed m i t u x j ms ms') where
      pub followed_skip : (Far i j → ⊥) → Followed m i t u x (j + 1) ms ms'
      followed_skip off = record { mates = s.mates; kept = s.kept; onward = below_more (λ k. Far i k → get_or ms' (m.partner k x) 0 ≡ m.partner k (get_or ms x 0)) j s.onward (λ f. absurd (off f)) }

      pub next_pair : Mates m i t u ms → Known ms x → Far i j → Pair m i t u (m.partner j x) (m.partner j (get_or ms x 0))
      next_pair w k f = moved j f (w.sound x on k)

      pub followed_more : Mates m i t u ms → Known ms x → Far i j → (ms'' : List ℕ) → Couples (m.partner j x) (m.partner j (get_or ms x 0)) ms' ms'' → Followed m i t u x (j + 1) ms ms''
      followed_more w k f ms'' c =
          let (mates, kept, there) = coupled ms' s.mates (m.partner j x) (m.partner j (get_or ms x 0)) (next_pair w k f) ms'' c in
          record {
            mates = mates;
            kept = λ z o q. let e = s.kept z o q in kept z o (λ v. q (sym e ∙ v)) ∙ e;
            onward = below_more (λ l. Far i l → get_or ms'' (m.partner l x) 0 ≡ m.partner l (get_or ms x 0)) j
                (λ l h g. let e = s.onward l h g in
                let q = moved l g (w.sound x on k) in
                kept (m.partner l x) (pair_side m i t u q) (λ v. live_known (m.partner l (get_or ms x 0)) (pair_live m i t u law able.left able.right (pair_sym m i t u q)) (sym e ∙ v)) ∙ e)
                (λ g. there);
          }

  pub blank_mates : (ms : List ℕ) → Blank m i t u ms → Mates m i t u ms
  blank_mates ms b = record { long = b.long; sound = λ x o k. absurd (k (b.none x o)); turned = λ x o k. absurd (k (b.none x o)) }

  pub pairing_none : (xs ms ms' : List ℕ) → Blank m i t u ms → Couples t u ms ms' → Pairing m i t u xs 0 ms'
  pairing_none xs ms ms' b c =
      let (mates, kept, there) = coupled ms (blank_mates ms b) t u given ms' c in
      record { mates = mates; left = there; known = λ l h. absurd (omega arith); onward = λ l h. absurd (omega arith) }

  -- the first couple meets no other mate
  pub blank_clash : (ms : List ℕ) → Blank m i t u ms → Clashes t u ms → ⊥
  blank_clash ms b (ne, known) = ⊎_elim (λ k. k (b.none t (inl here))) (λ k. k (b.none u (inr here))) known

  module _ (xs : List ℕ) (o : Collected m (Far i) t (length xs) xs) (k : ℕ) (below : k < length xs) (ms : List ℕ) (s : Pairing m i t u xs k ms) where
    abbrev pub x : ℕ
    x = get_or xs k 0

    pub pairing_side : OnSides m i t u x
    pairing_side = inl (o.only k below)

    -- a tuple is met only after the one that it was found from
    pub pairing_known : Known ms x
    pairing_known =
        ⊎_elim
        (λ e. λ q. live_known u able.right (sym (ap (λ v. get_or ms v 0) (ap (λ l. get_or xs l 0) e ∙ o.first) ∙ s.left) ∙ q))
        (λ e. let (p, j, l, f, w) = o.from k (omega arith) below in
        λ q. live_known (m.partner j (get_or ms (get_or xs p 0) 0)) (law.alive j _ ∙ mate_live ms s.mates (get_or xs p 0) (inl (o.only p (omega arith))) (s.known p l)) (sym (s.onward p l j f) ∙ sym (ap (λ v. get_or ms v 0) w) ∙ q))
        (cases_eq k 0)

    pub pairing_more : (ms' : List ℕ) → Followed m i t u x (m.top + 1) ms ms' → Pairing m i t u xs (k + 1) ms'
    pairing_more ms' f =
        let keep : (l : ℕ) → l < k + 1 → get_or ms' (get_or xs l 0) 0 ≡ get_or ms (get_or xs l 0) 0 = below_more (λ l. get_or ms' (get_or xs l 0) 0 ≡ get_or ms (get_or xs l 0) 0) k (λ l h. f.kept (get_or xs l 0) (inl (o.only l (omega arith))) (s.known l h)) (f.kept x pairing_side pairing_known) in
        record {
          mates = f.mates;
          left = f.kept t (inl here) (λ q. live_known u able.right (sym s.left ∙ q)) ∙ s.left;
          known = below_more (λ l. Known ms' (get_or xs l 0)) k (λ l h q. s.known l h (sym (keep l (omega arith)) ∙ q)) (λ q. pairing_known (sym (keep k (omega arith)) ∙ q));
          onward = below_more (λ l. (j : ℕ) → Far i j → get_or ms' (m.partner j (get_or xs l 0)) 0 ≡ m.partner j (get_or ms' (get_or xs l 0) 0)) k
              (λ l h j g. let e = s.onward l h j g in
              let on = inl (o.only l (omega arith)) in
              f.kept (m.partner j (get_or xs l 0)) (inl (step j g (o.only l (omega arith)))) (λ q. live_known (m.partner j (get_or ms (get_or xs l 0) 0)) (law.alive j _ ∙ mate_live ms s.mates (get_or xs l 0) on (s.known l h)) (sym e ∙ q)) ∙ e ∙ ap (m.partner j) (sym (keep l (omega arith))))
              (λ j g. ⊎_elim
              (λ h. f.onward j h g ∙ ap (m.partner j) (sym (keep k (omega arith))))
              (λ h. ap (λ v. get_or ms' v 0) (law.high j x (omega arith)) ∙ sym (law.high j (get_or ms' x 0) (omega arith)))
              (cases_lt j (m.top + 1)));
        }

  module _ (xs : List ℕ) (o : Collected m (Far i) t (length xs) xs) (k : ℕ) (all : length xs ≤ k) (ms : List ℕ) (s : Pairing m i t u xs k ms) where
    onward : (x : ℕ) → FarOrbit m i t x → (j : ℕ) → Far i j → get_or ms (m.partner j x) 0 ≡ m.partner j (get_or ms x 0)
    onward x p j f = let (l, h, e) = o.all x p in subst (λ z. get_or ms (m.partner j z) 0 ≡ m.partner j (get_or ms z 0)) e (s.onward l (omega arith) j f)

    found : {x y : ℕ} → Pair m i t u x y → (FarOrbit m i t x × (get_or ms x 0 ≡ y)) ⊎ (FarOrbit m i t y × (get_or ms y 0 ≡ x))
    found given = inl (here, s.left)
    found turned = inr (here, s.left)
    found (moved j f p) = ⊎_elim (λ (a, e). inl (step j f a, onward _ a j f ∙ ap (m.partner j) e)) (λ (a, e). inr (step j f a, onward _ a j f ∙ ap (m.partner j) e)) (found p)

    pub pairing_done : Matched m i t u ms
    pairing_done =
        record {
          long = s.mates.long;
          all = λ x y p. ⊎_elim
              (λ (a, e). e)
              (λ (a, e). ap (λ v. get_or ms v 0) (sym e) ∙ s.mates.turned y (inl a) (λ q. live_known x (pair_live m i t u law able.left able.right p) (sym e ∙ q)))
              (found p);
        }
