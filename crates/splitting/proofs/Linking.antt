-- Linking the new tuples as those of the edge: one place after the other, and one switch after the other.
use Rattle.std.proofs.Common.{◌≡◌, ℕ, ◌+◌, ◌<◌, ◌≤◌, ◌⊎◌, sym, refl, ap, ◌∙◌, subst, inl, ⊎_elim, arith}
use Rattle.std.proofs.lemmas.Bool.{cases_eq}
use Rattle.gmap.specs.Map.{Map, Partners, Free, Same}
use Rattle.gmap.specs.Acts.{tie_checks, tied}
use Rattle.gmap.specs.Listing.{Among}
use Rattle.gmap.specs.Outcome.{First}
use Rattle.gmap.specs.declared.refusal.Refusal.{Refusal}
use Rattle.gmap.proofs.Acts.{tie_accepted, tied_frame, tied_left, tied_right, tied_rest}
use Rattle.gmap.proofs.Same.{same_path}
use Rattle.splitting.specs.Edges.{under, IsBeside, count, member, place, Seated, Linkable}
use Rattle.splitting.specs.Stages.{Linked, AllLinked}
use Rattle.splitting.specs.declared.edge.Edge.{Edge}
use Rattle.gmap.proofs.Frames.{frame_then}
use Rattle.splitting.proofs.Places.{under_off, place_low, place_is, place_back, seated_kept, old_place}

module _ (m : Map) (law : Partners m) (j : ℕ) (edge : Edge) (able : Linkable m j edge) where
  abbrev q : ℕ → ℕ
  q = place m edge (under j)

  inside : (l : ℕ) → l < count edge → q l < count edge
  inside = place_low m edge able.seated.closed (under j) (under_off j)

  back : (l : ℕ) → l < count edge → q (q l) ≡ l
  back = place_back m edge law able.seated.closed (under j) (under_off j)

  module _ (k : ℕ) (h : k < count edge) (now : Map) (w : Linked m j edge k now) (switch partner : ℕ) (is : switch ≡ under j) (look : partner ≡ now.partner switch (member edge k)) where
    -- the partner that is read is the one of the start
    read_is : member edge (q k) ≡ partner
    read_is =
        let old : now.partner switch (member edge k) ≡ m.partner switch (member edge k) = ⊎_elim
        (λ e. rw e (w.rest (member edge k) (λ l c p. able.seated.new k l h c p)))
        (λ e. w.frame.others switch (member edge k) e)
        (cases_eq switch j) in
        cc (place_is m edge able.seated.closed (under j) (under_off j) k h)

    pub read_among : Among edge.members.now (count edge) partner
    read_among = (q k, inside k h, read_is)

    module _ (low high : ℕ) (low_is : IsBeside edge (member edge k) low) (high_is : IsBeside edge partner high) where
      one : low ≡ edge.first + k
      one = low_is k h refl

      other : high ≡ edge.first + q k
      other = high_is (q k) (inside k h) read_is

      -- the partner stands before the tuple, or is it
      pub link_skip : high ≤ low → Linked m j edge (k + 1) now
      link_skip le = record { frame = w.frame; links = links; free = λ l c s u. w.free l c (omega arith) (omega arith); rest = w.rest }
        where
          links : (l : ℕ) → l < count edge → (l < k + 1) ⊎ (q l < k + 1) → now.partner j (edge.first + l) ≡ edge.first + q l
          links l c d = grind (arith, w.links l c, w.free l c, back l c, one, other)

      pub tie_passes : low < high → Partners now → (e : Refusal) → First (tie_checks now j low high) e → ⊥
      tie_passes lt law' =
          let later : k < q k = omega (arith, one, other) in
          rw (one, other) (tie_accepted now law' j _ (omega (arith, w.frame.top, able.switch)) (w.frame.live _ ∙ able.seated.born k h) _ (w.frame.live _ ∙ able.seated.born (q k) (inside k h)) (λ e. omega arith)
          (w.free k h (omega arith) (omega arith)) (w.free (q k) (inside k h) (omega arith) (omega (arith, back k h))))

      pub link_more : low < high → (next : Map) → Same next (tied now j low high) → Linked m j edge (k + 1) next
      link_more lt next same =
          subst (Linked m j edge (k + 1)) (sym (same_path next (tied now j low high) same))
          (record { frame = frame_then w.frame (tied_frame now j low high); links = links; free = free; rest = λ y off. tied_rest now j low high y (λ e. off k h (e ∙ one)) (λ e. off (q k) (inside k h) (e ∙ other)) ∙ w.rest y off })
        where
          links : (l : ℕ) → l < count edge → (l < k + 1) ⊎ (q l < k + 1) → (tied now j low high).partner j (edge.first + l) ≡ edge.first + q l
          links l c d =
              ⊎_elim
              (λ s. grind (arith, tied_left now j low high, one, other))
              (λ s. ⊎_elim
              (λ u. grind (arith, tied_right now j low high, back k h, one, other))
              (λ u. grind (arith, tied_rest now j low high (edge.first + l), w.links l c, back l c, one, other))
              (cases_eq l (q k)))
              (cases_eq l k)

          free : (l : ℕ) → l < count edge → k + 1 ≤ l → k + 1 ≤ q l → Free (tied now j low high) j (edge.first + l)
          free l c s u = grind (arith, tied_rest now j low high (edge.first + l), w.free l c, back l c, back k h, one, other)

-- one switch more
module _ (m : Map) (edge : Edge) (s : Seated m edge) (j : ℕ) (above : 1 ≤ j) (now : Map) (w : AllLinked m edge j now) where
  all_old : (i k : ℕ) → k < count edge → now.partner i (member edge k) ≡ m.partner i (member edge k)
  all_old i k h = w.rest i (member edge k) (λ o u l c e. s.new k l h c e)

  pub all_seated : Seated now edge
  all_seated = seated_kept m edge s now w.live all_old

  pub all_more : (next : Map) → Linked now j edge (count edge) next → AllLinked m edge (j + 1) next
  all_more next v =
      record {
        size = v.frame.size ∙ w.size;
        top = v.frame.top ∙ w.top;
        live = λ t. v.frame.live t ∙ w.live t;
        links = λ i l o u h. ⊎_elim
            (λ e. rw e (v.links l h (inl h) ∙ ap (λ z. edge.first + z) (old_place m edge s now w.live all_old (under j) l h)))
            (λ e. v.frame.others i _ e ∙ w.links i l o (omega arith) h)
            (cases_eq i j);
        rest = λ i y off. ⊎_elim
            (λ e. rw e (v.rest y (λ l h. off (omega arith) (omega arith) l h)))
            (λ e. v.frame.others i y e)
            (cases_eq i j) ∙ w.rest i y (λ o u. off o (omega arith));
      }

  -- in the switch itself they are still free
  pub all_free : ((i k : ℕ) → k < count edge → Free m i (edge.first + k)) → (k : ℕ) → k < count edge → Free now j (edge.first + k)
  all_free free k h = w.rest j (edge.first + k) (λ o u l c e. omega arith) ∙ free j k h
