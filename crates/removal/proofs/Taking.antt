-- Once the links at a cell are cut, its bridges can be tied and its slots closed, and then the cell is taken out.
use Rattle.std.proofs.Common.{◌≡◌, ℕ, ◌+◌, ◌<◌, true, List, length, get_or, sym, refl, ap, ◌∙◌, inl, inr, ⊎_elim, arith}
use Rattle.std.proofs.lemmas.Bool.{cases_eq, cases_lt}
use Rattle.gmap.specs.Map.{Map, Partners, Free}
use Rattle.gmap.specs.Building.{AllTied}
use Rattle.gmap.proofs.Listing.{among_cases}
use Rattle.building.specs.Tying.{PairsOf, Tieable}
use Rattle.removal.specs.Crossing.{In, Crosses, out}
use Rattle.removal.specs.Stages.{Celled, Bridge, Bridged, CutBelow, Closable, Closed, TakenOut}
use Rattle.removal.proofs.Walks.{crosses_single}
use Rattle.removal.proofs.Bridging.{bridge_of, bridge_turn, bridge_known}

module _ {m : Map} (law : Partners m) {i : ℕ} {xs : List ℕ} (cell : Celled m i xs) where
  live_in : (x : ℕ) → In xs x → m.live x ≡ true
  live_in x (k, h, e) = ap m.live (sym e) ∙ cell.live k h

  module _ {bs ends : List ℕ} (s : Bridged m i xs (length xs) (length bs) bs ends) {cut : Map} (c : CutBelow m (In xs) (m.top + 1) cut) where
    pair_bridge : (x y : ℕ) → PairsOf bs (length bs) ends x y → Bridge m i xs x y
    pair_bridge x y (inl (a, f)) = rw (← f) (bridge_of s x a)
    pair_bridge x y (inr (a, f)) = bridge_turn law cell (rw (← f) (bridge_of s y a))

    loose : (x : ℕ) → In xs (m.partner i x) → Free cut i x
    loose x p = c.cuts i x (omega (arith, cell.switch)) (inr p)

    pub tieable : length ends ≡ m.size → 0 < length bs → Tieable cut i bs (length bs) ends
    tieable long some =
        let turn : (k : ℕ) → k < length bs → Bridge m i xs (get_or ends (get_or bs k 0) 0) (get_or bs k 0) = λ k h. bridge_turn law cell (s.each k h) in
        record {
          switch = omega (arith, c.top, cell.switch);
          some = some;
          fits = omega arith;
          few = omega (arith, s.few, cell.few, c.size);
          long = long ∙ sym c.size;
          live = λ k h. c.live _ ∙ sym (law.alive i _) ∙ live_in _ (s.each k h).beside;
          mate = λ k h. c.live _ ∙ sym (law.alive i _) ∙ live_in _ (turn k h).beside;
          apart = λ k h. (s.each k h).apart;
          back = λ k h. bridge_known law cell s (turn k h);
          free = λ k h. loose _ (s.each k h).beside;
          mate_free = λ k h. loose _ (turn k h).beside;
        }

    module _ {links : ℕ} {tied : Map} (d : AllTied cut i (PairsOf bs (length bs) ends) links tied) where
      cut_free : (j x : ℕ) → In xs x → cut.partner j x ≡ x
      cut_free j x p = ⊎_elim (λ l. c.cuts j x l (inl p)) (λ l. c.rest j x (λ h. absurd (omega arith)) ∙ law.high j x (omega arith)) (cases_lt j (m.top + 1))

      tied_free : (j x : ℕ) → In xs x → tied.partner j x ≡ x
      tied_free j x p =
          ⊎_elim
          (λ e. rw e (d.rest x (λ y r. (pair_bridge x y r).outside p) ∙ cut_free i x p))
          (λ e. d.frame.others j x e ∙ cut_free j x p)
          (cases_eq j i)

      pub closable : Closable tied xs
      closable =
          record {
            few = omega (arith, cell.few, d.frame.size, c.size);
            apart = cell.apart;
            live = λ k h. d.frame.live _ ∙ c.live _ ∙ cell.live k h;
            free = λ j k h. tied_free j _ (k, h, refl);
          }

      -- the partner of what is outside
      ends_at : (x : ℕ) → (In xs x → ⊥) → Crosses m i xs (m.partner i x) (tied.partner i x)
      ends_at x q =
          ⊎_elim
          (λ p. ⊎_elim
          (λ a. rw (d.ties x _ (inl (a, refl))) (bridge_of s x a).leads)
          (λ o. rw (d.rest x (λ y r. let b = pair_bridge x y r in b.apart (crosses_single law cell o b.leads)) ∙ loose x p) o)
          (s.all x q p))
          (λ p. rw (d.rest x (λ y r. p (pair_bridge x y r).beside) ∙ c.rest i x (λ h. ⊎_elim q p)) (out p))
          (among_cases xs (length xs) (m.partner i x))

      pub taken_out : {last : Map} → Closed tied (In xs) last → TakenOut m i xs last
      taken_out f =
          record {
            size = f.size ∙ d.frame.size ∙ c.size;
            top = f.top ∙ d.frame.top ∙ c.top;
            gone = f.gone;
            still = λ j x p. f.partner j x ∙ tied_free j x p;
            stays = λ x q. f.stays x q ∙ d.frame.live x ∙ c.live x;
            others = λ j x e q. f.partner j x ∙ d.frame.others j x e ∙ c.rest j x (λ h. ⊎_elim q (cell.closed j x e q));
            across = λ x q. rw (f.partner i x) (ends_at x q);
          }
