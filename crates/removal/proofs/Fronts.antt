-- A cell in front of a list, cut off there: it can be taken out, and what that leaves is the removal of the cell.
use Rattle.std.proofs.Common.{◌≡◌, ℕ, ◌<◌, ◌≤◌, true, false, List, length, get_or, take, sym, refl, ap, ◌∙◌, ⊎_elim, arith}
use Rattle.std.proofs.lemmas.List.{get_or-take, length-take-le}
use Rattle.std.proofs.lemmas.Bool.{cases_Bool}
use Rattle.gmap.specs.Map.{Map, Partners}
use Rattle.gmap.specs.Listing.{Ranked, Members}
use Rattle.gmap.specs.Orbits.{Cell, step}
use Rattle.gmap.specs.Removing.{Twist, Removed}
use Rattle.gmap.proofs.Orbits.{orbit_live}
use Rattle.removal.specs.Crossing.{In}
use Rattle.removal.specs.Stages.{Ranks, Celled, Twists, TakenOut}
use Rattle.removal.proofs.Walks.{crosses_leads}

module _ {m : Map} {i t n : ℕ} {xs ranks : List ℕ} (r : Ranked (Cell m i t) n xs ranks) where
  abbrev front : List ℕ
  front = take n xs

  long : length front ≡ n
  long = length-take-le n xs r.fits

  at : (k : ℕ) → k < n → get_or front k 0 ≡ get_or xs k 0
  at k h = get_or-take n xs k 0 h

  in_cell : (x : ℕ) → In front x → Cell m i t x
  in_cell x (k, h, e) = let l : k < n = omega (arith, long) in rw (sym e ∙ at k l) (r.only k l)

  cell_in : (x : ℕ) → Cell m i t x → In front x
  cell_in x p = let (k, h, e) = r.all x p in (k, omega (arith, long), at k h ∙ e)

  members : Members (Cell m i t) front
  members =
      record {
        apart = λ k l h b e. let q : l < n = omega (arith, long) in omega (arith, r.rises k l h q, at k (omega arith), at l q, e);
        sound = λ k h. in_cell _ (k, h, refl);
        whole = cell_in;
      }

  pub front_celled : Partners m → i < m.top → (m.live t ≡ false → ⊥) → length xs ≤ m.size → Celled m i front
  front_celled law low vacant few =
      let live : m.live t ≡ true = ⊎_elim (λ e. e) (λ e. absurd (vacant e)) (cases_Bool (m.live t)) in
      record {
        switch = low;
        few = omega (arith, long, r.fits);
        live = λ k h. orbit_live m law _ true live (in_cell _ (k, h, refl));
        apart = members.apart;
        closed = λ j x e q p. q (cell_in x (rw (← law.back j x) (step j e (in_cell _ p))));
      }

  pub front_ranks : Ranks front ranks
  front_ranks k h = let l : k < n = omega (arith, long) in ap (λ x. get_or ranks x 0) (at k l) ∙ r.rank k l

  pub front_twist : Twists m i front → Twist m i t
  front_twist (low, (x, p, differ)) = (low, (x, in_cell x p, differ))

  pub twist_front : Twist m i t → Twists m i front
  twist_front (low, (x, p, differ)) = (low, (x, cell_in x p, differ))

  pub removed : {m' : Map} → TakenOut m i front m' → Removed m i t n m'
  removed s =
      record {
        size = s.size;
        top = s.top;
        gone = λ x p. s.gone x (cell_in x p);
        still = λ j x p. s.still j x (cell_in x p);
        stays = λ x q. s.stays x (λ p. q (in_cell x p));
        others = λ j x e q. s.others j x e (λ p. q (in_cell x p));
        across = λ x q. crosses_leads in_cell cell_in (s.across x (λ p. q (in_cell x p)));
        count = (front, members, long);
      }
