-- A far orbit in front of a list, cut off there: a side.
use Rattle.std.proofs.Common.{◌≡◌, ℕ, ◌<◌, ◌≤◌, true, List, length, get_or, take, sym, ap, ◌∙◌, subst, arith}
use Rattle.std.proofs.lemmas.List.{get_or-take, length-take-le}
use Rattle.gmap.specs.Map.{Map, Partners, Far}
use Rattle.gmap.specs.Orbits.{Orbit, FarOrbit}
use Rattle.gmap.specs.Listing.{Among}
use Rattle.gmap.proofs.Orbits.{orbit_live}
use Rattle.questions.specs.Search.{Collected}
use Rattle.building.specs.Sides.{Side}

module _ (m : Map) (via : ℕ → Type 0) (t n : ℕ) (xs : List ℕ) (o : Collected m via t n xs) where
  -- as the code has `&xs[..n]`
  abbrev pub front : List ℕ
  front = take n xs

  long : length front ≡ n
  long = length-take-le n xs o.fits

  at : (k : ℕ) → k < n → get_or front k 0 ≡ get_or xs k 0
  at k h = get_or-take n xs k 0 h

  pub collected_front : Collected m via t (length front) front
  collected_front =
      record {
        some = omega (arith, long, o.some);
        fits = omega arith;
        first = at 0 o.some ∙ o.first;
        apart = λ k l h b e. o.apart k l h (omega (arith, long)) (sym (at k (omega (arith, long))) ∙ e ∙ at l (omega (arith, long)));
        only = λ k h. let l : k < n = omega (arith, long) in subst (Orbit m via t) (sym (at k l)) (o.only k l);
        all = λ x p. let (k, h, e) = o.all x p in (k, omega (arith, long), at k h ∙ e);
        from = λ k z h. let l : k < n = omega (arith, long) in let (p, i, b, on, e) = o.from k z l in (p, i, b, on, at k l ∙ e ∙ ap (m.partner i) (sym (at p (omega arith))));
      }

  pub front_among : (x : ℕ) → Among front (length front) x → Among xs n x
  front_among x (k, h, e) = let l : k < n = omega (arith, long) in (k, l, sym (at k l) ∙ e)

  pub among_front : (x : ℕ) → Among xs n x → Among front (length front) x
  among_front x (k, h, e) = (k, omega (arith, long), at k h ∙ e)

  pub front_few : length front ≤ length xs
  front_few = omega (arith, long, o.fits)

module _ (m : Map) (law : Partners m) (i t n : ℕ) (xs : List ℕ) (o : Collected m (Far i) t n xs) where
  pub front_side : i ≤ m.top → m.live t ≡ true → length xs ≤ m.size → Side m i (take n xs)
  front_side switch live room = record { switch = switch; few = omega (arith, front_few m (Far i) t n xs o, room); live = λ k h. orbit_live m law _ true live ((collected_front m (Far i) t n xs o).only k h) }

pub side_only : (m : Map) (i t : ℕ) (xs : List ℕ) → Collected m (Far i) t (length xs) xs → (x : ℕ) → Among xs (length xs) x → FarOrbit m i t x
side_only m i t xs o x (k, h, e) = subst (FarOrbit m i t) e (o.only k h)
