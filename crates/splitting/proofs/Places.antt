-- The places of the partners of an edge's tuples.
use Rattle.std.proofs.Common.{◌≡◌, ℕ, ◌<◌, slice_index, sym, ap, ◌∙◌, arith}
use Rattle.std.proofs.lemmas.Bool.Decides.{nat_tests}
use Rattle.gmap.specs.Map.{Map, Partners}
use Rattle.splitting.specs.Edges.{under, count, member, place, Closed, Seated}
use Rattle.splitting.specs.declared.edge.Edge.{Edge}

pub under_one : (j : ℕ) → j ≡ 1 → under j ≡ 0
under_one j e = grind (arith, nat_tests)

pub under_other : (j : ℕ) → (j ≡ 1 → ⊥) → under j ≡ j
under_other j e = grind (arith, nat_tests)

-- no switch of the new vertex mirrors switch 1
pub under_off : (j : ℕ) → under j ≡ 1 → ⊥
under_off j h = grind (arith, under_one j, under_other j)

-- the tuples of an edge are different
pub same_place : (edge : Edge) (k l : ℕ) → k < count edge → l < count edge → member edge k ≡ member edge l → k ≡ l
same_place edge k l h b e = grind (arith, edge.ranked k h, edge.ranked l b)

module _ (m : Map) (edge : Edge) (closed : Closed m edge) (i : ℕ) (on : i ≡ 1 → ⊥) (k : ℕ) (h : k < count edge) where
  pub place_of : (l : ℕ) → l < count edge → member edge l ≡ m.partner i (member edge k) → place m edge i k ≡ l
  place_of l b e = ap (λ x. slice_index edge.ranks.now x) (sym e) ∙ edge.ranked l b

  pub place_low : place m edge i k < count edge
  place_low = let (l, b, e) = closed.closed i k on h in omega (arith, place_of l b e)

  pub place_is : member edge (place m edge i k) ≡ m.partner i (member edge k)
  place_is = let (l, b, e) = closed.closed i k on h in ap (member edge) (place_of l b e) ∙ e

-- the place of the partner's partner
pub place_back : (m : Map) (edge : Edge) → Partners m → Closed m edge → (i : ℕ) → (i ≡ 1 → ⊥) → (k : ℕ) → k < count edge → place m edge i (place m edge i k) ≡ k
place_back m edge law closed i on k h =
    place_of m edge closed i on (place m edge i k) (place_low m edge closed i on k h) k h (sym (law.back i (member edge k)) ∙ ap (m.partner i) (sym (place_is m edge closed i on k h)))

-- where the tuples of the edge have their partners still, a step later
module _ (m : Map) (edge : Edge) (s : Seated m edge) (now : Map) (live : (t : ℕ) → now.live t ≡ m.live t) (old : (i k : ℕ) → k < count edge → now.partner i (member edge k) ≡ m.partner i (member edge k)) where
  pub seated_kept : Seated now edge
  seated_kept =
      record {
        closed = record {
          live = λ k h. live _ ∙ s.closed.live k h;
          closed = λ i k on h. let (l, b, e) = s.closed.closed i k on h in (l, b, e ∙ sym (old i k h));
        };
        born = λ k h. live _ ∙ s.born k h;
        new = s.new;
      }

  pub old_place : (i k : ℕ) → k < count edge → place now edge i k ≡ place m edge i k
  old_place i k h = ap (λ x. slice_index edge.ranks.now x) (old i k h)
