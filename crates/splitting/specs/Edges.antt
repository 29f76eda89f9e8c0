-- The edge that is split, in a map, and the slots of the new tuples.
--   under        the switch of the edge that a switch of the new vertex mirrors
--   count        how many tuples the edge has
--   member       the one at a place
--   IsBeside     the number of the new tuple beside a tuple of the edge
--   place        where the partner of the tuple at a place stands
--   Closed       the edge's tuples are there, and their partners in all switches but 1 are among them
--   Vacancies    the slots from a number on, as many as are wanted, are there, and vacant
--   Seated       the new tuples are there, beside those of the edge
--   Linkable     they are free in a switch above 0
--   Tieable      they are free in switch 0
--   edge_checks  why a split is refused that has enough memory and a switch above 0
use Rattle.std.specs.Prelude.{◌≡◌, ℕ, ◌+◌, ◌<◌, ◌≤◌, true, false, cond, List, [], ◌∷◌, length, ◌==◌, ◌≢◌, slice_index}
use Rattle.gmap.specs.Map.{Map, Free}
use Rattle.gmap.specs.Listing.{Among}
use Rattle.gmap.specs.Splitting.{Taken}
use Rattle.splitting.specs.declared.edge.Edge.{Edge}

abbrev pub under : ℕ → ℕ
under j = cond (j == 1) 0 j

abbrev pub count : Edge → ℕ
count e = length e.members.now

abbrev pub member : Edge → ℕ → ℕ
member e k = slice_index e.members.now k

abbrev pub IsBeside : Edge → ℕ → ℕ → Type 0
IsBeside e x x' = (k : ℕ) → k < count e → member e k ≡ x → x' ≡ e.first + k

abbrev pub place : Map → Edge → ℕ → ℕ → ℕ
place m e i k = slice_index e.ranks.now (m.partner i (member e k))

pub record Closed (m : Map) (e : Edge) : Type 0 where
  pub live : (k : ℕ) → k < count e → m.live (member e k) ≡ true
  pub closed : (i k : ℕ) → (i ≢ 1) → k < count e → Among e.members.now (count e) (m.partner i (member e k))

abbrev pub Vacancies : Map → ℕ → ℕ → Type 0
Vacancies m f n = (x : ℕ) → f ≤ x → x < f + n → (x < m.size) × (m.live x ≡ false)

pub record Seated (m : Map) (e : Edge) : Type 0 where
  pub closed : Closed m e
  pub born : (k : ℕ) → k < count e → m.live (e.first + k) ≡ true
  pub new : (k l : ℕ) → k < count e → l < count e → member e k ≢ e.first + l

pub record Linkable (m : Map) (j : ℕ) (e : Edge) : Type 0 where
  pub seated : Seated m e
  pub above : 1 ≤ j
  pub switch : j ≤ m.top
  pub free : (k : ℕ) → k < count e → Free m j (e.first + k)

pub record Tieable (m : Map) (e : Edge) : Type 0 where
  pub seated : Seated m e
  pub free : (k : ℕ) → k < count e → Free m 0 (e.first + k)

abbrev pub edge_checks : Map → ℕ → ℕ → List (Type 0 × ℕ)
edge_checks m t f = (m.size ≤ t, 2) ∷ (m.live t ≡ false, 3) ∷ (Taken m t f, 10) ∷ []
