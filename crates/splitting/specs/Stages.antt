-- The map after each stage of a split.
--   Opened     the first new tuples are there, and free
--   Linked     the new tuples are linked in one switch where a link has an end among the first of them
--   AllLinked  they are linked in the switches above 0 and below one
--   Retied     a tuple is tied in switch 0 to another, and what was its partner is free
--   Ended      the first tuples of the edge are tied in 0 to the new ones, and the later are as before or free
--   Grown      the new tuples are there, linked among themselves and tied to the old
use Rattle.std.specs.Prelude.{◌≡◌, ℕ, ◌+◌, ◌<◌, ◌≤◌, true, ◌⊎◌, ◌≢◌}
use Rattle.gmap.specs.Map.{Map, Free, DiffersIn}
use Rattle.gmap.specs.Listing.{Among}
use Rattle.splitting.specs.Edges.{under, count, member, place}
use Rattle.splitting.specs.declared.edge.Edge.{Edge}

pub record Opened (f k : ℕ) (m m' : Map) : Type 0 where
  pub size : m'.size ≡ m.size
  pub top : m'.top ≡ m.top
  pub born : (l : ℕ) → l < k → m'.live (f + l) ≡ true
  pub as_live : (y : ℕ) → ((l : ℕ) → l < k → y ≢ f + l) → m'.live y ≡ m.live y
  pub partner : (i y : ℕ) → m'.partner i y ≡ m.partner i y

pub record Linked (m : Map) (j : ℕ) (e : Edge) (k : ℕ) (m' : Map) : Type 0 where
  pub frame : DiffersIn j m m'
  pub links : (l : ℕ) → l < count e → (l < k) ⊎ (place m e (under j) l < k) → m'.partner j (e.first + l) ≡ e.first + place m e (under j) l
  pub free : (l : ℕ) → l < count e → k ≤ l → k ≤ place m e (under j) l → Free m' j (e.first + l)
  pub rest : (y : ℕ) → ((l : ℕ) → l < count e → y ≢ e.first + l) → m'.partner j y ≡ m.partner j y

pub record AllLinked (m : Map) (e : Edge) (j : ℕ) (m' : Map) : Type 0 where
  pub size : m'.size ≡ m.size
  pub top : m'.top ≡ m.top
  pub live : (t : ℕ) → m'.live t ≡ m.live t
  pub links : (i l : ℕ) → 1 ≤ i → i < j → l < count e → m'.partner i (e.first + l) ≡ e.first + place m e (under i) l
  pub rest : (i y : ℕ) → (1 ≤ i → i < j → (l : ℕ) → l < count e → y ≢ e.first + l) → m'.partner i y ≡ m.partner i y

pub record Retied (x y : ℕ) (m m' : Map) : Type 0 where
  pub frame : DiffersIn 0 m m'
  pub there : m'.partner 0 x ≡ y
  pub back : m'.partner 0 y ≡ x
  pub freed : m.partner 0 x ≢ x → Free m' 0 (m.partner 0 x)
  pub rest : (a : ℕ) → a ≢ x → a ≢ y → a ≢ m.partner 0 x → m'.partner 0 a ≡ m.partner 0 a

pub record Ended (m : Map) (e : Edge) (k : ℕ) (m' : Map) : Type 0 where
  pub frame : DiffersIn 0 m m'
  pub ends : (l : ℕ) → l < k → m'.partner 0 (member e l) ≡ e.first + l
  pub back : (l : ℕ) → l < k → m'.partner 0 (e.first + l) ≡ member e l
  pub free : (l : ℕ) → k ≤ l → l < count e → Free m' 0 (e.first + l)
  pub left : (l : ℕ) → k ≤ l → l < count e → Free m' 0 (member e l) ⊎ (m'.partner 0 (member e l) ≡ m.partner 0 (member e l))
  pub rest : (y : ℕ) → (Among e.members.now (count e) y → ⊥) → ((l : ℕ) → l < count e → y ≢ e.first + l) → m'.partner 0 y ≡ m.partner 0 y

pub record Grown (e : Edge) (m m' : Map) : Type 0 where
  pub size : m'.size ≡ m.size
  pub top : m'.top ≡ m.top
  pub born : (l : ℕ) → l < count e → m'.live (e.first + l) ≡ true
  pub as_live : (y : ℕ) → ((l : ℕ) → l < count e → y ≢ e.first + l) → m'.live y ≡ m.live y
  pub ends : (l : ℕ) → l < count e → m'.partner 0 (member e l) ≡ e.first + l
  pub back : (l : ℕ) → l < count e → m'.partner 0 (e.first + l) ≡ member e l
  pub links : (j l : ℕ) → 1 ≤ j → j ≤ m.top → l < count e → m'.partner j (e.first + l) ≡ e.first + place m e (under j) l
  pub others : (j y : ℕ) → (j ≡ 0 → Among e.members.now (count e) y → ⊥) → ((l : ℕ) → l < count e → y ≢ e.first + l) → m'.partner j y ≡ m.partner j y
