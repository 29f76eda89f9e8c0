-- A generalized map on numbered slots.
--   Map        slots, top, which slots hold a tuple, each tuple's partner in each switch
--   Partners   the law of partners, which every map of the library keeps
--   Far        two switches whose numbers differ by two or more
--   Free       a tuple that is its own partner in a switch
--   Lawful     far switches commute
--   Whole      no tuple is free in a switch below the top
--   Same       two maps give the same answers
--   Fresh      no slot holds a tuple
--   DiffersIn  two maps agree in all but one switch
use Rattle.std.specs.Prelude.{◌≡◌, ℕ, ◌+◌, ◌<◌, ◌≤◌, Bool, true, false, ◌⊎◌, ◌≢◌}

-- Slots are 0 to size - 1 and switches 0 to top. A slot that is live holds a tuple.
-- partner i t is defined for all numbers: what is no tuple, and whatever is above the top, is its own partner,
-- so that the laws below need no side conditions.
pub record Map : Type 0 where
  pub size : ℕ
  pub top : ℕ
  pub live : ℕ → Bool
  pub partner : ℕ → ℕ → ℕ

-- A partner's partner is the tuple itself, and a tuple's partner is a tuple.
pub record Partners (m : Map) : Type 0 where
  pub few : m.size ≤ 4096
  pub low : m.top ≤ 7
  pub inside : (t : ℕ) → m.live t ≡ true → t < m.size
  pub back : (i t : ℕ) → m.partner i (m.partner i t) ≡ t
  pub alive : (i t : ℕ) → m.live (m.partner i t) ≡ m.live t
  pub still : (i t : ℕ) → m.live t ≡ false → m.partner i t ≡ t
  pub high : (i t : ℕ) → m.top < i → m.partner i t ≡ t

abbrev pub Far : ℕ → ℕ → Type 0
Far i j = (i + 2 ≤ j) ⊎ (j + 2 ≤ i)

-- A tuple that is not free in a switch is linked in it.
abbrev pub Free : Map → ℕ → ℕ → Type 0
Free m i t = m.partner i t ≡ t

abbrev pub Lawful : Map → Type 0
Lawful m = (i j t : ℕ) → Far i j → m.partner i (m.partner j t) ≡ m.partner j (m.partner i t)

abbrev pub Whole : Map → Type 0
Whole m = (i t : ℕ) → i < m.top → m.live t ≡ true → Free m i t → ⊥

pub record Same (m m' : Map) : Type 0 where
  pub size : m.size ≡ m'.size
  pub top : m.top ≡ m'.top
  pub live : (t : ℕ) → m.live t ≡ m'.live t
  pub partner : (i t : ℕ) → m.partner i t ≡ m'.partner i t

abbrev pub Fresh : Map → Type 0
Fresh m = (t : ℕ) → m.live t ≡ false

-- m' has the slots, tuples and partners of m, but for the partners in switch i.
pub record DiffersIn (i : ℕ) (m m' : Map) : Type 0 where
  pub size : m'.size ≡ m.size
  pub top : m'.top ≡ m.top
  pub live : (t : ℕ) → m'.live t ≡ m.live t
  pub others : (j t : ℕ) → (j ≢ i) → m'.partner j t ≡ m.partner j t
