-- What holds of every board that was empty once and was then changed by the six calls alone.
--   Protected   a map that such a board can have
--   Protection  lists of calls leave just the lawful maps, and all that is promised of these holds
use Rattle.std.specs.Prelude.{◌≡◌, ℕ, ◌*◌, ◌≤◌, Bool, true, List, Ok, Err, Result, ◌≢◌}
use Rattle.gmap.specs.Map.{Map, Partners, Lawful, Same, Fresh, Free}
use Rattle.gmap.specs.Rings.{Ring, Encircles}
use Rattle.gmap.specs.declared.refusal.Refusal.{Refusal}
use Rattle.protection.specs.Runs.{Answered, Does, Run, each, AllSayable}
use Rattle.protection.specs.Ties.{Keeps, Ties}
use Rattle.protection.specs.declared.call.Call.{Call}
use Rattle.protection.specs.declared.call.Call.TheVariants.{Join}

pub record Protected (m : Map) : Type 0 where
  pub partners : Partners m
  pub lawful : Lawful m
  -- each call comes to an answer or a refusal, and to one only, with one map
  pub answered : (scratch : ℕ) (c : Call) → (r : Result (Answered c) Refusal) × ((m' : Map) × Does scratch c m r m')
  pub single : (scratch : ℕ) (c : Call) (r r' : Result (Answered c) Refusal) (m' m'' : Map) → Does scratch c m r m' → Does scratch c m r' m'' → (r ≡ r') × Same m' m''
  -- a join of two different free tuples is refused only where nothing lawful ties them
  pub refused : (scratch i t u : ℕ) (m' : Map) (e : Refusal) → 4 * m.size ≤ scratch → i ≤ m.top → m.live t ≡ true → m.live u ≡ true → (t ≢ u) → Free m i t → Free m i u → Does scratch (Join i t u) m (Err e) m' → (M : Map) → Ties m i t u M → ⊥
  -- an accepted one leaves such a map, whose links every other such map keeps
  pub tied : (scratch i t u n : ℕ) (m' : Map) → Does scratch (Join i t u) m (Ok n) m' → Ties m i t u m' × ((M : Map) → Ties m i t u M → Keeps m' M)
  -- a ring lists its orbit, each tuple once or each twice
  pub listed : (k t : ℕ) (r : ℕ × Bool) (old new : List ℕ) → 1 ≤ k → k ≤ m.top → m.live t ≡ true → Ring m k t r old new → Encircles m k t r.0 new

pub record Protection (size top : ℕ) : Type 0 where
  -- from an empty board every list of calls leaves a lawful map
  pub kept : (m₀ m : Map) (cs : List (ℕ × Call)) → Partners m₀ → m₀.size ≡ size → m₀.top ≡ top → Fresh m₀ → Run cs m₀ m → Protected m × (m.size ≡ size) × (m.top ≡ top)
  -- every lawful map is left by some list, with any scratch that is long enough
  pub reached : (m₀ M : Map) → Partners m₀ → m₀.size ≡ size → m₀.top ≡ top → Fresh m₀ → Partners M → M.size ≡ size → M.top ≡ top → Lawful M → (scratch : ℕ) → 4 * size ≤ scratch → (cs : List Call) × AllSayable cs × Run (each scratch cs) m₀ M
  -- a list of calls leaves a map, and only one
  pub leaves : (m₀ : Map) (cs : List (ℕ × Call)) → Partners m₀ → m₀.size ≡ size → m₀.top ≡ top → Fresh m₀ → (m : Map) × Run cs m₀ m
  pub settled : (m₀ m m' : Map) (cs : List (ℕ × Call)) → Partners m₀ → Run cs m₀ m → Run cs m₀ m' → Same m m'
