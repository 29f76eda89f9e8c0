-- Lists of calls that can be said, all with the same scratch, that lead from one map to another: one call more.
use Rattle.std.proofs.Common.{ℕ, List, [], ◌∷◌, ◌++◌, Result}
use Rattle.gmap.specs.Map.{Map}
use Rattle.gmap.specs.declared.refusal.Refusal.{Refusal}
use Rattle.gmap.proofs.Same.{same_refl}
use Rattle.protection.specs.Runs.{Answered, Does, Run, each, Sayable, AllSayable}
use Rattle.protection.specs.declared.call.Call.{Call}
use Rattle.protection.proofs.Same.{same_sym, same_holds}

run_more : (scratch : ℕ) (m₀ : Map) (cs : List Call) (m : Map) (c : Call) (r : Result (Answered c) Refusal) (m' : Map) → Run (each scratch cs) m₀ m → Does scratch c m r m' → Run (each scratch (cs ++ (c ∷ []))) m₀ m'
run_more scratch m₀ [] m c r m' s d = (r, (m', same_holds (λ z. Does scratch c z r m') (same_sym s) d, same_refl m'))
run_more scratch m₀ (b ∷ cs) m c r m' (q, (z, e, w)) d = (q, (z, e, run_more scratch z cs m c r m' w d))

sayable_more : (cs : List Call) (c : Call) → AllSayable cs → Sayable c → AllSayable (cs ++ (c ∷ []))
sayable_more [] c s p = (p, tt)
sayable_more (d ∷ cs) c (q, s) p = (q, sayable_more cs c s p)

abbrev pub Way : ℕ → Map → Map → Type 0
Way scratch m₀ m = (cs : List Call) × AllSayable cs × Run (each scratch cs) m₀ m

pub way_none : (scratch : ℕ) (m : Map) → Way scratch m m
way_none scratch m = ([], tt, same_refl m)

pub way_more : (scratch : ℕ) (m₀ m : Map) (c : Call) (r : Result (Answered c) Refusal) (m' : Map) → Way scratch m₀ m → Sayable c → Does scratch c m r m' → Way scratch m₀ m'
way_more scratch m₀ m c r m' (cs, s, w) p d = (cs ++ (c ∷ []), sayable_more cs c s p, run_more scratch m₀ cs m c r m' w d)
