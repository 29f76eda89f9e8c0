-- What the program gives back for a call, by what the function that carries it out comes to.
use Rattle.std.proofs.Common.{◌≡◌, ℕ, Ok, Err, Result, MatchResult, IsOkAnd, sym, subst}
use Rattle.gmap.specs.Map.{Map}
use Rattle.gmap.specs.declared.refusal.Refusal.{Refusal}
use Rattle.protection.specs.Runs.{Answered, Does, answer, Performed}
use Rattle.protection.specs.declared.call.Answer.{Answer}
use Rattle.protection.specs.declared.call.Call.{Call}

module _ (scratch : ℕ) (m m' : Map) (call c : Call) (is : call ≡ c) where
  -- the answer is made from what the function gives back, and its refusal is passed on
  pub performed : (Made : Answered c → Answer → Type 0) → ((v : Answered c) (a : Answer) → Made v a → a ≡ answer c v) → (v : Result (Answered c) Refusal) (r : Result Answer Refusal) → MatchResult v (λ x. IsOkAnd r (Made x)) (λ e. r ≡ Err e) → Does scratch c m v m' → Performed scratch call m r m'
  performed Made makes (Ok v) (Ok a) made does = subst (λ x. Performed scratch x m (Ok a) m') (sym is) (v, makes v a made, does)
  performed Made makes (Ok v) (Err e) made does = absurd made
  performed Made makes (Err e) r err does = subst (λ x. Performed scratch call m x m') (sym err) (subst (λ x. Performed scratch x m (Err e) m') (sym is) does)
