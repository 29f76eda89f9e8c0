-- A list of calls, one call after another.
use Rattle.std.proofs.Common.{◌≡◌, ℕ, ◌+◌, ◌<◌, ◌≤◌, List, [], ◌∷◌, ◌++◌, length, get_or, take, Ok, Err, Result, sym, refl, ap, ◌∙◌, subst}
use Rattle.std.proofs.lemmas.List.{take_more, take_all}
use Rattle.gmap.specs.Map.{Map, Partners, Fresh}
use Rattle.gmap.specs.declared.refusal.Refusal.{Refusal}
use Rattle.gmap.proofs.Same.{same_refl, same_path}
use Rattle.protection.specs.Protection.{Protected}
use Rattle.protection.proofs.Protection.{protection}
use Rattle.protection.specs.Runs.{Answered, Does, Run, each, Performed}
use Rattle.protection.specs.declared.call.Answer.{Answer}
use Rattle.protection.specs.declared.call.Call.{Call}

-- what is performed is one of the things that the call can come to
performed_does : (scratch : ℕ) (c : Call) (m m' : Map) (r : Result Answer Refusal) → Performed scratch c m r m' → (v : Result (Answered c) Refusal) × Does scratch c m v m'
performed_does scratch c m m' (Ok a) (v, is, does) = (Ok v, does)
performed_does scratch c m m' (Err e) does = (Err e, does)

run_one : (scratch : ℕ) (c : Call) (m m' : Map) → (v : Result (Answered c) Refusal) × Does scratch c m v m' → Run ((scratch, c) ∷ []) m m'
run_one scratch c m m' (v, does) = (v, (m', does, same_refl m'))

run_behind : (cs : List (ℕ × Call)) (scratch : ℕ) (c : Call) (m k m' : Map) → Run cs m k → (v : Result (Answered c) Refusal) × Does scratch c k v m' → Run (cs ++ (scratch, c) ∷ []) m m'
run_behind [] scratch c m k m' run does = run_one scratch c m m' (subst (λ x. (v : Result (Answered c) Refusal) × Does scratch c x v m') (sym (same_path m k run)) does)
run_behind (d ∷ cs) scratch c m k m' (r, (n, first, run)) does = (r, (n, first, run_behind cs scratch c n k m' run does))

each_behind : (scratch : ℕ) (cs : List Call) (c : Call) → each scratch (cs ++ c ∷ []) ≡ each scratch cs ++ (scratch, c) ∷ []
each_behind scratch [] c = refl
each_behind scratch (d ∷ cs) c = ap (λ x. (scratch, d) ∷ x) (each_behind scratch cs c)

-- one call more
pub run_more : (scratch scratch' : ℕ) (cs : List Call) (n : ℕ) (d : Call) (m k m' : Map) (r : Result Answer Refusal) → scratch' ≡ scratch → n < length cs → Run (each scratch (take n cs)) m k → Performed scratch' (get_or cs n d) k r m' → Run (each scratch (take (n + 1) cs)) m m'
run_more scratch scratch' cs n d m k m' r long low run performed =
    let does = performed_does scratch (get_or cs n d) k m' r (subst (λ x. Performed x (get_or cs n d) k r m') long performed) in
    subst (λ x. Run x m m') (sym (ap (each scratch) (take_more cs n d low) ∙ each_behind scratch (take n cs) (get_or cs n d))) (run_behind (each scratch (take n cs)) scratch (get_or cs n d) m k m' run does)

-- all of them
pub run_all : (scratch : ℕ) (cs : List Call) (n : ℕ) (m m' : Map) → length cs ≤ n → Run (each scratch (take n cs)) m m' → Run (each scratch cs) m m'
run_all scratch cs n m m' h run = subst (λ x. Run (each scratch x) m m') (take_all n cs h) run

-- a board with no tuples is then protected
pub run_protected : (scratch : ℕ) (cs : List Call) (n : ℕ) (m m' : Map) → Run (each scratch (take n cs)) m m' → Partners m → Fresh m → Protected m'
run_protected scratch cs n m m' run law fresh = ((protection m.size m.top).kept m m' (each scratch (take n cs)) law refl refl fresh run).0
