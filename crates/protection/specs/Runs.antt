-- Calls, and lists of calls, by the maps that they leave.
--   Answered   what a call may answer
--   Does       what a call comes to on a map
--   Run        what a list of calls leaves
--   each       a list of calls, all with the same scratch
--   Sayable    the arguments of a call are numbers of 16 bits
--   answer     what a call answers, as a value of the program
--   Performed  what the program gives back for a call
use Rattle.std.specs.Prelude.{◌≡◌, ℕ, ◌^◌, ◌<◌, List, [], ◌∷◌, Ok, Err, Result}
use Rattle.gmap.specs.Map.{Map, Same}
use Rattle.gmap.specs.Outcome.{Outcome}
use Rattle.gmap.specs.Acts.{open_checks, opened, close_checks, closed}
use Rattle.gmap.specs.Building.{join_checks, Joined, part_checks, Parted}
use Rattle.gmap.specs.Splitting.{split_checks, SplitAt}
use Rattle.gmap.specs.Removing.{remove_checks, Removed}
use Rattle.gmap.specs.declared.refusal.Refusal.{Refusal}
use Rattle.protection.specs.declared.call.Answer.{Answer}
use Rattle.protection.specs.declared.call.Answer.TheVariants.{Done, Count, Added}
use Rattle.protection.specs.declared.call.Call.{Call}
use Rattle.protection.specs.declared.call.Call.TheVariants.{Make, Unmake, Join, Part, Split, Remove}

abbrev pub Answered : Call → Type 0
Answered (Make t) = Unit {0}
Answered (Unmake t) = Unit {0}
Answered (Join i t u) = ℕ
Answered (Part i t) = ℕ
Answered (Split t f) = ℕ × ℕ
Answered (Remove i t) = ℕ

-- The call, given a scratch of so many entries, answers r on m and leaves m'.
abbrev pub Does : (scratch : ℕ) (c : Call) (m : Map) → Result (Answered c) Refusal → Map → Type 0
Does scratch (Make t) m r m' = Outcome (open_checks m t) (λ _. Same m' (opened m t)) (Same m' m) r
Does scratch (Unmake t) m r m' = Outcome (close_checks m t) (λ _. Same m' (closed m t)) (Same m' m) r
Does scratch (Join i t u) m r m' = Outcome (join_checks m scratch i t u) (λ n. Joined m i t u n m') (Same m' m) r
Does scratch (Part i t) m r m' = Outcome (part_checks m scratch i t) (λ n. Parted m i t n m') (Same m' m) r
Does scratch (Split t f) m r m' = Outcome (split_checks m scratch t f) (λ p. SplitAt m t f p m') (Same m' m) r
Does scratch (Remove i t) m r m' = Outcome (remove_checks m scratch i t) (λ n. Removed m i t n m') (Same m' m) r

-- The calls are carried out one after the other, each with a scratch of its own length; refused ones are passed over.
abbrev pub Run : List (ℕ × Call) → Map → Map → Type 0
Run [] m m'' = Same m m''
Run (c ∷ cs) m m'' = (r : Result (Answered c.1) Refusal) × ((m' : Map) × Does c.0 c.1 m r m' × Run cs m' m'')

abbrev pub each : ℕ → List Call → List (ℕ × Call)
each scratch [] = []
each scratch (c ∷ cs) = (scratch, c) ∷ each scratch cs

abbrev pub Sayable : Call → Type 0
Sayable (Make t) = t < 2 ^ 16
Sayable (Unmake t) = t < 2 ^ 16
Sayable (Join i t u) = (i < 2 ^ 16) × (t < 2 ^ 16) × (u < 2 ^ 16)
Sayable (Part i t) = (i < 2 ^ 16) × (t < 2 ^ 16)
Sayable (Split t f) = (t < 2 ^ 16) × (f < 2 ^ 16)
Sayable (Remove i t) = (i < 2 ^ 16) × (t < 2 ^ 16)

abbrev pub AllSayable : List Call → Type 0
AllSayable [] = Unit {0}
AllSayable (c ∷ cs) = Sayable c × AllSayable cs

abbrev pub answer : (c : Call) → Answered c → Answer
answer (Make t) a = Done
answer (Unmake t) a = Done
answer (Join i t u) n = Count n
answer (Part i t) n = Count n
answer (Split t f) p = Added p.0 p.1
answer (Remove i t) n = Count n

abbrev pub Performed : ℕ → Call → Map → Result Answer Refusal → Map → Type 0
Performed scratch c m (Ok a) m' = (v : Answered c) × (a ≡ answer c v) × Does scratch c m (Ok v) m'
Performed scratch c m (Err e) m' = Does scratch c m (Err e) m'
