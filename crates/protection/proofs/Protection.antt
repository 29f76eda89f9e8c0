-- The theorem of protection.
use Rattle.std.proofs.Common.{ℕ, sym, ◌∙◌, arith}
use Rattle.gmap.specs.Map.{Map, Partners, Lawful, Fresh}
use Rattle.gmap.specs.Building.{join_checks}
use Rattle.protection.specs.Protection.{Protected, Protection}
use Rattle.protection.proofs.Switches.{free_lawful}
use Rattle.protection.proofs.Outcomes.{passes_first}
use Rattle.protection.proofs.Joining.{joinable_passes, passes_joinable, passes_fits, join_ties, join_least, ties_fits}
use Rattle.ring.proofs.Encircling.{encircles}
use Rattle.protection.proofs.Calls.{call_answers, call_single, run_exists, run_keeps, run_single}
use Rattle.protection.proofs.Reaching.{all_reached}

pub protected : (m : Map) → Partners m → Lawful m → Protected m
protected m law lawful =
    record {
      partners = law;
      lawful = lawful;
      answered = λ scratch c. call_answers m law scratch lawful c;
      single = call_single m law;
      refused = λ scratch i t u m' e long known left right apart lf rf d M c. passes_first (join_checks m scratch i t u) e
          (joinable_passes m scratch i t u law long (record { switch = known; left = left; right = right; apart = apart; left_free = lf; right_free = rf }) (ties_fits m M i t u lawful lf rf c)) d.0;
      tied = λ scratch i t u n m' (p, j). (join_ties m i t u n m' j law lawful (passes_joinable m scratch i t u p) (passes_fits m scratch i t u p), λ M c. join_least m i t u n m' M j c);
      listed = λ k t r old new low high alive ring. encircles m law k low t r old new ring;
    }

fresh_lawful : (m : Map) → Partners m → Fresh m → Lawful m
fresh_lawful m law fresh = free_lawful m (λ i t. law.still i t (fresh t))

pub protection : (size top : ℕ) → Protection size top
protection size top =
    record {
      kept = λ m₀ m cs law s t fresh run. let ((after, sm, tm), lawful) = run_keeps cs m₀ m law (fresh_lawful m₀ law fresh) run in (protected m after lawful, sm ∙ s, tm ∙ t);
      reached = λ m₀ M law₀ s₀ t₀ fresh law s t lawful scratch long. all_reached scratch m₀ M law lawful (omega arith) law₀ (s₀ ∙ sym s) (t₀ ∙ sym t) fresh;
      leaves = λ m₀ cs law s t fresh. run_exists cs m₀ law (fresh_lawful m₀ law fresh);
      settled = λ m₀ m m' cs law. run_single cs m₀ m m' law;
    }
