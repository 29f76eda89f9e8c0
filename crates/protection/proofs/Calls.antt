-- Each call has an outcome, and one only, and keeps the laws; so does each list of calls.
use Rattle.std.proofs.Common.{◌≡◌, ℕ, ◌*◌, true, false, List, [], ◌∷◌, Result, sym, refl, ◌∙◌, subst, inl, inr}
use mathlib.Core.Bool.{Bool-discrete}
use mathlib.Core.Logic.Dec
use native.Mathlib.Decide.{ℕ_discrete, dec_le, dec_lt}
use Rattle.gmap.specs.Map.{Map, Partners, Lawful, Same}
use Rattle.gmap.specs.Outcome.{Passes, Outcome}
use Rattle.gmap.specs.Acts.{open_checks, opened, close_checks, closed}
use Rattle.gmap.specs.Building.{join_checks, Joined, part_checks, Parted}
use Rattle.gmap.specs.Splitting.{split_checks, SplitAt}
use Rattle.gmap.specs.Removing.{remove_checks, Removed}
use Rattle.gmap.specs.declared.refusal.Refusal.{Refusal}
use Rattle.gmap.proofs.Same.{same_refl}
use Rattle.protection.specs.Runs.{Answered, Does, Run}
use Rattle.protection.specs.declared.call.Call.{Call}
use Rattle.protection.specs.declared.call.Call.TheVariants.{Make, Unmake, Join, Part, Split, Remove}
use Rattle.protection.proofs.Cases.{stable, not_false_true, dec_sum}
use Rattle.protection.proofs.Same.{same_sym, same_trans, same_holds}
use Rattle.protection.proofs.Outcomes.{outcome_single, outcome_exists, outcome_keeps, Settles}
use Rattle.protection.proofs.Making.{make_partners, unmake_partners, dec_linked}
use Rattle.protection.proofs.Joining.{passes_joinable, passes_fits, join_partners, join_lawful, join_single, join_exists, dec_fits}
use Rattle.protection.proofs.Parting.{part_partners, part_lawful, part_single, part_exists}
use Rattle.protection.proofs.Splitting.{dec_taken, split_partners, split_lawful, split_single, split_exists}
use Rattle.protection.proofs.Removing.{untwisted, dec_twist, remove_partners, remove_lawful, remove_single, remove_exists}

-- the refusals of a call, and what it leaves where it is accepted
abbrev Checks : ℕ → Call → Map → List (Type 0 × ℕ)
Checks scratch (Make t) m = open_checks m t
Checks scratch (Unmake t) m = close_checks m t
Checks scratch (Join i t u) m = join_checks m scratch i t u
Checks scratch (Part i t) m = part_checks m scratch i t
Checks scratch (Split t f) m = split_checks m scratch t f
Checks scratch (Remove i t) m = remove_checks m scratch i t

abbrev Leaves : (c : Call) → Map → Map → Answered c → Type 0
Leaves (Make t) m m' a = Same m' (opened m t)
Leaves (Unmake t) m m' a = Same m' (closed m t)
Leaves (Join i t u) m m' n = Joined m i t u n m'
Leaves (Part i t) m m' n = Parted m i t n m'
Leaves (Split t f) m m' r = SplitAt m t f r m'
Leaves (Remove i t) m m' n = Removed m i t n m'

abbrev Comes : (scratch : ℕ) (c : Call) (m : Map) → Result (Answered c) Refusal → Map → Type 0
Comes scratch c m r m' = Outcome (Checks scratch c m) (Leaves c m m') (Same m' m) r

does_comes : (scratch : ℕ) (c : Call) (m : Map) → Does scratch c m ≡ Comes scratch c m
does_comes scratch (Make t) m = refl
does_comes scratch (Unmake t) m = refl
does_comes scratch (Join i t u) m = refl
does_comes scratch (Part i t) m = refl
does_comes scratch (Split t f) m = refl
does_comes scratch (Remove i t) m = refl

-- the law of partners, with the size and the top
abbrev Stands : Map → Map → Type 0
Stands m m' = Partners m' × (m'.size ≡ m.size) × (m'.top ≡ m.top)

module _ (m : Map) (law : Partners m) (scratch : ℕ) where
  comes : (c : Call) (r : Result (Answered c) Refusal) (m' : Map) → Does scratch c m r m' → Comes scratch c m r m'
  comes c r m' = subst (λ D. D r m') (does_comes scratch c m)

  leaves_single : (c : Call) (a a' : Answered c) (m' m'' : Map) → Passes (Checks scratch c m) → Leaves c m m' a → Leaves c m m'' a' → (a ≡ a') × Same m' m''
  leaves_single (Make t) a a' m' m'' p x y = (refl, same_trans x (same_sym y))
  leaves_single (Unmake t) a a' m' m'' p x y = (refl, same_trans x (same_sym y))
  leaves_single (Join i t u) n n' m' m'' p x y = join_single m i t u n n' m' m'' x y
  leaves_single (Part i t) n n' m' m'' p x y = part_single m law i t n m' x n' m'' y
  leaves_single (Split t f) r r' m' m'' p x y = split_single m law t f scratch p r r' m' m'' x y
  leaves_single (Remove i t) n n' m' m'' p x y = remove_single m law i t n m' x n' m'' y

  pub call_single : (c : Call) (r r' : Result (Answered c) Refusal) (m' m'' : Map) → Does scratch c m r m' → Does scratch c m r' m'' → (r ≡ r') × Same m' m''
  call_single c r r' m' m'' d e = outcome_single (Checks scratch c m) m (Leaves c m) (leaves_single c) r r' m' m'' (comes c r m' d) (comes c r' m'' e)

  leaves_partners : (c : Call) (a : Answered c) (m' : Map) → Passes (Checks scratch c m) → Leaves c m m' a → Stands m m'
  leaves_partners (Make t) a m' p x = same_holds (Stands m) (same_sym x) (make_partners m law t p, refl, refl)
  leaves_partners (Unmake t) a m' p x = same_holds (Stands m) (same_sym x) (unmake_partners m law t p, refl, refl)
  leaves_partners (Join i t u) n m' p x = (join_partners m i t u n m' x law (passes_joinable m scratch i t u p) (passes_fits m scratch i t u p), x.frame.size, x.frame.top)
  leaves_partners (Part i t) n m' p x = (part_partners m law i t n m' x, x.frame.size, x.frame.top)
  leaves_partners (Split t f) r m' p x = (split_partners m law t f scratch p r m' x, x.size, x.top)
  leaves_partners (Remove i t) n m' p x = (remove_partners m law i t n m' x, x.size, x.top)

  call_partners : (c : Call) (r : Result (Answered c) Refusal) (m' : Map) → Does scratch c m r m' → Stands m m'
  call_partners c r m' d = outcome_keeps (Checks scratch c m) m (Leaves c m) (Stands m) (law, refl, refl) (leaves_partners c) r m' (comes c r m' d)

  module _ (lawful : Lawful m) where
    leaves_lawful : (c : Call) (a : Answered c) (m' : Map) → Passes (Checks scratch c m) → Leaves c m m' a → Lawful m'
    leaves_lawful (Make t) a m' p x = same_holds Lawful (same_sym x) lawful
    leaves_lawful (Unmake t) a m' p x = same_holds Lawful (same_sym x) lawful
    leaves_lawful (Join i t u) n m' p x = join_lawful m i t u n m' x law lawful
    leaves_lawful (Part i t) n m' p x = part_lawful m law i t n m' x lawful
    leaves_lawful (Split t f) r m' p x = split_lawful m law t f scratch p r m' x lawful
    leaves_lawful (Remove i t) n m' p x = remove_lawful m law i t n m' x lawful (untwisted m law i t p.1.1.1.1.0)

    call_lawful : (c : Call) (r : Result (Answered c) Refusal) (m' : Map) → Does scratch c m r m' → Lawful m'
    call_lawful c r m' d = outcome_keeps (Checks scratch c m) m (Leaves c m) Lawful lawful (leaves_lawful c) r m' (comes c r m' d)

    call_settles : (c : Call) → Settles (Checks scratch c m)
    call_settles (Make t) = (refl, dec_le m.size t, λ _. (refl, Bool-discrete (m.live t) true, λ _. tt))
    call_settles (Unmake t) = (refl, dec_le m.size t, λ _. (refl, Bool-discrete (m.live t) false, λ _. (refl, dec_linked m law t, λ _. tt)))
    call_settles (Join i t u) = (
      refl,
      dec_lt scratch (4 * m.size),
      λ _. (
        refl,
        dec_lt m.top i,
        λ _. (
          refl,
          dec_sum (dec_le m.size t) (dec_le m.size u),
          λ _. (
            refl,
            dec_sum (Bool-discrete (m.live t) false) (Bool-discrete (m.live u) false),
            λ v. (
              refl,
              ℕ_discrete t u,
              λ _. (
                refl,
                dec_sum (Dec.not (ℕ_discrete (m.partner i t) t)) (Dec.not (ℕ_discrete (m.partner i u) u)),
                λ l.
                    (refl, Dec.not (dec_fits m law i t u (not_false_true (m.live t) (λ q. v (inl q))) (not_false_true (m.live u) (λ q. v (inr q))) lawful (stable (m.partner i t) t (λ q. l (inl q))) (stable (m.partner i u) u (λ q. l (inr q)))), λ _. tt),
              ),
            ),
          ),
        ),
      ),
    )
    call_settles (Part i t) =
        (refl, dec_lt scratch (4 * m.size), λ _. (refl, dec_lt m.top i, λ _. (refl, dec_le m.size t, λ _. (refl, Bool-discrete (m.live t) false, λ _. (refl, ℕ_discrete (m.partner i t) t, λ _. tt)))))
    call_settles (Split t f) =
        (refl, dec_lt scratch (4 * m.size), λ _. (refl, ℕ_discrete m.top 0, λ _. (refl, dec_le m.size t, λ _. (refl, Bool-discrete (m.live t) false, λ v. (refl, dec_taken m law t f (not_false_true (m.live t) v), λ _. tt)))))
    call_settles (Remove i t) =
        (refl, dec_lt scratch (4 * m.size), λ _. (refl, dec_le m.top i, λ _. (refl, dec_le m.size t, λ _. (refl, Bool-discrete (m.live t) false, λ v. (refl, dec_twist m law i t (not_false_true (m.live t) v), λ _. tt)))))

    leaves_exists : (c : Call) → Passes (Checks scratch c m) → (a : Answered c) × ((m' : Map) × Leaves c m m' a)
    leaves_exists (Make t) p = (tt, (opened m t, same_refl (opened m t)))
    leaves_exists (Unmake t) p = (tt, (closed m t, same_refl (closed m t)))
    leaves_exists (Join i t u) p = let able = passes_joinable m scratch i t u p in join_exists m law i t u able.left able.right (passes_fits m scratch i t u p)
    leaves_exists (Part i t) p = part_exists m law i t
    leaves_exists (Split t f) p = split_exists m law t f scratch p
    leaves_exists (Remove i t) p = remove_exists m law i t (not_false_true (m.live t) p.1.1.1.0)

    pub call_answers : (c : Call) → (r : Result (Answered c) Refusal) × ((m' : Map) × Does scratch c m r m')
    call_answers c = let (r, (m', o)) = outcome_exists (Checks scratch c m) m (Leaves c m) (call_settles c) (leaves_exists c) in (r, (m', subst (λ D. D r m') (sym (does_comes scratch c m)) o))

pub run_single : (cs : List (ℕ × Call)) (m m' m'' : Map) → Partners m → Run cs m m' → Run cs m m'' → Same m' m''
run_single [] m m' m'' law a b = same_trans (same_sym a) b
run_single (c ∷ cs) m m' m'' law (r, (k, d, a)) (s, (l, e, b)) =
    let (_, same) = call_single m law c.0 c.1 r s k l d e in
    run_single cs k m' m'' (call_partners m law c.0 c.1 r k d).0 a (same_holds (λ z. Run cs z m'') (same_sym same) b)

pub run_keeps : (cs : List (ℕ × Call)) (m m' : Map) → Partners m → Lawful m → Run cs m m' → Stands m m' × Lawful m'
run_keeps [] m m' law lawful s = same_holds (λ k. Stands m k × Lawful k) s ((law, refl, refl), lawful)
run_keeps (c ∷ cs) m m' law lawful (r, (k, d, a)) =
    let (next, size, top) = call_partners m law c.0 c.1 r k d in
    let (s, l) = run_keeps cs k m' next (call_lawful m law c.0 lawful c.1 r k d) a in
    ((s.0, s.1 ∙ size, s.2 ∙ top), l)

pub run_exists : (cs : List (ℕ × Call)) (m : Map) → Partners m → Lawful m → (m' : Map) × Run cs m m'
run_exists [] m law lawful = (m, same_refl m)
run_exists (c ∷ cs) m law lawful =
    let (r, (k, d)) = call_answers m law c.0 lawful c.1 in
    let (m', a) = run_exists cs k (call_partners m law c.0 c.1 r k d).0 (call_lawful m law c.0 lawful c.1 r k d) in
    (m', (r, (k, d, a)))
