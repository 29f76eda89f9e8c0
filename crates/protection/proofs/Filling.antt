-- From vacant slots, makes upwards lead to a map with the tuples of any other and no links.
use Rattle.std.proofs.Common.{◌≡◌, ℕ, zero, suc, ◌<◌, ◌≤◌, true, false, cond, ◌≢◌, ◌⊎◌, Ok, sym, refl, ap, ◌∙◌, inl, inr, ⊎_elim, arith}
use Rattle.std.proofs.lemmas.Bool.{cases_eq, cases_lt, cases_Bool, both_ways, eq-eqb, ne_eqb}
use Rattle.gmap.specs.Map.{Map, Partners, Fresh}
use Rattle.gmap.specs.Acts.{opened}
use Rattle.gmap.proofs.Same.{same_refl}
use Rattle.protection.specs.declared.call.Call.TheVariants.{Make}
use Rattle.protection.proofs.Cases.{not_true_false}
use Rattle.protection.proofs.Ways.{Way, way_none, way_more}

pub outside_vacant : (m : Map) → Partners m → (x : ℕ) → m.size ≤ x → m.live x ≡ false
outside_vacant m law x l = not_true_false (m.live x) (λ e. omega (arith, law.inside x e))

-- the tuples of the goal, and no links
pub record Bare (goal m : Map) : Type 0 where
  pub size : m.size ≡ goal.size
  pub top : m.top ≡ goal.top
  pub live : (x : ℕ) → m.live x ≡ goal.live x
  pub free : (i x : ℕ) → m.partner i x ≡ x

-- slots below s are as in the goal, and none from s on is live
record Filled (goal : Map) (s : ℕ) (m : Map) : Type 0 where
  size : m.size ≡ goal.size
  top : m.top ≡ goal.top
  done : (x : ℕ) → x < s → m.live x ≡ goal.live x
  left : (x : ℕ) → s ≤ x → m.live x ≡ false
  free : (i x : ℕ) → m.partner i x ≡ x

module _ (scratch : ℕ) (m₀ goal : Map) (law : Partners goal) where
  abbrev Filling : ℕ → Type 0
  Filling s = (m : Map) × Filled goal s m × Way scratch m₀ m

  fill : Filling 0 → (s : ℕ) → s ≤ goal.size → Filling s
  fill start zero l = start
  fill start (suc s) l = go (fill start s (omega arith)) (cases_Bool (goal.live s))
    where
      go : Filling s → (goal.live s ≡ true) ⊎ (goal.live s ≡ false) → Filling (suc s)
      go (m, b, w) (inr v) = (
        m,
        record {
          size = b.size;
          top = b.top;
          done = λ x h. ⊎_elim (λ (e : x ≡ s). b.left x (omega arith) ∙ sym (ap goal.live e ∙ v)) (λ (e : x ≡ s → ⊥). b.done x (omega arith)) (cases_eq x s);
          left = λ x h. b.left x (omega arith);
          free = b.free;
        },
        w,
      )
      go (m, b, w) (inl v) =
          let m' : Map = opened m s in
          let this : m'.live s ≡ true = ap (λ q. cond q true (m.live s)) (eq-eqb s s refl) in
          let other : (x : ℕ) → x ≢ s → m'.live x ≡ m.live x = λ x e. ap (λ q. cond q true (m.live x)) (ne_eqb x s e) in (
            m',
            record {
              size = b.size;
              top = b.top;
              done = λ x h. ⊎_elim (λ (e : x ≡ s). ap m'.live e ∙ (this ∙ sym (ap goal.live e ∙ v))) (λ (e : x ≡ s → ⊥). other x e ∙ b.done x (omega arith)) (cases_eq x s);
              left = λ x h. other x (λ e. omega arith) ∙ b.left x (omega arith);
              free = b.free;
            },
            way_more scratch m₀ m (Make s) (Ok tt) m' w (omega (arith, law.few)) ((λ q. omega (arith, b.size), (λ q. both_ways (m.live s) (b.left s (omega arith)) q, tt)), same_refl m'),
          )

  pub all_filled : Partners m₀ → m₀.size ≡ goal.size → m₀.top ≡ goal.top → Fresh m₀ → (m : Map) × Bare goal m × Way scratch m₀ m
  all_filled law₀ size top fresh =
      let start : Filled goal 0 m₀ = record { size = size; top = top; done = λ x h. absurd (omega arith); left = λ x h. fresh x; free = λ i x. law₀.still i x (fresh x) } in
      let (m, b, w) = fill (m₀, start, way_none scratch m₀) goal.size (omega arith) in
      let alike : (x : ℕ) → m.live x ≡ goal.live x = λ x. ⊎_elim (λ (l : x < goal.size). b.done x l) (λ (l : goal.size ≤ x). b.left x l ∙ sym (outside_vacant goal law x l)) (cases_lt x goal.size) in
      (m, record { size = b.size; top = b.top; live = alike; free = b.free }, w)
