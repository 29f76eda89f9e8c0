-- Every lawful map is left by some list of calls on vacant slots: the makes, then the joins by rising switch.
use Rattle.std.proofs.Common.{◌≡◌, ℕ, zero, suc, ◌*◌, ◌<◌, ◌≤◌, ◌≢◌, Ok, sym, ap, ◌∙◌, inl, ⊎_elim, arith}
use Rattle.std.proofs.lemmas.Bool.{cases_eq, cases_lt}
use Rattle.gmap.specs.Map.{Map, Partners, Lawful, Same, Fresh}
use Rattle.protection.specs.declared.call.Call.TheVariants.{Join}
use Rattle.protection.proofs.Switches.{at_each, free_lawful}
use Rattle.protection.proofs.Same.{same_holds}
use Rattle.protection.proofs.Joining.{joinable_passes, join_exists}
use Rattle.protection.proofs.Ways.{Way, way_more}
use Rattle.protection.proofs.Filling.{outside_vacant, Bare, all_filled}
use Rattle.protection.proofs.Midway.{Midway, Done, done_more, k_known, s_live, u_live, able, fits, linked, linked_done}

module _ (scratch : ℕ) (m₀ goal : Map) (law : Partners goal) (lawful : Lawful goal) (long : 4 * goal.size ≤ scratch) where
  abbrev Linking : ℕ → ℕ → Type 0
  Linking k s = (m : Map) × Midway goal k m × Done goal k s m × Way scratch m₀ m

  link : (k s : ℕ) (m : Map) → Midway goal k m → Done goal k s m → Way scratch m₀ m → m.partner k s ≢ goal.partner k s → Linking k (suc s)
  link k s m b d w ne =
      let u' = goal.partner k s in
      let may = able goal law lawful k s m b ne in
      let fit = fits goal law lawful k s m b ne in
      let (n, (m', j)) = join_exists m b.law k s u' may.left may.right fit in (
        m',
        linked goal law lawful k s m b ne n m' j,
        linked_done goal law lawful k s m b ne n m' j d,
        way_more scratch m₀ m (Join k s u') (Ok n) m' w
            (omega (arith, k_known goal law lawful k s m b ne, law.low), omega (arith, law.inside s (s_live goal law lawful k s m b ne), law.few), omega (arith, law.inside u' (u_live goal law lawful k s m b ne), law.few))
            (joinable_passes m scratch k s u' b.law (omega (arith, b.size)) may fit, j),
      )

  links : (k s : ℕ) → Linking k 0 → Linking k s
  links k zero w = w
  links k (suc s) w = go (links k s w)
    where
      go : Linking k s → Linking k (suc s)
      go (m, b, d, w) =
          ⊎_elim
          (λ (e : m.partner k s ≡ goal.partner k s). (m, b, done_more goal m k s d e, w))
          (λ (e : m.partner k s ≡ goal.partner k s → ⊥). link k s m b d w e)
          (cases_eq (m.partner k s) (goal.partner k s))

  -- switch k is done, and switch k + 1 begins
  next : (k : ℕ) → Linking k 0 → Linking (suc k) 0
  next k start =
      let (m, b, d, w) = links k goal.size start in
      let vacant = outside_vacant goal law in
      let all : (x : ℕ) → m.partner k x ≡ goal.partner k x = λ x. ⊎_elim (λ (l : x < goal.size). d x l) (λ (l : goal.size ≤ x). b.law.still k x (b.live x ∙ vacant x l) ∙ sym (law.still k x (vacant x l))) (cases_lt x goal.size) in (
        m,
        record {
          size = b.size;
          top = b.top;
          live = b.live;
          under = λ j h. at_each k (λ j. j < suc k → (x : ℕ) → m.partner j x ≡ goal.partner j x) (λ h. all) (λ j e h. b.under j (omega arith)) j h;
          over = λ j h x. b.over j (omega arith) x;
          some = λ x. inl (b.over (suc k) (omega arith) x);
          law = b.law;
          lawful = b.lawful;
        },
        λ x h. absurd (omega arith),
        w,
      )

  begin : (m : Map) → Bare goal m → Way scratch m₀ m → Linking 0 0
  begin m b w = (
    m,
    record {
      size = b.size;
      top = b.top;
      live = b.live;
      under = λ j h x. absurd (omega arith);
      over = λ j h x. b.free j x;
      some = λ x. inl (b.free 0 x);
      law = record {
        few = omega (arith, b.size, law.few);
        low = omega (arith, b.top, law.low);
        inside = λ t h. omega (arith, b.size, law.inside t (sym (b.live t) ∙ h));
        back = λ i t. b.free i (m.partner i t) ∙ b.free i t;
        alive = λ i t. ap m.live (b.free i t);
        still = λ i t h. b.free i t;
        high = λ i t h. b.free i t;
      };
      lawful = free_lawful m b.free;
    },
    λ x h. absurd (omega arith),
    w,
  )

  stages : Linking 0 0 → (k : ℕ) → Linking k 0
  stages start zero = start
  stages start (suc k) = next k (stages start k)

  pub all_reached : Partners m₀ → m₀.size ≡ goal.size → m₀.top ≡ goal.top → Fresh m₀ → Way scratch m₀ goal
  all_reached law₀ size top fresh =
      let (bare, a, v) = all_filled scratch m₀ goal law law₀ size top fresh in
      let (m, b, d, w) = stages (begin bare a v) (suc goal.top) in
      let same : Same m goal = record {
        size = b.size;
        top = b.top;
        live = b.live;
        partner = λ j x. ⊎_elim (λ (l : j < suc goal.top). b.under j l x) (λ (l : suc goal.top ≤ j). b.law.high j x (omega (arith, b.top)) ∙ sym (law.high j x (omega arith))) (cases_lt j (suc goal.top));
      } in
      same_holds (Way scratch m₀) same w
