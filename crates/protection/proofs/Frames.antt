-- Maps that differ in one switch: what is left to show of that switch.
use Rattle.std.proofs.Common.{◌≡◌, ℕ, ◌<◌, false, cond, eqb, sym, refl, ap, ◌∙◌, subst, arith}
use Rattle.std.proofs.lemmas.Bool.{eq-eqb, ne_eqb}
use Rattle.gmap.specs.Map.{Map, Partners, Far, Lawful, Same, DiffersIn}
use Rattle.gmap.specs.Orbits.{here, step, FarOrbit}
use Rattle.protection.proofs.Switches.{far_apart, at_each, lawful_around}

module _ (i : ℕ) (m m' : Map) (near : DiffersIn i m m') where
  pub frame_sym : DiffersIn i m' m
  frame_sym = record { size = sym near.size; top = sym near.top; live = λ t. sym (near.live t); others = λ j x e. sym (near.others j x e) }

  pub far_orbit_framed : {x y : ℕ} → FarOrbit m i x y → FarOrbit m' i x y
  far_orbit_framed here = here
  far_orbit_framed {x} (step {u} j f h) = subst (FarOrbit m' i x) (near.others j u (far_apart i j f)) (step j f (far_orbit_framed h))

  pub lawful_framed : Lawful m → ((k x : ℕ) → Far i k → m'.partner i (m.partner k x) ≡ m.partner k (m'.partner i x)) → Lawful m'
  lawful_framed lawful mine =
      lawful_around m' i
      (λ k f x. let ne = far_apart i k f in ap (m'.partner i) (near.others k x ne) ∙ (mine k x f ∙ sym (near.others k (m'.partner i x) ne)))
      (λ j k nj nk f x. near.others j (m'.partner k x) nj ∙ (ap (m.partner j) (near.others k x nk) ∙ (lawful j k x f ∙ (ap (m.partner k) (sym (near.others j x nj)) ∙ sym (near.others k (m'.partner j x) nk)))))

  pub partners_framed : Partners m → ((x : ℕ) → m'.partner i (m'.partner i x) ≡ x) → ((x : ℕ) → m.live (m'.partner i x) ≡ m.live x) → ((x : ℕ) → m.live x ≡ false → m'.partner i x ≡ x) → ((x : ℕ) → m.top < i → m'.partner i x ≡ x) → Partners m'
  partners_framed law back alive still high =
      record {
        few = omega (arith, near.size, law.few);
        low = omega (arith, near.top, law.low);
        inside = λ t h. omega (arith, near.size, law.inside t (sym (near.live t) ∙ h));
        back = at_each i (λ j. (x : ℕ) → m'.partner j (m'.partner j x) ≡ x) back (λ j e x. near.others j (m'.partner j x) e ∙ (ap (m.partner j) (near.others j x e) ∙ law.back j x));
        alive = at_each i (λ j. (x : ℕ) → m'.live (m'.partner j x) ≡ m'.live x) (λ x. near.live (m'.partner i x) ∙ (alive x ∙ sym (near.live x))) (λ j e x. near.live (m'.partner j x) ∙ (ap m.live (near.others j x e) ∙ (law.alive j x ∙ sym (near.live x))));
        still = at_each i (λ j. (x : ℕ) → m'.live x ≡ false → m'.partner j x ≡ x) (λ x h. still x (sym (near.live x) ∙ h)) (λ j e x h. near.others j x e ∙ law.still j x (sym (near.live x) ∙ h));
        high = at_each i (λ j. (x : ℕ) → m'.top < j → m'.partner j x ≡ x) (λ x h. high x (omega (arith, near.top))) (λ j e x h. near.others j x e ∙ law.high j x (omega (arith, near.top)));
      }

  -- two maps that differ from m in i alone are the same if they agree in i
  pub same_framed : (m'' : Map) → DiffersIn i m m'' → ((x : ℕ) → m'.partner i x ≡ m''.partner i x) → Same m' m''
  same_framed m'' b h =
      record {
        size = near.size ∙ sym b.size;
        top = near.top ∙ sym b.top;
        live = λ t. near.live t ∙ sym (b.live t);
        partner = at_each i (λ j. (x : ℕ) → m'.partner j x ≡ m''.partner j x) h (λ j e x. near.others j x e ∙ sym (b.others j x e));
      }

-- m with another switch i
unfoldable pub with_switch : Map → ℕ → (ℕ → ℕ) → Map
with_switch m i f = record { size = m.size; top = m.top; live = m.live; partner = λ j x. cond (eqb j i) (f x) (m.partner j x) }

pub with_frame : (m : Map) (i : ℕ) (f : ℕ → ℕ) → DiffersIn i m (with_switch m i f)
unfolding with_switch
with_frame m i f = record { size = refl; top = refl; live = λ t. refl; others = λ j x e. ap (λ v. cond v (f x) (m.partner j x)) (ne_eqb j i e) }

pub with_here : (m : Map) (i : ℕ) (f : ℕ → ℕ) (x : ℕ) → (with_switch m i f).partner i x ≡ f x
unfolding with_switch
with_here m i f x = ap (λ v. cond v (f x) (m.partner i x)) (eq-eqb i i refl)
