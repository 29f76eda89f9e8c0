-- What carries over to the dual of a map.
use Rattle.std.proofs.Common.{◌≡◌, ℕ, ◌-◌, ◌<◌, ◌≤◌, sym, refl, ap, ◌∙◌, subst, inl, inr, ⊎_elim, arith}
use Rattle.std.proofs.lemmas.Bool.{cases_lt, le-leb, lt-leb}
use Rattle.gmap.specs.Map.{Map, Partners, Far, Lawful, Same}
use Rattle.gmap.specs.Layers.{dual}
use Rattle.gmap.specs.Orbits.{here, step, Cell}
use Rattle.layers.specs.Duals.{DualLaws}

pub dual_partner : (m : Map) (j x : ℕ) → j ≤ m.top → (dual m).partner j x ≡ m.partner (m.top - j) x
dual_partner m j x h = rw (le-leb j m.top h) refl

pub dual_high : (m : Map) (j x : ℕ) → m.top < j → (dual m).partner j x ≡ x
dual_high m j x h = rw (lt-leb j m.top h) refl

module _ (m : Map) (law : Partners m) where
  mirrored : (j x : ℕ) → j ≤ m.top → (dual m).partner (m.top - j) x ≡ m.partner j x
  mirrored j x h =
      let e : m.top - (m.top - j) ≡ j = omega (arith, h) in
      dual_partner m (m.top - j) x (omega arith) ∙ ap (λ i. m.partner i x) e

  far_mirrored : (i j : ℕ) → i ≤ m.top → j ≤ m.top → Far i j → Far (m.top - i) (m.top - j)
  far_mirrored i j h g = ⊎_elim (λ l. inr (omega arith)) (λ l. inl (omega arith))

  dual_lawful : Lawful m → Lawful (dual m)
  dual_lawful lawful i j t far =
      ⊎_elim
      (λ h. dual_high m i ((dual m).partner j t) h ∙ ap ((dual m).partner j) (sym (dual_high m i t h)))
      (λ h. ⊎_elim
      (λ g. ap ((dual m).partner i) (dual_high m j t g) ∙ sym (dual_high m j ((dual m).partner i t) g))
      (λ g. dual_partner m i ((dual m).partner j t) h
      ∙ (ap (m.partner (m.top - i)) (dual_partner m j t g)
      ∙ (lawful (m.top - i) (m.top - j) t (far_mirrored i j h g far)
      ∙ (ap (m.partner (m.top - j)) (sym (dual_partner m i t h)) ∙ sym (dual_partner m j ((dual m).partner i t) g)))))
      (cases_lt m.top j))
      (cases_lt m.top i)

  dual_twice : Same (dual (dual m)) m
  dual_twice =
      record {
        size = refl;
        top = refl;
        live = λ t. refl;
        partner = λ i t. ⊎_elim
            (λ h. dual_high (dual m) i t h ∙ sym (law.high i t h))
            (λ h. dual_partner (dual m) i t h ∙ mirrored i t h)
            (cases_lt m.top i);
      }

  cell_below : (i : ℕ) {t x : ℕ} → i ≤ m.top → Cell (dual m) i t x → Cell m (m.top - i) t x
  cell_below i h here = here
  cell_below i {t} h (step {u} j v o) =
      ⊎_elim {C = Cell m (m.top - i) t ((dual m).partner j u)}
      (λ g. subst (Cell m (m.top - i) t) (sym (dual_high m j u g)) (cell_below i h o))
      (λ g. subst (Cell m (m.top - i) t) (sym (dual_partner m j u g)) (step (m.top - j) (λ e. v (omega arith)) (cell_below i h o)))
      (cases_lt m.top j)

  cell_here : (i : ℕ) {t x : ℕ} → i ≤ m.top → Cell m (m.top - i) t x → Cell (dual m) i t x
  cell_here i h here = here
  cell_here i {t} h (step {u} j v o) =
      ⊎_elim {C = Cell (dual m) i t (m.partner j u)}
      (λ g. subst (Cell (dual m) i t) (sym (law.high j u g)) (cell_here i h o))
      (λ g. subst (Cell (dual m) i t) (mirrored j u g) (step (m.top - j) (λ e. v (omega arith)) (cell_here i h o)))
      (cases_lt m.top j)

  pub dual_laws : DualLaws m
  dual_laws = record { lawful = dual_lawful; twice = dual_twice; cells = λ i t x h. cell_below i h; cells_dual = λ i t x h. cell_here i h }
