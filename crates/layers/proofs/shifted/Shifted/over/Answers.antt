-- Whole rounds are left out.
use Rattle.std.proofs.Common.{◌≡◌, ◌%◌, ◌<◌, refl, ap, ◌∙◌, arith}
use Rattle.layers.proofs.ShiftCarries.{shifted_reduced, shift_laws}
use Rattle.layers.proofs.shifted.Shifted.over.Goals as goal
use Rattle.layers.proofs.shifted.Shifted.over.Goals.{then-size-eq0, else-size-eq0}

pub returns : goal.returns
returns g c =
    let m = g.B.Reads.meaning c.args.below in
    let left : 0 < m.size → c.if-size-eq0.first ≡ c.args.first % m.size = λ h.
    elim c.if-size-eq0.branch [ then-size-eq0 w ↦ absurd (omega (arith, w.if-size-eq0.true, c.size-size.ensures)) | else-size-eq0 w ↦ w.first-is ∙ ap (λ n. c.args.first % n) c.size-size.ensures ] in
    record { below = refl; first = shifted_reduced c.args.first c.if-size-eq0.first m left; laws = shift_laws c.if-size-eq0.first m (g.met.B.GMap.partners c.args.below) }
