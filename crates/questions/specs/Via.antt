-- Which switches a set has.
use Rattle.std.specs.Prelude.{◌≡◌, ℕ}
use Rattle.gmap.specs.Map.{Far}
use Rattle.gmap.specs.Asking.{Bit}
use Rattle.questions.specs.declared.switches.Switches.{Switches}
use Rattle.questions.specs.declared.switches.Switches.TheVariants.{Mask, FarFrom, AllBut}

abbrev pub via : Switches → ℕ → Type 0
via (Mask mask) j = Bit mask j
via (FarFrom i) j = Far i j
via (AllBut i) j = j ≡ i → ⊥
