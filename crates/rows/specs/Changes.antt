-- What an exchange is given.
--   FreeOrPartners  two different tuples that are free in a switch, or partners in it
use Rattle.std.specs.Prelude.{◌≡◌, ℕ, ◌⊎◌}
use Rattle.gmap.specs.Map.{Map, Free}
use Rattle.gmap.specs.Acts.{Couple}

pub record FreeOrPartners (m : Map) (i t u : ℕ) : Type 0 where
  pub two : Couple m i t u
  pub how : (Free m i t × Free m i u) ⊎ ((m.partner i t ≡ u) × (m.partner i u ≡ t))
