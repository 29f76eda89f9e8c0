-- The layers: maps read through another map.
--   dual     switch i is switch top - i of the map below
--   shifted  slot t is slot (t + f) mod size of the map below
--   lower    the map below without its top switch
use Rattle.std.specs.Prelude.{ℕ, ◌+◌, ◌-◌, ◌%◌, false, cond, ◌==◌, nat_le, nat_lt}
use Rattle.gmap.specs.Map.{Map}

abbrev pub dual : Map → Map
dual m = record { size = m.size; top = m.top; live = m.live; partner = λ i t. cond (nat_le i m.top) (m.partner (m.top - i) t) t }

-- The slot t that stands for slot u below has t + f ≡ u modulo the size.
abbrev pub shifted : ℕ → Map → Map
shifted f m =
    record {
      size = m.size;
      top = m.top;
      live = λ t. cond (nat_lt t m.size) (m.live ((t + f) % m.size)) false;
      partner = λ i t. cond (nat_lt t m.size) ((m.partner i ((t + f) % m.size) + (m.size - f % m.size)) % m.size) t;
    }

-- Over a map of top 0 no switch is left: there are no slots.
abbrev pub lower : Map → Map
lower m =
    record {
      size = cond (m.top == 0) 0 m.size;
      top = m.top - 1;
      live = λ t. cond (m.top == 0) false (m.live t);
      partner = λ i t. cond (nat_lt i m.top) (m.partner i t) t;
    }
