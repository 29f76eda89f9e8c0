-- Maps with the same answers are the same map.
use Rattle.std.proofs.Common.{◌≡◌, refl}
use Rattle.gmap.specs.Map.{Map, Same}

pub same_refl : (m : Map) → Same m m
same_refl m = record { size = refl; top = refl; live = λ t. refl; partner = λ i t. refl }

pub same_path : (m m' : Map) → Same m m' → m ≡ m'
same_path m m' s = λ k. record { size = s.size k; top = s.top k; live = λ t. s.live t k; partner = λ i t. s.partner i t k }
