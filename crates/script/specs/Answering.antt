-- What a request is answered with, and the map that it leaves.
--   Upward   a list has the numbers of a set upwards
--   Decides  an answer is 1 if something holds, else 0
--   Answers  the numbers or the refusal that a request on a map comes to, with the map behind it
use Rattle.std.specs.Prelude.{◌≡◌, ℕ, ◌<◌, Bool, cond, List, [], ◌∷◌, length, Ok, MatchBool, Result, slice_index}
use Rattle.gmap.specs.Acts.{open_checks, opened, close_checks, closed}
use Rattle.gmap.specs.Asking.{Bit, orbit_checks, cells_checks, Labelled}
use Rattle.gmap.specs.Building.{join_checks, Joined, part_checks, Parted}
use Rattle.gmap.specs.Listing.{Among}
use Rattle.gmap.specs.Map.{Map, Same, Lawful, Whole}
use Rattle.gmap.specs.Orbits.{Orbit}
use Rattle.gmap.specs.Outcome.{Outcome}
use Rattle.gmap.specs.declared.refusal.Refusal.{Refusal}
use Rattle.reading.specs.declared.request.Request.{Request}
use Rattle.reading.specs.declared.request.Request.TheVariants as request

pub record Upward (P : ℕ → Type 0) (xs : List ℕ) : Type 0 where
  pub rises : (k l : ℕ) → k < l → l < length xs → slice_index xs k < slice_index xs l
  pub only : (k : ℕ) → k < length xs → P (slice_index xs k)
  pub all : (x : ℕ) → P x → Among xs (length xs) x

abbrev pub Decides : Type 0 → Result (List ℕ) Refusal → Type 0
Decides P r = (b : Bool) × (r ≡ Ok (cond b 1 0 ∷ [])) × MatchBool b P (P → ⊥)

-- Of the scratch and the list that are lent to a request only the lengths matter.
-- A mask has the eight switches 0 to 7, so a larger one names a switch that no map has.
abbrev pub Answers : ℕ → ℕ → Map → Request → Result (List ℕ) Refusal → Map → Type 0
Answers scratch list m (request.Make t) r m' = Outcome (open_checks m t) (λ vs. (vs ≡ []) × Same m' (opened m t)) (Same m' m) r
Answers scratch list m (request.Unmake t) r m' = Outcome (close_checks m t) (λ vs. (vs ≡ []) × Same m' (closed m t)) (Same m' m) r
Answers scratch list m (request.Join i t u) r m' = Outcome (join_checks m scratch i t u) (λ vs. (n : ℕ) × (vs ≡ n ∷ []) × Joined m i t u n m') (Same m' m) r
Answers scratch list m (request.Part i t) r m' = Outcome (part_checks m scratch i t) (λ vs. (n : ℕ) × (vs ≡ n ∷ []) × Parted m i t n m') (Same m' m) r
Answers scratch list m (request.Orbit mask t) r m' = Outcome ((255 < mask, 1) ∷ orbit_checks m scratch list mask t) (λ vs. (xs : List ℕ) × (vs ≡ length xs ∷ xs) × Upward (Orbit m (Bit mask) t) xs × Same m' m) (Same m' m) r
Answers scratch list m (request.Cells i) r m' = Outcome (cells_checks m scratch list i) (λ vs. (n : ℕ) × (xs : List ℕ) × (vs ≡ n ∷ xs) × (length xs ≡ m.size) × Labelled m i n xs xs × Same m' m) (Same m' m) r
Answers scratch list m request.Lawful r m' = Decides (Lawful m) r × Same m' m
Answers scratch list m request.Whole r m' = Decides (Whole m) r × Same m' m
