-- The cut of a stream: its bytes without the dropped stretches. Behind a record in which the count stopped the run (30) nothing is read, so there the cut ends.
-- Assumes nothing.
use Rattle.std.specs.Prelude.{List, [], ◌∷◌, ◌++◌, Bool, false, ◌||◌, ℕ, suc, ◌-◌, ◌≤◌, ◌<◌, eqb, take, drop}
use Rattle.text.specs.Chars.{pick}
use Rattle.salvage.specs.Salvage.{LostStretch}

-- the number of the record in which the count stopped the run
abbrev pub ends_reading : ℕ → Bool
ends_reading n = eqb n 30

-- from the byte `at` on
abbrev pub cut_from : List ℕ → ℕ → List LostStretch → List ℕ
cut_from s at [] = drop at s
cut_from s at (d ∷ ds) = take (d.first - at) (drop at s) ++ pick (ends_reading d.number) [] (cut_from s (suc d.last) ds)

abbrev pub cut_stream : List ℕ → List LostStretch → List ℕ
cut_stream s ds = cut_from s 0 ds

-- the count stopped the run inside a record
abbrev pub over_inside : List LostStretch → Bool
over_inside [] = false
over_inside (d ∷ ds) = ends_reading d.number || over_inside ds

-- the stretches lie in the bytes from lo to hi, rise, and none overlaps another; so none is there twice
abbrev pub RisesIn : (lo hi : ℕ) → List LostStretch → Type 0
RisesIn lo hi [] = Unit {0}
RisesIn lo hi (d ∷ ds) = (lo ≤ d.first) × (d.first ≤ d.last) × (d.last < hi) × RisesIn (suc d.last) hi ds
