-- A list in which nothing stands twice.
-- Assumes nothing.
use mathlib.Core.List.{List, [], ◌∷◌, Memᴰ}

abbrev pub Once : {A : Type 0} → List A → Type 0
Once [] = Unit {0}
Once (x ∷ xs) = (Memᴰ x xs → ⊥) × Once xs
