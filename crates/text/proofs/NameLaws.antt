-- The bytes of names and of white space: a name's bytes all pass, and no white space is part of a name.
-- Assumes nothing.
use mathlib.Core.Path.{◌≡◌, refl, ap}
use mathlib.Core.Logic.{◌⊎◌, inl, inr, ⊎_elim}
use mathlib.Core.Bool.{Bool, true, false, ◌||◌}
use mathlib.Core.List.{List, [], ◌∷◌}
use Prim.Native.Nat.{ℕ}
use lib.Dec.{eqb}
use borrow.Author.Tests.{eqb-true}
use Rattle.text.specs.Names.{name_first, name_byte, blank, All, Name}

first_passes : (x : ℕ) → name_first x ≡ true → name_byte x ≡ true
first_passes x h = rw h

pub name_all : (n : List ℕ) → Name n → All name_byte n
name_all [] h = absurd h
name_all (x ∷ n) h = (first_passes x h.0, h.1)

-- a test that is one of two
or_true : (a b : Bool) → (a || b) ≡ true → (a ≡ true) ⊎ (b ≡ true)
or_true true b h = inl refl
or_true false b h = inr h

pub blank_stops : (x : ℕ) → blank x ≡ true → name_byte x ≡ false
blank_stops x h =
    ⊎_elim (λ k. ap name_byte (eqb-true x 32 k))
    (λ i. ⊎_elim (λ k. ap name_byte (eqb-true x 9 k))
    (λ j. ⊎_elim (λ k. ap name_byte (eqb-true x 13 k)) (λ k. ap name_byte (eqb-true x 10 k)) (or_true (eqb x 13) (eqb x 10) j))
    (or_true (eqb x 9) (eqb x 13 || eqb x 10) i))
    (or_true (eqb x 32) (eqb x 9 || (eqb x 13 || eqb x 10)) h)
