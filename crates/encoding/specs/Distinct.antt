-- Equal ones are stored once, where the first of them stood. Assumes nothing.
use Rattle.std.specs.Prelude.{◌≡◌, Bool, true, false, cond, ◌&&◌, ◌||◌, List, [], ◌∷◌, ◌++◌, ℕ, suc, ◌+◌, eqb, length}

abbrev pub equal : List ℕ → List ℕ → Bool
equal [] [] = true
equal [] (y ∷ b) = false
equal (x ∷ a) [] = false
equal (x ∷ a) (y ∷ b) = eqb x y && equal a b

abbrev pub has : List (List ℕ) → List ℕ → Bool
has [] x = false
has (y ∷ l) x = equal x y || has l x

-- those of the second list that neither the first list nor an earlier place has
abbrev pub added : List (List ℕ) → List (List ℕ) → List (List ℕ)
added seen [] = []
added seen (x ∷ l) = cond (has seen x) (added seen l) (x ∷ added (seen ++ x ∷ []) l)

abbrev pub distinct : List (List ℕ) → List (List ℕ)
distinct l = added [] l

-- no two are equal
abbrev pub AllDifferent : List (List ℕ) → Type 0
AllDifferent [] = Unit {0}
AllDifferent (x ∷ l) = (has l x ≡ false) × AllDifferent l

-- the place of one among them, and where it lies when they lie back to back
abbrev pub place_of : List (List ℕ) → List ℕ → ℕ
place_of [] x = 0
place_of (y ∷ l) x = cond (equal x y) 0 (suc (place_of l x))

abbrev pub offset_of : List (List ℕ) → List ℕ → ℕ
offset_of [] x = 0
offset_of (y ∷ l) x = cond (equal x y) 0 (length y + offset_of l x)

abbrev pub run_together : List (List ℕ) → List ℕ
run_together [] = []
run_together (x ∷ l) = x ++ run_together l
