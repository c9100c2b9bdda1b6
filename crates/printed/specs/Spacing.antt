-- One space, parentheses: what stands between and around the parts of a printed text. Assumes nothing.
use Rattle.std.specs.Prelude.{Bool, true, false, List, [], ◌∷◌, ◌++◌, ℕ}

-- one after the other, with one space between them
infixr 60 ◌␣◌
abbrev pub ◌␣◌ : List ℕ → List ℕ → List ℕ
x ␣ y = x ++ 32 ∷ y

abbrev pub in_parentheses : List ℕ → List ℕ
in_parentheses x = 40 ∷ (x ++ 41 ∷ [])

-- in parentheses where the test holds
abbrev pub in_parentheses_if : Bool → List ℕ → List ℕ
in_parentheses_if true x = in_parentheses x
in_parentheses_if false x = x
