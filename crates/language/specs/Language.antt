-- The language of an expression: rows of atoms, without brackets and without numbers.
-- Assumes nothing.
use Rattle.std.specs.Prelude.{◌≡◌, List, [], ◌∷◌, ◌++◌, ◌⊎◌}
use Rattle.expressions.specs.Expr.{Atom, Exp, atom, cat, alt, star, empty, Content, nothing, tree}

-- any number of rows of A, one after the other
pub data Repeated (A : List Atom → Type 0) : List Atom → Type 0 where
  no_more : Repeated A []
  one_more : {w : List Atom} (u v : List Atom) → A u → Repeated A v → w ≡ u ++ v → Repeated A w

abbrev pub Language : Exp → List Atom → Type 0
Language (atom k) w = w ≡ k ∷ []
Language (cat l r) w = (u : List Atom) × (v : List Atom) × Language l u × Language r v × (w ≡ u ++ v)
Language (alt l r) w = Language l w ⊎ Language r w
Language (star e) w = Repeated (Language e) w
Language empty w = w ≡ []

abbrev pub LanguageOf : Content → List Atom → Type 0
LanguageOf nothing w = w ≡ []
LanguageOf (tree e) w = Language e w
