-- Rows of atoms up to a place, and the shortest of them.
-- Assumes nothing.
use Rattle.std.specs.Prelude.{◌≡◌, List, [], ◌∷◌, ◌++◌, ℕ, ◌≤◌, length}
use Rattle.expressions.specs.Expr.{Content}
use Rattle.expressions.specs.Words.{Sym, br, at, Words}
use Rattle.expressions.specs.Fault.{UpTo}

-- the atoms of a word, by their numbers
abbrev pub numbers_in : List Sym → List ℕ
numbers_in [] = []
numbers_in (br c ∷ w) = numbers_in w
numbers_in (at j k ∷ w) = j ∷ numbers_in w

-- a word of the bracketed expression has these atoms up to and including the place
pub record LeadsTo (e : Content) (p : ℕ) (row : List ℕ) : Type 0 where
  pub before : List Sym
  pub behind : List Sym
  pub up_to : UpTo p before
  pub word : Words e (before ++ behind)
  pub row_is : row ≡ numbers_in before

-- and no row that leads there is shorter
pub record Shortest (e : Content) (p : ℕ) (row : List ℕ) : Type 0 where
  pub leads : LeadsTo e p row
  pub least : (other : List ℕ) → LeadsTo e p other → length row ≤ length other
