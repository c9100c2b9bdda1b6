-- The bracketed expression and its words: brackets are numbered from 1 in preorder, atoms from 1 left to right.
-- Assumes nothing.
use Rattle.std.specs.Prelude.{List, [], ◌∷◌, ◌++◌, ℕ, suc, ◌+◌}
use Rattle.expressions.specs.Expr.{Atom, Exp, atom, cat, alt, star, empty, nodes, atoms, Content, nothing, tree}

pub data Bracket : Type 0 where
  opening : ℕ → Bracket
  closing : ℕ → Bracket

-- a symbol of the bracketed expression: a bracket, or an atom with its number
pub data Sym : Type 0 where
  br : Bracket → Sym
  at : ℕ → Atom → Sym

-- a bracket string in front of a word
infixr 66 ◌▷◌
abbrev pub ◌▷◌ : List Bracket → List Sym → List Sym
[] ▷ w = w
(c ∷ α) ▷ w = br c ∷ (α ▷ w)

abbrev pub Lang : Type 1
Lang = List Sym → Type 0

pub data Only (u : List Sym) : List Sym → Type 0 where
  only : Only u u

pub data Cat (A B : Lang) : List Sym → Type 0 where
  both : (u v : List Sym) → A u → B v → Cat A B (u ++ v)

pub data Either (A B : Lang) : List Sym → Type 0 where
  left : {w : List Sym} → A w → Either A B w
  right : {w : List Sym} → B w → Either A B w

pub data Star (A : Lang) : List Sym → Type 0 where
  stop : Star A []
  more : (u v : List Sym) → A u → Star A v → Star A (u ++ v)

-- [ᵢ . A . ]ᵢ
pub data Within (i : ℕ) (A : Lang) : List Sym → Type 0 where
  within : (m : List Sym) → A m → Within i A (br (opening i) ∷ (m ++ br (closing i) ∷ []))

-- the words of the bracketed expression, whose first bracket is i and whose first atom is j
abbrev pub Word : Exp → ℕ → ℕ → Lang
Word (atom k) i j = Within i (Only (at j k ∷ []))
Word (cat l r) i j = Within i (Cat (Word l (suc i) j) (Word r (suc i + nodes l) (j + atoms l)))
Word (alt l r) i j = Within i (Either (Word l (suc i) j) (Word r (suc i + nodes l) (j + atoms l)))
Word (star e) i j = Within i (Star (Word e (suc i) j))
Word empty i j = Within i (Only [])

abbrev pub Words : Content → Lang
Words nothing = Only []
Words (tree e) = Word e 1 1
