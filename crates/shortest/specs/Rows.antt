-- One shortest row of atoms up to a place, by the expression's tree: of two that are as short, the one further left.
-- Assumes nothing.
use Rattle.std.specs.Prelude.{cond, List, [], ◌∷◌, ◌++◌, ℕ, zero, suc, ◌+◌, ltb, length}
use Rattle.expressions.specs.Expr.{Exp, atom, cat, alt, star, empty, atoms, Content, nothing, tree}

-- the first of two, unless the second is shorter
abbrev pub shorter : List ℕ → List ℕ → List ℕ
shorter a b = cond (ltb (length b) (length a)) b a

-- the atoms of a shortest word; the expression's first atom is j
abbrev pub shortest_word : Exp → ℕ → List ℕ
shortest_word (atom k) j = j ∷ []
shortest_word (cat l r) j = shortest_word l j ++ shortest_word r (j + atoms l)
shortest_word (alt l r) j = shorter (shortest_word l j) (shortest_word r (j + atoms l))
shortest_word (star e) j = []
shortest_word empty j = []

-- the atoms up to atom p: those of the part that has it, in a concatenation's second part behind a shortest word of the first, in a star in its first turn
abbrev pub shortest_in : Exp → ℕ → ℕ → List ℕ
shortest_in (atom k) j p = j ∷ []
shortest_in (cat l r) j p = cond (ltb p (j + atoms l)) (shortest_in l j p) (shortest_word l j ++ shortest_in r (j + atoms l) p)
shortest_in (alt l r) j p = cond (ltb p (j + atoms l)) (shortest_in l j p) (shortest_in r (j + atoms l) p)
shortest_in (star e) j p = shortest_in e j p
shortest_in empty j p = []

-- the atoms up to a place
abbrev pub shortest_to : Content → ℕ → List ℕ
shortest_to nothing p = []
shortest_to (tree e) zero = []
shortest_to (tree e) (suc p) = shortest_in e 1 (suc p)
