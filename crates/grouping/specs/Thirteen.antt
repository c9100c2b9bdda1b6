-- Thirteen names in a row: grouped to the left they are 13 deep, and a sheet may hold 12; as the first seven and the other six they are 8 deep.
-- Assumes nothing.
use Rattle.std.specs.Prelude.{◌≡◌, List, [], ◌∷◌, ℕ}
use Rattle.expressions.specs.Expr.{Exp, atom, nonterminal, cat, depth}
use Rattle.grouping.specs.Regrouped.{concatenations, Regrouped}

-- e . n . n' and so on, grouped to the left
abbrev pub row : Exp → List ℕ → Exp
row e [] = e
row e (n ∷ ns) = row (cat e (atom (nonterminal n))) ns

abbrev pub in_one_row : Exp
in_one_row = row (atom (nonterminal 1)) (2 ∷ 3 ∷ 4 ∷ 5 ∷ 6 ∷ 7 ∷ 8 ∷ 9 ∷ 10 ∷ 11 ∷ 12 ∷ 13 ∷ [])

-- (n1 . n2 . .. . n7) . (n8 . n9 . .. . n13)
abbrev pub seven_and_six : Exp
seven_and_six = cat (row (atom (nonterminal 1)) (2 ∷ 3 ∷ 4 ∷ 5 ∷ 6 ∷ 7 ∷ [])) (row (atom (nonterminal 8)) (9 ∷ 10 ∷ 11 ∷ 12 ∷ 13 ∷ []))

pub record ThirteenInARow : Type 0 where
  pub too_deep : depth in_one_row ≡ 13
  pub not_too_deep : depth seven_and_six ≡ 8
  pub regrouped : Regrouped concatenations in_one_row seven_and_six
