-- Regrouping unions can change the count: <r><c/></r> has 8 visits where <r> holds (a ∪ b) ∪ c, and 10 where it holds a ∪ (b ∪ c).
-- Assumes nothing.
use Rattle.std.specs.Prelude.{◌≡◌, List, [], ◌∷◌, ℕ}
use Rattle.expressions.specs.Expr.{Exp, alt, nothing, tree}
use Rattle.sheet.specs.Sheet.{Sheet}
use Rattle.runs.specs.Visits.{grammar, Env, no_programs_lem}
use Rattle.runs.specs.Taken.{Passed}
use Rattle.runs.specs.Examples.{rule, sheet_of, child_of}
use Rattle.calls.specs.Accepted.{Accepted}
use Rattle.grouping.specs.Regrouped.{concatenations_and_unions, RegroupedGrammar}

-- tags r, a, b, c; nonterminals 0 to 3, one production each and no programs; r's expression is given, the others are empty
abbrev pub holding : Exp → Sheet
holding e =
    sheet_of ((0x72 ∷ []) ∷ (0x61 ∷ []) ∷ (0x62 ∷ []) ∷ (0x63 ∷ []) ∷ [])
    (rule 0 (tree e) no_programs_lem ∷ rule 1 nothing no_programs_lem ∷ rule 2 nothing no_programs_lem ∷ rule 3 nothing no_programs_lem ∷ [])

abbrev pub to_the_left : Sheet
to_the_left = holding (alt (alt (child_of 1) (child_of 2)) (child_of 3))

abbrev pub to_the_right : Sheet
to_the_right = holding (alt (child_of 1) (alt (child_of 2) (child_of 3)))

-- <r><c/></r>
abbrev pub stream : List ℕ
stream = 0x3C ∷ 0x72 ∷ 0x3E ∷ 0x3C ∷ 0x63 ∷ 0x2F ∷ 0x3E ∷ 0x3C ∷ 0x2F ∷ 0x72 ∷ 0x3E ∷ []

pub record UnionsChangeTheCount : Type 0 where
  pub are_regrouped : RegroupedGrammar concatenations_and_unions (grammar to_the_left) (grammar to_the_right)
  pub left_passes : Passed to_the_left
  pub right_passes : Passed to_the_right
  pub under_left : Env
  pub under_right : Env
  pub left_accepted : Accepted to_the_left stream under_left
  pub right_accepted : Accepted to_the_right stream under_right
  pub left_count : under_left.count ≡ 8
  pub right_count : under_right.count ≡ 10
