-- The text of rules: the start alone on the first line, then each production on a line of its own. Assumes nothing.
use Rattle.std.specs.Prelude.{List, [], ◌∷◌, ◌++◌, ℕ}
use Rattle.notation.specs.Rules.{TextRule, Rules}
use Rattle.notation.specs.Tokens.{nonterminal, DEFINED, sign_bytes, token_bytes}
use Rattle.printed.specs.Spacing.{◌␣◌, in_parentheses}
use Rattle.printed.specs.Expressions.{program_in_front, program_behind, content_text}

abbrev pub rule_text : TextRule → List ℕ
rule_text r = token_bytes (nonterminal r.nonterminal) ␣ sign_bytes DEFINED ␣ program_in_front r.own.first_visit (program_behind (r.tag ++ in_parentheses (content_text r.inside)) r.own.second_visit)

-- LF behind each
abbrev pub lines_of : List TextRule → List ℕ
lines_of [] = []
lines_of (r ∷ rs) = rule_text r ++ 10 ∷ lines_of rs

unfoldable pub text_of : Rules → List ℕ
text_of r = token_bytes (nonterminal r.start) ++ 10 ∷ lines_of r.productions
