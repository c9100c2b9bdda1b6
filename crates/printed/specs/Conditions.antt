-- Conditions as they are printed: `not` always with parentheses; `or` under `and`, and a right operand of the same word, with parentheses.
-- Assumes nothing.
use Rattle.std.specs.Prelude.{List, ℕ, ltb}
use Rattle.programs.specs.Program.{Operand, constant, current, recalled, Condition, equal, negated, both, either}
use Rattle.notation.specs.Tokens.{plain, left, TextToken, value, attribute, NOT, AND, OR, EQUALS, word_bytes, sign_bytes, token_bytes}
use Rattle.printed.specs.Spacing.{◌␣◌, in_parentheses, in_parentheses_if}

-- current values are $.a0, values after the first visit $[.a0
abbrev pub operand_token : Operand → TextToken
operand_token (constant v) = value v
operand_token (current a) = attribute plain a
operand_token (recalled a) = attribute left a

-- how tightly it binds
abbrev pub condition_binds : Condition → ℕ
condition_binds (either c d) = 0
condition_binds (both c d) = 1
condition_binds (negated c) = 2
condition_binds (equal x y) = 2

abbrev pub condition_text : Condition → List ℕ
condition_text (equal x y) = token_bytes (operand_token x) ␣ sign_bytes EQUALS ␣ token_bytes (operand_token y)
condition_text (negated c) = word_bytes NOT ␣ in_parentheses (condition_text c)
condition_text (both c d) = in_parentheses_if (ltb (condition_binds c) 1) (condition_text c) ␣ word_bytes AND ␣ in_parentheses_if (ltb (condition_binds d) 2) (condition_text d)
condition_text (either c d) = condition_text c ␣ word_bytes OR ␣ in_parentheses_if (ltb (condition_binds d) 1) (condition_text d)
