-- Which token has the kind of a closing brace. Assumes nothing.
use mathlib.Core.Path.{◌≡◌, refl}
use native.Mathlib.Omega.{arith}
use Rattle.notation.specs.Tokens.{plain, left, right, TextToken, nonterminal, value, attribute, name, start_tag, end_tag, empty_tag, string, word, CHAR, ECHO, ECHO-OFF, REJECT, PRINT, IF, THEN, ELSE, BEGIN, END, AND, OR, NOT, EMPTY, sign, DEFINED, ASSIGNED, OPEN, CLOSE, BRACE, UNBRACE, DOT, BAR, STAR, SEMICOLON, EQUALS}
use Rattle.lexemes.specs.Kinds.{token_kind}

pub unbrace_kind : (t : TextToken) → token_kind t ≡ 28 → t ≡ sign UNBRACE
unbrace_kind (sign UNBRACE) e = refl
unbrace_kind (nonterminal n) e = absurd (omega (arith, e))
unbrace_kind (value v) e = absurd (omega (arith, e))
unbrace_kind (attribute plain a) e = absurd (omega (arith, e))
unbrace_kind (attribute left a) e = absurd (omega (arith, e))
unbrace_kind (attribute right a) e = absurd (omega (arith, e))
unbrace_kind (name n) e = absurd (omega (arith, e))
unbrace_kind (start_tag n) e = absurd (omega (arith, e))
unbrace_kind (end_tag n) e = absurd (omega (arith, e))
unbrace_kind (empty_tag n) e = absurd (omega (arith, e))
unbrace_kind (string cs) e = absurd (omega (arith, e))
unbrace_kind (word CHAR) e = absurd (omega (arith, e))
unbrace_kind (word ECHO) e = absurd (omega (arith, e))
unbrace_kind (word ECHO-OFF) e = absurd (omega (arith, e))
unbrace_kind (word REJECT) e = absurd (omega (arith, e))
unbrace_kind (word PRINT) e = absurd (omega (arith, e))
unbrace_kind (word IF) e = absurd (omega (arith, e))
unbrace_kind (word THEN) e = absurd (omega (arith, e))
unbrace_kind (word ELSE) e = absurd (omega (arith, e))
unbrace_kind (word BEGIN) e = absurd (omega (arith, e))
unbrace_kind (word END) e = absurd (omega (arith, e))
unbrace_kind (word AND) e = absurd (omega (arith, e))
unbrace_kind (word OR) e = absurd (omega (arith, e))
unbrace_kind (word NOT) e = absurd (omega (arith, e))
unbrace_kind (word EMPTY) e = absurd (omega (arith, e))
unbrace_kind (sign DEFINED) e = absurd (omega (arith, e))
unbrace_kind (sign ASSIGNED) e = absurd (omega (arith, e))
unbrace_kind (sign OPEN) e = absurd (omega (arith, e))
unbrace_kind (sign CLOSE) e = absurd (omega (arith, e))
unbrace_kind (sign BRACE) e = absurd (omega (arith, e))
unbrace_kind (sign DOT) e = absurd (omega (arith, e))
unbrace_kind (sign BAR) e = absurd (omega (arith, e))
unbrace_kind (sign STAR) e = absurd (omega (arith, e))
unbrace_kind (sign SEMICOLON) e = absurd (omega (arith, e))
unbrace_kind (sign EQUALS) e = absurd (omega (arith, e))
