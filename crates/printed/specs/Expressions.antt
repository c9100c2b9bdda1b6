-- Expressions as they are printed: parentheses around a node if it has a program, which then stands inside them, or if it binds less than its place asks.
-- Assumes nothing.
use Rattle.std.specs.Prelude.{Bool, true, false, ◌||◌, List, ◌∷◌, ◌++◌, ℕ, ltb}
use Rattle.std.proofs.Math.Option.{Option, none, some}
use Rattle.expressions.specs.Expr.{Atom, nonterminal, anychar}
use Rattle.notation.specs.Program.{TextProgram}
use Rattle.notation.specs.Rules.{Tree, node, Form, atom, cat, alt, star, empty}
use Rattle.notation.specs.Tokens.{TextToken, word, CHAR, EMPTY, DOT, BAR, STAR, sign_bytes, token_bytes}
use Rattle.printed.specs.Spacing.{◌␣◌, in_parentheses_if}
use Rattle.printed.specs.Programs.{program_text}

-- a program in front of what is written x, and one behind it
abbrev pub program_in_front : Option TextProgram → List ℕ → List ℕ
program_in_front none x = x
program_in_front (some p) x = program_text p ␣ x

abbrev pub program_behind : List ℕ → Option TextProgram → List ℕ
program_behind x none = x
program_behind x (some p) = x ␣ program_text p

abbrev pub has_one : Option TextProgram → Bool
has_one none = false
has_one (some p) = true

-- how tightly it binds: under * everything but an atom and EMPTY has parentheses, right of . a concatenation, under . and right of | a union
abbrev pub binds : Form → ℕ
binds (alt l r) = 0
binds (cat l r) = 1
binds (star e) = 2
binds (atom k) = 3
binds empty = 3

abbrev pub atom_token : Atom → TextToken
atom_token (nonterminal n) = TextToken.nonterminal n
atom_token anychar = word CHAR

-- in a place that asks for so much binding
abbrev mutual
  pub tree_text : ℕ → Tree → List ℕ
  tree_text asked (node f g k) = in_parentheses_if ((has_one f || has_one g) || ltb (binds k) asked) (program_in_front f (program_behind (form_text k) g))

  pub form_text : Form → List ℕ
  form_text (atom k) = token_bytes (atom_token k)
  form_text (cat l r) = tree_text 1 l ++ (sign_bytes DOT ++ tree_text 2 r)
  form_text (alt l r) = tree_text 0 l ++ (sign_bytes BAR ++ tree_text 1 r)
  form_text (star e) = tree_text 3 e ++ sign_bytes STAR
  form_text empty = token_bytes (word EMPTY)

-- between a tag's parentheses
abbrev pub content_text : Option Tree → List ℕ
content_text none = List.[]
content_text (some (node f g k)) = program_in_front f (program_behind (form_text k) g)
