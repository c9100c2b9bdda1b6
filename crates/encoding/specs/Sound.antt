-- Rules that can be typed: their nonterminals, attributes and values have a token, their tags names and their strings characters, and each program
-- holds what its visit may. Assumes nothing.
use Rattle.std.specs.Prelude.{◌≡◌, true, List, [], ◌∷◌, ℕ, ◌≤◌, ◌<◌, length}
use Rattle.std.proofs.Math.Option.{Option, none, some}
use Rattle.text.specs.Characters.{WholeCharacters}
use Rattle.expressions.specs.Expr.{Atom, nonterminal, anychar}
use Rattle.expressions.specs.Grammar.{nonterminals}
use Rattle.programs.specs.Limits.{Attribute, Value, ConditionFits, Visit, first, second, is_first, is_second, condition_allowed}
use Rattle.notation.specs.Program.{TextStatement, become, copy, recall, reject, print_start, print_end, print_text, echo, branch, TextProgram, done, step}
use Rattle.notation.specs.Rules.{Tree, node, Form, atom, cat, alt, star, empty, TextRule, Rules}
use Rattle.notation.specs.Tokens.{TagName}

abbrev mutual
  pub SoundStatement : Visit → TextStatement → Type 0
  SoundStatement v (become a x) = Attribute a × Value x
  SoundStatement v (copy a b) = Attribute a × Attribute b
  SoundStatement v (recall a b) = (Attribute a × Attribute b) × (is_second v ≡ true)
  SoundStatement v reject = Unit {0}
  SoundStatement v (print_start n) = TagName n
  SoundStatement v (print_end n) = TagName n
  SoundStatement v (print_text s) = WholeCharacters s × (length s ≤ 255)
  SoundStatement v (echo on) = is_first v ≡ true
  SoundStatement v (branch c l m) = (ConditionFits c × (condition_allowed v c ≡ true)) × (Sound v l × Sound v m)

  pub Sound : Visit → TextProgram → Type 0
  Sound v done = Unit {0}
  Sound v (step t p) = SoundStatement v t × Sound v p

abbrev pub SoundIf : Visit → Option TextProgram → Type 0
SoundIf v none = Unit {0}
SoundIf v (some p) = Sound v p

abbrev pub SoundAtom : Atom → Type 0
SoundAtom (nonterminal n) = n < nonterminals
SoundAtom anychar = Unit {0}

abbrev mutual
  pub SoundTree : Tree → Type 0
  SoundTree (node f g k) = SoundIf first f × (SoundIf second g × SoundForm k)

  pub SoundForm : Form → Type 0
  SoundForm (atom k) = SoundAtom k
  SoundForm (cat l r) = SoundTree l × SoundTree r
  SoundForm (alt l r) = SoundTree l × SoundTree r
  SoundForm (star e) = SoundTree e
  SoundForm empty = Unit {0}

abbrev pub SoundContent : Option Tree → Type 0
SoundContent none = Unit {0}
SoundContent (some e) = SoundTree e

pub record SoundRule (r : TextRule) : Type 0 where
  pub numbered : r.nonterminal < nonterminals
  pub named : TagName r.tag
  pub before : SoundIf first r.own.first_visit
  pub after : SoundIf second r.own.second_visit
  pub content : SoundContent r.inside

abbrev pub AllSound : List TextRule → Type 0
AllSound [] = Unit {0}
AllSound (r ∷ rs) = SoundRule r × AllSound rs

-- there is a production
pub record SoundRules (r : Rules) : Type 0 where
  pub its_start : r.start < nonterminals
  pub some_productions : 1 ≤ length r.productions
  pub each : AllSound r.productions
