-- The rules that declarations are: each a production, in order, without programs. Assumes nothing.
use Rattle.std.specs.Prelude.{List, [], ◌∷◌}
use Rattle.std.proofs.Math.Option.{Option, none, some}
use Rattle.expressions.specs.Expr.{Exp, atom, cat, alt, star, empty, Content, nothing, tree}
use Rattle.notation.specs.Rules.{Tree, node, Form, TextRule, Rules}
use Rattle.models.specs.Models.{Declaration}
use Rattle.models.specs.Expressions.{spec_content}
use Rattle.models.specs.Sheets.{number_of_name}

-- an expression whose nodes have no programs
abbrev pub plain_tree : Exp → Tree
plain_tree (atom k) = node none none (Form.atom k)
plain_tree (cat e f) = node none none (Form.cat (plain_tree e) (plain_tree f))
plain_tree (alt e f) = node none none (Form.alt (plain_tree e) (plain_tree f))
plain_tree (star e) = node none none (Form.star (plain_tree e))
plain_tree empty = node none none Form.empty

abbrev pub plain_content : Content → Option Tree
plain_content nothing = none
plain_content (tree e) = some (plain_tree e)

-- names are nonterminals in the order of their first mention; all are the declarations of the text
abbrev pub declaration_rule : List Declaration → Declaration → TextRule
declaration_rule all d = record {
  nonterminal = number_of_name all d.declared;
  tag = d.declared;
  own = record { first_visit = none; second_visit = none };
  inside = plain_content (spec_content (number_of_name all) d.content);
}

abbrev pub declaration_rules : List Declaration → List Declaration → List TextRule
declaration_rules all [] = []
declaration_rules all (d ∷ ds) = declaration_rule all d ∷ declaration_rules all ds

-- the first declared element is the start
unfoldable pub rules_of_dtd : List Declaration → Rules
rules_of_dtd ds = record { start = 0; productions = declaration_rules ds ds }
