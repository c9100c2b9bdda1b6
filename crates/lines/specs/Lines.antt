-- The productions of a sheet as lines of text, and all of its text: what the records of a production are by name, and what putting them leaves in lent memory.
-- Assumes nothing.
use Rattle.std.specs.Prelude.{◌≡◌, true, List, [], ◌∷◌, ◌++◌, ℕ, suc, ◌+◌, ◌*◌, ◌≤◌}
use Rattle.std.proofs.Math.Option.{Option, none, some}
use Rattle.limits.specs.Limits.{most_productions}
use Rattle.lent.specs.Put.{PutAs}
use Rattle.expressions.specs.Expr.{nodes}
use Rattle.layout.specs.Layout.{production_count}
use Rattle.layout.specs.Records.{nonterminal_of, tag_number_of, first_node_of, node_count_of, first_program_of, second_program_of}
use Rattle.sheet.specs.Sheet.{Sheet}
use Rattle.notation.specs.Rules.{Tree, expression, TextRule, Rules}
use Rattle.notation.specs.Tokens.{nonterminal, DEFINED, sign_bytes, token_bytes}
use Rattle.packing.specs.Packs.{Packs}
use Rattle.printed.specs.Spacing.{◌␣◌, in_parentheses}
use Rattle.printed.specs.Expressions.{content_text}
use Rattle.printed.specs.Text.{rule_text, lines_of, text_of}
use Rattle.naming.specs.ByName.{ByName}
use Rattle.visits.specs.Written.{Pen, TagNameAt}
use Rattle.asides.specs.Asides.{aside_text, most_of_an_aside, BothNamed}
use Rattle.boughs.specs.Boughs.{TreeNamed, most_of_a_node}

-- what stands between the parentheses of production q's tag
abbrev pub InsideNamed : (s : List ℕ) (a : Sheet) → Packs s a → ℕ → Option Tree → Type 0
InsideNamed s a z q none = node_count_of s q ≡ 0
InsideNamed s a z q (some t) = TreeNamed s a z (first_node_of s q) t × (nodes (expression t) ≡ node_count_of s q)

-- production q is the rule d, in the sheet a that the bytes are
pub record RuleNamed (s : List ℕ) (a : Sheet) (z : Packs s a) (q : ℕ) (d : TextRule) : Type 0 where
  pub nonterminal_is : d.nonterminal ≡ nonterminal_of s q
  pub tag_is : TagNameAt s (tag_number_of s q) d.tag
  pub own_are : BothNamed s a z (first_program_of s q) (second_program_of s q) d.own
  pub inside_is : InsideNamed s a z q d.inside

-- the productions from q on are these rules
abbrev pub RulesNamed : (s : List ℕ) (a : Sheet) → Packs s a → ℕ → List TextRule → Type 0
RulesNamed s a z q [] = q ≡ production_count s
RulesNamed s a z q (d ∷ ds) = RuleNamed s a z q d × RulesNamed s a z (suc q) ds

-- parts of a rule's text: in front of the tag, between its parentheses, with the tag around that, and the whole line
abbrev pub head_of : TextRule → List ℕ
head_of d = token_bytes (nonterminal d.nonterminal) ␣ sign_bytes DEFINED ␣ aside_text true d.own.first_visit

abbrev pub inside_of : TextRule → List ℕ
inside_of d = content_text d.inside

abbrev pub element_of : TextRule → List ℕ
element_of d = d.tag ++ in_parentheses (inside_of d)

abbrev pub line_of : TextRule → List ℕ
line_of d = rule_text d ++ 10 ∷ []

-- none of them is longer, and no text is
abbrev pub most_of_a_head : ℕ
most_of_a_head = most_of_an_aside + 8

abbrev pub most_inside : ℕ
most_inside = most_of_a_node * 256

abbrev pub most_of_a_line : ℕ
most_of_a_line = most_of_a_head + most_inside + most_of_an_aside + 258

abbrev pub most_of_a_text : ℕ
most_of_a_text = most_of_a_line * most_productions + 4

-- that part of production q's text was put
pub record RulePut (most : ℕ) (text : TextRule → List ℕ) (s : List ℕ) (q : ℕ) (p : Pen) (r : ℕ) (d : List ℕ) : Type 0 where
  pub reach : r ≤ p.at + most
  pub right : (a : Sheet) (z : Packs s a) (x : TextRule) → RuleNamed s a z q x → PutAs p.write p.lent p.at (text x) d r

-- all lines were
pub record LinesPut (s : List ℕ) (p : Pen) (r : ℕ) (d : List ℕ) : Type 0 where
  pub reach : r ≤ p.at + most_of_a_line * most_productions
  pub right : (a : Sheet) (z : Packs s a) (xs : List TextRule) → RulesNamed s a z 0 xs → PutAs p.write p.lent p.at (lines_of xs) d r

-- the text of the sheet's rules was
pub record TextPut (s : List ℕ) (p : Pen) (r : ℕ) (d : List ℕ) : Type 0 where
  pub reach : r ≤ p.at + most_of_a_text
  pub right : (a : Sheet) → Packs s a → (x : Rules) → ByName a x → PutAs p.write p.lent p.at (text_of x) d r
