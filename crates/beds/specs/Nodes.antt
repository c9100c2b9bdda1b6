-- The nodes of an expression that is being read, in preorder as a sheet has them, where a function gives the field of a program. Assumes nothing.
use Rattle.std.specs.Prelude.{List, [], ◌∷◌, ◌++◌, ℕ}
use Rattle.std.proofs.Math.Option.{Option, none, some}
use Rattle.notation.specs.Program.{TextProgram}
use Rattle.notation.specs.Rules.{Tree, node, Form, atom, cat, alt, star, empty}
use Rattle.reading.specs.Expressions.{ExpressionLevel, Parsing, wants, in_front, after, behind, over}
use Rattle.packing.specs.Packed.{word, kind, argument}

abbrev pub field_of : (TextProgram → ℕ) → Option TextProgram → ℕ
field_of field none = 0xFFFF
field_of field (some p) = field p

abbrev pub record_of : (TextProgram → ℕ) → Option TextProgram → Option TextProgram → Form → List ℕ
record_of field f g k = kind k ∷ argument k ∷ word (field_of field f) (word (field_of field g) [])

abbrev mutual
  pub tree_nodes : (TextProgram → ℕ) → Tree → List ℕ
  tree_nodes field (node f g k) = record_of field f g k ++ form_nodes field k

  pub form_nodes : (TextProgram → ℕ) → Form → List ℕ
  form_nodes field (atom a) = []
  form_nodes field (cat l m) = tree_nodes field l ++ tree_nodes field m
  form_nodes field (alt l m) = tree_nodes field l ++ tree_nodes field m
  form_nodes field (star e) = tree_nodes field e
  form_nodes field empty = []

abbrev pub content_nodes : (TextProgram → ℕ) → Option Tree → List ℕ
content_nodes field none = []
content_nodes field (some e) = tree_nodes field e

-- a node of that kind and argument, without programs
abbrev pub bare_node : ℕ → ℕ → List ℕ
bare_node kind argument = kind ∷ argument ∷ word 0xFFFF (word 0xFFFF [])

-- what stands left of a sign of that kind, behind the node that the sign makes
abbrev pub left_nodes : (TextProgram → ℕ) → ℕ → Option Tree → List ℕ
left_nodes field kind none = []
left_nodes field kind (some e) = bare_node kind 0 ++ tree_nodes field e

-- up to what a pair of parentheses holds; then up to its concatenation, behind its last |; then up to its operand, behind its last .
abbrev pub up_to_union : (TextProgram → ℕ) → List ExpressionLevel → List ℕ
up_to_union field [] = []
up_to_union field (l ∷ ls) = (up_to_union field ls ++ left_nodes field 4 l.alt_left) ++ left_nodes field 3 l.cat_left

abbrev pub up_to_cat : (TextProgram → ℕ) → ExpressionLevel → List ExpressionLevel → List ℕ
up_to_cat field l ls = up_to_union field ls ++ left_nodes field 4 l.alt_left

abbrev pub up_to_operand : (TextProgram → ℕ) → ExpressionLevel → List ExpressionLevel → List ℕ
up_to_operand field l ls = up_to_union field (l ∷ ls)

-- all that has been read
abbrev pub nodes_read : (TextProgram → ℕ) → Parsing → List ℕ
nodes_read field (wants b l ls) = up_to_operand field l ls
nodes_read field (in_front q ls) = up_to_union field ls
nodes_read field (after e l ls) = up_to_operand field l ls ++ tree_nodes field e
nodes_read field (behind q f k ls) = up_to_union field ls ++ tree_nodes field (node f none k)
nodes_read field (over e ls) = up_to_union field ls ++ tree_nodes field e
