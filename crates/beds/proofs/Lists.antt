-- The nodes of what is read, joined: one equation for each kind of step. Assumes nothing.
use mathlib.Core.Path.{◌≡◌, refl, sym, ◌∙◌, ap}
use mathlib.Core.Bool.{false}
use mathlib.Core.List.{List, [], ◌∷◌, ◌++◌, append_assoc, append-nil}
use mathlib.Core.Option.{Option, none, some}
use Prim.Native.Nat.{ℕ, ◌+◌, ◌*◌, ◌≤◌}
use native.Mathlib.Omega.{arith}
use lib.ListN.{length, length-append}
use Rattle.expressions.specs.Expr.{Atom, nodes, nodes_of}
use Rattle.notation.specs.Program.{TextProgram}
use Rattle.notation.specs.Rules.{Tree, node, Form, atom, cat, alt, star, empty, expression, expression_of, content_inside}
use Rattle.reading.specs.Expressions.{leaf_form, ExpressionLevel, fresh_expression, joined_cat, joined_alt, whole_expression, sealed, around_expression, wants, after, placeholder}
use Rattle.packing.specs.Packed.{word, kind, argument}
use Rattle.beds.specs.Nodes.{field_of, bare_node, tree_nodes, form_nodes, content_nodes, left_nodes, up_to_union, up_to_cat, up_to_operand}
use Rattle.beds.specs.Bedded.{most_bed_bytes, FewNodesRead}

-- six bytes for each node
mutual
  pub tree_length : (field : TextProgram → ℕ) (e : Tree) → length (tree_nodes field e) ≡ 6 * nodes (expression e)
  tree_length field (node f g k) = omega (arith, form_length field k)

  form_length : (field : TextProgram → ℕ) (k : Form) → 6 + length (form_nodes field k) ≡ 6 * nodes (expression_of k)
  form_length field (atom a) = refl
  form_length field (cat l m) = simp length-append (omega (arith, tree_length field l, tree_length field m))
  form_length field (alt l m) = simp length-append (omega (arith, tree_length field l, tree_length field m))
  form_length field (star e) = omega (arith, tree_length field e)
  form_length field empty = refl

pub content_length : (field : TextProgram → ℕ) (o : Option Tree) → length (content_nodes field o) ≡ 6 * nodes_of (content_inside o)
content_length field none = refl
content_length field (some e) = tree_length field e

module _ (field : TextProgram → ℕ) where
  -- a leaf is one node without programs
  pub leaf_nodes : (k : Option Atom) → bare_node (kind (leaf_form k)) (argument (leaf_form k)) ≡ tree_nodes field (node none none (leaf_form k))
  leaf_nodes none = refl
  leaf_nodes (some k) = refl

  -- an operand behind what stands to its left
  pub joined_cat_lem : (o : Option Tree) (e : Tree) → tree_nodes field (joined_cat o e) ≡ left_nodes field 3 o ++ tree_nodes field e
  joined_cat_lem none e = refl
  joined_cat_lem (some c) e = refl

  pub joined_alt_lem : (o : Option Tree) (e : Tree) → tree_nodes field (joined_alt o e) ≡ left_nodes field 4 o ++ tree_nodes field e
  joined_alt_lem none e = refl
  joined_alt_lem (some a) e = refl

  pub whole_nodes : (l : ExpressionLevel) (e : Tree) → tree_nodes field (whole_expression l e) ≡ left_nodes field 4 l.alt_left ++ (left_nodes field 3 l.cat_left ++ tree_nodes field e)
  whole_nodes l e = joined_alt_lem l.alt_left (joined_cat l.cat_left e) ∙ ap (λ m. left_nodes field 4 l.alt_left ++ m) (joined_cat_lem l.cat_left e)

  -- what is read up to an operand and the operand, from where the concatenation begins, and from where the union begins
  pub from_cat : (l : ExpressionLevel) (ls : List ExpressionLevel) (e : Tree) → up_to_operand field l ls ++ tree_nodes field e ≡ up_to_cat field l ls ++ tree_nodes field (joined_cat l.cat_left e)
  from_cat l ls e = append_assoc (up_to_cat field l ls) (left_nodes field 3 l.cat_left) (tree_nodes field e) ∙ ap (λ m. up_to_cat field l ls ++ m) (sym (joined_cat_lem l.cat_left e))

  pub from_union : (l : ExpressionLevel) (ls : List ExpressionLevel) (e : Tree) → up_to_operand field l ls ++ tree_nodes field e ≡ up_to_union field ls ++ tree_nodes field (whole_expression l e)
  from_union l ls e =
      from_cat l ls e
      ∙ append_assoc (up_to_union field ls) (left_nodes field 4 l.alt_left) (tree_nodes field (joined_cat l.cat_left e))
      ∙ ap (λ m. up_to_union field ls ++ m) (sym (joined_alt_lem l.alt_left (joined_cat l.cat_left e)))

  -- where nothing has been read in a pair, its parts begin together
  pub fresh_cat : (ls : List ExpressionLevel) → up_to_cat field fresh_expression ls ≡ up_to_union field ls
  fresh_cat ls = append-nil (up_to_union field ls)

  pub fresh_operand : (ls : List ExpressionLevel) → up_to_operand field fresh_expression ls ≡ up_to_union field ls
  fresh_operand ls = append-nil (up_to_cat field fresh_expression ls) ∙ fresh_cat ls

  -- a node's first program, and its second
  pub first_apart : (u : List ℕ) (f g : Option TextProgram) (k : Form)
      → u ++ tree_nodes field (node f g k) ≡ (u ++ (kind k ∷ argument k ∷ [])) ++ word (field_of field f) (word (field_of field g) (form_nodes field k))
  first_apart u f g k = sym (append_assoc u (kind k ∷ argument k ∷ []) (word (field_of field f) (word (field_of field g) (form_nodes field k))))

  pub second_apart : (u : List ℕ) (f g : Option TextProgram) (k : Form)
      → u ++ tree_nodes field (node f g k) ≡ (u ++ (kind k ∷ argument k ∷ word (field_of field f) [])) ++ word (field_of field g) (form_nodes field k)
  second_apart u f g k = sym (append_assoc u (kind k ∷ argument k ∷ word (field_of field f) []) (word (field_of field g) (form_nodes field k)))

  -- the shortest continuation has all the nodes that have been read
  sealed_nodes : (b : Option TextProgram) (e : Tree) → nodes (expression e) ≤ nodes (expression (sealed b e))
  sealed_nodes none (node f g k) = omega arith
  sealed_nodes (some p) (node none g k) = omega arith
  sealed_nodes (some p) (node (some q) g k) = omega arith

  pub around_nodes : (ls : List ExpressionLevel) (e : Tree) → length (up_to_union field ls) + 6 * nodes (expression e) ≤ 6 * nodes (expression (around_expression ls e))
  around_nodes [] e = omega arith
  around_nodes (l ∷ ls) e =
      let h = around_nodes ls (sealed l.before (whole_expression l e)) in
      let s = sealed_nodes l.before (whole_expression l e) in
      let same = ap length (from_union l ls e) in
      let a = length-append (up_to_operand field l ls) (tree_nodes field e) in
      let b = length-append (up_to_union field ls) (tree_nodes field (whole_expression l e)) in
      let t = tree_length field e in
      let w = tree_length field (whole_expression l e) in
      omega (arith, h, s, same, a, b, t, w)

  pub few_after : (e : Tree) (l : ExpressionLevel) (ls : List ExpressionLevel) → FewNodesRead (after e l ls) → length (up_to_operand field l ls ++ tree_nodes field e) ≤ most_bed_bytes
  few_after e l ls few =
      let h = around_nodes (l ∷ ls) e in
      let a = length-append (up_to_operand field l ls) (tree_nodes field e) in
      let t = tree_length field e in
      omega (arith, h, a, t, few)

  pub few_wants : (l : ExpressionLevel) (ls : List ExpressionLevel) → FewNodesRead (wants false l ls) → length (up_to_operand field l ls) ≤ most_bed_bytes
  few_wants l ls few = let h = around_nodes (l ∷ ls) placeholder in omega (arith, h, few)
