-- The expression whose nodes begin at a node of a sheet, as text: how tightly a node binds, by its kind, whether it stands in parentheses, and what
-- putting the expression leaves in lent memory. Assumes nothing.
use Rattle.std.specs.Prelude.{◌≡◌, Bool, cond, not, ◌||◌, List, [], ◌∷◌, ℕ, suc, ◌+◌, ◌*◌, ◌≤◌, eqb, ltb}
use Rattle.lent.specs.Put.{PutAs}
use Rattle.expressions.specs.Expr.{nodes}
use Rattle.layout.specs.Records.{kind_of, first_program_of_node, second_program_of_node}
use Rattle.trees.specs.Trees.{TreeAt}
use Rattle.sheet.specs.Sheet.{Sheet}
use Rattle.notation.specs.Rules.{TextVisits, Tree, node, expression, visits}
use Rattle.notation.specs.Tokens.{nonterminal, CHAR, EMPTY, DOT, BAR, word_bytes, sign_bytes, token_bytes}
use Rattle.packing.specs.Packs.{Packs}
use Rattle.printed.specs.Expressions.{program_in_front, program_behind, form_text}
use Rattle.visits.specs.Written.{Pen}
use Rattle.asides.specs.Asides.{most_of_an_aside, BothNamed}
use Rattle.boughs.specs.declared.Placed.{Placed}

-- 4: a union; 3: a concatenation; 5: a star; any other binds most
abbrev pub binds_at : ℕ → ℕ
binds_at k = cond (eqb k 4) 0 (cond (eqb k 3) 1 (cond (eqb k 5) 2 3))

-- a node of one kind and argument that has no parts
abbrev pub leaf_text : ℕ → ℕ → List ℕ
leaf_text k n = cond (eqb k 1) (token_bytes (nonterminal n)) (cond (eqb k 2) (word_bytes CHAR) (word_bytes EMPTY))

-- what stands between the two parts of a node
abbrev pub join_at : ℕ → List ℕ
join_at k = cond (eqb k 3) (sign_bytes DOT) (sign_bytes BAR)

-- node i has a program, or binds less than its place asks: it stands in parentheses
abbrev pub apart_at : List ℕ → ℕ → ℕ → Bool
apart_at s i asked = (not (eqb (first_program_of_node s i) 65535) || not (eqb (second_program_of_node s i) 65535)) || ltb (binds_at (kind_of s i)) asked

-- the programs of the nodes from i on
abbrev pub NodesNamed : (s : List ℕ) (a : Sheet) → Packs s a → ℕ → List TextVisits → Type 0
NodesNamed s a z i [] = Unit {0}
NodesNamed s a z i (v ∷ vs) = BothNamed s a z (first_program_of_node s i) (second_program_of_node s i) v × NodesNamed s a z (suc i) vs

-- the nodes from i on are the tree t with its programs, in the sheet a that the bytes are
pub record TreeNamed (s : List ℕ) (a : Sheet) (z : Packs s a) (i : ℕ) (t : Tree) : Type 0 where
  pub stands : TreeAt s i (expression t)
  pub programs : NodesNamed s a z i (visits t)

-- with no programs, and with its programs but no parentheses
abbrev pub bare_text : Tree → List ℕ
bare_text (node f g k) = form_text k

abbrev pub inside_text : Tree → List ℕ
inside_text (node f g k) = program_in_front f (program_behind (form_text k) g)

-- no text of a tree is longer than this for each of its nodes: two programs, a word, a sign and parentheses
abbrev pub most_of_a_node : ℕ
most_of_a_node = 2 * most_of_an_aside + 8

-- the tree of at most `left` nodes that begins at node i is put as that text, and where it ends; so far that `spare` bytes more may follow
pub record TreePut (spare : ℕ) (text : Tree → List ℕ) (s : List ℕ) (i left : ℕ) (p : Pen) (r : Placed) (d : List ℕ) : Type 0 where
  pub low : i ≤ r.next
  pub high : r.next ≤ i + left
  pub reach : r.at + spare + most_of_a_node * i ≤ p.at + most_of_a_node * r.next
  pub right : (a : Sheet) (z : Packs s a) (t : Tree) → TreeNamed s a z i t → nodes (expression t) ≤ left
      → (r.next ≡ i + nodes (expression t)) × PutAs p.write p.lent p.at (text t) d r.at
