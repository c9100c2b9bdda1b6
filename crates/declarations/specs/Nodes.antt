-- A model's nodes in preorder as the code holds them, and what each operation on them hands back. Assumes nothing.
use Rattle.std.specs.Prelude.{◌≡◌, List, [], ◌∷◌, ◌++◌, ℕ, ◌+◌, ◌*◌, ◌≤◌, ◌<◌, max, length, take}
use Rattle.limits.specs.Limits.{nodes_at_most}
use Rattle.expressions.specs.Expr.{nonterminal, anychar, Exp, atom, cat, alt, star, empty, nodes, depth, Content, nothing, tree}
use Rattle.models.specs.Models.{Model}
use Rattle.models.specs.Expressions.{model_expression, model_nodes}
use Rattle.models.specs.Spelling.{MarkIs}
use Rattle.models.specs.Reader.{LeftOf, fresh, commas, bars, behind_left}
use Rattle.declarations.specs.declared.NodeRow.{NodeRow}

-- kind and argument of each node, as document 01 has them
abbrev pub preorder : Exp → List ℕ
preorder (atom (nonterminal n)) = 1 ∷ n ∷ []
preorder (atom anychar) = 2 ∷ 0 ∷ []
preorder (cat e f) = 3 ∷ 0 ∷ (preorder e ++ preorder f)
preorder (alt e f) = 4 ∷ 0 ∷ (preorder e ++ preorder f)
preorder (star e) = 5 ∷ 0 ∷ preorder e
preorder empty = 6 ∷ 0 ∷ []

abbrev pub content_preorder : Content → List ℕ
content_preorder nothing = []
content_preorder (tree e) = preorder e

-- a model is measured behind each byte, so there is room for what one byte makes of one within its limits: at most x+ of all its nodes
abbrev pub room_for_nodes : ℕ
room_for_nodes = 2 * nodes_at_most + 2

abbrev pub most_node_bytes : ℕ
most_node_bytes = 2 * room_for_nodes

-- r holds these bytes
pub record LaysNodes (l : List ℕ) (r : NodeRow) : Type 0 where
  pub length_is : r.length ≡ length l
  pub bytes_are : take r.length r.bytes ≡ l

-- r holds the nodes of an expression, and its depth
pub record Shows (e : Exp) (r : NodeRow) : Type 0 where
  pub laid : LaysNodes (preorder e) r
  pub deep_is : r.deep ≡ depth e

pub record LeafNodesAre (kind argument : ℕ) (r : NodeRow) : Type 0 where
  pub laid : LaysNodes (kind ∷ argument ∷ []) r
  pub deep_is : r.deep ≡ 1

-- where there is room
pub record JoinedNodes (a b r : NodeRow) : Type 0 where
  pub is : a.length + b.length ≤ most_node_bytes → (l m : List ℕ) → LaysNodes l a → LaysNodes m b → LaysNodes (l ++ m) r
  pub deep_is : a.length + b.length ≤ most_node_bytes → r.deep ≡ max a.deep b.deep

-- the same bytes, with a depth one more where that is below the most
pub record Deeper (a r : NodeRow) : Type 0 where
  pub same_length : r.length ≡ a.length
  pub same_bytes : r.bytes ≡ a.bytes
  pub deep : a.deep < most_node_bytes → r.deep ≡ a.deep + 1

-- the two operators
pub data Operator : Type 0 where
  catenation union : Operator

abbrev pub operator_kind : Operator → ℕ
operator_kind catenation = 3
operator_kind union = 4

abbrev pub operated : Operator → Exp → Exp → Exp
operated catenation e f = cat e f
operated union e f = alt e f

pub record OverTwoIs (kind : ℕ) (a b r : NodeRow) : Type 0 where
  pub is : (o : Operator) → kind ≡ operator_kind o → (e f : Exp) → Shows e a → Shows f b → nodes e + nodes f < room_for_nodes → Shows (operated o e f) r

pub record StarShown (a r : NodeRow) : Type 0 where
  pub is : (e : Exp) → Shows e a → nodes e < room_for_nodes → Shows (star e) r

-- with the mark, where there is room
pub record MarkedAs (mark : ℕ) (a r : NodeRow) : Type 0 where
  pub is : (number : List ℕ → ℕ) (x y : Model) → MarkIs x (mark ∷ []) y → Shows (model_expression number x) a → model_nodes y ≤ room_for_nodes → Shows (model_expression number y) r

-- what stands to the left, as the code holds it: 0 for nothing, else its operator's kind and its nodes
abbrev pub LeftShown : (List ℕ → ℕ) → LeftOf → ℕ → NodeRow → Type 0
LeftShown number fresh kind left = kind ≡ 0
LeftShown number (commas y) kind left = (kind ≡ 3) × Shows (model_expression number y) left
LeftShown number (bars y) kind left = (kind ≡ 4) × Shows (model_expression number y) left

pub record BehindAs (kind : ℕ) (left a r : NodeRow) : Type 0 where
  pub is : (number : List ℕ → ℕ) (l : LeftOf) (x : Model) → LeftShown number l kind left → Shows (model_expression number x) a → model_nodes (behind_left l x) ≤ room_for_nodes
      → Shows (model_expression number (behind_left l x)) r

-- a union with one name more, as mixed content has it
pub record OrNameIs (a : NodeRow) (number : ℕ) (r : NodeRow) : Type 0 where
  pub is : (e : Exp) → Shows e a → nodes e + 1 < room_for_nodes → Shows (alt e (atom (nonterminal number))) r
