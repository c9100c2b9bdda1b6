-- The rules that a text writes: the start, and productions with tags by name and programs beside the nodes that they are of.
-- Assumes nothing.
use Rattle.std.specs.Prelude.{List, [], ◌∷◌, ◌++◌, ℕ}
use Rattle.std.proofs.Math.Option.{Option, none, some}
use Rattle.expressions.specs.Expr.{Atom, Exp, Content, nothing, tree}
use Rattle.notation.specs.Program.{TextProgram}

-- the programs of a production or a node, for its two visits
pub record TextVisits : Type 0 where
  pub first_visit : Option TextProgram
  pub second_visit : Option TextProgram

-- an expression whose nodes have programs: a node is the programs of its two visits, and what it joins
mutual
  pub data Tree : Type 0 where
    node : Option TextProgram → Option TextProgram → Form → Tree

  pub data Form : Type 0 where
    atom : Atom → Form
    cat alt : Tree → Tree → Form
    star : Tree → Form
    empty : Form  -- EMPTY, the empty node

-- its expression
abbrev mutual
  pub expression : Tree → Exp
  expression (node f g k) = expression_of k

  pub expression_of : Form → Exp
  expression_of (atom k) = Exp.atom k
  expression_of (cat l r) = Exp.cat (expression l) (expression r)
  expression_of (alt l r) = Exp.alt (expression l) (expression r)
  expression_of (star e) = Exp.star (expression e)
  expression_of empty = Exp.empty

-- its nodes' programs, in preorder
abbrev mutual
  pub visits : Tree → List TextVisits
  visits (node f g k) = record { first_visit = f; second_visit = g } ∷ visits_of k

  pub visits_of : Form → List TextVisits
  visits_of (atom k) = []
  visits_of (cat l r) = visits l ++ visits r
  visits_of (alt l r) = visits l ++ visits r
  visits_of (star e) = visits e
  visits_of empty = []

-- what stands between a tag's parentheses
abbrev pub content_inside : Option Tree → Content
content_inside none = nothing
content_inside (some t) = tree (expression t)

abbrev pub visits_inside : Option Tree → List TextVisits
visits_inside none = []
visits_inside (some t) = visits t

pub record TextRule : Type 0 where
  pub nonterminal : ℕ
  pub tag : List ℕ
  pub own : TextVisits
  pub inside : Option Tree

pub record Rules : Type 0 where
  pub start : ℕ
  pub productions : List TextRule
