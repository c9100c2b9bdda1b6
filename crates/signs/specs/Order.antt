-- How many nodes of an expression a text writes before a node, and which post of its production that node is. Assumes nothing.
use Rattle.std.specs.Prelude.{◌≡◌, cond, List, ℕ, suc, ◌+◌, ◌<◌, ltb, eqb}
use Rattle.expressions.specs.Expr.{Exp, atom, cat, alt, star, empty, nodes, tree}
use Rattle.expressions.specs.Grammar.{Production, Nth}
use Rattle.sheet.specs.Sheet.{Sheet, grammar_of, IsSheet}
use Rattle.trees.specs.GrammarAt.{GrammarIs}
use Rattle.ways.specs.declared.Spot.{Spot}
use Rattle.ways.specs.Spot.{At}

-- bracket n, of a node whose own bracket is i, whose first part has a nodes, and in whose parts x and y nodes are written before it
abbrev pub amidst : ℕ → ℕ → ℕ → ℕ → ℕ → ℕ
amidst i a n x y = cond (eqb n i) a (cond (ltb n (suc i + a)) x (suc a + y))

-- the nodes that are written before that of bracket n, where the expression's first bracket is i: a sign stands between its parts, or behind the only one
abbrev pub rank : Exp → ℕ → ℕ → ℕ
rank (atom k) i n = 0
rank (cat l r) i n = amidst i (nodes l) n (rank l (suc i) n) (rank r (suc i + nodes l) n)
rank (alt l r) i n = amidst i (nodes l) n (rank l (suc i) n) (rank r (suc i + nodes l) n)
rank (star e) i n = cond (eqb n i) (nodes e) (rank e (suc i) n)
rank empty i n = 0

pub record WrittenBefore (s : List ℕ) (t : Spot) (n r : ℕ) : Type 0 where
  pub few : r < t.nodes
  pub is : (e : Exp) (i j : ℕ) → At s t e i j → r ≡ rank e i n

-- behind the tag, which is the first of its posts
pub record PostIn (s : List ℕ) (q n r : ℕ) : Type 0 where
  pub is : (g : List Production) → GrammarIs s g → (d : Production) → Nth g q d → (e : Exp) → d.content ≡ tree e → r ≡ suc (rank e 1 n)

pub record PostIs (s : List ℕ) (q n r : ℕ) : Type 0 where
  pub is : (a : Sheet) → IsSheet s a → (d : Production) → Nth (grammar_of a.rules) q d → (e : Exp) → d.content ≡ tree e → r ≡ suc (rank e 1 n)
