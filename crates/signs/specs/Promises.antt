-- What is promised of signs: found in a rule text by its post, a node's own token stands there. Assumes nothing.
use Rattle.std.specs.Prelude.{◌≡◌, Some, List, ◌++◌, ℕ, suc, drop}
use Rattle.std.proofs.Math.Option.{some}
use Rattle.expressions.specs.Expr.{Exp}
use Rattle.parting.specs.Parting.{Node}
use Rattle.notation.specs.Rules.{Tree, expression, TextRule, Rules}
use Rattle.notation.specs.Tokens.{token_bytes}
use Rattle.notation.specs.RuleText.{RuleText}
use Rattle.posts.specs.declared.Wanted.{Wanted}
use Rattle.posts.specs.declared.Halt.{Halt}
use Rattle.posts.specs.Found.{HaltIs}
use Rattle.posts.specs.Promises.{own_token, in_order, Kth}
use Rattle.signs.specs.Order.{rank}

-- of the tokens of an expression's nodes, in the order in which they are written, the one of that number is the node's own
abbrev pub OwnTokenThere : Type 0
OwnTokenThere = (e f : Exp) (i n : ℕ) → Node e i n f → Kth (in_order e) (rank e i n) (own_token f)

-- the bytes from there on begin with it
pub record OwnAt (text : List ℕ) (f : Exp) (r : Halt) : Type 0 where
  pub at : ℕ
  pub there : r.found ≡ Some at
  pub rest : List ℕ
  pub are : drop at text ≡ token_bytes (own_token f) ++ rest

-- of every node of every production of a rule text
abbrev pub SignStands : Type 0
SignStands = (text : List ℕ) (v : Rules) → RuleText text v → (q : ℕ) (d : TextRule) → Kth v.productions q d → (t : Tree) → d.inside ≡ some t → (n : ℕ) (f : Exp) → Node (expression t) 1 n f
    → (r : Halt) → HaltIs text (Wanted.Post (suc q) (suc (rank (expression t) 1 n))) r → OwnAt text f r
