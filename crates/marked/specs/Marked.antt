-- Where the two readings of a fault part in the text that its sheet is written from. Assumes nothing.
use Rattle.std.specs.Prelude.{◌≡◌, List, ℕ, suc}
use Rattle.std.proofs.Math.Option.{some}
use Rattle.expressions.specs.Expr.{Exp, alt, star}
use Rattle.parting.specs.Parting.{Node}
use Rattle.notation.specs.Rules.{Tree, expression, TextRule, Rules}
use Rattle.notation.specs.RuleText.{RuleText}
use Rattle.encoding.specs.Encoded.{Room}
use Rattle.packing.specs.Packed.{sheet_bytes}
use Rattle.trees.specs.declared.Symbol.{Symbol}
use Rattle.witness.specs.declared.Reason.{Reason}
use Rattle.witness.specs.Answers.{WitnessAs}
use Rattle.posts.specs.declared.Wanted.{Wanted}
use Rattle.posts.specs.declared.Halt.{Halt}
use Rattle.posts.specs.Found.{HaltIs}
use Rattle.posts.specs.Promises.{Kth}
use Rattle.signs.specs.Order.{PostIs}
use Rattle.signs.specs.Promises.{OwnAt}

-- a star, which may go round or end, or a union, which may go left or right
pub data Parts : Exp → Type 0 where
  at_star : {e : Exp} → Parts (star e)
  at_union : {l m : Exp} → Parts (alt l m)

-- production q of the text has that node, a star or a union, and its own token stands at the byte that is told
pub record MarkedAt (text : List ℕ) (v : Rules) (q n : ℕ) (r : Halt) : Type 0 where
  pub rule : TextRule
  pub is_rule : Kth v.productions q rule
  pub tree : Tree
  pub is_tree : rule.inside ≡ some tree
  pub node : Exp
  pub is_node : Node (expression tree) 1 n node
  pub parts : Parts node
  pub own : OwnAt text node r

-- of every fault of the sheet of a rule text: witness hands back the sign, signs its post, and posts the byte
abbrev pub FaultsMarked : Type 0
FaultsMarked = (text : List ℕ) (v : Rules) → RuleText text v → Room v → (q p : ℕ) (x : Symbol) (w : Reason) → WitnessAs (sheet_bytes v) q p x w → w.number ≡ 9
    → (k : ℕ) → PostIs (sheet_bytes v) q w.sign k → (r : Halt) → HaltIs text (Wanted.Post (suc q) k) r → MarkedAt text v q w.sign r
