-- Document 01's number for each case of what reading a tree answers, and when it is given. Assumes nothing.
use Rattle.std.specs.Prelude.{Option as Past, Some, None, ◌≡◌, List, ◌↔◌, ℕ, ◌≤◌}
use Rattle.std.proofs.Math.Option.{Option, none, some}
use Rattle.expressions.specs.Expr.{Exp, nodes, depth}
use Rattle.trees.specs.Trees.{TreeAt}
use Rattle.trees.specs.Parsed.{ParsedAt}

-- a tree that is read has no number of its own; where none lies that a sheet may have, the sheet is 5
abbrev pub tree_number : Past ℕ → Option ℕ
tree_number (Some past) = none
tree_number None = some 5

abbrev pub FiveExactly : Type 0
FiveExactly =
    (s : List ℕ) (i left deep : ℕ) (r : Past ℕ) → ParsedAt s i left deep r → (tree_number r ≡ some 5) ↔ ((e : Exp) → TreeAt s i e → nodes e ≤ left → depth e ≤ deep → ⊥)
