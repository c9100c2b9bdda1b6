-- The expression that a content model becomes, with its number of nodes and its depth. Assumes nothing.
use Rattle.std.specs.Prelude.{List, [], ◌∷◌, ℕ, suc, ◌+◌, ◌*◌, max, length}
use Rattle.expressions.specs.Expr.{nonterminal, anychar, Exp, atom, cat, alt, star, empty, Content, nothing, tree}
use Rattle.models.specs.Models.{Model, called, sequence, choice, optional, any_number, at_least_one, ContentSpec, nothing_inside, mixed, children}

-- x? is the union of x and the empty node, x+ is x followed by its star; `number` numbers the names
abbrev pub model_expression : (List ℕ → ℕ) → Model → Exp
model_expression number (called n) = atom (nonterminal (number n))
model_expression number (sequence x y) = cat (model_expression number x) (model_expression number y)
model_expression number (choice x y) = alt (model_expression number x) (model_expression number y)
model_expression number (optional x) = alt (model_expression number x) empty
model_expression number (any_number x) = star (model_expression number x)
model_expression number (at_least_one x) = cat (model_expression number x) (star (model_expression number x))

-- e|a|b, grouped to the left
abbrev pub or_names : (List ℕ → ℕ) → Exp → List (List ℕ) → Exp
or_names number e [] = e
or_names number e (n ∷ ns) = or_names number (alt e (atom (nonterminal (number n)))) ns

abbrev pub spec_content : (List ℕ → ℕ) → ContentSpec → Content
spec_content number nothing_inside = nothing
spec_content number (mixed names) = tree (star (or_names number (atom anychar) names))
spec_content number (children x) = tree (model_expression number x)

-- nodes and depth, whatever the numbers of the names
abbrev pub model_nodes : Model → ℕ
model_nodes (called n) = 1
model_nodes (sequence x y) = model_nodes x + model_nodes y + 1
model_nodes (choice x y) = model_nodes x + model_nodes y + 1
model_nodes (optional x) = model_nodes x + 2
model_nodes (any_number x) = model_nodes x + 1
model_nodes (at_least_one x) = 2 * model_nodes x + 2

abbrev pub model_depth : Model → ℕ
model_depth (called n) = 1
model_depth (sequence x y) = max (model_depth x) (model_depth y) + 1
model_depth (choice x y) = max (model_depth x) (model_depth y) + 1
model_depth (optional x) = model_depth x + 1
model_depth (any_number x) = model_depth x + 1
model_depth (at_least_one x) = model_depth x + 2

abbrev pub spec_nodes : ContentSpec → ℕ
spec_nodes nothing_inside = 0
spec_nodes (mixed names) = 2 * length names + 2
spec_nodes (children x) = model_nodes x

abbrev pub spec_depth : ContentSpec → ℕ
spec_depth nothing_inside = 0
spec_depth (mixed names) = length names + 2
spec_depth (children x) = model_depth x
