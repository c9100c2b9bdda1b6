-- How many nodes the levels around add, and what one byte makes of a model. Assumes nothing.
use mathlib.Core.Path.{◌≡◌}
use mathlib.Core.List.{List, [], ◌∷◌}
use Prim.Native.Nat.{ℕ, ◌+◌, ◌*◌, ◌≤◌}
use native.Mathlib.Omega.{arith}
use Rattle.models.specs.Models.{Model, called}
use Rattle.models.specs.Expressions.{model_nodes}
use Rattle.models.specs.Spelling.{MarkIs, unmarked, question, asterisk, plus}
use Rattle.models.specs.Reader.{LeftOf, fresh, commas, bars, behind_left, around_model}
use Rattle.levels.specs.Promises.{nodes_left, AroundCounted, MarkHasRoom, CommaHasRoom, BarHasRoom}

pub behind_counted : (l : LeftOf) (x : Model) → model_nodes (behind_left l x) ≡ nodes_left l + model_nodes x
behind_counted fresh x = omega arith
behind_counted (commas y) x = omega arith
behind_counted (bars y) x = omega arith

pub around_counted : AroundCounted
around_counted [] x = omega arith
around_counted (l ∷ ls) x = omega (arith, around_counted ls (behind_left l x), behind_counted l x)

-- no part has more nodes than all
pub part_of : (n : ℕ) (ls : List LeftOf) (x : Model) → model_nodes (around_model ls x) ≤ n → model_nodes x ≤ n
part_of n ls x h = omega (arith, around_counted ls x, h)

pub mark_nodes : {x y : Model} {k : List ℕ} → MarkIs x k y → (model_nodes y ≤ 2 * model_nodes x + 2)
mark_nodes unmarked = omega arith
mark_nodes question = omega arith
mark_nodes asterisk = omega arith
mark_nodes plus = omega arith

pub mark_has_room : MarkHasRoom
mark_has_room x y b l ls m h = omega (arith, around_counted (l ∷ ls) x, around_counted (l ∷ ls) y, mark_nodes m, h)

pub comma_has_room : CommaHasRoom
comma_has_room x l ls h = omega (arith, around_counted (l ∷ ls) x, around_counted (commas (behind_left l x) ∷ ls) (called (97 ∷ [])), behind_counted l x, h)

pub bar_has_room : BarHasRoom
bar_has_room x l ls h = omega (arith, around_counted (l ∷ ls) x, around_counted (bars (behind_left l x) ∷ ls) (called (97 ∷ [])), behind_counted l x, h)
