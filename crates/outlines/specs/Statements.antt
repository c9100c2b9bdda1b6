-- The outline of a program that is being read, and how it goes on by the kind of the next token. Assumes nothing.
use Rattle.std.specs.Prelude.{Bool, true, false, cond, ◌&&◌, List, [], ◌∷◌, ℕ}
use Rattle.std.proofs.Math.Option.{Option, none, some}
use Rattle.programs.specs.Limits.{Visit}
use Rattle.notation.specs.Tokens.{PRINT, IF, THEN, ELSE, BEGIN, END, ASSIGNED, SEMICOLON}
use Rattle.reading.specs.Statements.{Pending, in_then, in_else, ListLevel, Place, opening, separated, branching, Listing, wants, target, assigning, printing, testing, after}
use Rattle.outlines.specs.Extents as extents
use Rattle.outlines.specs.Extents.{Extent, condition_extent, program_extent, vacant, unnested, in_turn}
use Rattle.outlines.specs.Kinds.{is_word, is_sign, is_target, is_operand, is_plain, is_short_item, is_long_item}
use Rattle.outlines.specs.Conditions.{ConditionOutline, wanting, a_single, blank_margin, condition_outline, step_condition_outline, read_condition, finished_condition}

-- what lies around a place, in the order of the text from the place outward: a list with what stands before the place in it; an if with its condition, where
-- the place is in its first branch; or with its condition and first branch, where the place is in its second
pub data Layer : Type 0 where
  among : Extent → Layer
  then_of : Extent → Layer
  else_of_lem : Extent → Extent → Layer

-- what lies at the place within its layer
abbrev pub wrapped : Layer → Extent → Extent
wrapped (among b) p = in_turn b p
wrapped (then_of c) p = extents.branching c p vacant
wrapped (else_of_lem c q) p = extents.branching c q p

abbrev pub wrapped_in : List Layer → Extent → Extent
wrapped_in [] p = p
wrapped_in (l ∷ ls) p = wrapped_in ls (wrapped l p)

-- the list in which the place lies, and what lies around that
pub record Closed : Type 0 where
  pub whole : Extent
  pub outside : List Layer

abbrev pub closed_list : List Layer → Extent → Closed
closed_list [] p = record { whole = p; outside = [] }
closed_list (among b ∷ ls) p = record { whole = in_turn b p; outside = ls }
closed_list (then_of c ∷ ls) p = closed_list ls (wrapped (then_of c) p)
closed_list (else_of_lem c q ∷ ls) p = closed_list ls (wrapped (else_of_lem c q) p)

-- an else: it is the nearest if's that has none
abbrev pub else_of : List Layer → Extent → Option (List Layer)
else_of [] p = none
else_of (among b ∷ ls) p = none
else_of (then_of c ∷ ls) p = some (else_of_lem c p ∷ ls)
else_of (else_of_lem c q ∷ ls) p = else_of ls (wrapped (else_of_lem c q) p)

pub data Stage : Type 0 where
  at : Place → Stage  -- a statement may begin
  at_assign at_operand at_item : Stage  -- wants a :=, what is assigned, what is printed
  in_condition : ConditionOutline → Stage
  past : Bool → Extent → Stage  -- behind a statement or branch; whether it is a print, which may have more items

pub record Outline : Type 0 where
  pub stage : Stage
  pub layers : List Layer

abbrev pub outlined : Stage → List Layer → Outline
outlined s ls = record { stage = s; layers = ls }

-- of the machine's states
abbrev pub layer_of : Pending → Layer
layer_of (in_then c) = then_of (condition_extent c)
layer_of (in_else c q) = else_of_lem (condition_extent c) (program_extent q)

abbrev pub layers_on : List Pending → List Layer → List Layer
layers_on [] ls = ls
layers_on (f ∷ fs) ls = layer_of f ∷ layers_on fs ls

abbrev pub layers_of : List ListLevel → List Layer
layers_of [] = []
layers_of (l ∷ ls) = layers_on l.ifs (among (program_extent l.before) ∷ layers_of ls)

abbrev pub outline : Listing → Outline
outline (wants w l ls) = outlined (at w) (layers_of (l ∷ ls))
outline (target a l ls) = outlined at_assign (layers_of (l ∷ ls))
outline (assigning a l ls) = outlined at_operand (layers_of (l ∷ ls))
outline (printing l ls) = outlined at_item (layers_of (l ∷ ls))
outline (testing r l ls) = outlined (in_condition (condition_outline r)) (layers_of (l ∷ ls))
outline (after b p l ls) = outlined (past b (program_extent p)) (layers_of (l ∷ ls))

-- begin and end
abbrev pub begun_at : Place → List Layer → Option Outline
begun_at opening ls = none
begun_at separated ls = none
begun_at branching ls = some (outlined (at opening) (among vacant ∷ ls))

abbrev pub ended_in : List Layer → Extent → Option Outline
ended_in [] p = none
ended_in (l ∷ ls) p = some (outlined (past false p) (l ∷ ls))

abbrev pub ended_at : Place → List Layer → Option Outline
ended_at opening ls = ended_in (closed_list ls vacant).outside vacant
ended_at separated ls = none
ended_at branching ls = none

abbrev pub step_at : Visit → Place → List Layer → ℕ → Option Outline
step_at v w ls k =
    cond (is_plain v k) (some (outlined (past false (unnested 1)) ls))
    (cond (is_target v k) (some (outlined at_assign ls))
    (cond (is_word PRINT k) (some (outlined at_item ls))
    (cond (is_word IF k) (some (outlined (in_condition (wanting a_single (blank_margin ∷ []))) ls))
    (cond (is_word BEGIN k) (begun_at w ls)
    (cond (is_word END k) (ended_at w ls) none)))))

abbrev pub elsed_at : Option (List Layer) → Option Outline
elsed_at none = none
elsed_at (some ls) = some (outlined (at branching) ls)

-- the statement is p, and a list that ends here is c
abbrev pub step_past : Bool → Extent → Closed → List Layer → ℕ → Option Outline
step_past b p c ls k =
    cond (b && is_short_item k) (some (outlined (past true (in_turn p (unnested 2))) ls))
    (cond (b && is_long_item k) (some (outlined (past true (in_turn p (unnested 4))) ls))
    (cond (is_sign SEMICOLON k) (some (outlined (at separated) (among c.whole ∷ c.outside)))
    (cond (is_word ELSE k) (elsed_at (else_of ls p))
    (cond (is_word END k) (ended_in c.outside c.whole) none))))

abbrev pub step_item : List Layer → ℕ → Option Outline
step_item ls k =
    cond (is_short_item k) (some (outlined (past true (unnested 2)) ls))
    (cond (is_long_item k) (some (outlined (past true (unnested 4)) ls)) none)

-- a condition goes on, or ends with then
abbrev pub then_at : Option Extent → List Layer → ℕ → Option Outline
then_at none ls k = none
then_at (some c) ls k = cond (is_word THEN k) (some (outlined (at branching) (then_of c ∷ ls))) none

abbrev pub step_tested : Option ConditionOutline → Option Extent → List Layer → ℕ → Option Outline
step_tested (some r) c ls k = some (outlined (in_condition r) ls)
step_tested none c ls k = then_at c ls k

abbrev pub step_stage : Visit → Stage → List Layer → ℕ → Option Outline
step_stage v (at w) ls k = step_at v w ls k
step_stage v at_assign ls k = cond (is_sign ASSIGNED k) (some (outlined at_operand ls)) none
step_stage v at_operand ls k = cond (is_operand v k) (some (outlined (past false (unnested 3)) ls)) none
step_stage v at_item ls k = step_item ls k
step_stage v (in_condition r) ls k = step_tested (step_condition_outline v r k) (read_condition r) ls k
step_stage v (past b p) ls k = step_past b p (closed_list ls p) ls k

abbrev pub step_outline : Visit → Outline → ℕ → Option Outline
step_outline v o k = step_stage v o.stage o.layers k

-- whether a program may end here
abbrev pub none_outside : List Layer → Bool
none_outside [] = true
none_outside (l ∷ ls) = false

abbrev pub ends_at : Stage → List Layer → Bool
ends_at (at opening) ls = none_outside (closed_list ls vacant).outside
ends_at (at separated) ls = false
ends_at (at branching) ls = false
ends_at at_assign ls = false
ends_at at_operand ls = false
ends_at at_item ls = false
ends_at (in_condition r) ls = false
ends_at (past b p) ls = none_outside (closed_list ls p).outside

abbrev pub ends_here : Outline → Bool
ends_here o = ends_at o.stage o.layers

-- of the shortest continuation
abbrev pub finished_at : Stage → List Layer → Extent
finished_at (at opening) ls = wrapped_in (closed_list ls vacant).outside vacant
finished_at (at separated) ls = wrapped_in ls (unnested 1)
finished_at (at branching) ls = wrapped_in ls vacant
finished_at at_assign ls = wrapped_in ls (unnested 3)
finished_at at_operand ls = wrapped_in ls (unnested 3)
finished_at at_item ls = wrapped_in ls (unnested 2)
finished_at (in_condition r) ls = wrapped_in ls (extents.branching (finished_condition r) vacant vacant)
finished_at (past b p) ls = wrapped_in ls p

abbrev pub finished : Outline → Extent
finished o = finished_at o.stage o.layers

-- of what the shortest continuation puts at the place itself
abbrev pub kernel : Stage → Extent
kernel (at opening) = vacant
kernel (at separated) = unnested 1
kernel (at branching) = vacant
kernel at_assign = unnested 3
kernel at_operand = unnested 3
kernel at_item = unnested 2
kernel (in_condition r) = extents.branching (finished_condition r) vacant vacant
kernel (past b p) = p

-- where a program begins
abbrev pub outline_start : Outline
outline_start = outlined (at opening) (among vacant ∷ [])
