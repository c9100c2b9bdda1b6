-- The outline that a script holds. Assumes nothing.
use Rattle.std.specs.Prelude.{Option as Taken, Some, None, List, ◌∷◌, ℕ, suc, ◌≤◌}
use Rattle.std.proofs.Math.Option.{Option, none, some}
use Rattle.programs.specs.Limits.{Visit}
use Rattle.reading.specs.Statements as reading
use Rattle.outlines.specs.Extents.{ExtentWithin}
use Rattle.outlines.specs.Conditions as conditions
use Rattle.outlines.specs.Statements as statements
use Rattle.outlines.specs.Statements.{Outline, outlined, finished}
use Rattle.outlines.specs.Shape.{SoundOutline, most_layers, LayersUnder, MarginsUnder, PartsUnder}
use Rattle.outlines.specs.Promises.{OutlineKeeps}
use Rattle.extents.specs.Held.{extent_of, side_of, layers_at, margins_at, most_around, most_margins}
use Rattle.scripts.specs.declared.Place.{Place}
use Rattle.scripts.specs.declared.Place.TheVariants.{Opening, Separated, Branching}
use Rattle.scripts.specs.declared.Stage.{Stage}
use Rattle.scripts.specs.declared.Stage.TheVariants.{At, Assign, Operand, Item, Single, Equals, Other, Behind, Past}
use Rattle.scripts.specs.declared.Script.{Script}

abbrev pub reading_place : Place → reading.Place
reading_place Opening = reading.opening
reading_place Separated = reading.separated
reading_place Branching = reading.branching

abbrev pub stage_of : Stage → List conditions.Margin → statements.Stage
stage_of (At w) ms = statements.at (reading_place w)
stage_of Assign ms = statements.at_assign
stage_of Operand ms = statements.at_operand
stage_of Item ms = statements.at_item
stage_of Single ms = statements.in_condition (conditions.wanting conditions.a_single ms)
stage_of Equals ms = statements.in_condition (conditions.wanting conditions.an_equals ms)
stage_of Other ms = statements.in_condition (conditions.wanting conditions.an_operand ms)
stage_of (Behind d o) ms = statements.in_condition (conditions.behind (extent_of d) (side_of o) ms)
stage_of (Past b p) ms = statements.past b (extent_of p)

abbrev pub layers_in : Script → List statements.Layer
layers_in s = layers_at s.layers s.depth

abbrev pub margins_in : Script → List conditions.Margin
margins_in s = margins_at s.margins s.deep

abbrev pub outline_of : Script → Outline
outline_of s = outlined (stage_of s.stage (margins_in s)) (layers_in s)

-- the outline has its shape and keeps the limits
pub record Standing (s : Script) : Type 0 where
  pub sound : SoundOutline (outline_of s)
  pub within : ExtentWithin (finished (outline_of s))

-- room for one layer more, around parts that are small
pub record LayerRoom (s : Script) : Type 0 where
  pub room : s.depth ≤ most_layers
  pub small : LayersUnder 1000 (layers_in s)

-- as many margins as an array has
abbrev pub MarginsHeld : Stage → ℕ → Type 0
MarginsHeld (At w) n = Unit {0}
MarginsHeld Assign n = Unit {0}
MarginsHeld Operand n = Unit {0}
MarginsHeld Item n = Unit {0}
MarginsHeld Single n = n ≤ most_margins
MarginsHeld Equals n = n ≤ most_margins
MarginsHeld Other n = n ≤ most_margins
MarginsHeld (Behind d o) n = suc n ≤ most_margins
MarginsHeld (Past b p) n = Unit {0}

-- parts that are small, and as many layers and margins as the arrays have
pub record ScriptFirm (s : Script) : Type 0 where
  pub low : s.depth ≤ most_around
  pub margins_held : MarginsHeld s.stage s.deep
  pub small : PartsUnder 1000 (outline_of s)

-- room for a margin
pub record MarginRoom (s : Script) : Type 0 where
  pub room : s.deep ≤ most_margins
  pub small : MarginsUnder 1000 (margins_in s)

abbrev pub answer_of : Taken Script → Option Outline
answer_of None = none
answer_of (Some s) = some (outline_of s)

-- a condition that goes on, or none
abbrev pub tested_of : List statements.Layer → Option conditions.ConditionOutline → Option Outline
tested_of ls none = none
tested_of ls (some r) = some (outlined (statements.in_condition r) ls)

-- what a step answers: the script behind a token of that kind, where the limits are kept then; or that there is none
pub data Stepped (v : Visit) (s : Script) (k : ℕ) : Taken Script → Type 0 where
  taken : {s' : Script} → OutlineKeeps v (outline_of s) k (outline_of s') → Standing s' → Stepped v s k (Some s')
  refused : ((o : Outline) → OutlineKeeps v (outline_of s) k o → ⊥) → Stepped v s k None

-- behind a ; or an end
abbrev pub separated_as : statements.Closed → Option Outline
separated_as c = some (outlined (statements.at reading.separated) (statements.among c.whole ∷ c.outside))

abbrev pub unblocked_as : statements.Closed → Option Outline
unblocked_as c = statements.ended_in c.outside c.whole
