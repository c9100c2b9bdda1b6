-- The shape of every outline that is reached from the start, and how small its parts are where it keeps the limits. Assumes nothing.
use Rattle.std.specs.Prelude.{◌≡◌, List, [], ◌∷◌, ℕ, suc, ◌≤◌, length}
use Rattle.std.proofs.Math.Option.{Option, none, some}
use Rattle.programs.specs.Limits.{Visit}
use Rattle.notation.specs.Statements.{parentheses}
use Rattle.reading.specs.Statements.{Place, opening, separated, branching}
use Rattle.outlines.specs.Extents.{Extent, vacant, ExtentWithin}
use Rattle.outlines.specs.Conditions.{Margin, ConditionOutline, wanting, behind}
use Rattle.outlines.specs.Statements.{Layer, among, then_of, else_of_lem, Stage, at, at_assign, at_operand, at_item, in_condition, past, Outline, step_outline, finished, outline_start}

-- a list lies in a branch of an if, or in nothing
abbrev pub InBranch : List Layer → Type 0
InBranch [] = Unit {0}
InBranch (among b ∷ ls) = ⊥
InBranch (then_of c ∷ ls) = Unit {0}
InBranch (else_of_lem c q ∷ ls) = Unit {0}

abbrev pub FirmLayers : List Layer → Type 0
FirmLayers [] = Unit {0}
FirmLayers (among b ∷ ls) = InBranch ls × FirmLayers ls
FirmLayers (then_of c ∷ ls) = FirmLayers ls
FirmLayers (else_of_lem c q ∷ ls) = FirmLayers ls

-- a list opens with nothing before it; a branch is an if's
abbrev pub PlaceFirm : Place → List Layer → Type 0
PlaceFirm opening [] = ⊥
PlaceFirm opening (among b ∷ ls) = b ≡ vacant
PlaceFirm opening (then_of c ∷ ls) = ⊥
PlaceFirm opening (else_of_lem c q ∷ ls) = ⊥
PlaceFirm separated ls = Unit {0}
PlaceFirm branching [] = ⊥
PlaceFirm branching (among b ∷ ls) = ⊥
PlaceFirm branching (then_of c ∷ ls) = Unit {0}
PlaceFirm branching (else_of_lem c q ∷ ls) = Unit {0}

-- so many parentheses are open at most
abbrev pub ConditionFirm : ConditionOutline → Type 0
ConditionFirm (wanting w []) = ⊥
ConditionFirm (wanting w (m ∷ ms)) = length ms ≤ parentheses
ConditionFirm (behind d o ms) = length ms ≤ parentheses

abbrev pub StageFirm : Stage → List Layer → Type 0
StageFirm (at w) ls = PlaceFirm w ls
StageFirm at_assign ls = Unit {0}
StageFirm at_operand ls = Unit {0}
StageFirm at_item ls = Unit {0}
StageFirm (in_condition r) ls = ConditionFirm r
StageFirm (past b p) ls = Unit {0}

pub record SoundOutline (o : Outline) : Type 0 where
  pub firm : FirmLayers o.layers
  pub stage_firm : StageFirm o.stage o.layers

-- every part has at most so many bytes, and nests at most so deep
pub record ExtentUnder (n : ℕ) (e : Extent) : Type 0 where
  pub few_bytes : e.bytes ≤ n
  pub few_deep : e.nested ≤ n

abbrev pub LayerUnder : ℕ → Layer → Type 0
LayerUnder n (among b) = ExtentUnder n b
LayerUnder n (then_of c) = ExtentUnder n c
LayerUnder n (else_of_lem c q) = ExtentUnder n c × ExtentUnder n q

abbrev pub LayersUnder : ℕ → List Layer → Type 0
LayersUnder n [] = Unit {0}
LayersUnder n (l ∷ ls) = LayerUnder n l × LayersUnder n ls

abbrev pub SideUnder : ℕ → Option Extent → Type 0
SideUnder n none = Unit {0}
SideUnder n (some c) = ExtentUnder n c

pub record MarginUnder (n : ℕ) (m : Margin) : Type 0 where
  pub few_nots : m.nots ≤ n
  pub or_side : SideUnder n m.or_left
  pub and_side : SideUnder n m.and_left

abbrev pub MarginsUnder : ℕ → List Margin → Type 0
MarginsUnder n [] = Unit {0}
MarginsUnder n (m ∷ ms) = MarginUnder n m × MarginsUnder n ms

abbrev pub ConditionUnder : ℕ → ConditionOutline → Type 0
ConditionUnder n (wanting w ms) = MarginsUnder n ms
ConditionUnder n (behind d o ms) = ExtentUnder n d × SideUnder n o × MarginsUnder n ms

abbrev pub StageUnder : ℕ → Stage → Type 0
StageUnder n (at w) = Unit {0}
StageUnder n at_assign = Unit {0}
StageUnder n at_operand = Unit {0}
StageUnder n at_item = Unit {0}
StageUnder n (in_condition r) = ConditionUnder n r
StageUnder n (past b p) = ExtentUnder n p

pub record PartsUnder (n : ℕ) (o : Outline) : Type 0 where
  pub around : LayersUnder n o.layers
  pub inner : StageUnder n o.stage

-- 8 ifs, a list in a branch of each, and the whole
abbrev pub most_layers : ℕ
most_layers = 17

abbrev pub StartsSound : Type 0
StartsSound = SoundOutline outline_start

abbrev pub StaysSound : Type 0
StaysSound = (v : Visit) (o o' : Outline) (k : ℕ) → SoundOutline o → step_outline v o k ≡ some o' → SoundOutline o'

abbrev pub FewLayers : Type 0
FewLayers = (o : Outline) → SoundOutline o → ExtentWithin (finished o) → length o.layers ≤ most_layers

-- where the limits are kept no part is longer than a program, and a step more makes none that is much longer
abbrev pub SmallParts : Type 0
SmallParts = (o : Outline) → SoundOutline o → ExtentWithin (finished o) → PartsUnder 255 o

abbrev pub PartsStaySmall : Type 0
PartsStaySmall = (v : Visit) (o o' : Outline) (k : ℕ) → SoundOutline o → ExtentWithin (finished o) → step_outline v o k ≡ some o' → PartsUnder 1000 o'

abbrev pub OneLayerMore : Type 0
OneLayerMore = (v : Visit) (o o' : Outline) (k : ℕ) → step_outline v o k ≡ some o' → length o'.layers ≤ suc (length o.layers)
