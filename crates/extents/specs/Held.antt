-- What the parts of a script stand for. Assumes nothing.
use Rattle.std.specs.Prelude.{Option as Side, Some, None, ◌≡◌, Bool, true, false, List, [], ◌∷◌, ℕ, zero, suc, ◌≤◌, get_or}
use Rattle.std.proofs.Math.Option.{Option, none, some}
use Rattle.outlines.specs.Extents as outlines
use Rattle.outlines.specs.Extents.{extent}
use Rattle.outlines.specs.Conditions as conditions
use Rattle.outlines.specs.Statements as statements
use Rattle.outlines.specs.Shape.{most_layers}
use Rattle.extents.specs.declared.Extent.{Extent}
use Rattle.extents.specs.declared.Margin.{Margin}
use Rattle.extents.specs.declared.Layer.{Layer}
use Rattle.extents.specs.declared.Layer.TheVariants.{Among, Then, Else}
use Rattle.extents.specs.declared.Around.{Around}
use Rattle.extents.specs.declared.Closed.{Closed}

abbrev pub extent_of : Extent → outlines.Extent
extent_of e = extent e.bytes e.nested

pub record ExtentIs (r : Extent) (e : outlines.Extent) : Type 0 where
  pub bytes_are : r.bytes ≡ e.bytes
  pub nested_is : r.nested ≡ e.nested

-- so small that sums of a few are numbers of a machine
pub record SmallExtent (e : Extent) : Type 0 where
  pub few_bytes : e.bytes ≤ 1000000
  pub few_deep : e.nested ≤ 1000000

-- what stands left of an and or an or, if anything does
abbrev pub side_of : Side Extent → Option outlines.Extent
side_of None = none
side_of (Some e) = some (extent_of e)

abbrev pub margin_of : Margin → conditions.Margin
margin_of m = conditions.margin (side_of m.or_left) (side_of m.and_left) m.nots

abbrev pub layer_of : Layer → statements.Layer
layer_of (Among b) = statements.among (extent_of b)
layer_of (Then c) = statements.then_of (extent_of c)
layer_of (Else c q) = statements.else_of_lem (extent_of c) (extent_of q)

-- what stands past the end
abbrev pub bare_around : Around
bare_around = record { layer = Among (record { bytes = 0; nested = 0 }) }

abbrev pub bare_margin : Margin
bare_margin = record { or_left = None; and_left = None; nots = 0 }

-- what the first n stand for, the last of them first
abbrev pub last_first : {X Y : Type 0} → (X → Y) → X → List X → ℕ → List Y
last_first f d xs zero = []
last_first f d xs (suc n) = f (get_or xs n d) ∷ last_first f d xs n

abbrev pub around_of : Around → statements.Layer
around_of a = layer_of a.layer

abbrev pub layers_at : List Around → ℕ → List statements.Layer
layers_at xs n = last_first around_of bare_around xs n

abbrev pub margins_at : List Margin → ℕ → List conditions.Margin
margins_at xs n = last_first margin_of bare_margin xs n

-- one layer more than a program has within its limits; one margin for each pair of parentheses, and one around them
abbrev pub most_around : ℕ
most_around = suc most_layers

abbrev pub most_margins : ℕ
most_margins = 33

abbrev pub is_among : statements.Layer → Bool
is_among (statements.among b) = true
is_among (statements.then_of c) = false
is_among (statements.else_of_lem c q) = false

pub record ClosedIs (layers : List Around) (n : ℕ) (p : outlines.Extent) (r : Closed) : Type 0 where
  pub fewer : r.left ≤ n
  pub whole_is : statements.closed_list (layers_at layers n) p ≡ record { whole = extent_of r.whole; outside = layers_at layers r.left }
