-- What is read of the bytes of a salvage run's state, and whether they fit a sheet.
-- Assumes nothing.
use Rattle.std.specs.Prelude.{◌≡◌, Bool, List, ℕ, length, drop}
use Rattle.tells.specs.Tells.{Tells}
use Rattle.layout.specs.Layout.{byte_at}
use Rattle.sheet.specs.Sheet.{Sheet, IsSheet}
use Rattle.state.specs.Bounds.{head_width}
use Rattle.state.specs.Bytes.{long_at, state_from}
use Rattle.state.specs.Changes.{tidied}
use Rattle.live.specs.declared.Live.{Live}
use Rattle.live.specs.Live.{full}
use Rattle.rescued.specs.Bytes.{mode_at, first_at, refused_at, waiting_at, returning_bytes, returning_in}
use Rattle.rescued.specs.Fits.{ModeFits, SalvageFits}
use Rattle.turns.specs.declared.Stand.{Stand}
use Rattle.turns.specs.Stands.{between_in, inside_in, skipping_in}

-- what returns, over the frames of the bytes that it is
pub record ReturnsAs (b : List ℕ) (h : Live) : Type 0 where
  pub is : full h (drop head_width (returning_bytes b)) ≡ tidied (returning_in b)

-- where the run stands, by its mode
pub data StandAs (b : List ℕ) (t : Stand) : Type 0 where
  is_between : byte_at b mode_at ≡ 0 → (h : Live) → full h (drop head_width b) ≡ tidied (state_from b) → t ≡ between_in h → StandAs b t
  is_inside : byte_at b mode_at ≡ 1 → (z h : Live) → ReturnsAs b z → full h (drop head_width b) ≡ tidied (state_from b) → t ≡ inside_in z h (long_at b first_at) (long_at b waiting_at) → StandAs b t
  is_skipping : (byte_at b mode_at ≡ 0 → ⊥) → (byte_at b mode_at ≡ 1 → ⊥) → (h : Live) → full h (drop head_width b) ≡ tidied (state_from b) → t ≡ skipping_in h (long_at b first_at) (byte_at b refused_at) → StandAs b t

-- whether the bytes fit, of the sheet that the others are
pub record ModeTold (s b : List ℕ) (area : ℕ) (r : Bool) : Type 0 where
  pub tells : (a : Sheet) → IsSheet s a → Tells (ModeFits a b area (byte_at b mode_at)) r

pub record SalvageTold (s b : List ℕ) (area part : ℕ) (r : Bool) : Type 0 where
  pub tells : (a : Sheet) → IsSheet s a → Tells (SalvageFits a b area part) r
