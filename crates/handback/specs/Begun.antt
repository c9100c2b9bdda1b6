-- Where a salvage call begins: the stand that is read of bytes that fit is the mode that they are, and its first step may begin. Promises.
-- Assumes nothing.
use Rattle.std.specs.Prelude.{◌≡◌, List, ℕ, length, drop}
use Rattle.layout.specs.Layout.{byte_at}
use Rattle.sheet.specs.Sheet.{Sheet, IsSheet}
use Rattle.state.specs.Bounds.{head_width}
use Rattle.state.specs.Bytes.{long_at, state_from}
use Rattle.state.specs.Changes.{not_closed}
use Rattle.rescued.specs.Bytes.{mode_at, passed_at, mode_from}
use Rattle.rescued.specs.Fits.{SalvageFits}
use Rattle.turns.specs.declared.Stand.{Stand}
use Rattle.turns.specs.declared.Given.{Given}
use Rattle.turns.specs.Stands.{mode_of, ReadyOn}
use Rattle.holding.specs.Told.{StandAs}

pub record BegunAs (a : Sheet) (g : Given) (part b out area : List ℕ) (t : Stand) : Type 0 where
  pub mode : mode_of t (drop head_width b) area ≡ mode_from b area (byte_at b mode_at)
  pub ready : ReadyOn a g part (record { at = 0; put = 0; told = 0 }) t (drop head_width b) out area

abbrev pub StandBegins : Type 0
StandBegins =
    (s : List ℕ) (a : Sheet) (g : Given) (part b out area : List ℕ) (t : Stand) → IsSheet s a → SalvageFits a b (length area) (length part) → (state_from b).closed ≡ not_closed →
    g.base ≡ long_at b passed_at → StandAs b t → BegunAs a g part b out area t
