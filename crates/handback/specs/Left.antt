-- What a salvage call leaves: the bytes of the state, and the area where records wait. Promises.
-- Assumes nothing.
use Rattle.std.specs.Prelude.{◌≡◌, true, List, ℕ, ◌-◌, ◌≤◌, length, take, drop, replicate}
use Rattle.lent.specs.Put.{put}
use Rattle.sheet.specs.Sheet.{Sheet}
use Rattle.calls.specs.Held.{leaves_open, closing_of}
use Rattle.state.specs.Bounds.{head_width, state_width}
use Rattle.live.specs.Live.{full}
use Rattle.converter.specs.Inner.{left_live}
use Rattle.rescued.specs.Bytes.{mode_bytes, area_after}
use Rattle.turns.specs.declared.Stand.{Stand}
use Rattle.turns.specs.Stands.{mode_of, RunStands, HoldsIn}
use Rattle.resting.specs.Laid.{StandPut}

-- the bytes that are laid down for a stand, closed by the number where it closes, are the one row in which its mode is handed back
abbrev pub StateLeft : Type 0
StateLeft =
    (a : Sheet) (past : ℕ) (t : Stand) (n passed : ℕ) (b b' area : List ℕ) → RunStands a t.live (drop head_width (take state_width b)) → HoldsIn a past t t.mode → t.waits ≤ length area →
    StandPut t (left_live n t.live) passed b b' → b' ≡ mode_bytes (closing_of (leaves_open n) n) passed (mode_of t (drop head_width (take state_width b)) area)

-- the area, cleared from what waits up to where anything waited, is as the meaning leaves it
abbrev pub AreaLeft : Type 0
AreaLeft =
    (a : Sheet) (past : ℕ) (t : Stand) (stack lent d d' : List ℕ) (k : ℕ) → HoldsIn a past t t.mode → length d ≡ length lent → t.waits ≤ k → k ≤ length lent → drop k d ≡ drop k lent →
    d' ≡ put true d t.waits (replicate (k - t.waits) 0) → d' ≡ area_after lent k (mode_of t stack d)
