-- What a push and a pop make of a stack: those of a run. A 33rd element is refused, and a stack that holds more is left as it is.
-- Assumes nothing.
use Rattle.std.specs.Prelude.{◌≡◌, Option, None, Some, ◌≤◌, ◌<◌}
use Rattle.runs.specs.Machine.{most}
use Rattle.state.specs.declared.Frame.{Frame}
use Rattle.live.specs.Live.{PushedAs, PoppedAs}
use Rattle.stack.specs.declared.Stack.{Stack}

pub data StackedAs (s : Stack) (f : Frame) (r : Option Stack) : Type 0 where
  put : (t : Stack) → s.live.depth < most → r ≡ Some t → PushedAs 0 s.live f s.bytes t.live t.bytes → StackedAs s f r
  refused : most ≤ s.live.depth → r ≡ None → StackedAs s f r

pub data UnstackedAs (s r : Stack) : Type 0 where
  off : s.live.depth ≤ most → PoppedAs 0 s.live s.bytes r.live → r.bytes ≡ s.bytes → UnstackedAs s r
  as_was : most < s.live.depth → r ≡ s → UnstackedAs s r
