-- What of a state's bytes is read and written besides its head: the innermost element, and the frames in use.
-- Assumes nothing.
use Rattle.std.specs.Prelude.{List, [], ◌∷◌, ◌++◌, ℕ, zero, suc, ◌+◌, ◌*◌}
use Rattle.state.specs.declared.Frame.{Frame}
use Rattle.state.specs.Bounds.{frame_width, head_width}
use Rattle.state.specs.Bytes.{gathered, used_at}
use Rattle.state.specs.Changes.{bare_frame, tidy_frame}

-- the innermost of so many open elements as it lies in the bytes b, bare where none is open
abbrev pub innermost_in : ℕ → List ℕ → Frame
innermost_in zero b = bare_frame
innermost_in (suc n) b = used_at b (head_width + frame_width * n)

-- so many frames, the root's first: those around the innermost element as they lie in b, and that element's own, f
abbrev pub frames_in_use : ℕ → Frame → List ℕ → List Frame
frames_in_use zero f b = []
frames_in_use (suc n) f b = gathered (used_at b) frame_width head_width n ++ tidy_frame f ∷ []
