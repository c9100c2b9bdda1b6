-- The bounds of a state and the widths of its bytes, each named once: the code's associated constants are these.
-- Assumes nothing.
use Rattle.std.specs.Prelude.{ℕ, ◌+◌, ◌*◌}
use Rattle.runs.specs.Visits.{attributes}
use Rattle.runs.specs.Machine.{most}

-- the sets of an open element: its production's, and one for each of its open nodes, as an expression is at most 12 deep
abbrev pub most_sets : ℕ
most_sets = 13

-- a set as bytes: the attributes, and echo
abbrev pub set_width : ℕ
set_width = attributes + 1

-- a frame: production, place, the number of sets in use, and the sets
abbrev pub frame_width : ℕ
frame_width = 3 + set_width * most_sets

-- where the parts of a state's head stand: attributes, echo, the count of visits, whether the root has been closed, the closing number, and how many
-- elements are open. The frames follow
abbrev pub count_at : ℕ
count_at = attributes + 1

abbrev pub rooted_at : ℕ
rooted_at = count_at + 8

abbrev pub closed_at : ℕ
closed_at = rooted_at + 1

abbrev pub depth_at : ℕ
depth_at = closed_at + 1

abbrev pub head_width : ℕ
head_width = depth_at + 8

-- all frames, and a whole state
abbrev pub stack_width : ℕ
stack_width = frame_width * most

abbrev pub state_width : ℕ
state_width = head_width + stack_width
