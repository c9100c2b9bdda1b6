-- How far into lent memory we write. Definition.
-- Assumes nothing.
use Rattle.std.specs.Prelude.{ℕ, ◌^◌}

-- no place that we write at lies past this, and no name is longer, so that no sum of the two is too large for a number
abbrev pub farthest : ℕ
farthest = 2 ^ 62
