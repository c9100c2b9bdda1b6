-- What is kept of the bytes that were passed, all of it. Definitions.
-- Assumes nothing.
use Rattle.std.specs.Prelude.{ℕ, List}
use Rattle.behind.specs.Tails.{no_tail, tail_after}
use Rattle.behind.specs.Lines.{no_lines, root_line}
use Rattle.behind.specs.declared.Lines.{Lines}
use Rattle.behind.specs.declared.Behind.{Behind}

-- before the first byte
unfoldable pub nothing_behind : Behind
nothing_behind = record { tail = no_tail; lines = no_lines }

-- past some bytes, behind which the elements that are open began on these lines
abbrev pub behind_after : Behind → List ℕ → Lines → Behind
behind_after b s lines = record { tail = tail_after b.tail s; lines = lines }

-- past some bytes that start on a line, of which not all were taken: of the lines only the root's is kept
abbrev pub behind_rooted : Behind → List ℕ → ℕ → Behind
behind_rooted b s line = behind_after b s (root_line b.lines s line)
