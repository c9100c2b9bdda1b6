-- The lines of a second reading of a file, as places counts them. Definitions.
-- Assumes nothing.
use Rattle.std.specs.Prelude.{◌≡◌, ℕ, ◌+◌, ◌^◌, ◌<◌, cond, List, ◌++◌}
use Rattle.places.specs.Lines.{line_ends}
use Rattle.behind.specs.Lines.{line_on}
use Rattle.behind.specs.Wholes.{ends_in_return}
use Rattle.losses.specs.declared.rereading.Walk.{Walk}

-- the line of the next byte, which is no LF: a CR before it ends a line
abbrev pub next_line : Walk → ℕ
next_line w = line_on w.returned w.line

-- a reading is behind the bytes s that a file begins with: whether the last of them is a CR, and the line, in which the end of that one is not counted yet
pub record HasRead (s : List ℕ) (w : Walk) : Type 0 where
  pub returned : w.returned ≡ ends_in_return s
  pub line : w.line + cond w.returned 1 0 ≡ 1 + line_ends s

-- where w is behind some bytes that a file begins with, r is behind v more; no line's number begins again from 0
abbrev pub ReadsOn : Walk → List ℕ → Walk → Type 0
ReadsOn w v r = (u : List ℕ) → 1 + line_ends (u ++ v) < 2 ^ 64 → HasRead u w → HasRead (u ++ v) r

-- the line of the next byte, which is no LF, is the one behind all bytes before it
abbrev pub NextIsBehind : Type 0
NextIsBehind = (s : List ℕ) (w : Walk) → 1 + line_ends s < 2 ^ 64 → HasRead s w → next_line w ≡ 1 + line_ends s
