-- The lines on which the open elements began, and the line behind some bytes, which are whole tokens. Definitions.
-- Assumes nothing.
use Rattle.std.specs.Prelude.{◌≡◌, ℕ, suc, ◌+◌, ◌-◌, ◌%◌, ◌^◌, ◌≤◌, Bool, cond, ◌&&◌, ◌||◌, List, [], ◌∷◌, length, drop, replicate, ◌==◌, nat_lt, slice_set}
use Rattle.runs.specs.Machine.{most}
use Rattle.places.specs.Lines.{ends_line}
use Rattle.behind.specs.Tags.{kind_opening, kind_closing, tag_kind}
use Rattle.behind.specs.declared.TagAt.{TagAt}
use Rattle.behind.specs.declared.Lines.{Lines}
use Rattle.behind.specs.declared.Passed.{Passed}

-- so many elements are open, which began on these lines
abbrev pub open_on : ℕ → List ℕ → Lines
open_on depth lines = record { depth = depth; lines = lines }

-- no element is open; there is room for as many as may be
abbrev pub no_lines : Lines
no_lines = open_on 0 (replicate most 0)

-- past a tag of a kind that starts on a line: the innermost line is taken away, or this one put on top while there is room
unfoldable pub lines_past : Lines → ℕ → ℕ → Lines
lines_past l kind line =
    cond (kind == kind_closing) (open_on (l.depth - 1) l.lines)
    (cond (kind == kind_opening && nat_lt l.depth (length l.lines)) (open_on (l.depth + 1) (slice_set l.lines l.depth line)) l)

-- what noting the tag stores, and answers
pub record Noted (depth : ℕ) (old : List ℕ) (kind line r : ℕ) (new : List ℕ) : Type 0 where
  pub long : length new ≡ length old
  pub lines : open_on r new ≡ lines_past (open_on depth old) kind line

-- a line, or the next one where it ends. No file is so long that the number would begin again from 0
abbrev pub line_on : Bool → ℕ → ℕ
line_on ends line = cond ends ((line + 1) % 2 ^ 64) line

-- the line behind the byte b on a line, behind which the bytes s come
abbrev pub line_behind : ℕ → ℕ → List ℕ → ℕ
line_behind line b s = line_on (ends_line b s) line

-- the line behind some bytes that start on a line, and the lines of the elements that are open there: each byte may start a tag
unfoldable pub lines_passing : Lines → List ℕ → ℕ → Passed
lines_passing l [] line = record { line = line; lines = l }
lines_passing l (b ∷ s) line = lines_passing (lines_past l (tag_kind (b ∷ s)) line) s (line_behind line b s)

-- how many bytes stand before the first tag, and on which line it starts; where there is none, how many there are and the line behind them
unfoldable pub before_tag : List ℕ → ℕ
before_tag [] = 0
before_tag (b ∷ s) = cond (b == 60) 0 (suc (before_tag s))

unfoldable pub tag_line : List ℕ → ℕ → ℕ
tag_line [] line = line
tag_line (b ∷ s) line = cond (b == 60) line (tag_line s (line_behind line b s))

-- the next tag from a byte on, which is on a line
pub record NextTag (s : List ℕ) (from line : ℕ) (r : TagAt) : Type 0 where
  pub low : from ≤ r.at
  pub high : r.at ≤ length s
  pub place : r.at ≡ from + before_tag (drop from s)
  pub on : r.line ≡ tag_line (drop from s) line

-- the root's line alone, where it is not known yet: the root is the element of the first tag
unfoldable pub root_line : Lines → List ℕ → ℕ → Lines
root_line l s line = cond (nat_lt 0 l.depth || before_tag s == length s) l (open_on 1 (slice_set l.lines 0 (tag_line s line)))
