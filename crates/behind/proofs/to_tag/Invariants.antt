use Rattle.std.proofs.Common.{◌≡◌, ◌+◌, drop}
use Rattle.behind.specs.Lines.{before_tag, tag_line}
use Rattle.behind.proofs.to_tag.Given as goal

-- The bytes are passed one by one.
abbrev pub invariant-loop-i : goal.invariant-loop-i
invariant-loop-i l = (l.i + before_tag (drop l.i l.bytes) ≡ l.from + before_tag (drop l.from l.bytes)) × (tag_line (drop l.i l.bytes) l.here ≡ tag_line (drop l.from l.bytes) l.line)
