use Rattle.std.proofs.Common.{◌≡◌, drop}
use Rattle.behind.specs.Tags.{slash_before_end, is_empty_tag}
use Rattle.behind.proofs.is_empty_tag.Given as goal

-- The bytes of the tag are passed one by one.
abbrev pub invariant-loop-i : goal.invariant-loop-i
invariant-loop-i l = slash_before_end l.last (drop l.i l.bytes) ≡ is_empty_tag (drop l.from l.bytes)
