use mathlib.Core.Path.{◌≡◌}
use Prim.Native.Nat.{ℕ, ◌<◌}
use Rattle.sheet.specs.Tags.{tag_bytes}
use Rattle.sheet.proofs.tags.is_new.Given as goal

-- No tag passed so far has the bytes; the parts that are compared are the bytes of two tags.
abbrev pub invariant-loop-u : goal.invariant-loop-u
invariant-loop-u l = (k : ℕ) → k < l.u → tag_bytes l.s k ≡ tag_bytes l.s l.t → ⊥
