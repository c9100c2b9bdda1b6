use Rattle.std.proofs.Common.{take}
use Rattle.losses.specs.Walks.{ReadsOn}
use Rattle.losses.proofs.rereading.through.Given as goal

-- The bytes are passed one by one: the reading is behind those that are passed.
abbrev pub invariant-loop-b : goal.invariant-loop-b
invariant-loop-b l = ReadsOn l.initial.w (take l.b-index l.bytes) l.w
