use mathlib.Core.Path.{◌≡◌}
use Prim.Native.Nat.{◌<◌}
use native.Mathlib.Omega.{arith}
use lib.ListN.{length}
use Rattle.runs.specs.Machine.{most}
use Rattle.state.proofs.Laws.{length_mapped, put_past, put_at}
use borrow.Author.Rules.{rules}
use Rattle.state.proofs.State.with_top.Goals as goal

-- By the tests: an element is open, and at most 32 are.
pub returns-then-d-eq0 : goal.returns-then-d-eq0
returns-then-d-eq0 c = rw c.if-d-eq0.true

pub returns-then-d-gt-DEPTH : goal.returns-then-d-gt-DEPTH
returns-then-d-gt-DEPTH c = let s = c.args.self in
    let n : length s.frames ≡ most = search (length_mapped, rules) in
    let h : length s.frames < s.depth = omega arith in
    rw (put_past s.frames s.depth)

pub returns : goal.returns
returns c = let s = c.args.self in
    let h : 0 < s.depth = omega arith in
    rw (put_at s.frames s.depth)
