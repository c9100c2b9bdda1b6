use Prim.Native.Nat.{◌-◌}
use native.Mathlib.Omega.{arith}
use Rattle.unquoting.proofs.Reading.{piece_past, under_first, under_on, unquoted_whole, unquoted_full, unquoted_cut}
use borrow.Author.Rules.{rules}
use Rattle.unquoting.proofs.unquote.Goals as goal

-- src/lib.rt:60:5
pub loop-i-init : goal.loop-i-init
loop-i-init c = search (under_first, rules)

-- src/lib.rt:61:12
-- src/lib.rt:62:13
-- src/lib.rt:62:13
pub returns-then-x-i-eq34 : goal.returns-then-x-i-eq34
returns-then-x-i-eq34 c = search (unquoted_whole, rules)

-- src/lib.rt:65:13
-- src/lib.rt:65:13
pub returns-then-n-out : goal.returns-then-n-out
returns-then-n-out c = search (unquoted_full, rules)

-- src/lib.rt:67:13
-- src/lib.rt:68:9
-- src/lib.rt:69:9
-- src/lib.rt:70:9
pub overflow_add-i : goal.overflow_add-i
overflow_add-i c =
    let z = piece_past c.args.x.now c.loop-i.i c.piece_at-p.result c.loop-i-test.true c.piece_at-p.ensures in
    search (z, rules)

-- src/lib.rt:60:5
pub loop-i-smaller : goal.loop-i-smaller
loop-i-smaller c = omega (arith, c.piece_at-p.ensures.onward, c.loop-i-test.true)

-- src/lib.rt:60:5
pub loop-i-preserved : goal.loop-i-preserved
loop-i-preserved c = search (under_on, rules)

-- src/lib.rt:55:1
-- src/lib.rt:55:1
pub returns : goal.returns
returns c = search (unquoted_cut, rules)
