use mathlib.Core.Path.{◌≡◌}
use Prim.Native.Nat.{ℕ}
use lib.ListN.{length}
use native.Mathlib.Omega.{arith}
use Rattle.pasts.proofs.Ends.{lay_long, lay_far, laid_part}
use borrow.Author.Rules.{rules}
use Rattle.pasts.proofs.lay.Goals as goal

-- src/lib.rt:59:9
pub returns-then-n-gt192 : goal.returns-then-n-gt192
returns-then-n-gt192 c = search (lay_long, rules)

-- src/lib.rt:62:9
pub returns-then-old-gt1536 : goal.returns-then-old-gt1536
returns-then-old-gt1536 c = search (lay_far, rules)

-- src/lib.rt:64:51
pub slice_bounds-put_bytes-end : goal.slice_bounds-put_bytes-end
slice_bounds-put_bytes-end c =
    let n : ◌≡◌ {A = ℕ} (length c.args.row.bytes) 192 = search rules in
    omega (arith, n, c.if-n-gt192.false)

-- src/lib.rt:53:1
pub returns : goal.returns
returns c = search (laid_part, rules)
