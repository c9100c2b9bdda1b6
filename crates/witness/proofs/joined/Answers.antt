use mathlib.Core.Path.{◌≡◌, sym}
use Prim.Native.Nat.{◌+◌, ◌≤◌, ◌<◌, ◌^◌}
use native.Mathlib.Omega.{arith}
use lib.ListN.{length, take}
use lib.Seq.{length-take-le}
use Rattle.witness.proofs.Operations.{joined_long, joined_over, joined_put}
use borrow.Author.Rules.{rules}
use Rattle.witness.proofs.joined.Goals as goal

-- `joined`: the bytes of the second behind those of the first.
-- Assumes nothing.
-- src/lib.rt:101:9
pub returns-then-m-gt-LONGEST : goal.returns-then-m-gt-LONGEST
returns-then-m-gt-LONGEST c = joined_long _ _ c.if-m-gt-LONGEST.true

-- src/lib.rt:104:9
pub returns-then-n-m : goal.returns-then-n-m
returns-then-n-m c = joined_over _ _ c.if-n-m.true

-- src/lib.rt:108:31
-- src/lib.rt:108:46
pub slice_bounds-more-end : goal.slice_bounds-more-end
slice_bounds-more-end c =
    let full : length c.args.b.bytes ≡ 192 = search rules in
    let fits : c.args.b.length ≤ length c.args.b.bytes = omega (arith, full, c.if-m-gt-LONGEST.false) in
    fits

-- src/lib.rt:108:46
pub slice_bounds-put_bytes-end-2 : goal.slice_bounds-put_bytes-end-2
slice_bounds-put_bytes-end-2 c =
    let full : length c.args.b.bytes ≡ 192 = search rules in
    sym (length-take-le c.args.b.length c.args.b.bytes (omega (arith, full, c.if-m-gt-LONGEST.false)))

-- src/lib.rt:108:9
pub put_bytes-end-requires : goal.put_bytes-end-requires
put_bytes-end-requires c =
    let full : length c.args.b.bytes ≡ 192 = search rules in
    let long : length (take c.args.b.length c.args.b.bytes) ≡ c.args.b.length = length-take-le c.args.b.length c.args.b.bytes (omega (arith, full, c.if-m-gt-LONGEST.false)) in
    let fits : c.args.a.length + length (take c.args.b.length c.args.b.bytes) < 2 ^ 64 = omega (arith, long, c.if-m-gt-LONGEST.false, c.if-n-m.false) in
    fits

-- src/lib.rt:95:1
pub returns : goal.returns
returns c =
    let full : length c.args.a.bytes ≡ 192 = search rules in
    let full' : length c.args.b.bytes ≡ 192 = search rules in
    joined_put c.args.a c.args.b (omega (arith, full)) (omega (arith, full')) c.if-m-gt-LONGEST.false _ c.put_bytes-end.ensures
