use borrow.Author.Rules.{rules}
use mathlib.Core.Path.{◌≡◌, sym}
use Prim.Native.Nat.{◌≤◌}
use native.Mathlib.Omega.{arith}
use lib.ListN.{length}
use lib.Seq.{length-take-le}
use Rattle.witness.proofs.Signs.{first_too_long, second_too_long, between}
use Rattle.witness.proofs.sign_between.Goals as goal

-- `sign_between`: the bytes of the two strings.
-- Assumes nothing.
pub returns-then-n-gt-LONGEST : goal.returns-then-n-gt-LONGEST
returns-then-n-gt-LONGEST c =
    let full : length c.args.a.bytes ≡ 192 = search rules in
    first_too_long c.args.a c.args.b (omega (arith, full, c.if-n-gt-LONGEST.true))

pub returns-then-m-gt-LONGEST : goal.returns-then-m-gt-LONGEST
returns-then-m-gt-LONGEST c =
    let full : length c.args.b.bytes ≡ 192 = search rules in
    second_too_long c.args.a c.args.b (omega (arith, full, c.if-m-gt-LONGEST.true))

pub slice_bounds-x-end : goal.slice_bounds-x-end
slice_bounds-x-end c =
    let full : length c.args.a.bytes ≡ 192 = search rules in
    let fits : c.args.a.length ≤ length c.args.a.bytes = omega (arith, full, c.if-n-gt-LONGEST.false) in
    fits

pub slice_bounds-sign_of-end : goal.slice_bounds-sign_of-end
slice_bounds-sign_of-end c =
    let full : length c.args.a.bytes ≡ 192 = search rules in
    sym (length-take-le c.args.a.length c.args.a.bytes (omega (arith, full, c.if-n-gt-LONGEST.false)))

pub slice_bounds-y-end : goal.slice_bounds-y-end
slice_bounds-y-end c =
    let full : length c.args.b.bytes ≡ 192 = search rules in
    let fits : c.args.b.length ≤ length c.args.b.bytes = omega (arith, full, c.if-m-gt-LONGEST.false) in
    fits

pub slice_bounds-sign_of-end-2 : goal.slice_bounds-sign_of-end-2
slice_bounds-sign_of-end-2 c =
    let full : length c.args.b.bytes ≡ 192 = search rules in
    sym (length-take-le c.args.b.length c.args.b.bytes (omega (arith, full, c.if-m-gt-LONGEST.false)))

pub returns : goal.returns
returns c = between c.args.a c.args.b _ c.sign_of.ensures
