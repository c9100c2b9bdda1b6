use mathlib.Core.Path.{◌≡◌, sym}
use Prim.Native.Nat.{◌+◌, ◌*◌, ◌≤◌, ◌<◌, ◌^◌}
use native.Mathlib.Omega.{arith}
use lib.ListN.{length, take}
use lib.Seq.{length-take-le}
use Rattle.entries.proofs.Entered.{entered_as}
use borrow.Author.Rules.{rules}
use Rattle.entries.proofs.enter.Goals as goal

-- The production is put behind the others, and the nodes behind theirs. Assumes nothing.
pub slice_bounds-bytes-end : goal.slice_bounds-bytes-end
slice_bounds-bytes-end c =
    let full : length c.args.row.bytes ≡ 132 = search rules in
    let fits : c.args.row.length ≤ length c.args.row.bytes = omega (arith, full, c.requires.row_short) in
    fits

pub slice_bounds-put_nodes-end : goal.slice_bounds-put_nodes-end
slice_bounds-put_nodes-end c =
    let full : length c.args.row.bytes ≡ 132 = search rules in
    sym (length-take-le c.args.row.length c.args.row.bytes (omega (arith, full, c.requires.row_short)))

pub put_nodes-end-requires : goal.put_nodes-end-requires
put_nodes-end-requires c =
    let full : length c.args.row.bytes ≡ 132 = search rules in
    let long : length (take c.args.row.length c.args.row.bytes) ≡ c.args.row.length = length-take-le c.args.row.length c.args.row.bytes (omega (arith, full, c.requires.row_short)) in
    let fits : 6 * c.args.old.nodes + 3 * length (take c.args.row.length c.args.row.bytes) < 2 ^ 64 = omega (arith, long, c.requires.row_short, c.requires.few_nodes) in
    fits

pub returns : goal.returns
returns c =
    let a = c.args in
    let p = c.put_production-past in
    let n = c.put_nodes-end in
    entered_as a.old a.element a.tag a.row a.productions.now a.nodes.now _ _ p.result n.result p.ensures n.ensures
