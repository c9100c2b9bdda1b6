use native.Mathlib.Omega.{arith}
use mathlib.Core.Path.{◌∙◌}
use mathlib.Core.Bool.{true, false}
use Prim.Native.Nat.{◌+◌, ◌*◌}
use Rattle.visits.specs.Written.{TagOf, RangeOf, PrintOf}
use Rattle.visits.specs.Ran.{most_printed}
use Rattle.visits.proofs.Printing.{nothing_due, as_due, start_due, end_due, text_due, nothing_printed}
use Rattle.visits.proofs.print.Goals as goal

-- The first byte tells which of three is printed, or nothing.
pub returns-then-k-eq5 : goal.returns-then-k-eq5
returns-then-k-eq5 c =
    let t = c.from-t.result in
    as_due most_printed most_printed (TagOf c.args.tags.now t false) (PrintOf c.args.s.now c.args.tags.now c.args.strings.now c.args.i) (record { write = c.args.write; lent = c.args.out.now; at = c.args.at }) _ _ (omega arith)
    (start_due c.args.s.now c.args.tags.now c.args.strings.now c.args.i c.requires.0 c.if-k-eq5.true t (c.from-t.ensures ∙ c.byte.ensures)) c.put_tag.ensures

pub returns-then-k-eq6 : goal.returns-then-k-eq6
returns-then-k-eq6 c =
    let t = c.from-t.result in
    as_due most_printed most_printed (TagOf c.args.tags.now t true) (PrintOf c.args.s.now c.args.tags.now c.args.strings.now c.args.i) (record { write = c.args.write; lent = c.args.out.now; at = c.args.at }) _ _ (omega arith)
    (end_due c.args.s.now c.args.tags.now c.args.strings.now c.args.i c.requires.0 c.if-k-eq6.true t (c.from-t.ensures ∙ c.byte.ensures)) c.put_tag-then-k-eq6.ensures

pub returns-then-k-eq7 : goal.returns-then-k-eq7
returns-then-k-eq7 c =
    let low = c.from-t.result in
    let high = c.from.result in
    let n = c.from-n.result in
    as_due most_printed most_printed (RangeOf c.args.strings.now (low + 256 * high) n) (PrintOf c.args.s.now c.args.tags.now c.args.strings.now c.args.i) (record { write = c.args.write; lent = c.args.out.now; at = c.args.at }) _ _ (omega arith)
    (text_due c.args.s.now c.args.tags.now c.args.strings.now c.args.i c.requires.0 c.if-k-eq7.true low high n (c.from-t.ensures ∙ c.byte.ensures) (c.from.ensures ∙ c.byte-then-k-eq7.ensures) (c.from-n.ensures ∙ c.byte-then-k-eq7-2.ensures)) c.put_range.ensures

pub returns : goal.returns
returns c =
    nothing_due most_printed (PrintOf c.args.s.now c.args.tags.now c.args.strings.now c.args.i) (record { write = c.args.write; lent = c.args.out.now; at = c.args.at }) (nothing_printed c.args.s.now c.args.tags.now c.args.strings.now c.args.i c.requires.0 c.if-k-eq5.false c.if-k-eq6.false c.if-k-eq7.false c.requires.2)
