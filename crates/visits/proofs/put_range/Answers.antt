use native.Mathlib.Omega.{arith}
use Prim.Native.Nat.{◌+◌, ◌*◌, ◌-◌}
use lib.ListN.{length, take, drop, length-take}
use Rattle.visits.specs.Written.{TextOf, RangeOf}
use Rattle.visits.specs.Ran.{most_printed}
use Rattle.visits.proofs.Printing.{nothing_due, as_due, range_due}
use Rattle.visits.proofs.put_range.Goals as goal

-- A range that lies in the strings is written as text; of any other none is due.
pub returns-then-strings-o : goal.returns-then-strings-o
returns-then-strings-o c = nothing_due most_printed (RangeOf c.args.strings.now c.args.o c.args.n) (record { write = c.args.write; lent = c.args.out.now; at = c.args.at }) (λ w u. absurd (omega (arith, c.if-strings-o.true, u.0.inside)))

pub returns-then-strings-o-2 : goal.returns-then-strings-o-2
returns-then-strings-o-2 c = nothing_due most_printed (RangeOf c.args.strings.now c.args.o c.args.n) (record { write = c.args.write; lent = c.args.out.now; at = c.args.at }) (λ w u. absurd (omega (arith, c.if-strings-o-2.true, u.0.inside)))

pub returns : goal.returns
returns c =
    let s = c.args.strings.now in
    let o = c.args.o in
    let n = c.args.n in
    let f = take (o + n - o) (drop o s) in
    as_due (5 * length f) most_printed (TextOf f) (RangeOf s o n) (record { write = c.args.write; lent = c.args.out.now; at = c.args.at }) _ _ (omega (arith, c.requires.0, length-take (o + n - o) (drop o s))) (range_due s o n) c.put_text.ensures

pub put_text-requires : goal.put_text-requires
put_text-requires c =
    omega (arith, c.requires.0, c.requires.1, length-take (c.args.o + c.args.n - c.args.o) (drop c.args.o c.args.strings.now))
