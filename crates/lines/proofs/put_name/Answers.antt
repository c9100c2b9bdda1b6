use borrow.Author.Rules.{rules}
use native.Mathlib.Omega.{arith}
use mathlib.Core.Path.{refl}
use Prim.Native.Nat.{◌+◌, ◌*◌, ◌-◌}
use lib.ListN.{drop, length-take}
use Rattle.visits.proofs.Printing.{record_inside, name_length}
use Rattle.lines.proofs.Laws.{name_put, no_name}
use Rattle.lines.proofs.put_name.Goals as goal

-- The record's first byte is the length of the name that follows it; of a record that does not lie there no name is due.
pub returns-then-s-from : goal.returns-then-s-from
returns-then-s-from c = no_name c.args.s.now c.args.t (record { write = c.args.write; lent = c.args.out.now; at = c.args.at }) (λ n u. omega (arith, c.if-s-from.true, record_inside c.args.s.now c.args.t n u))

pub returns-then-s-from-2 : goal.returns-then-s-from-2
returns-then-s-from-2 c =
    no_name c.args.s.now c.args.t (record { write = c.args.write; lent = c.args.out.now; at = c.args.at }) (λ n u. omega (arith, c.if-s-from-2.true, c.byte_at-n.ensures.is, record_inside c.args.s.now c.args.t n u, name_length c.args.s.now c.args.t n u))

pub put_bytes-requires : goal.put_bytes-requires
put_bytes-requires c =
    let n = c.byte_at-n in
    omega (arith, c.requires.1, n.ensures.below, length-take (16 * c.args.t + 1 + n.result - (16 * c.args.t + 1)) (drop (16 * c.args.t + 1) c.args.s.now))

pub returns : goal.returns
returns c = name_put c.args.s.now c.args.t _ _ _ (record { write = c.args.write; lent = c.args.out.now; at = c.args.at }) _ _ c.byte_at-n.ensures.is c.byte_at-n.ensures.below refl refl c.put_bytes.ensures
