use native.Mathlib.Omega.{arith}
use Prim.Native.Nat.{◌+◌, ◌-◌}
use lib.ListN.{drop, length-take}
use Rattle.visits.specs.Ran.{most_printed}
use Rattle.visits.proofs.Printing.{nothing_due}
use Rattle.sentences.specs.Sentences.{QuotedRange}
use Rattle.sentences.proofs.Laws.{range_put}
use Rattle.sentences.proofs.put_string.Goals as goal

-- A range that lies in the strings is written in quotes; of any other none is due.
pub returns-then-strings-o : goal.returns-then-strings-o
returns-then-strings-o c = nothing_due most_printed (QuotedRange c.args.strings.now c.args.o c.args.n) (record { write = c.args.write; lent = c.args.out.now; at = c.args.at }) (λ w u. absurd (omega (arith, c.if-strings-o.true, u.inside)))

pub returns-then-strings-o-2 : goal.returns-then-strings-o-2
returns-then-strings-o-2 c = nothing_due most_printed (QuotedRange c.args.strings.now c.args.o c.args.n) (record { write = c.args.write; lent = c.args.out.now; at = c.args.at }) (λ w u. absurd (omega (arith, c.if-strings-o-2.true, u.inside)))

pub put_quoted-requires : goal.put_quoted-requires
put_quoted-requires c =
    omega (arith, c.requires.0, c.requires.1, length-take (c.args.o + c.args.n - c.args.o) (drop c.args.o c.args.strings.now))

pub returns : goal.returns
returns c = range_put c.args.strings.now c.args.o c.args.n (record { write = c.args.write; lent = c.args.out.now; at = c.args.at }) _ _ c.requires.0 c.put_quoted.ensures
