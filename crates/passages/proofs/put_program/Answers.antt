use borrow.Author.Rules.{rules}
use native.Mathlib.Omega.{arith}
use Rattle.passages.proofs.Laws.{no_program, program_put}
use Rattle.passages.proofs.put_program.Goals as goal

-- A list between braces. Assumes nothing.
pub put_list-l-requires : goal.put_list-l-requires
put_list-l-requires c = omega (arith, c.requires.0, c.requires.1, c.if-programs-i.false, c.put_bytes-from.ensures.next)

pub put_bytes-requires : goal.put_bytes-requires
put_bytes-requires c =
    let r = c.put_list-l.ensures in
    omega (arith, c.requires.0, c.requires.1, c.put_bytes-from.ensures.next, r.high, r.reach)

pub returns-then-programs-i : goal.returns-then-programs-i
returns-then-programs-i c = no_program c.args.programs.now c.args.tags.now c.args.strings.now c.args.i (record { write = c.args.write; lent = c.args.out.now; at = c.args.at }) c.if-programs-i.true

pub returns : goal.returns
returns c =
    program_put c.args.programs.now c.args.tags.now c.args.strings.now c.args.i (record { write = c.args.write; lent = c.args.out.now; at = c.args.at }) c.requires.0 _ _ _ _ _ _ c.put_bytes-from.ensures c.put_list-l.ensures c.put_bytes.ensures
