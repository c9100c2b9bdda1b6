use native.Mathlib.Omega.{arith}
use Rattle.output.proofs.Writing.{put_then}
use Rattle.printer.proofs.Laws.{all_short}
use borrow.Author.Rules.{rules}
use Rattle.printer.proofs.put_quoted.Goals as goal

-- The quotes and what stands between them, one after the other.
pub put_bytes-requires : goal.put_bytes-requires
put_bytes-requires c = omega (arith, c.requires, c.put_bytes-from.ensures.next, c.put_characters-to.ensures.next, all_short c.args.f.now)

pub returns : goal.returns
returns c = put_then _ _ _ _ _ _ _ _ _ c.put_bytes-from.ensures (put_then _ _ _ _ _ _ _ _ _ c.put_characters-to.ensures c.put_bytes.ensures)
