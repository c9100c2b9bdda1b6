use mathlib.Core.Path.{refl}
use Rattle.writer.proofs.Walks.{walk_first}
use Rattle.writer.proofs.begin.Goals as goal

-- src/lib.rt:220:1
pub returns : goal.returns
returns c = record {
  none_read = refl;
  walk = λ tb te sb se pb pe productions nodes p.
      walk_first tb te sb se pb pe productions nodes c.args.text.now c.start-first.result c.fresh.result c.look.result c.ahead_of.result p c.start-first.ensures c.fresh.ensures c.look.ensures c.ahead_of.ensures;
}
