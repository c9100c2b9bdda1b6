use mathlib.Core.Path.{sym, ap, ◌∙◌}
use native.Mathlib.Omega.{arith}
use lib.ListN.{drop_of_length-le}
use Rattle.lent.specs.Put.{put}
use Rattle.lent.proofs.Laws.{put_none, put_one}
use Rattle.lent.proofs.put_bytes.Goals as goal

pub loop-b-preserved : goal.loop-b-preserved
loop-b-preserved c = (
  omega arith,
  c.put_byte.auto.memory ∙ c.loop-b.invariant.1,
  rw c.put_byte.ensures (put_one _ _ _ _ _ c.loop-b-test.true ∙ c.loop-b.invariant.2),
)

pub shape_of-memory : goal.shape_of-memory
shape_of-memory c = c.loop-b.invariant.1

pub returns : goal.returns
returns c =
    let l = c.loop-b.invariant in
    record { next = omega arith; left = sym (put_none _ _ _) ∙ ap (put _ _ _) (sym (drop_of_length-le _ c.loop-b-test.false)) ∙ l.2 }
