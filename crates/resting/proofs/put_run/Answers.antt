use borrow.Author.Rules.{rules}
use native.Mathlib.Omega.{arith}
use mathlib.Core.Path.{sym, ◌∙◌}
use lib.Seq.{length-take-le}
use Rattle.state.specs.Bounds.{state_width}
use Rattle.resting.proofs.Laws.{run_put}
use Rattle.resting.proofs.put_run.Goals as goal

-- The first bytes are those of a state.
-- Assumes nothing.
pub slice_bounds-put_back-end-2 : goal.slice_bounds-put_back-end-2
slice_bounds-put_back-end-2 c = sym (length-take-le state_width c.args.state.now (omega (arith, c.requires.state_len)))

pub put_back-requires : goal.put_back-requires
put_back-requires c = record { depth_le_most = c.requires.depth_le_most; bytes_len = length-take-le state_width c.args.state.now (omega (arith, c.requires.state_len)) }

pub returns : goal.returns
returns c = run_put c.args.live c.args.state.now c.put_back.new.bytes c.put_back.ensures.bytes_after (c.put_back.auto.bytes ∙ length-take-le state_width c.args.state.now (omega (arith, c.requires.state_len)))
