use Rattle.steps.proofs.Places.{some_open}
use Rattle.steps.proofs.Tops.{runs_in, top_inside, top_blanks}
use Rattle.steps.proofs.Tokens.{passes_outside, passes_inside}
use mathlib.Core.Path.{sym, ◌∙◌}
use Rattle.live.specs.Live.{full}
use Rattle.live.proofs.Stacks.{top_full}
use Rattle.steps.proofs.Run.passes.Goals as goal

-- Outside white space passes; inside an element by its expression.
-- Assumes nothing.
pub returns-then-live-eq0 : goal.returns-then-live-eq0
returns-then-live-eq0 c = passes_outside c.if-live-eq0.true

pub blanks_pass-requires : goal.blanks_pass-requires
blanks_pass-requires c =
    record { laid_out = c.requires.laid_out; runs_inside = runs_in c.requires.ready_at.ready; q_lt_productions = top_inside c.requires.ready_at.ready (some_open c.if-live-eq0.false) (c.top-f.ensures ∙ sym (top_full c.args.self.live c.args.stack.now (some_open c.if-live-eq0.false))) c.requires.laid_out }

pub returns : goal.returns
returns c =
    passes_inside (some_open c.if-live-eq0.false) (top_blanks c.args.s.now (full c.args.self.live c.args.stack.now) (c.top-f.ensures ∙ sym (top_full c.args.self.live c.args.stack.now (some_open c.if-live-eq0.false))) c.blanks_pass.ensures)
