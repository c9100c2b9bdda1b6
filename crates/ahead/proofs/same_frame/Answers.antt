use mathlib.Core.Path.{refl}
use Rattle.ahead.proofs.Going.{not_told, frame_told}
use Rattle.ahead.proofs.same_frame.Goals as goal

pub returns-then-f-g : goal.returns-then-f-g
returns-then-f-g c = not_told

pub returns-then-f-g-2 : goal.returns-then-f-g-2
returns-then-f-g-2 c = not_told

pub returns-then-f-g-3 : goal.returns-then-f-g-3
returns-then-f-g-3 c = not_told

pub returns-then-n-gt-SETS : goal.returns-then-n-gt-SETS
returns-then-n-gt-SETS c = not_told

pub returns : goal.returns
returns c =
    λ e. frame_told c.args.f c.args.g _ refl c.if-f-g.false c.if-f-g-2.false c.if-f-g-3.false (c.same_sets.ensures e)
