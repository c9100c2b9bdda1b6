use mathlib.Core.Path.{refl}
use native.Mathlib.Omega.{arith}
use Rattle.live.specs.Live.{full}
use Rattle.steps.specs.Seen.{whole}
use Rattle.ahead.proofs.Going.{tried_char, not_probed, probed}
use Rattle.ahead.proofs.probe.Goals as goal

pub character-tried-requires : goal.character-tried-requires
character-tried-requires c =
    record { laid_out = c.requires.laid_out; ready_at = c.requires.ready_at; char = tried_char; at_bound = omega arith; count_bound = omega (arith, c.requires.count_le_most_visits) }

pub returns-then-tried-ne0 : goal.returns-then-tried-ne0
returns-then-tried-ne0 c =
    record { probed_as = not_probed c.args.s.now (full c.args.z c.args.stack.now); out_unchanged = c.character-tried.ensures.dry refl }

pub returns-then-tried-width : goal.returns-then-tried-width
returns-then-tried-width c =
    record { probed_as = not_probed c.args.s.now (full c.args.z c.args.stack.now); out_unchanged = c.character-tried.ensures.dry refl }

pub returns-then-y-z : goal.returns-then-y-z
returns-then-y-z c =
    record { probed_as = not_probed c.args.s.now (full c.args.z c.args.stack.now); out_unchanged = c.character-tried.ensures.dry refl }

pub returns-then-not-same_state : goal.returns-then-not-same_state
returns-then-not-same_state c =
    record { probed_as = not_probed c.args.s.now (full c.args.z c.args.stack.now); out_unchanged = c.character-tried.ensures.dry refl }

pub returns : goal.returns
returns c =
    record { probed_as = probed (whole c.character-tried.result c.args.stack.now) c.character-tried.ensures c.if-tried-ne0.false _ c.width.ensures c.if-tried-width.false (omega (arith, c.if-y-z.false)) (c.same_state.ensures c.if-not-same_state.false c.args.stack.now); out_unchanged = c.character-tried.ensures.dry refl }

pub returns-then-f-eq0 : goal.returns-then-f-eq0
returns-then-f-eq0 c =
    record { probed_as = not_probed c.args.s.now (full c.args.z c.args.stack.now); out_unchanged = refl }
