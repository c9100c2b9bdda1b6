use mathlib.Core.Path.{sym, ◌∙◌}
use Rattle.dockets.proofs.Concluding.{concluded_passed, concluded_crowded, concluded_entered, entry_allowed}
use Rattle.dockets.proofs.conclude.Goals as goal

pub returns-then-is_some : goal.returns-then-is_some
returns-then-is_some c =
    concluded_passed c.args.k c.args.at c.args.row c.args.productions.now c.args.nodes.now c.requires (sym c.is_some.ensures ∙ c.if-is_some.true)

pub returns-then-crowded : goal.returns-then-crowded
returns-then-crowded c =
    concluded_crowded c.args.k c.args.at c.args.row c.args.productions.now c.args.nodes.now c.requires c.crowded.result (sym c.is_some.ensures ∙ c.if-is_some.false) c.crowded.ensures c.if-crowded.true

pub enter-more-requires : goal.enter-more-requires
enter-more-requires c =
    entry_allowed c.args.k c.args.at c.args.row c.args.productions.now c.args.nodes.now c.requires

pub returns : goal.returns
returns c =
    let e = c.enter-more in
    let w = c.crowded in
    concluded_entered c.args.k c.args.at c.args.row c.args.productions.now c.args.nodes.now c.requires w.result _ _ e.result (sym c.is_some.ensures ∙ c.if-is_some.false) w.ensures c.if-crowded.false e.ensures
