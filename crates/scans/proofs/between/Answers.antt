use mathlib.Core.Path.{sym, ◌∙◌, subst}
use Rattle.scans.specs.Scans.{BetweenIs}
use Rattle.scans.proofs.Gaps.{between_blank, between_opened, between_other}
use Rattle.scans.proofs.between.Goals as goal

pub returns-then-blank : goal.returns-then-blank
returns-then-blank c =
    between_blank c.args.text.now c.args.at c.args.b c.args.s (sym c.blank.ensures ∙ c.if-blank.true)

pub returns-then-b-eq60 : goal.returns-then-b-eq60
returns-then-b-eq60 c =
    subst (BetweenIs c.args.text.now c.args.at c.args.b c.args.s) (sym c.standing.ensures)
    (between_opened c.args.text.now c.args.at c.args.b c.args.s c.begun.result (sym c.blank.ensures ∙ c.if-blank.false) c.if-b-eq60.true c.begun.ensures)

pub returns : goal.returns
returns c =
    subst (BetweenIs c.args.text.now c.args.at c.args.b c.args.s) (sym c.standing-2.ensures)
    (between_other c.args.text.now c.args.at c.args.b c.args.s c.number_at-number.result (sym c.blank.ensures ∙ c.if-blank.false) c.if-b-eq60.false c.number_at-number.ensures)
