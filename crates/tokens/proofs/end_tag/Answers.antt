use native.Mathlib.Omega.{arith}
use lib.ListN.{length}
use mathlib.Core.Path.{sym, ◌∙◌}
use Rattle.tokens.proofs.Reading
use Rattle.tokens.proofs.end_tag.Goals as goal

-- As for `open_tag`.
pub returns-then-f-eq2 : goal.returns-then-f-eq2
returns-then-f-eq2 c = Reading.begun_end c.args.f.now c.args.at c.if-f-eq2.true c.requires.in_bounds.1 c.requires.in_bounds.2

pub returns-then-close-f : goal.returns-then-close-f
returns-then-close-f c =
    let tag =
    Reading.tag_of c.args.f.now 2 c.name_end-to.result c.blank_end-close.result (omega (arith, c.requires.in_bounds.0))
    (sym c.name_first.ensures ∙ c.if-name_first.true) c.name_end-to.ensures c.blank_end-close.ensures in
    Reading.by_cut c.args.f.now c.args.at (length c.args.f.now) _ c.cut.ensures (Reading.end_cut c.args.f.now c.args.at c.name_end-to.result c.blank_end-close.result c.requires.front.short c.requires.in_bounds.0 c.requires.in_bounds.1 c.requires.in_bounds.2 tag c.if-close-f.true)

pub returns-then-f-close-eq62 : goal.returns-then-f-close-eq62
returns-then-f-close-eq62 c =
    let tag =
    Reading.tag_of c.args.f.now 2 c.name_end-to.result c.blank_end-close.result (omega (arith, c.requires.in_bounds.0))
    (sym c.name_first.ensures ∙ c.if-name_first.true) c.name_end-to.ensures c.blank_end-close.ensures in
    Reading.end_token c.args.f.now c.args.at c.name_end-to.result c.blank_end-close.result c.requires.front.short c.requires.in_bounds.0 c.requires.in_bounds.1 c.requires.in_bounds.2 tag (omega (arith, c.blank_end-close.ensures.within)) c.if-f-close-eq62.true

pub returns-then-name_first : goal.returns-then-name_first
returns-then-name_first c =
    let tag =
    Reading.tag_of c.args.f.now 2 c.name_end-to.result c.blank_end-close.result (omega (arith, c.requires.in_bounds.0))
    (sym c.name_first.ensures ∙ c.if-name_first.true) c.name_end-to.ensures c.blank_end-close.ensures in
    Reading.end_bad c.args.f.now c.args.at c.name_end-to.result c.blank_end-close.result c.requires.front.short c.requires.in_bounds.0 c.requires.in_bounds.1 c.requires.in_bounds.2 tag (omega (arith, c.blank_end-close.ensures.within)) c.if-f-close-eq62.false

pub returns : goal.returns
returns c = Reading.end_none c.args.f.now c.args.at (omega (arith, c.requires.in_bounds.0)) c.requires.in_bounds.1 c.requires.in_bounds.2 (sym c.name_first.ensures ∙ c.if-name_first.false)
