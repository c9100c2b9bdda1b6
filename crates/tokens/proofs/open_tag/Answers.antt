use native.Mathlib.Omega.{arith}
use lib.ListN.{length}
use mathlib.Core.Path.{sym, ◌∙◌}
use Rattle.tokens.proofs.Reading
use Rattle.tokens.proofs.open_tag.Goals as goal

-- Each return cites the law of `Reading` for the place it comes to; `tag` is the name and the white space found.
pub returns-then-close-f : goal.returns-then-close-f
returns-then-close-f c =
    let tag =
    Reading.tag_of c.args.f.now 1 c.name_end-to.result c.blank_end-close.result c.requires.in_bounds.0
    (sym c.name_first.ensures ∙ c.if-name_first.true) c.name_end-to.ensures c.blank_end-close.ensures in
    Reading.by_cut c.args.f.now c.args.at (length c.args.f.now) _ c.cut.ensures (Reading.open_cut c.args.f.now c.args.at c.name_end-to.result c.blank_end-close.result c.requires.front.short (omega (arith, c.requires.in_bounds.0)) c.requires.in_bounds.1 tag c.if-close-f.true)

pub returns-then-b-eq62 : goal.returns-then-b-eq62
returns-then-b-eq62 c =
    let tag =
    Reading.tag_of c.args.f.now 1 c.name_end-to.result c.blank_end-close.result c.requires.in_bounds.0
    (sym c.name_first.ensures ∙ c.if-name_first.true) c.name_end-to.ensures c.blank_end-close.ensures in
    Reading.open_start c.args.f.now c.args.at c.name_end-to.result c.blank_end-close.result c.requires.front.short (omega (arith, c.requires.in_bounds.0)) c.requires.in_bounds.1 tag (omega (arith, c.blank_end-close.ensures.within)) c.if-b-eq62.true

pub returns-then-close-f-2 : goal.returns-then-close-f-2
returns-then-close-f-2 c =
    let tag =
    Reading.tag_of c.args.f.now 1 c.name_end-to.result c.blank_end-close.result c.requires.in_bounds.0
    (sym c.name_first.ensures ∙ c.if-name_first.true) c.name_end-to.ensures c.blank_end-close.ensures in
    Reading.by_cut c.args.f.now c.args.at (length c.args.f.now) _ c.cut-then-close-f-2.ensures (Reading.open_slash c.args.f.now c.args.at c.name_end-to.result c.blank_end-close.result c.requires.front.short (omega (arith, c.requires.in_bounds.0)) c.requires.in_bounds.1 tag c.if-b-eq47.true c.if-close-f-2.true)

pub returns-then-f-close-eq62 : goal.returns-then-f-close-eq62
returns-then-f-close-eq62 c =
    let tag =
    Reading.tag_of c.args.f.now 1 c.name_end-to.result c.blank_end-close.result c.requires.in_bounds.0
    (sym c.name_first.ensures ∙ c.if-name_first.true) c.name_end-to.ensures c.blank_end-close.ensures in
    Reading.open_empty c.args.f.now c.args.at c.name_end-to.result c.blank_end-close.result c.requires.front.short (omega (arith, c.requires.in_bounds.0)) c.requires.in_bounds.1 tag (omega (arith, c.blank_end-close.ensures.within)) c.if-b-eq47.true c.if-f-close-eq62.true

pub returns-else-f-close-eq62 : goal.returns-else-f-close-eq62
returns-else-f-close-eq62 c =
    let tag =
    Reading.tag_of c.args.f.now 1 c.name_end-to.result c.blank_end-close.result c.requires.in_bounds.0
    (sym c.name_first.ensures ∙ c.if-name_first.true) c.name_end-to.ensures c.blank_end-close.ensures in
    Reading.open_bad_slash c.args.f.now c.args.at c.name_end-to.result c.blank_end-close.result c.requires.front.short (omega (arith, c.requires.in_bounds.0)) c.requires.in_bounds.1 tag (omega (arith, c.blank_end-close.ensures.within)) c.if-b-eq62.false c.if-f-close-eq62.false

pub returns-else-b-eq47 : goal.returns-else-b-eq47
returns-else-b-eq47 c =
    let tag =
    Reading.tag_of c.args.f.now 1 c.name_end-to.result c.blank_end-close.result c.requires.in_bounds.0
    (sym c.name_first.ensures ∙ c.if-name_first.true) c.name_end-to.ensures c.blank_end-close.ensures in
    Reading.open_bad c.args.f.now c.args.at c.name_end-to.result c.blank_end-close.result c.requires.front.short (omega (arith, c.requires.in_bounds.0)) c.requires.in_bounds.1 tag (omega (arith, c.blank_end-close.ensures.within)) c.if-b-eq62.false c.if-b-eq47.false

pub returns : goal.returns
returns c = Reading.open_none c.args.f.now c.args.at c.requires.in_bounds.0 c.requires.in_bounds.1 c.requires.in_bounds.2 (sym c.name_first.ensures ∙ c.if-name_first.false)
