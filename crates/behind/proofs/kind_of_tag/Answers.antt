use Rattle.std.proofs.Common.{sym, refl, ◌∙◌}
use Rattle.behind.proofs.TagLaws.{no_tag_at, tag_at}
use Rattle.behind.proofs.kind_of_tag.Goals as goal

-- By the tag's first bytes and its end.
pub returns-then-byte-ne60 : goal.returns-then-byte-ne60
returns-then-byte-ne60 c = let args = c.args in no_tag_at args.bytes.now args.i _ c.byte.ensures c.if-byte-ne60.true

pub returns-then-is_empty_tag : goal.returns-then-is_empty_tag
returns-then-is_empty_tag c =
    let args = c.args in
    tag_at args.bytes.now args.i _ _ _ c.byte.ensures c.if-byte-ne60.false (sym c.is_empty_tag.ensures ∙ c.if-is_empty_tag.true) refl

pub returns-then-is_end_tag : goal.returns-then-is_end_tag
returns-then-is_end_tag c =
    let args = c.args in
    tag_at args.bytes.now args.i _ _ _ c.byte.ensures c.if-byte-ne60.false
    (sym c.is_empty_tag.ensures ∙ c.if-is_empty_tag.false)
    (sym c.is_end_tag.ensures ∙ c.if-is_end_tag.true)

pub returns : goal.returns
returns c =
    let args = c.args in
    tag_at args.bytes.now args.i _ _ _ c.byte.ensures c.if-byte-ne60.false
    (sym c.is_empty_tag.ensures ∙ c.if-is_empty_tag.false)
    (sym c.is_end_tag.ensures ∙ c.if-is_end_tag.false)
