use Rattle.std.proofs.Common.{refl, rules}
use Rattle.behind.specs.Lines.{open_on}
use Rattle.behind.proofs.LineLaws.{tag_on, all_passed}
use Rattle.behind.proofs.Lines.after.Goals as goal

pub loop-i-init : goal.loop-i-init
loop-i-init c = (search rules, search rules, refl)

pub loop-i-preserved : goal.loop-i-preserved
loop-i-preserved c =
    let at = c.loop-i in
    let tag = c.to_tag-tag in
    let note = c.note-depth in (
      search rules,
      search rules,
      tag_on (open_on at.depth at.lines) _ _ at.i tag.result.at at.here tag.result.line _ _ at.invariant.2 tag.ensures.place tag.ensures.on
          c.kind_of_tag.ensures note.ensures.lines,
    )

pub returns : goal.returns
returns c = let at = c.loop-i in all_passed (open_on at.depth at.lines) _ at.i at.here _ c.loop-i-test.false at.invariant.2
