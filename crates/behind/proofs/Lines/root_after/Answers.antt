use Rattle.behind.proofs.LineLaws.{root_kept, root_found}
use Rattle.behind.proofs.Lines.root_after.Goals as goal

pub returns-then-self-tag : goal.returns-then-self-tag
returns-then-self-tag c =
    let args = c.args in
    let tag = c.to_tag-tag in
    root_kept args.self args.passed.now args.line tag.result.at tag.ensures.place c.if-self-tag.true

pub returns : goal.returns
returns c =
    let args = c.args in
    let tag = c.to_tag-tag in
    root_found args.self args.passed.now args.line tag.result.at tag.result.line tag.ensures.place tag.ensures.on c.if-self-tag.false
