use Rattle.writer.proofs.Walks.{somewhere, late_41, late_40, late_high}
use borrow.Author.Rules.{rules}
use Rattle.writer.proofs.late.Goals as goal

pub judge_rest-requires : goal.judge_rest-requires
judge_rest-requires c = somewhere c.args.text.now c.args.from c.args.byte c.args.reader c.requires

pub returns-in-Ok : goal.returns-in-Ok
returns-in-Ok c = late_41 c.args.text.now c.args.from c.args.byte c.args.reader c.requires c.judge_rest.result c.in-Ok.is c.judge_rest.ensures

pub overflow_add-result : goal.overflow_add-result
overflow_add-result c =
    let z = late_high c.args.text.now c.args.from c.args.byte c.args.reader c.requires c.judge_rest.result _ c.in-Err.is c.judge_rest.ensures in
    search (z, rules)

pub returns-in-Err : goal.returns-in-Err
returns-in-Err c = late_40 c.args.text.now c.args.from c.args.byte c.args.reader c.requires c.judge_rest.result _ c.in-Err.is c.judge_rest.ensures
