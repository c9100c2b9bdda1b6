use Rattle.rosters.proofs.Enrols.{rows_few, enrolled_there, enrolled_added, enrolled_full}
use borrow.Author.Rules.{rules}
use Rattle.rosters.proofs.enrol.Goals as goal

pub returns-in-There : goal.returns-in-There
returns-in-There c = search (enrolled_there, rules)

pub overflow_add-result : goal.overflow_add-result
overflow_add-result c =
    let l = c.requires.has_rows in
    let z = rows_few c.args.bytes.now c.args.ends.now c.args.r.count l.rows l.are in
    search (z, c.requires.sized.places, l.are.number, rules)

pub returns-in-Added : goal.returns-in-Added
returns-in-Added c = search (enrolled_added, rules)

pub returns-in-Full : goal.returns-in-Full
returns-in-Full c = search (enrolled_full, rules)
