use Rattle.shelves.proofs.Rows.{shelved_there, shelved_added, shelved_full}
use Rattle.shelves.proofs.Files.{added_count}
use borrow.Author.Rules.{rules}
use Rattle.shelves.proofs.shelve.Goals as goal

-- src/lib.rt:21:13
pub returns-in-There : goal.returns-in-There
returns-in-There c = search (shelved_there, rules)

-- src/lib.rt:31:24
pub overflow_add-result : goal.overflow_add-result
overflow_add-result c =
    let k = c.keep in
    let z = added_count c.args.bytes.now c.args.ends.now c.args.count c.args.x.now _ _ k.result _ _ c.requires c.in-Added.is k.ensures in
    search (z, rules)

-- src/lib.rt:29:13
pub returns-in-Added : goal.returns-in-Added
returns-in-Added c = search (shelved_added, rules)

-- src/lib.rt:37:13
pub returns-in-Full : goal.returns-in-Full
returns-in-Full c = search (shelved_full, rules)
