use borrow.Author.Rules.{rules}
use Rattle.stores.proofs.Filing.{filed_there, no_end_left, no_bytes_left, filed_behind}
use Rattle.stores.proofs.keep.Goals as goal

-- Each way out answers what its test told of the row's place and of the room. Assumes nothing.
pub returns-then-seat-count : goal.returns-then-seat-count
returns-then-seat-count c =
    let a = c.args in
    filed_there a.bytes.now a.ends.now a.count a.x.now c.find-seat.result c.find-seat.ensures (search rules)

pub returns-then-ends-count : goal.returns-then-ends-count
returns-then-ends-count c =
    let a = c.args in
    no_end_left a.bytes.now a.ends.now a.count a.x.now c.find-seat.result c.find-seat.ensures (search rules) (search rules)

pub returns-then-bytes-offset : goal.returns-then-bytes-offset
returns-then-bytes-offset c =
    let a = c.args in
    no_bytes_left a.bytes.now a.ends.now a.count a.x.now c.find-seat.result c.find-seat.ensures (search rules) (search rules)

pub returns : goal.returns
returns c =
    let a = c.args in
    let p = c.put_bytes-end in
    filed_behind a.bytes.now a.ends.now a.count a.x.now c.find-seat.result c.find-seat.ensures (search rules) (search rules) (search rules) _ p.result p.ensures
