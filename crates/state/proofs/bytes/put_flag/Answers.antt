use Rattle.state.proofs.bytes.put_flag.Goals as goal

-- By cases of the flag.
pub returns-then-on : goal.returns-then-on
returns-then-on c = rw c.if-on.true c.put_one.ensures

pub returns-else-on : goal.returns-else-on
returns-else-on c = rw c.if-on.false c.put_one-else-on.ensures
