use Rattle.behind.proofs.Behind.after.Goals as goal

pub returns : goal.returns
returns c = rw c.after-tail.ensures
