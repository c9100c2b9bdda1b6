use Rattle.behind.proofs.Behind.rooted.Goals as goal

pub returns : goal.returns
returns c = rw (c.after-tail.ensures, c.root_after-lines.ensures)
