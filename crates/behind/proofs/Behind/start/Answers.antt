use Rattle.behind.specs.Behinds.{nothing_behind}
use Rattle.behind.proofs.Behind.start.Goals as goal

pub returns : goal.returns
unfolding nothing_behind
returns c = rw (c.none-tail.ensures, c.none-lines.ensures)
