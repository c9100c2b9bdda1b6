use borrow.Author.Rules.{rules}
use Rattle.converter.proofs.behind.Goals as goal

-- Count and place of the stretch, all else as it was.
pub returns : goal.returns
returns c = rw c.with_env-y.ensures
