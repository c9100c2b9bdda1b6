use Rattle.std.proofs.Common.{rules}
use Rattle.behind.proofs.TailLaws.{end_new, end_old}
use Rattle.behind.proofs.Tail.from_end.Goals as goal

-- The byte is one of those that were passed last, or of those that were kept.
pub returns-then-j-n : goal.returns-then-j-n
returns-then-j-n c = let args = c.args in end_new args.self.bytes args.passed.now args.j c.if-j-n.true

pub returns : goal.returns
returns c = let args = c.args in end_old args.self.bytes args.passed.now args.j (search rules) c.if-j-n.false (search rules)
