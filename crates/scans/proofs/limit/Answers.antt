use Rattle.scans.proofs.Limits.{too_large, too_deep, within_limits}
use Rattle.scans.proofs.limit.Goals as goal

pub returns-then-size-gt32 : goal.returns-then-size-gt32
returns-then-size-gt32 c = too_large c.args.size c.if-size-gt32.true

pub returns-then-size-gt12 : goal.returns-then-size-gt12
returns-then-size-gt12 c = too_deep c.args.size c.if-size-gt32.false c.if-size-gt12.true

pub returns : goal.returns
returns c = within_limits c.args.size c.if-size-gt32.false c.if-size-gt12.false
