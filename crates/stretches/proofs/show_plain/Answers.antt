use Rattle.stretches.proofs.Carrying.{plain_put}
use Rattle.stretches.proofs.Stretching.{not_shown}
use Rattle.stretches.proofs.show_plain.Goals as goal

-- Where echo is on the byte itself is put.
pub returns-then-on : goal.returns-then-on
returns-then-on c =
    plain_put c.args.b c.args.on _ _ c.args.at c.requires.b_value c.if-on.true c.put_byte.ensures

pub returns : goal.returns
returns c = not_shown c.args.b c.args.on _ _ c.if-on.false
