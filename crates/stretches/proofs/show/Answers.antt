use Rattle.stretches.proofs.Stretching.{shown_put, not_shown}
use Rattle.stretches.proofs.show.Goals as goal

pub returns-then-on : goal.returns-then-on
returns-then-on c =
    shown_put c.args.c c.args.on _ _ _ _ c.if-on.true c.put_char.ensures

pub returns : goal.returns
returns c =
    not_shown c.args.c c.args.on _ _ c.if-on.false
