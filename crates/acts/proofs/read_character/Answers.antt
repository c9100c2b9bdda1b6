use Rattle.live.specs.Live.{full}
use Rattle.acts.proofs.Acting.{read_echoed, read_silent}
use Rattle.acts.proofs.read_character.Goals as goal

-- Written where echo is on, and nothing where it is off.
pub returns-then-z : goal.returns-then-z
returns-then-z c =
    λ b. read_echoed c.args.c (full c.args.z b) (record { write = c.args.write; lent = c.args.out.now; at = c.args.at }) c.if-z.true _ _ c.put_char-to.ensures

pub returns : goal.returns
returns c =
    λ b. read_silent c.args.c (full c.args.z b) (record { write = c.args.write; lent = c.args.out.now; at = c.args.at }) c.if-z.false
