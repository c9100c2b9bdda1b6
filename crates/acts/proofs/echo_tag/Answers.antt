use Rattle.acts.proofs.Echoing.{tag_echoed, not_echoed}
use Rattle.acts.proofs.echo_tag.Goals as goal

-- The tag by its record where echo is on, and nothing where it is off.
pub returns-then-on : goal.returns-then-on
returns-then-on c =
    tag_echoed c.args.s.now c.args.l c.requires.laid_out c.args.q c.requires.q_lt_productions c.args.ending c.args.on (record { write = c.args.write; lent = c.args.out.now; at = c.args.at }) c.requires.well_formed c.if-on.true _ c.tag_number_of-t.ensures.is _ _ c.put_tag.ensures

pub returns : goal.returns
returns c =
    not_echoed c.args.s.now c.args.l c.requires.laid_out c.args.q c.requires.q_lt_productions c.args.ending c.args.on (record { write = c.args.write; lent = c.args.out.now; at = c.args.at }) c.if-on.false
