use Rattle.visits.proofs.Running.{passed_over, rejects, goes}
use Rattle.visits.proofs.plain.Goals as goal

-- Passed over, or a rejection, or what changes and what is printed.
pub returns-then-not-live : goal.returns-then-not-live
returns-then-not-live c = passed_over (record { section = c.args.s.now; tags = c.args.tags.now; strings = c.args.strings.now }) c.args.i c.args.kept c.args.env c.args.live (record { write = c.args.write; lent = c.args.out.now; at = c.args.at }) c.requires.0 _ c.past-next.ensures c.if-not-live.true

pub returns-then-s-i-eq4 : goal.returns-then-s-i-eq4
returns-then-s-i-eq4 c = rejects (record { section = c.args.s.now; tags = c.args.tags.now; strings = c.args.strings.now }) c.args.i c.args.kept c.args.env c.args.live (record { write = c.args.write; lent = c.args.out.now; at = c.args.at }) c.requires.0 _ c.past-next.ensures c.if-not-live.false c.if-s-i-eq4.true

pub returns : goal.returns
returns c =
    goes (record { section = c.args.s.now; tags = c.args.tags.now; strings = c.args.strings.now }) c.args.i c.args.kept c.args.env c.args.live (record { write = c.args.write; lent = c.args.out.now; at = c.args.at }) c.requires.0 _ c.past-next.ensures c.if-not-live.false c.if-s-i-eq4.false c.requires.2 _ c.settled.ensures _ _ c.print.ensures
