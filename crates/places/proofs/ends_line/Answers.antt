use Rattle.std.proofs.Common.{arith}
use Rattle.places.proofs.Laws.{with_feed, with_no_other, with_last_return, with_return}
use Rattle.places.proofs.ends_line.Goals as goal

pub returns-then-b-eq-LINE_FEED : goal.returns-then-b-eq-LINE_FEED
returns-then-b-eq-LINE_FEED c = with_feed _ _ c.if-b-eq-LINE_FEED.true

pub returns-then-b-ne-CARRIAGE_RETURN : goal.returns-then-b-ne-CARRIAGE_RETURN
returns-then-b-ne-CARRIAGE_RETURN c = with_no_other _ _ c.if-b-eq-LINE_FEED.false c.if-b-ne-CARRIAGE_RETURN.true

pub returns-then-next-bytes : goal.returns-then-next-bytes
returns-then-next-bytes c = let args = c.args in with_last_return args.bytes.now args.i _ c.if-b-ne-CARRIAGE_RETURN.false (omega arith)

pub returns : goal.returns
returns c = let args = c.args in with_return args.bytes.now args.i _ c.if-b-ne-CARRIAGE_RETURN.false (omega arith)
