use Rattle.visits.proofs.Settling.{width_is, past_is}
use Rattle.visits.proofs.past.Goals as goal

-- The first byte tells how many bytes the statement has.
pub returns-then-k-lt4 : goal.returns-then-k-lt4
returns-then-k-lt4 c =
    let a = c.args in
    past_is a.s.now a.i 3 _ c.end_of.ensures (λ t st. (width_is a.s.now a.i t st).0 c.if-k-lt4.true)

pub returns-then-k-eq7 : goal.returns-then-k-eq7
returns-then-k-eq7 c =
    let a = c.args in
    past_is a.s.now a.i 4 _ c.end_of-then-k-eq7.ensures (λ t st. (width_is a.s.now a.i t st).1 c.if-k-eq7.true)

pub returns-then-k-eq5 : goal.returns-then-k-eq5
returns-then-k-eq5 c =
    let a = c.args in
    past_is a.s.now a.i 2 _ c.end_of-then-k-eq5.ensures (λ t st. (width_is a.s.now a.i t st).2 c.if-k-eq5.true)

pub returns-then-k-eq6 : goal.returns-then-k-eq6
returns-then-k-eq6 c =
    let a = c.args in
    past_is a.s.now a.i 2 _ c.end_of-then-k-eq6.ensures (λ t st. (width_is a.s.now a.i t st).3 c.if-k-eq6.true)

pub returns : goal.returns
returns c =
    past_is c.args.s.now c.args.i 1 _ c.end_of-2.ensures
    (λ t st. (width_is c.args.s.now c.args.i t st).4 c.if-k-lt4.false c.if-k-eq7.false c.if-k-eq5.false c.if-k-eq6.false c.requires.1)
