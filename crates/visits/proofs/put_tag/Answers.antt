use borrow.Author.Rules.{rules}
use native.Mathlib.Omega.{arith}
use mathlib.Core.Path.{refl}
use mathlib.Core.Bool.{true, false}
use Rattle.visits.specs.Written.{TagOf}
use Rattle.visits.specs.Ran.{most_printed}
use Rattle.visits.proofs.Printing.{nothing_due, record_inside, name_length, tag_put}
use Rattle.visits.proofs.put_tag.Goals as goal

-- The record's first byte is the length of the name that follows it; of a record that does not lie there no tag is due.
pub returns-then-tags-from : goal.returns-then-tags-from
returns-then-tags-from c =
    nothing_due most_printed (TagOf c.args.tags.now c.args.t c.args.ending) (record { write = c.args.write; lent = c.args.out.now; at = c.args.at }) (λ w u. absurd (omega (arith, c.if-tags-from.true, record_inside c.args.tags.now c.args.t u.0 u.1)))

pub returns-then-tags-from-2 : goal.returns-then-tags-from-2
returns-then-tags-from-2 c =
    nothing_due most_printed (TagOf c.args.tags.now c.args.t c.args.ending) (record { write = c.args.write; lent = c.args.out.now; at = c.args.at })
    (λ w u. absurd (omega (arith, c.if-tags-from-2.true, c.from-n.ensures, record_inside c.args.tags.now c.args.t u.0 u.1, name_length c.args.tags.now c.args.t u.0 u.1)))

pub returns-then-ending : goal.returns-then-ending
returns-then-ending c =
    let m = c.from-n.ensures in
    tag_put c.args.tags.now c.args.t c.args.ending true c.if-ending.true _ _ _ (record { write = c.args.write; lent = c.args.out.now; at = c.args.at }) _ _ m (search rules) refl refl c.put_end.ensures

pub returns : goal.returns
returns c =
    let m = c.from-n.ensures in
    tag_put c.args.tags.now c.args.t c.args.ending false c.if-ending.false _ _ _ (record { write = c.args.write; lent = c.args.out.now; at = c.args.at }) _ _ m (search rules) refl refl c.put_start.ensures
