use Rattle.beds.proofs.Rows.{far_field, field_in}
use borrow.Author.Rules.{rules}
use Rattle.beds.proofs.Row.with_field.Goals as goal

-- `Row::with_field`: two bytes in place of two. Assumes nothing.
pub returns-then-node-gt-MOST : goal.returns-then-node-gt-MOST
returns-then-node-gt-MOST c = search (far_field, rules)

pub returns : goal.returns
returns c = search (field_in, rules)
