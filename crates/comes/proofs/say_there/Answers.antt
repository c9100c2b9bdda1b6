use Rattle.trees.proofs.Alikes.{zeros}
use borrow.Author.Rules.{rules}
use Rattle.comes.proofs.say_there.Goals as goal

-- Memory for the sums is lent as zeros.
-- src/lib.rt:102:9
-- src/lib.rt:105:36
-- src/lib.rt:105:9
pub may_come-end-requires : goal.may_come-end-requires
may_come-end-requires c =
    record { laid_out = c.requires.laid_out; well_formed = c.requires.well_formed; q_lt_productions = c.if-q-l.false; sums_len = search rules; zeros = zeros 65 }

-- src/lib.rt:106:5
-- src/lib.rt:107:26
-- src/lib.rt:107:5
-- src/lib.rt:108:5
-- src/lib.rt:97:1
