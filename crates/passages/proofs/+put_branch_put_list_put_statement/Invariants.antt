use borrow.Author.Rules.{rules}
use Prim.Native.Nat.{◌-◌, ◌+◌, ◌*◌}
use native.Mathlib.Omega.{arith}
use lib.ListN.{length}
use Rattle.passages.proofs.+put_branch_put_list_put_statement.Given as goal

-- The bytes left fall: a branch calls the list at the same byte, that calls the statement there and a list past it, and a statement calls branches
-- past its first byte; hence three times the bytes left, and two more for a branch, one for a list. What is written is put together from what the
-- parts wrote. Assumes nothing.
abbrev pub decreases-put_branch : goal.decreases-put_branch
decreases-put_branch l = 3 * (length l.s.now - l.i) + 2

abbrev pub decreases-put_list : goal.decreases-put_list
decreases-put_list l = 3 * (length l.s.now - l.i) + 1

abbrev pub decreases-put_statement : goal.decreases-put_statement
decreases-put_statement l = 3 * (length l.s.now - l.i)
