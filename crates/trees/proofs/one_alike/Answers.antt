use native.Mathlib.Omega.{arith}
use Rattle.trees.specs.Sums.{cell_of}
use Rattle.trees.proofs.Alikes.{no_such_nonterminal, no_such_tag, one_more}
use Rattle.trees.proofs.one_alike.Goals as goal

-- `one_alike` raises the one cell, where there is one.
-- Assumes nothing.
pub returns-then-m-ge-NONTERMINALS : goal.returns-then-m-ge-NONTERMINALS
returns-then-m-ge-NONTERMINALS c = no_such_nonterminal _ _ _ c.if-m-ge-NONTERMINALS.true

pub returns-then-t-ge-TAGS : goal.returns-then-t-ge-TAGS
returns-then-t-ge-TAGS c = no_such_tag _ _ _ c.if-t-ge-TAGS.true

pub overflow_add-known : goal.overflow_add-known
overflow_add-known c = omega (arith, c.requires.room_for_one.each (cell_of c.args.m c.args.t))

pub returns : goal.returns
returns c = one_more _ _ _ c.if-m-ge-NONTERMINALS.false c.if-t-ge-TAGS.false c.requires.known_len
