use native.Mathlib.Omega.{arith}
use Rattle.lexemes.proofs.Found.{word_long, word_cut}
use Rattle.lexemes.proofs.word.Goals as goal

-- The part of the row is the word of the kind.
-- src/lib.rt:41:21
pub overflow_sub-from : goal.overflow_sub-from
overflow_sub-from c = omega (arith, c.requires)

-- src/lib.rt:41:16
pub overflow_mul-from : goal.overflow_mul-from
overflow_mul-from c = omega (arith, c.requires)

-- src/lib.rt:42:29
pub overflow_sub-to : goal.overflow_sub-to
overflow_sub-to c = omega (arith, c.requires)

-- src/lib.rt:42:21
pub offset_bounds-lengths-k : goal.offset_bounds-lengths-k
offset_bounds-lengths-k c = omega (arith, c.requires)

-- src/lib.rt:42:21
pub bounds-lengths-k : goal.bounds-lengths-k
bounds-lengths-k c = omega (arith, c.requires)

-- src/lib.rt:42:14
pub overflow_add-to : goal.overflow_add-to
overflow_add-to c = omega (arith, c.requires, word_long c.args.k c.requires.0 c.requires.1)

-- src/lib.rt:43:5
pub cut-requires : goal.cut-requires
cut-requires c = (omega (arith, c.requires), omega (arith, c.requires, word_long c.args.k c.requires.0 c.requires.1))

-- src/lib.rt:36:1
pub returns : goal.returns
returns c = word_cut c.args.k c.args.x.now c.cut.result c.requires.0 c.requires.1 c.cut.ensures
