use native.Mathlib.Omega.{arith}
use Rattle.lexemes.proofs.Found.{sign_long, sign_cut}
use Rattle.lexemes.proofs.sign.Goals as goal

-- The part of the row is the sign of the kind.
-- src/lib.rt:52:21
pub overflow_sub-from : goal.overflow_sub-from
overflow_sub-from c = omega (arith, c.requires)

-- src/lib.rt:52:16
pub overflow_mul-from : goal.overflow_mul-from
overflow_mul-from c = omega (arith, c.requires)

-- src/lib.rt:53:29
pub overflow_sub-to : goal.overflow_sub-to
overflow_sub-to c = omega (arith, c.requires)

-- src/lib.rt:53:21
pub offset_bounds-lengths-k : goal.offset_bounds-lengths-k
offset_bounds-lengths-k c = omega (arith, c.requires)

-- src/lib.rt:53:21
pub bounds-lengths-k : goal.bounds-lengths-k
bounds-lengths-k c = omega (arith, c.requires)

-- src/lib.rt:53:14
pub overflow_add-to : goal.overflow_add-to
overflow_add-to c = omega (arith, c.requires, sign_long c.args.k c.requires.0 c.requires.1)

-- src/lib.rt:54:5
pub cut-requires : goal.cut-requires
cut-requires c = (omega (arith, c.requires), omega (arith, c.requires, sign_long c.args.k c.requires.0 c.requires.1))

-- src/lib.rt:47:1
pub returns : goal.returns
returns c = sign_cut c.args.k c.args.x.now c.cut.result c.requires.0 c.requires.1 c.cut.ensures
