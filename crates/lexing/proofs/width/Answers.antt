use native.Mathlib.Omega.{arith}
use mathlib.Core.Path.{refl}
use borrow.Author.Tests.{lt-ltb, le-ltb}
use Rattle.lexing.proofs.width.Goals as goal

-- Each test is that of `width_of`.
-- src/lib.rt:193:9
pub returns-then-a-lt128 : goal.returns-then-a-lt128
returns-then-a-lt128 c = rw (lt-ltb c.args.a 128 (omega arith)) refl

-- src/lib.rt:196:9
pub returns-then-a-lt224 : goal.returns-then-a-lt224
returns-then-a-lt224 c = rw (le-ltb c.args.a 128 (omega arith), lt-ltb c.args.a 224 (omega arith)) refl

-- src/lib.rt:199:9
pub returns-then-a-lt240 : goal.returns-then-a-lt240
returns-then-a-lt240 c = rw (le-ltb c.args.a 128 (omega arith), le-ltb c.args.a 224 (omega arith), lt-ltb c.args.a 240 (omega arith)) refl

-- src/lib.rt:189:1
pub returns : goal.returns
returns c = rw (le-ltb c.args.a 128 (omega arith), le-ltb c.args.a 224 (omega arith), le-ltb c.args.a 240 (omega arith)) refl
