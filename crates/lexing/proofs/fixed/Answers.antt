use native.Mathlib.Omega.{arith}
use mathlib.Core.Path.{sym, ◌∙◌}
use Rattle.lexing.specs.Reads.{stops_at}
use Rattle.lexing.proofs.Spellings.{fixed_first, fixed_second, fixed_joined, fixed_apart, fixed_last, fixed_free}
use borrow.Author.Rules.{rules}
use Rattle.lexing.proofs.fixed.Goals as goal

-- Each answer is a law of spellings.
-- src/lib.rt:45:9
-- src/lib.rt:47:9
pub returns-then-k-a : goal.returns-then-k-a
returns-then-k-a c = let a = c.args in fixed_first a.x.now a.a.now a.b.now a.n c.common-k.result (stops_at a.joins) c.common-k.ensures c.if-k-a.true

-- src/lib.rt:49:20
-- src/lib.rt:49:20
-- src/lib.rt:49:20
-- src/lib.rt:49:9
-- src/lib.rt:50:14
-- src/lib.rt:52:9
pub returns-then-m-b : goal.returns-then-m-b
returns-then-m-b c = let a = c.args in fixed_second a.x.now a.a.now a.b.now a.n c.common-k.result c.common-m.result c.common-k.ensures (omega arith) c.common-m.ensures (stops_at a.joins) c.if-m-b.true

-- src/lib.rt:56:26
-- src/lib.rt:56:16
-- src/lib.rt:57:17
pub returns-then-word_byte : goal.returns-then-word_byte
returns-then-word_byte c = let a = c.args in fixed_joined a.x.now a.a.now a.b.now a.n c.common-k.result c.common-m.result c.common-k.ensures (omega arith) c.common-m.ensures (omega arith) a.joins c.if-joins.true (omega arith) (sym c.word_byte.ensures ∙ c.if-word_byte.true)

-- src/lib.rt:59:13
pub returns-then-to-x : goal.returns-then-to-x
returns-then-to-x c = let a = c.args in fixed_apart a.x.now a.a.now a.b.now a.n c.common-k.result c.common-m.result c.common-k.ensures (omega arith) c.common-m.ensures (omega arith) a.joins c.if-joins.true (omega arith) (sym c.word_byte.ensures ∙ c.if-word_byte.false)

-- src/lib.rt:61:9
pub returns-then-joins : goal.returns-then-joins
returns-then-joins c = let a = c.args in fixed_last a.x.now a.a.now a.b.now a.n c.common-k.result c.common-m.result c.common-k.ensures (omega arith) c.common-m.ensures (omega arith) a.joins (omega arith)

-- src/lib.rt:42:1
pub returns : goal.returns
returns c = let a = c.args in fixed_free a.x.now a.a.now a.b.now a.n c.common-k.result c.common-m.result c.common-k.ensures (omega arith) c.common-m.ensures (omega arith) a.joins c.if-joins.false
