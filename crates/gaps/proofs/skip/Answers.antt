use native.Mathlib.Omega.{arith}
use mathlib.Core.Path.{sym, ◌∙◌}
use Rattle.notation.specs.Gaps.{Gap}
use Rattle.gaps.proofs.Skipping.{blank_more, skip_to, skip_end, skip_open, skip_bad, comment_more}
use borrow.Author.Rules.{rules}
use Rattle.gaps.proofs.skip.Goals as goal

-- src/lib.rt:45:5
pub loop-i-init : goal.loop-i-init
loop-i-init c = (omega arith, Gap.none)

-- src/lib.rt:46:17
pub bounds-x-i : goal.bounds-x-i
bounds-x-i c = omega arith

-- src/lib.rt:47:12
-- src/lib.rt:48:13
pub overflow_add-i : goal.overflow_add-i
overflow_add-i c = omega arith

-- src/lib.rt:45:5
pub loop-i-smaller-then-blank : goal.loop-i-smaller-then-blank
loop-i-smaller-then-blank c = omega arith

-- src/lib.rt:45:5
pub loop-i-preserved-then-blank : goal.loop-i-preserved-then-blank
loop-i-preserved-then-blank c = (omega arith, blank_more c.args.x.now c.loop-i.i c.loop-i-test.true c.loop-i.invariant.1 (sym c.blank.ensures ∙ c.if-blank.true))

-- src/lib.rt:51:17
pub returns-then-b-ne35 : goal.returns-then-b-ne35
returns-then-b-ne35 c = skip_to c.args.x.now c.loop-i.i c.loop-i-test.true c.loop-i.invariant.1 (sym c.blank.ensures ∙ c.if-blank.false) c.if-b-ne35.true

-- src/lib.rt:53:24
pub overflow_add-from : goal.overflow_add-from
overflow_add-from c = omega arith

-- src/lib.rt:54:17
pub comment_end-to-requires : goal.comment_end-to-requires
comment_end-to-requires c = omega arith

-- src/lib.rt:56:17
pub returns-then-to-x : goal.returns-then-to-x
returns-then-to-x c = skip_open c.args.x.now c.loop-i.i c.comment_end-to.result c.loop-i-test.true c.loop-i.invariant.1 c.if-b-ne35.false c.comment_end-to.ensures c.if-to-x.true

-- src/lib.rt:58:16
pub bounds-x-to : goal.bounds-x-to
bounds-x-to c = omega (arith, c.comment_end-to.ensures.high)

-- src/lib.rt:59:17
pub returns-then-x-to-ne10 : goal.returns-then-x-to-ne10
returns-then-x-to-ne10 c = skip_bad c.args.x.now c.loop-i.i c.comment_end-to.result c.loop-i-test.true c.loop-i.invariant.1 c.if-b-ne35.false c.comment_end-to.ensures (omega (arith, c.comment_end-to.ensures.high)) c.if-x-to-ne10.true

-- src/lib.rt:61:17
pub overflow_add-i-else-blank : goal.overflow_add-i-else-blank
overflow_add-i-else-blank c = omega (arith, c.comment_end-to.ensures.high)

-- src/lib.rt:45:5
pub loop-i-smaller : goal.loop-i-smaller
loop-i-smaller c = omega (arith, c.comment_end-to.ensures.high, c.comment_end-to.ensures.low)

-- src/lib.rt:45:5
pub loop-i-preserved : goal.loop-i-preserved
loop-i-preserved c = (omega (arith, c.comment_end-to.ensures.high), comment_more c.args.x.now c.loop-i.i c.comment_end-to.result c.loop-i-test.true c.loop-i.invariant.1 c.if-b-ne35.false c.comment_end-to.ensures (omega (arith, c.comment_end-to.ensures.high)) c.if-x-to-ne10.false)

-- src/lib.rt:41:1
pub returns : goal.returns
returns c = skip_end c.args.x.now c.loop-i.i (omega arith) c.loop-i.invariant.1
