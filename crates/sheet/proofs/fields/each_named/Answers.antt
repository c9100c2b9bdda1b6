use native.Mathlib.Omega.{arith}
use borrow.Author.Count.{below_more}
use Rattle.tells.specs.Tells.{holds, fails}
use Rattle.tells.proofs.Laws.{told, not_told}
use Rattle.sheet.proofs.fields.each_named.Goals as goal

pub overflow_mul-i : goal.overflow_mul-i
overflow_mul-i c = record { fits = omega (arith, c.requires.by_index c.loop-k.k c.loop-k-test.true, c.well_formed) }

pub overflow_add-i : goal.overflow_add-i
overflow_add-i c = record { fits = omega (arith, c.requires.by_index c.loop-k.k c.loop-k-test.true) }

pub word_at-one-requires : goal.word_at-one-requires
word_at-one-requires c = omega (arith, c.requires.by_index c.loop-k.k c.loop-k-test.true)

pub overflow_add-i-in-loop-k : goal.overflow_add-i-in-loop-k
overflow_add-i-in-loop-k c = record { fits = omega (arith, c.requires.by_index c.loop-k.k c.loop-k-test.true) }

pub word_at-two-requires : goal.word_at-two-requires
word_at-two-requires c = omega (arith, c.requires.by_index c.loop-k.k c.loop-k-test.true)

pub returns-then-not-both_named : goal.returns-then-not-both_named
returns-then-not-both_named c =
    fails
    (λ h. not_told (rw (c.word_at-one.ensures.is, c.word_at-two.ensures.is) at c.both_named.ensures) c.if-not-both_named.true
    (h c.loop-k.k c.loop-k-test.true))

pub loop-k-preserved : goal.loop-k-preserved
loop-k-preserved c =
    below_more _ _ c.loop-k.invariant
    (told (rw (c.word_at-one.ensures.is, c.word_at-two.ensures.is) at c.both_named.ensures) c.if-not-both_named.false)

pub returns : goal.returns
returns c = holds (λ k z. c.loop-k.invariant k (omega (arith, z, c.loop-k-test.false)))
