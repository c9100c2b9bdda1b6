use native.Mathlib.Omega.{arith}
use Prim.Native.Nat.{◌+◌}
use lib.ListN.{length}
use Rattle.text.proofs.NumeralLaws.{char_yes, char_no}
use Rattle.tokens.proofs.Reading
use Rattle.tokens.proofs.Numerals
use Rattle.tokens.proofs.number.Goals as goal

pub loop-i-init : goal.loop-i-init
loop-i-init c = Numerals.counted_none c.args.f.now c.args.from c.args.radix (Numerals.opened_within c.args.f.now c.args.from c.args.radix c.requires.opens_numeric)

pub overflow_add-result : goal.overflow_add-result
overflow_add-result c = omega (arith, c.requires.front.fits)

pub overflow_add-result-then-is_char : goal.overflow_add-result-then-is_char
overflow_add-result-then-is_char c = omega (arith, c.requires.front.fits)

pub returns-then-is_char : goal.returns-then-is_char
returns-then-is_char c = let l = c.loop-i in Numerals.number_token c.args.f.now c.args.at c.args.from c.args.radix c.requires.opens_numeric l.i l.n l.invariant c.loop-i-test.true c.if-b-eq59.true (char_yes l.n _ c.is_char.ensures c.if-is_char.true)

pub returns-then-b-eq59 : goal.returns-then-b-eq59
returns-then-b-eq59 c = let l = c.loop-i in Numerals.number_none c.args.f.now c.args.at c.args.from c.args.radix c.requires.opens_numeric l.i l.n l.invariant c.loop-i-test.true c.if-b-eq59.true (char_no l.n _ c.is_char.ensures c.if-is_char.false)

pub returns-then-radix-d : goal.returns-then-radix-d
returns-then-radix-d c = let l = c.loop-i in Numerals.number_other c.args.f.now c.args.at c.args.from c.args.radix c.requires.opens_numeric l.i l.n l.invariant c.loop-i-test.true c.digit-d.result c.digit-d.ensures c.if-radix-d.true c.if-b-eq59.false

pub overflow_mul-n : goal.overflow_mul-n
overflow_mul-n c = let l = c.loop-i in omega (arith, Numerals.product_most l.n c.args.radix l.invariant.small (Numerals.either_base c.args.f.now c.args.from c.args.radix c.requires.opens_numeric))

pub overflow_add-n : goal.overflow_add-n
overflow_add-n c = let l = c.loop-i in omega (arith, c.if-radix-d.false, Numerals.product_most l.n c.args.radix l.invariant.small (Numerals.either_base c.args.f.now c.args.from c.args.radix c.requires.opens_numeric))

pub returns-then-n-gt1114111 : goal.returns-then-n-gt1114111
returns-then-n-gt1114111 c = let l = c.loop-i in Numerals.number_past c.args.f.now c.args.at c.args.from c.args.radix c.requires.opens_numeric l.i l.n l.invariant c.loop-i-test.true c.digit-d.result c.digit-d.ensures (omega (arith, c.if-radix-d.false)) (omega (arith, c.if-n-gt1114111.true))

pub loop-i-preserved : goal.loop-i-preserved
loop-i-preserved c = let l = c.loop-i in Numerals.counted_more c.args.f.now c.args.from c.args.radix l.i l.n c.digit-d.result l.invariant c.loop-i-test.true c.digit-d.ensures (omega (arith, c.if-radix-d.false)) (omega (arith, c.if-n-gt1114111.false))

pub wanted-requires : goal.wanted-requires
wanted-requires c = (c.loop-i.invariant.small, Numerals.either_base c.args.f.now c.args.from c.args.radix c.requires.opens_numeric)

pub overflow_add-f : goal.overflow_add-f
overflow_add-f c = omega (arith, c.requires.front.short, Numerals.fewest_most c.args.radix c.loop-i.n c.wanted.result c.loop-i.invariant.small (Numerals.either_base c.args.f.now c.args.from c.args.radix c.requires.opens_numeric) c.wanted.ensures)

pub returns : goal.returns
returns c = let l = c.loop-i in Reading.by_cut c.args.f.now c.args.at (length c.args.f.now + c.wanted.result) _ c.cut.ensures (Numerals.number_cut c.args.f.now c.args.at c.args.from c.args.radix c.requires.opens_numeric l.i l.n l.invariant (omega (arith, c.loop-i-test.false, l.invariant.within)) c.wanted.result c.wanted.ensures)
