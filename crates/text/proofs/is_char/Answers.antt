use native.Mathlib.Omega.{arith}
use mathlib.Core.Logic.{inl, inr}
use Rattle.text.proofs.Shapes.{no_surrogate, no_fffe}
use Rattle.text.proofs.NumeralLaws.{is_return, is_high}
use Rattle.text.proofs.is_char.Goals as goal

-- Each return is a range of the Char set, or one between two of them.
pub returns-then-c-eq9 : goal.returns-then-c-eq9
returns-then-c-eq9 c = inl c.if-c-eq9.true

pub returns-then-c-eq10 : goal.returns-then-c-eq10
returns-then-c-eq10 c = inr (inl c.if-c-eq10.true)

pub returns-then-c-lt32 : goal.returns-then-c-lt32
returns-then-c-lt32 c = is_return _ c.if-c-lt32.true c.if-c-eq9.false c.if-c-eq10.false

pub returns-then-c-lt55296 : goal.returns-then-c-lt55296
returns-then-c-lt55296 c = inr (inr (inr (inl (omega arith))))

pub returns-then-c-lt57344 : goal.returns-then-c-lt57344
returns-then-c-lt57344 c = λ ok. no_surrogate ok (omega arith) (omega arith)

pub returns-then-c-lt65534 : goal.returns-then-c-lt65534
returns-then-c-lt65534 c = inr (inr (inr (inr (inl (omega arith)))))

pub returns-then-c-lt65536 : goal.returns-then-c-lt65536
returns-then-c-lt65536 c = λ ok. no_fffe ok (omega arith) (omega arith)

pub returns : goal.returns
returns c = is_high c.args.c (omega arith)
