use native.Mathlib.Omega.{arith}
use mathlib.Core.Path.{sym, subst}
use mathlib.Core.Bool.{true}
use mathlib.Core.List.{◌++◌}
use Rattle.lexing.specs.Reads.{stops_at, ReadIs, OneSpelling}
use Rattle.lexing.proofs.Sorts.{one_digit, two_digits}
use borrow.Author.Rules.{rules}
use Rattle.lexing.proofs.one_number.Goals as goal

-- The digits are those of `decimal`.
-- src/lib.rt:85:19
-- src/lib.rt:85:18
-- src/lib.rt:86:28
-- src/lib.rt:86:9
-- src/lib.rt:86:9
pub returns-then-n-lt10 : goal.returns-then-n-lt10
returns-then-n-lt10 c = let a = c.args in subst (λ z. ReadIs (OneSpelling (a.a.now ++ z) a.n) (stops_at true) a.x.now c.fixed.result) (sym (one_digit a.n c.if-n-lt10.true)) c.fixed.ensures

-- src/lib.rt:88:15
-- src/lib.rt:88:14
-- src/lib.rt:88:36
-- src/lib.rt:88:35
-- src/lib.rt:89:17
-- src/lib.rt:89:5
-- src/lib.rt:80:1
pub returns : goal.returns
returns c = let a = c.args in subst (λ z. ReadIs (OneSpelling (a.a.now ++ z) a.n) (stops_at true) a.x.now c.fixed-2.result) (sym (two_digits a.n (omega arith))) c.fixed-2.ensures
