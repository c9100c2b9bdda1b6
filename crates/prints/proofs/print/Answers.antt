use borrow.Author.Rules.{rules}
use native.Mathlib.Omega.{arith}
use Rattle.prints.proofs.Sheets.{keeps_six, refused}
use Rattle.prints.proofs.print.Goals as goal

-- 1 to 6 are the answer; with 0 and 7 the sheet is printed.
pub print_kept-requires : goal.print_kept-requires
print_kept-requires c = keeps_six c.defect-number.ensures (λ i j. omega (arith, i, j, c.if-number-eq0.true))

pub print_kept-requires-then-number-eq7 : goal.print_kept-requires-then-number-eq7
print_kept-requires-then-number-eq7 c = keeps_six c.defect-number.ensures (λ i j. omega (arith, i, j, c.if-number-eq7.true))

pub returns : goal.returns
returns c = refused c.args.sheet.now c.args.text.now _ c.defect-number.ensures c.if-number-eq0.false c.if-number-eq7.false
