use native.Mathlib.Omega.{arith}
use mathlib.Core.Logic.{inl, inr}
use Rattle.text.proofs.NumeralLaws.{char_yes, char_no}
use Rattle.tokens.proofs.Numerals.{fewest_none, fewest_one, fewest_two, product_most}
use Rattle.tokens.proofs.wanted.Goals as goal

-- No digit after a character, two where no one digit comes to a character, else one.
pub returns-then-is_char : goal.returns-then-is_char
returns-then-is_char c = fewest_none c.args.radix c.args.n (char_yes c.args.n _ c.is_char.ensures c.if-is_char.true)

pub overflow_mul-low : goal.overflow_mul-low
overflow_mul-low c = omega (arith, product_most c.args.n c.args.radix c.requires.0 c.requires.1)

pub overflow_add-low : goal.overflow_add-low
overflow_add-low c = omega (arith, product_most c.args.n c.args.radix c.requires.0 c.requires.1)

pub returns-then-low-radix-le32 : goal.returns-then-low-radix-le32
returns-then-low-radix-le32 c = fewest_two c.args.radix c.args.n c.requires.1 (char_no c.args.n _ c.is_char.ensures c.if-is_char.false) (omega (arith, c.if-low-gt13.true)) c.if-low-radix-le32.true

pub returns-else-low-radix-le32 : goal.returns-else-low-radix-le32
returns-else-low-radix-le32 c = fewest_one c.args.radix c.args.n c.requires.0 c.requires.1 (char_no c.args.n _ c.is_char.ensures c.if-is_char.false) (inr (omega arith))

pub returns-else-low-gt13 : goal.returns-else-low-gt13
returns-else-low-gt13 c = fewest_one c.args.radix c.args.n c.requires.0 c.requires.1 (char_no c.args.n _ c.is_char.ensures c.if-is_char.false) (inl (omega arith))
