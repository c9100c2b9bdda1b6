use native.Mathlib.Omega.{arith}
use borrow.Author.Rules.{rules}
use Rattle.tells.specs.Tells.{fails}
use Rattle.sheet.proofs.TagLaws.{too_short, too_long, tag_told}
use Rattle.sheet.proofs.tags.is_tag.Goals as goal

-- A name's length bounds the first byte. Within the bounds the three parts tell what the 16 bytes spell.
pub returns-then-n-lt1 : goal.returns-then-n-lt1
returns-then-n-lt1 c = fails (λ h. too_short c.args.b.now h.0 h.1 (omega (arith, c.byte_at-n.ensures)))

pub returns-then-n-gt15 : goal.returns-then-n-gt15
returns-then-n-gt15 c = fails (λ h. too_long c.args.b.now h.0 h.1 (omega (arith, c.byte_at-n.ensures)))

pub returns : goal.returns
returns c =
    rw c.name_first.ensures
    (tag_told c.args.b.now c.requires c.byte_at-n.result c.byte_at-n.ensures.is (search rules) (search rules)
    c.all_name.ensures c.all_zero.ensures)
