use mathlib.Core.Path.{◌≡◌}
use native.Mathlib.Omega.{arith}
use lib.ListN.{length}
use Rattle.pages.proofs.Texts.{page_full, page_room}
use borrow.Author.Rules.{rules}
use Rattle.pages.proofs.Page.push.Goals as goal

-- Each answer by the law that it names. Assumes nothing.
pub returns-then-len-ge256 : goal.returns-then-len-ge256
returns-then-len-ge256 c = let s = c.args.self in let w : length s.bytes ≡ 256 = search rules in record { short = search rules; text = page_full s.bytes s.len w _ c.requires c.if-len-ge256.true }

pub returns : goal.returns
returns c = let s = c.args.self in let w : length s.bytes ≡ 256 = search rules in record { short = search rules; text = page_room s.bytes s.len w _ (omega (arith, c.if-len-ge256.false)) }
