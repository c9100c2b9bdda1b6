use mathlib.Core.Path.{◌≡◌, sym}
use native.Mathlib.Omega.{arith}
use lib.ListN.{length}
use lib.Seq.{length-take-le}
use borrow.Author.Rules.{rules}
use Rattle.pages.proofs.Page.size.Goals as goal

-- The page has as many bytes as it says. Assumes nothing.
pub returns : goal.returns
returns c = let s = c.args.self in let w : length s.bytes ≡ 256 = search rules in sym (length-take-le s.len s.bytes (omega (arith, c.requires)))
