use Rattle.behind.proofs.TagLaws.{end_tag, no_end_tag}
use Rattle.behind.proofs.is_end_tag.Goals as goal

pub returns-then-i-bytes : goal.returns-then-i-bytes
returns-then-i-bytes c = let args = c.args in end_tag args.bytes.now args.i _ c.byte.ensures

pub returns : goal.returns
returns c = let args = c.args in no_end_tag args.bytes.now args.i c.if-i-bytes.false
