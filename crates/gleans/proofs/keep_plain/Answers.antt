use Rattle.gleans.proofs.Laws.{no_print, print_cut, print_kept}
use Rattle.gleans.proofs.keep_plain.Goals as goal

-- A print has one string, any other statement but an if none.
pub returns-then-s-i-ne7 : goal.returns-then-s-i-ne7
returns-then-s-i-ne7 c = no_print c.args.bytes.now c.args.ends.now c.args.count c.requires.3 c.args.s.now c.args.strings.now c.args.i c.requires.0 c.if-s-i-ne7.true c.requires.2

pub returns-then-s-i-lt4 : goal.returns-then-s-i-lt4
returns-then-s-i-lt4 c = print_cut c.args.s.now c.args.strings.now c.args.i c.requires.0 c.args.bytes.now c.args.ends.now c.args.count c.requires.3 c.if-s-i-ne7.false c.if-s-i-lt4.true

pub returns : goal.returns
returns c = print_kept c.args.s.now c.args.strings.now c.args.i c.requires.0 c.args.bytes.now c.args.ends.now c.args.count c.if-s-i-ne7.false _ _ c.word_at-o.ensures.is c.byte_at-n.ensures.is _ _ _ c.keep_string.ensures
