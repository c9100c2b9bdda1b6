use Rattle.printed.specs.Programs.{in_string}
use Rattle.output.proofs.Writing.{same_bytes}
use Rattle.printer.proofs.Laws.{string_quote, string_backslash, string_tab, string_line, string_return, string_other}
use borrow.Author.Rules.{rules}
use Rattle.printer.proofs.put_in_string.Goals as goal

-- Each return cites which of the five the byte is, or that it is none.
pub returns-then-b-eq34 : goal.returns-then-b-eq34
returns-then-b-eq34 c = same_bytes _ _ _ _ (in_string c.args.b) _ _ (string_quote c.args.b c.if-b-eq34.true) c.put_bytes.ensures

pub returns-then-b-eq92 : goal.returns-then-b-eq92
returns-then-b-eq92 c = same_bytes _ _ _ _ (in_string c.args.b) _ _ (string_backslash c.args.b c.if-b-eq92.true) c.put_bytes-then-b-eq92.ensures

pub returns-then-b-eq9 : goal.returns-then-b-eq9
returns-then-b-eq9 c = same_bytes _ _ _ _ (in_string c.args.b) _ _ (string_tab c.args.b c.if-b-eq9.true) c.put_bytes-then-b-eq9.ensures

pub returns-then-b-eq10 : goal.returns-then-b-eq10
returns-then-b-eq10 c = same_bytes _ _ _ _ (in_string c.args.b) _ _ (string_line c.args.b c.if-b-eq10.true) c.put_bytes-then-b-eq10.ensures

pub returns-then-b-eq13 : goal.returns-then-b-eq13
returns-then-b-eq13 c = same_bytes _ _ _ _ (in_string c.args.b) _ _ (string_return c.args.b c.if-b-eq13.true) c.put_bytes-then-b-eq13.ensures

pub returns : goal.returns
returns c = same_bytes _ _ _ _ (in_string c.args.b) _ _ (string_other c.args.b c.if-b-eq34.false c.if-b-eq92.false c.if-b-eq9.false c.if-b-eq10.false c.if-b-eq13.false) c.put_bytes-2.ensures
