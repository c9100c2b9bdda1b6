use native.Mathlib.Omega.{arith}
use mathlib.Core.Path.{sym, ◌∙◌, subst}
use Rattle.lexing.specs.Reads.{NameRun}
use Rattle.lexing.proofs.Sorts.{no_name, name_ends, name_stops, name_at_end, name_long}
use borrow.Author.Rules.{rules}
use Rattle.lexing.proofs.name.Goals as goal

-- Each answer is a law of names.
-- src/lib.rt:137:9
-- src/lib.rt:139:9
pub returns-then-n-eq0 : goal.returns-then-n-eq0
returns-then-n-eq0 c = let a = c.args in no_name a.x.now (subst (NameRun a.x.now) c.if-n-eq0.true c.name_run-n.ensures)

-- src/lib.rt:142:28
-- src/lib.rt:142:12
-- src/lib.rt:143:13
pub returns-then-name_byte : goal.returns-then-name_byte
returns-then-name_byte c = let a = c.args in name_long a.x.now c.name_run-n.result (omega arith) c.name_run-n.ensures c.if-n-x.true (sym c.name_byte.ensures ∙ c.if-name_byte.true)

-- src/lib.rt:145:9
pub returns-then-n-x : goal.returns-then-n-x
returns-then-n-x c = let a = c.args in name_ends a.x.now c.name_run-n.result (omega arith) c.name_run-n.ensures (name_stops a.x.now c.name_run-n.result c.if-n-x.true (sym c.name_byte.ensures ∙ c.if-name_byte.false))

-- src/lib.rt:134:1
pub returns : goal.returns
returns c = let a = c.args in name_ends a.x.now c.name_run-n.result (omega arith) c.name_run-n.ensures (name_at_end a.x.now c.name_run-n.result (omega arith))
