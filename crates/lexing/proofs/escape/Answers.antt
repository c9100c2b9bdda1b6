use native.Mathlib.Omega.{arith}
use mathlib.Core.Path.{sym, ◌∙◌}
use Rattle.lexing.proofs.Pieces.{escape_no_room, escape_short, escape_found, escape_bad}
use borrow.Author.Rules.{rules}
use Rattle.lexing.proofs.escape.Goals as goal

-- Each answer is a law of escapes.
-- src/lib.rt:217:9
pub returns-then-room-eq0 : goal.returns-then-room-eq0
returns-then-room-eq0 c = escape_no_room c.args.room c.args.y.now c.requires.0 c.if-room-eq0.true

-- src/lib.rt:220:9
pub returns-then-y-eq1 : goal.returns-then-y-eq1
returns-then-y-eq1 c = escape_short c.args.room c.args.y.now (omega arith) c.if-y-eq1.true c.requires.1

-- src/lib.rt:222:18
pub bounds-y-1 : goal.bounds-y-1
bounds-y-1 c = omega (arith, c.requires)

-- src/lib.rt:222:8
-- src/lib.rt:223:9
pub returns-then-is_escape : goal.returns-then-is_escape
returns-then-is_escape c = escape_found c.args.room c.args.y.now (omega arith) (omega (arith, c.requires.0)) c.requires.1 (sym c.is_escape.ensures ∙ c.if-is_escape.true)

-- src/lib.rt:212:1
pub returns : goal.returns
returns c = escape_bad c.args.room c.args.y.now (omega arith) (omega (arith, c.requires.0)) c.requires.1 (sym c.is_escape.ensures ∙ c.if-is_escape.false)
