use native.Mathlib.Omega.{arith}
use mathlib.Core.Path.{subst}
use mathlib.Core.Logic.{inl, inr}
use Prim.Native.Nat.{◌≤◌, ◌<◌}
use Rattle.lexing.proofs.Pieces.{piece_none, no_piece, piece_itself}
use borrow.Author.Rules.{rules}
use Rattle.lexing.proofs.piece.Goals as goal

-- Each answer is a law of a string's characters.
-- src/lib.rt:234:9
pub returns-then-y-eq0 : goal.returns-then-y-eq0
returns-then-y-eq0 c = piece_none c.args.room c.args.y.now c.if-y-eq0.true

-- src/lib.rt:236:13
pub bounds-y-0 : goal.bounds-y-0
bounds-y-0 c = omega arith

-- src/lib.rt:238:9
pub escape-requires : goal.escape-requires
escape-requires c = (omega arith, c.if-a-eq92.true)

-- src/lib.rt:238:9
-- src/lib.rt:241:9
pub returns-then-a-eq34 : goal.returns-then-a-eq34
returns-then-a-eq34 c = no_piece c.args.room c.args.y.now (omega arith) c.if-a-eq92.false (inl c.if-a-eq34.true)

-- src/lib.rt:244:9
pub returns-then-a-lt32 : goal.returns-then-a-lt32
returns-then-a-lt32 c = no_piece c.args.room c.args.y.now (omega arith) c.if-a-eq92.false (inr (inl c.if-a-lt32.true))

-- src/lib.rt:246:15
-- src/lib.rt:247:9
pub returns-then-room-width : goal.returns-then-room-width
returns-then-room-width c = no_piece c.args.room c.args.y.now (omega arith) c.if-a-eq92.false (inr (inr (subst (λ z. c.args.room < z) c.width.ensures c.if-room-width.true)))

-- src/lib.rt:249:5
-- src/lib.rt:230:1
pub returns : goal.returns
returns c = piece_itself c.args.room c.args.y.now c.one_character.result (omega arith) c.if-a-eq92.false c.if-a-eq34.false (omega arith) (subst (λ z. z ≤ c.args.room) c.width.ensures (omega arith)) c.one_character.ensures
