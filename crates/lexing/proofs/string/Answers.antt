use native.Mathlib.Omega.{arith}
use Prim.Native.Nat.{◌-◌}
use Rattle.lexing.specs.declared.Tried.{Tried}
use Rattle.lexing.specs.Reads.{nothing, PieceSpelling}
use Rattle.lexing.proofs.Spellings.{part}
use Rattle.lexing.proofs.Sorts.{read_as}
use Rattle.lexing.proofs.Pieces.{no_string, string_start, string_closed, string_more, string_stuck, string_open, stuck_reached}
use borrow.Author.Rules.{rules}
use Rattle.lexing.proofs.string.Goals as goal

-- src/lib.rt:257:9
pub returns-then-x-eq0 : goal.returns-then-x-eq0
returns-then-x-eq0 c = no_string c.args.x.now (λ l e. omega arith)

-- src/lib.rt:259:8
pub bounds-x-0 : goal.bounds-x-0
bounds-x-0 c = omega arith

-- src/lib.rt:260:9
pub returns-then-x-ne34 : goal.returns-then-x-ne34
returns-then-x-ne34 c = no_string c.args.x.now (λ l e. c.if-x-ne34.true e)

-- src/lib.rt:264:5
pub loop-i-init : goal.loop-i-init
loop-i-init c = (omega arith, omega arith, string_start c.args.x.now (omega arith) c.if-x-ne34.false)

-- src/lib.rt:265:12
pub bounds-x-i : goal.bounds-x-i
bounds-x-i c = omega arith

-- src/lib.rt:266:36
pub overflow_add-result : goal.overflow_add-result
overflow_add-result c = omega arith

-- src/lib.rt:266:13
pub returns-then-x-i-eq34 : goal.returns-then-x-i-eq34
returns-then-x-i-eq34 c = let l = c.loop-i in string_closed c.args.x.now l.i l.n l.invariant.0 l.invariant.1 l.invariant.2 c.loop-i-test.true c.if-x-i-eq34.true

-- src/lib.rt:268:21
pub slice_bounds-piece-count : goal.slice_bounds-piece-count
slice_bounds-piece-count c = omega arith

-- src/lib.rt:268:21
pub slice_bounds-piece-start : goal.slice_bounds-piece-start
slice_bounds-piece-start c = omega arith

-- src/lib.rt:268:21
pub slice_bounds-piece-end : goal.slice_bounds-piece-end
slice_bounds-piece-end c = omega arith

-- src/lib.rt:268:30
pub overflow_sub-n : goal.overflow_sub-n
overflow_sub-n c = omega arith

-- src/lib.rt:268:15
-- src/lib.rt:269:26
-- src/lib.rt:270:17
pub overflow_add-n : goal.overflow_add-n
overflow_add-n c = let l = c.loop-i in let x = c.args.x.now in let m = string_more x l.i l.n l.invariant.0 l.invariant.1 l.invariant.2 _ _ (read_as (PieceSpelling (255 - l.n)) nothing (part x l.i) c.piece.result (Tried.Whole _ _) c.in-Whole.is c.piece.ensures) in omega (arith, m.1)

-- src/lib.rt:271:17
pub overflow_add-i : goal.overflow_add-i
overflow_add-i c = let l = c.loop-i in let x = c.args.x.now in let m = string_more x l.i l.n l.invariant.0 l.invariant.1 l.invariant.2 _ _ (read_as (PieceSpelling (255 - l.n)) nothing (part x l.i) c.piece.result (Tried.Whole _ _) c.in-Whole.is c.piece.ensures) in omega (arith, m.3)

-- src/lib.rt:264:5
pub loop-i-smaller : goal.loop-i-smaller
loop-i-smaller c = let l = c.loop-i in let x = c.args.x.now in let m = string_more x l.i l.n l.invariant.0 l.invariant.1 l.invariant.2 _ _ (read_as (PieceSpelling (255 - l.n)) nothing (part x l.i) c.piece.result (Tried.Whole _ _) c.in-Whole.is c.piece.ensures) in omega (arith, m.2, m.3)

-- src/lib.rt:264:5
pub loop-i-preserved : goal.loop-i-preserved
loop-i-preserved c = let l = c.loop-i in let x = c.args.x.now in let m = string_more x l.i l.n l.invariant.0 l.invariant.1 l.invariant.2 _ _ (read_as (PieceSpelling (255 - l.n)) nothing (part x l.i) c.piece.result (Tried.Whole _ _) c.in-Whole.is c.piece.ensures) in (m.3, omega (arith, m.1), m.0)

-- src/lib.rt:273:26
-- src/lib.rt:273:52
pub overflow_add-result-in-Stuck : goal.overflow_add-result-in-Stuck
overflow_add-result-in-Stuck c = let l = c.loop-i in let x = c.args.x.now in omega (arith, stuck_reached x l.i (255 - l.n) _ (read_as (PieceSpelling (255 - l.n)) nothing (part x l.i) c.piece.result (Tried.Stuck _) c.in-Stuck.is c.piece.ensures))

-- src/lib.rt:273:32
pub returns-in-Stuck : goal.returns-in-Stuck
returns-in-Stuck c = let l = c.loop-i in let x = c.args.x.now in string_stuck x l.i l.n l.invariant.0 l.invariant.1 l.invariant.2 _ c.if-x-i-eq34.false (read_as (PieceSpelling (255 - l.n)) nothing (part x l.i) c.piece.result (Tried.Stuck _) c.in-Stuck.is c.piece.ensures)

-- src/lib.rt:253:1
pub returns : goal.returns
returns c = let l = c.loop-i in string_open c.args.x.now l.i l.n l.invariant.0 l.invariant.1 l.invariant.2 (omega arith)
