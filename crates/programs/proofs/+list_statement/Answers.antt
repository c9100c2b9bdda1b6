use Prim.Native.Nat.{◌-◌}
use native.Mathlib.Omega.{arith}
use Rattle.programs.proofs.Agree.{condition_agree, condition_some, statement_agree, statement_some, program_agree, program_some}
use Rattle.programs.proofs.Reading.{past_end, ends, unread, then, no_first, no_second, in_turn_lem}
use Rattle.programs.proofs.Forms.{conditions, statements, lists, no_room, branch_at, done_at, step_at}
use Rattle.programs.proofs.+list_statement.Goals as goal

pub list-returns-then-s-i : goal.list-returns-then-s-i
list-returns-then-s-i t c = let a = c.args in past_end (lists a.tags a.strings.now a.room) program_some c.if-s-i.true

pub list-returns-then-s-i-eq0 : goal.list-returns-then-s-i-eq0
list-returns-then-s-i-eq0 t c = let a = c.args in done_at a.s.now a.i (omega (arith, c.if-s-i.false)) a.tags a.strings.now a.room c.if-s-i-eq0.true c.for_both.ensures

pub list-returns-in_err-one : goal.list-returns-in_err-one
list-returns-in_err-one t c =
    let a = c.args in
    unread (lists a.tags a.strings.now a.room) c.from_residual.ensures
    (step_at a.s.now a.i (omega (arith, c.if-s-i.false)) a.tags a.strings.now a.room c.if-s-i-eq0.false (no_first (statements a.tags a.strings.now a.room) (lists a.tags a.strings.now a.room) c.in_err-one.ensures))

pub list-list-requires : goal.list-list-requires
list-list-requires t c =
    let a = c.args in
    omega (arith, ends (statements a.tags a.strings.now a.room) statement_some c.in_ok-one.ensures)

pub list-returns-in_err-rest : goal.list-returns-in_err-rest
list-returns-in_err-rest t c =
    let a = c.args in
    unread (lists a.tags a.strings.now a.room) c.from_residual-in_err-rest.ensures
    (step_at a.s.now a.i (omega (arith, c.if-s-i.false)) a.tags a.strings.now a.room c.if-s-i-eq0.false (no_second (statements a.tags a.strings.now a.room) (lists a.tags a.strings.now a.room) statement_agree c.in_ok-one.ensures c.in_err-rest.ensures))

pub list-returns : goal.list-returns
list-returns t c =
    let a = c.args in
    step_at a.s.now a.i (omega (arith, c.if-s-i.false)) a.tags a.strings.now a.room c.if-s-i-eq0.false (in_turn_lem (statements a.tags a.strings.now a.room) (lists a.tags a.strings.now a.room) c.in_ok-one.ensures c.in_ok-rest.ensures c.in_turn.ensures)

pub statement-returns-then-s-i-ne10 : goal.statement-returns-then-s-i-ne10
statement-returns-then-s-i-ne10 t c = c.plain.ensures c.args.room

pub statement-returns-then-room-eq0 : goal.statement-returns-then-room-eq0
statement-returns-then-room-eq0 t c = no_room c.args.s.now c.args.i c.requires c.args.tags c.args.strings.now c.args.room c.if-s-i-ne10.false c.if-room-eq0.true

pub statement-returns-in_err-test : goal.statement-returns-in_err-test
statement-returns-in_err-test t c =
    unread (statements c.args.tags c.args.strings.now c.args.room) c.from_residual.ensures
    (branch_at c.args.s.now c.args.i c.requires c.args.tags c.args.strings.now c.args.room c.if-s-i-ne10.false c.if-room-eq0.false (no_first (conditions (c.args.room - 1)) (then (lists c.args.tags c.args.strings.now (c.args.room - 1)) (lists c.args.tags c.args.strings.now (c.args.room - 1))) c.in_err-test.ensures))

pub statement-list-requires : goal.statement-list-requires
statement-list-requires t c =
    omega (arith, ends (conditions (c.args.room - 1)) condition_some c.in_ok-test.ensures)

pub statement-returns-in_err-met : goal.statement-returns-in_err-met
statement-returns-in_err-met t c =
    unread (statements c.args.tags c.args.strings.now c.args.room) c.from_residual-in_err-met.ensures
    (branch_at c.args.s.now c.args.i c.requires c.args.tags c.args.strings.now c.args.room c.if-s-i-ne10.false c.if-room-eq0.false (no_second (conditions (c.args.room - 1)) (then (lists c.args.tags c.args.strings.now (c.args.room - 1)) (lists c.args.tags c.args.strings.now (c.args.room - 1))) condition_agree c.in_ok-test.ensures (no_first (lists c.args.tags c.args.strings.now (c.args.room - 1)) (lists c.args.tags c.args.strings.now (c.args.room - 1)) c.in_err-met.ensures)))

pub statement-list-requires-2 : goal.statement-list-requires-2
statement-list-requires-2 t c =
    omega (arith, ends (conditions (c.args.room - 1)) condition_some c.in_ok-test.ensures, ends (lists c.args.tags c.args.strings.now (c.args.room - 1)) program_some c.in_ok-met.ensures)

pub statement-returns-in_err-unmet : goal.statement-returns-in_err-unmet
statement-returns-in_err-unmet t c =
    unread (statements c.args.tags c.args.strings.now c.args.room) c.from_residual-in_err-unmet.ensures
    (branch_at c.args.s.now c.args.i c.requires c.args.tags c.args.strings.now c.args.room c.if-s-i-ne10.false c.if-room-eq0.false (no_second (conditions (c.args.room - 1)) (then (lists c.args.tags c.args.strings.now (c.args.room - 1)) (lists c.args.tags c.args.strings.now (c.args.room - 1))) condition_agree c.in_ok-test.ensures (no_second (lists c.args.tags c.args.strings.now (c.args.room - 1)) (lists c.args.tags c.args.strings.now (c.args.room - 1)) program_agree c.in_ok-met.ensures c.in_err-unmet.ensures)))

pub statement-returns : goal.statement-returns
statement-returns t c =
    branch_at c.args.s.now c.args.i c.requires c.args.tags c.args.strings.now c.args.room c.if-s-i-ne10.false c.if-room-eq0.false (in_turn_lem (conditions (c.args.room - 1)) (then (lists c.args.tags c.args.strings.now (c.args.room - 1)) (lists c.args.tags c.args.strings.now (c.args.room - 1))) c.in_ok-test.ensures (in_turn_lem (lists c.args.tags c.args.strings.now (c.args.room - 1)) (lists c.args.tags c.args.strings.now (c.args.room - 1)) c.in_ok-met.ensures c.in_ok-unmet.ensures c.in_turn.ensures) c.in_turn-2.ensures)
