use Prim.Native.Nat.{◌-◌}
use native.Mathlib.Omega.{arith}
use mathlib.Core.Logic.{inl, inr}
use Rattle.programs.proofs.Agree.{condition_agree, condition_some}
use Rattle.programs.proofs.Reading.{past_end, ends, unread, no_second, in_turn_lem}
use Rattle.programs.proofs.Forms.{conditions, no_condition, no_inside, negated_at, double_at}
use Rattle.programs.proofs.+condition.Goals as goal

pub returns-then-s-i : goal.returns-then-s-i
returns-then-s-i t c = past_end (conditions c.args.room) condition_some c.if-s-i.true

pub returns-then-k-gt3 : goal.returns-then-k-gt3
returns-then-k-gt3 t c =
    let a = c.args in
    no_condition a.s.now a.i (omega (arith, c.if-s-i.false)) a.room c.if-k-eq0.false (inr c.if-k-gt3.true)

pub returns-then-room-eq0 : goal.returns-then-room-eq0
returns-then-room-eq0 t c =
    let a = c.args in
    no_condition a.s.now a.i (omega (arith, c.if-s-i.false)) a.room c.if-k-eq0.false (inl c.if-room-eq0.true)

pub returns-in_err-one : goal.returns-in_err-one
returns-in_err-one t c =
    let a = c.args in
    unread (conditions a.room) c.from_residual.ensures
    (no_inside a.s.now a.i (omega (arith, c.if-s-i.false)) a.room c.if-k-eq0.false c.if-room-eq0.false (omega (arith, c.if-k-gt3.false)) c.in_err-one.ensures)

pub returns-then-k-eq1 : goal.returns-then-k-eq1
returns-then-k-eq1 t c =
    let a = c.args in
    negated_at a.s.now a.i (omega (arith, c.if-s-i.false)) a.room c.if-k-eq0.false c.if-room-eq0.false c.if-k-eq1.true c.in_ok-one.ensures

pub condition-requires-2 : goal.condition-requires-2
condition-requires-2 t c =
    let a = c.args in
    omega (arith, ends (conditions (a.room - 1)) condition_some c.in_ok-one.ensures)

pub returns-in_err-two : goal.returns-in_err-two
returns-in_err-two t c =
    let a = c.args in
    unread (conditions a.room) c.from_residual-in_err-two.ensures
    (double_at a.s.now a.i (omega (arith, c.if-s-i.false)) a.room c.if-k-eq0.false c.if-room-eq0.false c.if-k-eq1.false (omega (arith, c.if-k-gt3.false)) (no_second (conditions (a.room - 1)) (conditions (a.room - 1)) condition_agree c.in_ok-one.ensures c.in_err-two.ensures))

pub returns : goal.returns
returns t c =
    let a = c.args in
    double_at a.s.now a.i (omega (arith, c.if-s-i.false)) a.room c.if-k-eq0.false c.if-room-eq0.false c.if-k-eq1.false (omega (arith, c.if-k-gt3.false)) (in_turn_lem (conditions (a.room - 1)) (conditions (a.room - 1)) c.in_ok-one.ensures c.in_ok-two.ensures c.in_turn.ensures)
