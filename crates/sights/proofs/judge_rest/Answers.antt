use mathlib.Core.Path.{◌∙◌, ap}
use native.Mathlib.Omega.{arith}
use lib.ListN.{length-drop}
use Rattle.std.specs.Prelude.{Ok, Err}
use Rattle.sights.proofs.Rest.{along_first, along_onward, along_on, rest_rules, rest_refusal, glance_as}
use Rattle.sights.proofs.judge_rest.Goals as goal

pub loop-token-init : goal.loop-token-init
loop-token-init c = along_first c.args.x.now c.args.r c.requires

pub loop-token-smaller : goal.loop-token-smaller
loop-token-smaller c =
    let l = c.loop-token in
    let x = c.args.x.now in
    let g = glance_as x l.from l.reader c.look.result (Ok c.in-Ok.token) c.in-Ok.is c.look.ensures in
    omega (arith, along_onward x c.args.r l.from l.reader l.invariant c.in-Ok.token g, g.high, length-drop l.from x, l.invariant.high)

pub loop-token-preserved : goal.loop-token-preserved
loop-token-preserved c =
    let l = c.loop-token in
    let x = c.args.x.now in
    along_on x c.args.r l.from l.reader l.invariant c.in-Ok.token (glance_as x l.from l.reader c.look.result (Ok c.in-Ok.token) c.in-Ok.is c.look.ensures)

pub returns-in-Err-Ok : goal.returns-in-Err-Ok
returns-in-Err-Ok c =
    let l = c.loop-token in
    let x = c.args.x.now in
    rest_rules x c.args.r l.from l.reader l.invariant (glance_as x l.from l.reader c.look.result (Err (Ok tt)) (c.in-Err-Ok.is ∙ ap Err c.in-Err-Ok.field-0-is) c.look.ensures)

pub returns-in-Err-Err : goal.returns-in-Err-Err
returns-in-Err-Err c =
    let l = c.loop-token in
    let x = c.args.x.now in
    rest_refusal x c.args.r l.from l.reader l.invariant c.in-Err-Err.k (glance_as x l.from l.reader c.look.result (Err (Err c.in-Err-Err.k)) (c.in-Err-Err.is ∙ ap Err c.in-Err-Err.field-0-is) c.look.ensures)
