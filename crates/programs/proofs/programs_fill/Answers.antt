use native.Mathlib.Omega.{arith}
use lib.ListN.{drop, length-drop}
use Rattle.tells.specs.Tells.{holds, fails}
use Rattle.programs.proofs.Agree.{program_some}
use Rattle.programs.proofs.Reading.{ends}
use Rattle.programs.proofs.Sections.{programs, nothing_fills, past_program, no_filling}
use Rattle.programs.proofs.programs_fill.Goals as goal

pub loop-i-init : goal.loop-i-init
loop-i-init c = (omega arith, λ w. w, λ w. w)

pub returns-in_default : goal.returns-in_default
returns-in_default c =
    let a = c.args in
    fails (λ w. no_filling a.tags a.strings.now a.section.now c.loop-i.i c.loop-i-test.true (rw c.in_default.is at c.program.ensures) (c.loop-i.invariant.2 w))

pub loop-i-smaller : goal.loop-i-smaller
loop-i-smaller c =
    let a = c.args in
    omega (arith, ends (programs a.tags a.strings.now) program_some (rw c.in-Some.is at c.program.ensures))

pub loop-i-preserved : goal.loop-i-preserved
loop-i-preserved c =
    let a = c.args in
    let r = rw c.in-Some.is at c.program.ensures in
    let w = past_program a.tags a.strings.now a.section.now c.loop-i.i r in
    (omega (arith, ends (programs a.tags a.strings.now) program_some r), λ x. c.loop-i.invariant.1 (w.0 x), λ x. w.1 (c.loop-i.invariant.2 x))

pub returns : goal.returns
returns c =
    let a = c.args in
    holds (c.loop-i.invariant.1 (nothing_fills a.tags a.strings.now (drop c.loop-i.i a.section.now) (omega (arith, length-drop c.loop-i.i a.section.now))))
