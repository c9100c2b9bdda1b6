use native.Mathlib.Omega.{arith}
use mathlib.Core.Path.{refl, sym, ◌∙◌}
use mathlib.Core.Bool.{true≢false}
use mathlib.Core.Option.{none}
use Rattle.programs.specs.Section.{no_program}
use Rattle.tells.specs.Tells.{holds}
use Rattle.programs.proofs.Agree.{program_some}
use Rattle.programs.proofs.Reading.{ends}
use Rattle.programs.proofs.Sections.{programs, names_none, names_start, set_out, walk_on, past_end_field, middle_field, start_field}
use Rattle.programs.proofs.field_fits.Goals as goal

pub returns-in_default : goal.returns-in_default
returns-in_default c = λ ps F. holds (none, no_program (names_none (rw c.in_default.is at c.start_named.ensures)))

pub loop-i-init : goal.loop-i-init
loop-i-init c = let a = c.args in λ ps F. set_out a.tags a.strings.now a.section.now ps a.field F

pub returns-in_default-program : goal.returns-in_default-program
returns-in_default-program c =
    let a = c.args in
    let n = names_start (rw c.in-Some.is at c.start_named.ensures) in
    λ ps F. past_end_field a.tags a.strings.now a.section.now ps a.field c.loop-i.i (c.loop-i.invariant ps F) a.second n.1 (rw c.in_default-program.is at c.program.ensures)

pub loop-i-smaller : goal.loop-i-smaller
loop-i-smaller c =
    let a = c.args in
    omega (arith, ends (programs a.tags a.strings.now) program_some (rw c.in-Some-program.is at c.program.ensures))

pub loop-i-preserved : goal.loop-i-preserved
loop-i-preserved c =
    let a = c.args in
    let n = names_start (rw c.in-Some.is at c.start_named.ensures) in
    λ ps F. walk_on a.tags a.strings.now a.section.now ps a.field c.loop-i.i (c.loop-i.invariant ps F) (omega (arith, c.loop-i-test.true, n.0)) (rw c.in-Some-program.is at c.program.ensures)

pub returns-then-i-start : goal.returns-then-i-start
returns-then-i-start c =
    let a = c.args in
    let n = names_start (rw c.in-Some.is at c.start_named.ensures) in
    λ ps F. middle_field a.tags a.strings.now a.section.now ps a.field c.loop-i.i (c.loop-i.invariant ps F) a.second n.1 (omega (arith, c.loop-i-test.false, c.if-i-start.true, n.0))

pub returns-in_default-program-2 : goal.returns-in_default-program-2
returns-in_default-program-2 c =
    let a = c.args in
    let n = names_start (rw c.in-Some.is at c.start_named.ensures) in
    λ ps F. past_end_field a.tags a.strings.now a.section.now ps a.field c.loop-i.i (c.loop-i.invariant ps F) a.second n.1 (rw c.in_default-program-2.is at c.program-2.ensures)

pub returns-then-second : goal.returns-then-second
returns-then-second c =
    let a = c.args in
    let n = names_start (rw c.in-Some.is at c.start_named.ensures) in
    λ ps F. start_field a.tags a.strings.now a.section.now ps a.field c.loop-i.i (c.loop-i.invariant ps F) a.second n.1 (c.if-i-start.false ∙ n.0) (rw c.in-Some-program-2.is at c.program-2.ensures) _ (λ e. absurd (true≢false (sym c.if-second.true ∙ e))) (λ e. refl)

pub returns-else-second : goal.returns-else-second
returns-else-second c =
    let a = c.args in
    let n = names_start (rw c.in-Some.is at c.start_named.ensures) in
    λ ps F. start_field a.tags a.strings.now a.section.now ps a.field c.loop-i.i (c.loop-i.invariant ps F) a.second n.1 (c.if-i-start.false ∙ n.0) (rw c.in-Some-program-2.is at c.program-2.ensures) _ (λ e. refl) (λ e. absurd (true≢false (sym e ∙ c.if-second.false)))
