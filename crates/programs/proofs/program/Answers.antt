use native.Mathlib.Omega.{arith}
use mathlib.Core.Path.{◌≡◌, ap}
use Prim.Native.Nat.{ℕ, ◌+◌, ◌-◌, min}
use lib.ListN.{length, take}
use Rattle.programs.proofs.Agree.{program_some}
use Rattle.programs.proofs.Reading.{past_end}
use Rattle.programs.proofs.Sections.{programs, within}
use Rattle.programs.proofs.program.Goals as goal

-- A program that fits has at most 256 bytes, so it lies at i exactly when it lies there in the bytes up to i + 256. Assumes nothing.
pub returns-then-section-i : goal.returns-then-section-i
returns-then-section-i c = let a = c.args in past_end (programs a.tags a.strings.now) program_some c.if-section-i.true

pub returns : goal.returns
returns c =
    let a = c.args in
    let s = a.section.now in
    let e : a.i + c.min.result - 0 ≡ a.i + min (length s - a.i) 256 = omega arith in
    within s a.i (omega arith) a.tags a.strings.now _ (ap (λ (n : ℕ). take n s) e) c.list.ensures
