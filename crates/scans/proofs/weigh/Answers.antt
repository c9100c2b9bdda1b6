use Rattle.std.specs.Prelude.{Option as Taken}
use mathlib.Core.Path.{ap, ◌∙◌}
use mathlib.Core.Bool.{false}
use Prim.Native.Nat.{ℕ}
use Rattle.scans.proofs.Limits.{scan}
use Rattle.scans.proofs.weigh.Goals as goal

pub returns : goal.returns
returns c =
    let a = c.args in
    record { size = c.measure-size.result; sized = c.measure-size.ensures; is = c.standing.ensures ∙ ap (λ (n : Taken ℕ). scan false n a.next a.k) c.limit-halt.ensures }
