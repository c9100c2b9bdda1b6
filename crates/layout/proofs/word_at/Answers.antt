use mathlib.Core.Path.{ap}
use Prim.Native.Nat.{ℕ}
use native.Mathlib.Numerals.{add-one}
use native.Mathlib.Omega.{arith}
use lib.ListN.{get_or}
use Rattle.layout.proofs.word_at.Goals as goal

-- The second byte lies at the successor of the first.
pub returns : goal.returns
returns c =
    let s = c.args.s.now in
    let i = c.args.i in
    record { is = omega (arith, ap (λ (k : ℕ). get_or s k 0) (add-one i)); below = omega arith }
