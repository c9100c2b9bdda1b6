use mathlib.Core.Path.{sym, ap, ◌∙◌}
use Prim.Native.Nat.{ℕ}
use Rattle.apart.specs.Apart.{innermost_in}
use Rattle.apart.proofs.Parting.{innermost_is}
use Rattle.apart.proofs.innermost.Goals as goal

-- By the test for an open element.
pub returns-then-depth-eq0 : goal.returns-then-depth-eq0
returns-then-depth-eq0 c =
    let b = c.args.bytes.now in
    c.bare.ensures ∙ sym (ap (λ (d : ℕ). innermost_in d b) c.if-depth-eq0.true)

pub returns : goal.returns
returns c =
    let a = c.args in
    c.used_at.ensures ∙ innermost_is a.depth a.bytes.now c.if-depth-eq0.false
