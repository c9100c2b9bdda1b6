use mathlib.Core.Path.{ap, ◌∙◌}
use mathlib.Core.Bool.{Bool, not, cond}
use mathlib.Core.Option.{some}
use native.Mathlib.Omega.{arith}
use Rattle.state.specs.Meaning.{meaning_of}
use Rattle.live.specs.Live.{full}
use Rattle.converter.proofs.Entering.{begun_more, begun_left, begun_open, begun_closed}
use Rattle.converter.proofs.number_begun.Goals as goal

-- By what is left of the part, and then by where the state stands.
pub returns-then-left-gt0 : goal.returns-then-left-gt0
returns-then-left-gt0 c =
    let a = c.args in λ b s.
    begun_left (not a.ended) a.left (meaning_of (full a.z b)).control (ap not c.if-ended.true) (omega (arith, c.if-left-gt0.true))

pub returns-then-z-gt0 : goal.returns-then-z-gt0
returns-then-z-gt0 c =
    let a = c.args in λ b s.
    begun_open (not a.ended) a.left (full a.z b) (ap not c.if-ended.true) (omega (arith, c.if-left-gt0.false)) s (omega (arith, c.if-z-gt0.true))

pub returns-then-z : goal.returns-then-z
returns-then-z c =
    let a = c.args in λ b s.
    begun_closed (not a.ended) a.left (full a.z b) (ap not c.if-ended.true) (omega (arith, c.if-left-gt0.false)) (omega (arith, c.if-z-gt0.false))
    ∙ ap (λ (b : Bool). some (cond b 0 27)) c.if-z.true

pub returns-else-z : goal.returns-else-z
returns-else-z c =
    let a = c.args in λ b s.
    begun_closed (not a.ended) a.left (full a.z b) (ap not c.if-ended.true) (omega (arith, c.if-left-gt0.false)) (omega (arith, c.if-z-gt0.false))
    ∙ ap (λ (b : Bool). some (cond b 0 27)) c.if-z.false

pub returns-else-ended : goal.returns-else-ended
returns-else-ended c =
    let a = c.args in λ b s.
    begun_more (not a.ended) a.left (meaning_of (full a.z b)).control (ap not c.if-ended.false)
