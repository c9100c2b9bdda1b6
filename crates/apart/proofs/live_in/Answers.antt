use mathlib.Core.Path.{sym, subst}
use Prim.Native.Nat.{◌≤◌}
use Rattle.runs.specs.Machine.{most}
use Rattle.state.specs.declared.Heading.{Heading}
use Rattle.apart.proofs.Parting.{deep_in, read_live}
use Rattle.apart.proofs.live_in.Goals as goal

-- The head as it is read, and the innermost element.
pub innermost-requires : goal.innermost-requires
innermost-requires c =
    subst (λ (h : Heading). h.depth ≤ most) (sym c.heading_at-h.ensures) (deep_in c.args.bytes.now c.requires)

pub returns : goal.returns
returns c =
    let h = c.heading_at-h in
    let b = c.args.bytes.now in
    read_live b h.result c.root_closed.result c.innermost.result h.ensures
    (subst (λ (x : Heading). x.depth ≤ most) (sym h.ensures) (deep_in b c.requires)) c.root_closed.ensures c.innermost.ensures
