use mathlib.Core.Path.{ap, ◌∙◌}
use borrow.Author.Rules.{rules}
use Prim.Native.Nat.{ℕ}
use Rattle.state.specs.declared.Heading.{Heading}
use Rattle.converter.proofs.InPlace.{count_in}
use Rattle.salvages.proofs.untouched.Goals as goal

-- The count that the heading has is the state's.
-- Assumes nothing.
pub returns : goal.returns
returns c =
    ap (λ (n : ℕ). record { number = c.args.number; taken = 0; written = 0; reported = 0; waited = 0; visits = n }) (ap (λ (x : Heading). x.count) c.heading_at-h.ensures ∙ count_in c.args.state.now)
