use mathlib.Core.Path.{sym, subst}
use Rattle.std.specs.Prelude.{Option as Taken}
use Rattle.visits.specs.Performed.{PerformedAs}
use Rattle.visits.specs.declared.Performed.{Performed}
use Rattle.visits.proofs.Performing.{went_on, was_rejected}
use Rattle.visits.proofs.perform_at.Goals as goal

-- The list that lies at the offset is run in the section, with the sheet's tags and strings.
pub returns-in_err-r : goal.returns-in_err-r
returns-in_err-r c =
    subst (λ (r : Taken Performed). PerformedAs c.args.s.now c.args.field c.args.kept c.args.env (record { write = c.args.write; lent = c.args.out.now; at = c.args.at }) r c.list.new.out) (sym c.from_residual.ensures) (was_rejected c.args.s.now c.args.l c.requires.laid_out c.args.field c.args.kept c.args.env (record { write = c.args.write; lent = c.args.out.now; at = c.args.at }) c.requires.at_bound.2 _ c.in_err-r.ensures)

pub returns : goal.returns
returns c = went_on c.args.s.now c.args.l c.requires.laid_out c.args.field c.args.kept c.args.env (record { write = c.args.write; lent = c.args.out.now; at = c.args.at }) c.requires.at_bound.2 _ _ c.in_ok-r.ensures
