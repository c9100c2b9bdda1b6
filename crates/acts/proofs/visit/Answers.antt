use mathlib.Core.Path.{ap, sym, subst}
use Rattle.std.specs.Prelude.{Option as Taken}
use native.Mathlib.Omega.{arith}
use Rattle.live.specs.Live.{full}
use Rattle.live.specs.declared.Live.{Live}
use Rattle.acts.specs.declared.Acted.{Acted}
use Rattle.acts.specs.Seen.{seen_if}
use Rattle.acts.specs.Visited.{VisitedAs}
use Rattle.acts.proofs.Acting.{rejected_visit, a_visit}
use Rattle.acts.proofs.visit.Goals as goal

-- The program that the field names, performed; the state changed by it.
pub returns-in_err-done : goal.returns-in_err-done
returns-in_err-done c =
    λ b. subst (λ (r : Taken Acted). VisitedAs c.args.s.now c.args.q c.args.i c.args.again c.args.kept (full c.args.z b) (record { write = c.args.write; lent = c.args.out.now; at = c.args.at }) (seen_if r b) c.perform.new.out) (sym c.from_residual.ensures)
    (rejected_visit c.args.s.now c.args.q c.args.i c.field_of-field.result c.args.kept (full c.args.z b) (record { write = c.args.write; lent = c.args.out.now; at = c.args.at }) _ c.in_err-done.ensures c.args.again c.field_of-field.ensures)

pub returns : goal.returns
returns c =
    λ b. a_visit c.args.s.now c.args.q c.args.i c.field_of-field.result c.args.kept (full c.args.z b) (record { write = c.args.write; lent = c.args.out.now; at = c.args.at }) _ _ c.in_ok-done.ensures c.args.again c.field_of-field.ensures _ (ap (λ (h : Live). full h b) c.with_env.ensures)

pub overflow_add-z : goal.overflow_add-z
overflow_add-z c = omega (arith, c.requires.count_bound)
