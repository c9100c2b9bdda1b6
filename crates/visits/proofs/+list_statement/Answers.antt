use mathlib.Core.Path.{refl, sym, subst}
use native.Mathlib.Omega.{arith}
use Rattle.std.specs.Prelude.{Option as Taken}
use Rattle.visits.specs.Ran.{RanAs, lists, statements}
use Rattle.visits.specs.declared.Ran.{Ran}
use Rattle.visits.proofs.Running.{list_short, list_done, list_goes, list_stops, branch_goes, branch_stops}
use Rattle.visits.proofs.+list_statement.Goals as goal

pub list-returns-then-s-i : goal.list-returns-then-s-i
list-returns-then-s-i t c = list_short (record { section = c.args.s.now; tags = c.args.tags.now; strings = c.args.strings.now }) c.args.i c.args.kept c.args.env c.args.live (record { write = c.args.write; lent = c.args.out.now; at = c.args.at }) c.if-s-i.true

pub list-returns-then-s-i-eq0 : goal.list-returns-then-s-i-eq0
list-returns-then-s-i-eq0 t c = list_done (record { section = c.args.s.now; tags = c.args.tags.now; strings = c.args.strings.now }) c.args.i c.args.kept c.args.env c.args.live (record { write = c.args.write; lent = c.args.out.now; at = c.args.at }) (omega (arith, c.if-s-i.false)) c.if-s-i-eq0.true

pub list-returns-in_err-l : goal.list-returns-in_err-l
list-returns-in_err-l t c =
    subst (λ (r : Taken Ran). RanAs lists (record { section = c.args.s.now; tags = c.args.tags.now; strings = c.args.strings.now }) c.args.i c.args.kept c.args.env c.args.live (record { write = c.args.write; lent = c.args.out.now; at = c.args.at }) r c.statement.new.out) (sym c.from_residual.ensures) (list_stops (record { section = c.args.s.now; tags = c.args.tags.now; strings = c.args.strings.now }) c.args.i c.args.kept c.args.env c.args.live (record { write = c.args.write; lent = c.args.out.now; at = c.args.at }) (omega (arith, c.if-s-i.false)) c.if-s-i-eq0.false _ c.in_err-l.ensures)

pub list-returns : goal.list-returns
list-returns t c =
    list_goes (record { section = c.args.s.now; tags = c.args.tags.now; strings = c.args.strings.now }) c.args.i c.args.kept c.args.env c.args.live (record { write = c.args.write; lent = c.args.out.now; at = c.args.at }) (omega (arith, c.if-s-i.false)) c.if-s-i-eq0.false _ _ c.in_ok-l.ensures _ _ c.list.ensures

pub statement-returns-then-s-i-ne10 : goal.statement-returns-then-s-i-ne10
statement-returns-then-s-i-ne10 t c = c.plain.ensures

pub statement-list-requires-2 : goal.statement-list-requires-2
statement-list-requires-2 t c =
    let l = c.in_ok-l.ensures in
    omega (arith, c.decreases, c.requires.0, c.requires.1, c.requires.2, c.condition-c.ensures.low, l.low, l.high, l.reach)

pub statement-returns-in_err-l : goal.statement-returns-in_err-l
statement-returns-in_err-l t c =
    subst (λ (r : Taken Ran). RanAs statements (record { section = c.args.s.now; tags = c.args.tags.now; strings = c.args.strings.now }) c.args.i c.args.kept c.args.env c.args.live (record { write = c.args.write; lent = c.args.out.now; at = c.args.at }) r c.list.new.out) (sym c.from_residual.ensures) (branch_stops (record { section = c.args.s.now; tags = c.args.tags.now; strings = c.args.strings.now }) c.args.i c.args.kept c.args.env c.args.live (record { write = c.args.write; lent = c.args.out.now; at = c.args.at }) c.requires.0 c.if-s-i-ne10.false _ c.condition-c.ensures _ refl _ c.in_err-l.ensures)

pub statement-returns : goal.statement-returns
statement-returns t c =
    branch_goes (record { section = c.args.s.now; tags = c.args.tags.now; strings = c.args.strings.now }) c.args.i c.args.kept c.args.env c.args.live (record { write = c.args.write; lent = c.args.out.now; at = c.args.at }) c.requires.0 c.if-s-i-ne10.false _ c.condition-c.ensures _ refl _ _ c.in_ok-l.ensures _ refl _ _ c.list-2.ensures
