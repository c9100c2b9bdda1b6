use borrow.Author.Rules.{rules}
use mathlib.Core.Path.{sym, subst}
use mathlib.Core.List.{[]}
use Rattle.stores.proofs.Mentioning.{empty_store}
use Rattle.hoards.specs.Hoards.{FitsIs}
use Rattle.hoards.proofs.Laws.{not_all, all_kept}
use Rattle.hoards.proofs.strings_fit.Goals as goal

-- A store without a row, of the bytes that strings may have and one end more than these; the productions' strings, and where they have room the nodes'.
pub keep_productions-requires : goal.keep_productions-requires
keep_productions-requires c = record { laid_out = c.requires; has_rows = record { rows = []; are = empty_store _ _ } }

pub keep_nodes-requires : goal.keep_nodes-requires
keep_nodes-requires c = record { laid_out = c.requires; has_rows = c.in-Some.ensures.rows }

pub returns : goal.returns
returns c =
    subst (FitsIs c.args.s.now) (sym c.is_some.ensures)
    (all_kept c.args.s.now _ _ _ _ _ (search rules) (search rules) c.keep_productions.ensures _ c.in-Some.is _ _ _ c.keep_nodes.ensures)

pub returns-in_default : goal.returns-in_default
returns-in_default c = not_all c.args.s.now _ _ _ _ _ (search rules) (search rules) c.keep_productions.ensures c.in_default.is
