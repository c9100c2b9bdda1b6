use mathlib.Core.Path.{refl, sym, ap, ◌∙◌}
use mathlib.Core.List.{List}
use native.Mathlib.Omega.{arith}
use native.Mathlib.Numerals.{add-one}
use lib.ListN.{length-set}
use borrow.Author.Rules.{rules}
use Rattle.state.specs.declared.Saved.{Saved}
use Rattle.state.specs.Changes.{bare_saved}
use Rattle.state.proofs.Laws.{length_mapped}
use Rattle.state.proofs.Tidy.{bare_more, bare_none}
use Rattle.state.proofs.Frame.tidy.Goals as goal

pub loop-i-init : goal.loop-i-init
loop-i-init c = (search (length_mapped, rules), refl)

pub bounds-saved-i : goal.bounds-saved-i
bounds-saved-i c = search rules

pub loop-i-preserved : goal.loop-i-preserved
loop-i-preserved c =
    let l = c.loop-i in (
      length-set l.saved l.i _ ∙ l.invariant.0,
      rw (c.bare-none.ensures, add-one) (bare_more bare_saved l.i l.saved ∙ l.invariant.1),
    )

pub returns : goal.returns
returns c =
    let l = c.loop-i in
    let f = c.args.self in
    ap (λ (sets : List Saved). record { production = f.production; place = f.place; «open» = f.«open»; saved = sets })
    (sym (bare_none bare_saved l.i l.saved (omega (arith, l.invariant.0))) ∙ l.invariant.1)
