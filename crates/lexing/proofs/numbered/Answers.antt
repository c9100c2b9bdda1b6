use native.Mathlib.Omega.{arith}
use mathlib.Core.Path.{sym, subst}
use mathlib.Core.Bool.{true}
use mathlib.Core.List.{◌++◌}
use Rattle.notation.specs.Tokens.{decimal}
use Rattle.lexing.specs.declared.Tried.{Tried}
use Rattle.lexing.specs.Reads.{stops_at, Halts, OneSpelling, NumberBehind}
use Rattle.lexing.proofs.Sorts.{numbers_none, numbers_more, number_found, numbers_done, read_as}
use Rattle.lexing.proofs.numbered.Goals as goal

pub loop-n-init : goal.loop-n-init
loop-n-init c = let a = c.args in numbers_none a.a.now a.x.now

pub returns-in-Whole : goal.returns-in-Whole
returns-in-Whole c =
    let a = c.args in
    number_found a.a.now a.x.now c.loop-n.n a.count _ _ (omega arith)
    (read_as (OneSpelling (a.a.now ++ decimal c.loop-n.n) c.loop-n.n) (stops_at true) a.x.now c.one_number.result (Tried.Whole _ _) c.in-Whole.is c.one_number.ensures)

pub loop-n-preserved : goal.loop-n-preserved
loop-n-preserved c =
    let a = c.args in
    subst (Halts (NumberBehind a.a.now _) (stops_at true) a.x.now) (sym c.larger-best.ensures) (numbers_more a.a.now a.x.now c.loop-n.n c.loop-n.best _ c.loop-n.invariant
    (read_as (OneSpelling (a.a.now ++ decimal c.loop-n.n) c.loop-n.n) (stops_at true) a.x.now c.one_number.result (Tried.Stuck _) c.in-Stuck.is c.one_number.ensures))

pub returns : goal.returns
returns c = let a = c.args in numbers_done a.a.now a.x.now c.loop-n.n a.count c.loop-n.best (omega arith) c.loop-n.invariant
