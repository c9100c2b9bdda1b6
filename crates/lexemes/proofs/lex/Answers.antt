use native.Mathlib.Omega.{arith}
use mathlib.Core.Path.{sym, subst}
use mathlib.Core.Bool.{false}
use lib.ListN.{get_or}
use Rattle.lexing.specs.declared.Tried.{Tried}
use Rattle.lexing.specs.Front.{Stuck}
use Rattle.lexemes.specs.Kinds.{OfKind, MayIf}
use Rattle.lexemes.proofs.Found.{Below, kinds_none, kinds_more, kind_found, kinds_done, tried_as}
use Rattle.lexemes.proofs.lex.Goals as goal

pub loop-k-init : goal.loop-k-init
loop-k-init c = kinds_none c.args.may c.args.x.now

pub returns-in-Whole : goal.returns-in-Whole
returns-in-Whole c = kind_found c.args.may c.args.x.now c.loop-k.k _ _ (tried_as (MayIf (get_or c.args.may c.loop-k.k false) (OfKind c.loop-k.k)) c.args.x.now c.of_kind.result (Tried.Whole _ _) c.in-Whole.is c.of_kind.ensures)

pub loop-k-preserved : goal.loop-k-preserved
loop-k-preserved c = subst (Stuck (Below c.args.may _) c.args.x.now) (sym c.larger-best.ensures) (kinds_more c.args.may c.args.x.now c.loop-k.k c.loop-k.best _ c.loop-k.invariant (tried_as (MayIf (get_or c.args.may c.loop-k.k false) (OfKind c.loop-k.k)) c.args.x.now c.of_kind.result (Tried.Stuck _) c.in-Stuck.is c.of_kind.ensures))

pub returns : goal.returns
returns c = kinds_done c.args.may c.args.x.now c.loop-k.k c.loop-k.best (omega arith) c.loop-k.invariant
