use native.Mathlib.Omega.{arith}
use Rattle.salvaging.proofs.Words.{stands_here, waits_here, passes_here, passed_all, none_yet}
use Rattle.salvaging.proofs.resumption.Goals as goal

pub loop-at-init : goal.loop-at-init
loop-at-init c = let a = c.args in none_yet a.first.now a.second.now a.part.now a.from

pub returns-in-Whole : goal.returns-in-Whole
returns-in-Whole c =
    let a = c.args in
    stands_here a.first.now a.second.now a.part.now a.from c.loop-at.at _ c.either.ensures (omega arith) (omega arith)
    c.loop-at.invariant c.in-Whole.is

pub returns-in-Begun : goal.returns-in-Begun
returns-in-Begun c =
    let a = c.args in
    waits_here a.first.now a.second.now a.part.now a.from c.loop-at.at _ c.either.ensures (omega arith) (omega arith)
    c.loop-at.invariant c.in-Begun.is

pub loop-at-preserved : goal.loop-at-preserved
loop-at-preserved c =
    let a = c.args in
    passes_here a.first.now a.second.now a.part.now a.from c.loop-at.at _ c.either.ensures c.loop-at.invariant c.in-No.is

pub returns : goal.returns
returns c =
    let a = c.args in
    passed_all a.first.now a.second.now a.part.now a.from c.loop-at.at (omega arith) c.loop-at.invariant
