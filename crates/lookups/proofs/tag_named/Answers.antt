use mathlib.Core.Bool.{true, false}
use native.Mathlib.Omega.{arith}
use borrow.Author.Count.{below_more}
use borrow.Author.Rules.{rules}
use Rattle.sheet.proofs.TagLaws.{tag_ends}
use Rattle.lookups.proofs.Firsts.{tag_tells, tag_found, no_tag_found}
use Rattle.lookups.proofs.tag_named.Goals as goal

pub loop-t-init : goal.loop-t-init
loop-t-init c = λ k z. absurd (omega arith)

pub slice_bounds-has_name-end : goal.slice_bounds-has_name-end
slice_bounds-has_name-end c =
    tag_ends c.args.s.now c.args.l c.requires c.loop-t.t c.loop-t.t (search rules) (omega arith)

pub returns-then-has_name : goal.returns-then-has_name
returns-then-has_name c =
    let here = tag_tells c.args.s.now c.args.l c.requires c.args.name.now c.loop-t.t true c.has_name.ensures c.if-has_name.true in
    tag_found c.args.s.now c.args.name.now c.loop-t.t (search rules) (omega (arith, c.requires.layout_is.tags_is.is)) c.loop-t.invariant here

pub loop-t-preserved : goal.loop-t-preserved
loop-t-preserved c =
    below_more _ _ c.loop-t.invariant (tag_tells c.args.s.now c.args.l c.requires c.args.name.now c.loop-t.t false c.has_name.ensures c.if-has_name.false)

pub returns : goal.returns
returns c =
    no_tag_found c.args.s.now c.args.name.now (λ k z. c.loop-t.invariant k (omega (arith, c.requires.layout_is.tags_is.is)))
