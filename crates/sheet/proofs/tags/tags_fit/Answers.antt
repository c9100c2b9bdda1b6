use native.Mathlib.Omega.{arith}
use borrow.Author.Count.{below_more}
use Rattle.tells.specs.Tells.{holds, fails}
use Rattle.tells.proofs.Laws.{told, not_told}
use Rattle.sheet.proofs.TagLaws.{tag_part, tags_from, from_tags}
use Rattle.sheet.proofs.tags.tags_fit.Goals as goal

pub returns-then-not-is_tag : goal.returns-then-not-is_tag
returns-then-not-is_tag c =
    let s = c.args.s.now in
    let l = c.args.l in
    let p = c.requires in
    let t = c.loop-t.t in
    let e = rw (tag_part s l p t) at c.is_tag.ensures in
    fails (λ h. not_told e c.if-not-is_tag.true (from_tags s h t (omega (arith, p.layout_is.tags_is.is))).0)

pub returns-then-not-is_new : goal.returns-then-not-is_new
returns-then-not-is_new c =
    let s = c.args.s.now in
    let p = c.requires in
    let t = c.loop-t.t in
    fails (λ h. not_told c.is_new.ensures c.if-not-is_new.true (from_tags s h t (omega (arith, p.layout_is.tags_is.is))).1)

pub loop-t-preserved : goal.loop-t-preserved
loop-t-preserved c =
    let s = c.args.s.now in
    let l = c.args.l in
    let p = c.requires in
    let t = c.loop-t.t in
    let e = rw (tag_part s l p t) at c.is_tag.ensures in
    below_more _ _ c.loop-t.invariant (told e c.if-not-is_tag.false, told c.is_new.ensures c.if-not-is_new.false)

pub returns : goal.returns
returns c =
    let s = c.args.s.now in
    let p = c.requires in
    holds (tags_from s (λ k z. c.loop-t.invariant k (omega (arith, p.layout_is.tags_is.is))))
