use mathlib.Core.Path.{◌≡◌, subst}
use native.Mathlib.Omega.{arith}
use lib.ListN.{length-take, replicate}
use Rattle.strokes.specs.Strokes.{written_on}
use Rattle.pages.specs.Pages.{page_text}
use Rattle.pages.proofs.Texts.{none_written, zeros_more}
use Rattle.pages.proofs.Page.zeros.Goals as goal

pub loop-init : goal.loop-init
loop-init c = let p = c.args.self in (c.requires, none_written (page_text p) (omega (arith, length-take p.len p.bytes, c.requires)))

pub push-page-requires : goal.push-page-requires
push-page-requires c = c.loop.invariant.0

pub loop-preserved : goal.loop-preserved
loop-preserved c = (c.push-page.ensures.short, zeros_more (page_text c.args.self) (page_text c.loop.page) _ c.loop.counter c.push-page.ensures.text c.loop.invariant.1)

pub returns : goal.returns
returns c =
    let e : c.loop.counter ≡ c.args.n = omega arith in
    record { short = c.loop.invariant.0; text = subst (λ k. page_text c.loop.page ≡ written_on (page_text c.args.self) (replicate k 0)) e c.loop.invariant.1 }
