use borrow.Author.Rules.{rules}
use mathlib.Core.Path.{refl, ◌∙◌}
use Prim.Native.Nat.{◌<◌}
use native.Mathlib.Omega.{arith}
use lib.ListN.{length, get_or}
use Rattle.printer.proofs.Laws.{string_short, next_length, next_put, all_put}
use Rattle.printer.proofs.put_characters.Goals as goal

pub loop-b-init : goal.loop-b-init
loop-b-init c = (omega arith, refl, refl, refl)

pub put_in_string-n-requires : goal.put_in_string-n-requires
put_in_string-n-requires c = omega (arith, c.loop-b.invariant.0, c.requires)

pub loop-b-preserved : goal.loop-b-preserved
loop-b-preserved c =
    let a = c.args in
    let f = a.f.now in
    let h : c.loop-b.b-index < length f = omega arith in
    let P = c.put_in_string-n.ensures in (
      omega (arith, h, c.loop-b.invariant.0, P.next, string_short (get_or f c.loop-b.b-index 0)),
      search rules,
      next_length a.write c.loop-b.out _ c.loop-b.n _ c.loop-b.b-index f h P ∙ c.loop-b.invariant.2,
      next_put a.write c.loop-b.out _ c.loop-b.n _ c.loop-b.b-index f h P ∙ c.loop-b.invariant.3,
    )

pub shape_of-out : goal.shape_of-out
shape_of-out c = c.loop-b.invariant.1

pub returns : goal.returns
returns c =
    let a = c.args in
    all_put a.write a.out.now c.loop-b.out a.at c.loop-b.n c.loop-b.b-index a.f.now (omega arith) c.loop-b.invariant.2 c.loop-b.invariant.3
