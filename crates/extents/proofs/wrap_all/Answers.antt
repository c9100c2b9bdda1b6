use mathlib.Core.Path.{◌≡◌, refl}
use Prim.Native.Nat.{◌≤◌}
use native.Mathlib.Omega.{arith}
use borrow.Author.Rules.{rules}
use lib.ListN.{length}
use Rattle.extents.specs.Held.{most_around, bare_around}
use Rattle.extents.proofs.Parts.{length_of_structs, going_start, going_sized, going_top, going_on, wrapped_on, wrapped_over}
use Rattle.extents.proofs.wrap_all.Goals as goal

pub loop-i-init : goal.loop-i-init
loop-i-init c = (going_start _ _ _ c.requires.layers_under c.requires.extent_under, refl)

pub offset_bounds-layers-i : goal.offset_bounds-layers-i
offset_bounds-layers-i c = record { fits = omega (arith, c.loop-i.invariant.0.at_most, c.requires.n_le_most_around) }

pub bounds-layers-i : goal.bounds-layers-i
bounds-layers-i c = omega (arith, c.loop-i.invariant.0.at_most, c.requires.n_le_most_around, c.loop-i-test.true)

pub wrap-e-requires : goal.wrap-e-requires
wrap-e-requires c = let l = c.loop-i in let t = c.loop-i-test.true in let k : length c.args.layers ≡ most_around = search (length_of_structs, rules) in let m : l.i ≤ length c.args.layers = omega (arith, l.invariant.0.at_most, c.requires.n_le_most_around, k) in record { layer_under = going_top c.args.layers c.args.n l.i l.e bare_around l.invariant.0 t m; small_extent = going_sized c.requires.n_le_most_around l.invariant.0 }

pub loop-i-preserved : goal.loop-i-preserved
loop-i-preserved c = let l = c.loop-i in let t = c.loop-i-test.true in let k : length c.args.layers ≡ most_around = search (length_of_structs, rules) in let m : l.i ≤ length c.args.layers = omega (arith, l.invariant.0.at_most, c.requires.n_le_most_around, k) in (going_on c.args.layers c.args.n l.i l.e c.wrap-e.result bare_around l.invariant.0 t m c.wrap-e.ensures, wrapped_on c.args.layers l.i l.e c.wrap-e.result bare_around _ t m c.wrap-e.ensures l.invariant.1)

pub returns : goal.returns
returns c = wrapped_over _ _ _ _ c.loop-i-test.false c.loop-i.invariant.1
