use mathlib.Core.Path.{◌≡◌, refl}
use Prim.Native.Nat.{◌≤◌, ◌-◌}
use native.Mathlib.Omega.{arith}
use borrow.Author.Rules.{rules}
use lib.ListN.{length, get_or}
use Rattle.extents.specs.Held.{extent_of, most_margins, bare_margin}
use Rattle.extents.proofs.Parts.{length_of_structs, holding_start, holding_under, holding_top, holding_on, up_grows, whole_is, margins_on, margins_over}
use Rattle.extents.proofs.margin_all.Goals as goal

pub loop-i-init : goal.loop-i-init
loop-i-init c = (holding_start _ _ _ c.requires.margins_under c.requires.extent_under, refl)

pub offset_bounds-margins-i : goal.offset_bounds-margins-i
offset_bounds-margins-i c = record { fits = omega (arith, c.loop-i.invariant.0.at_most, c.requires.n_le_most_margins) }

pub bounds-margins-i : goal.bounds-margins-i
bounds-margins-i c = omega (arith, c.loop-i.invariant.0.at_most, c.requires.n_le_most_margins, c.loop-i-test.true)

pub up_to_and-requires : goal.up_to_and-requires
up_to_and-requires c = let l = c.loop-i in let t = c.loop-i-test.true in let k : length c.args.margins ≡ most_margins = search (length_of_structs, rules) in let m : l.i ≤ length c.args.margins = omega (arith, l.invariant.0.at_most, c.requires.n_le_most_margins, k) in record { margin_under = holding_top c.args.margins c.args.n l.i l.e bare_margin l.invariant.0 t m; extent_under = holding_under c.requires.n_le_most_margins l.invariant.0 }

pub pair_with-e-requires : goal.pair_with-e-requires
pair_with-e-requires c = let l = c.loop-i in let t = c.loop-i-test.true in let k : length c.args.margins ≡ most_margins = search (length_of_structs, rules) in let m : l.i ≤ length c.args.margins = omega (arith, l.invariant.0.at_most, c.requires.n_le_most_margins, k) in let g = holding_top c.args.margins c.args.n l.i l.e bare_margin l.invariant.0 t m in let u = up_grows _ (extent_of l.e) g in let h = holding_under c.requires.n_le_most_margins l.invariant.0 in record { side_under = g.or_side; small_extent = record { few_bytes = omega (arith, u.0, h.few_bytes, c.up_to_and.ensures.bytes_are); few_deep = omega (arith, u.1, h.few_deep, c.up_to_and.ensures.nested_is) } }

pub loop-i-preserved : goal.loop-i-preserved
loop-i-preserved c = let l = c.loop-i in let t = c.loop-i-test.true in let k : length c.args.margins ≡ most_margins = search (length_of_structs, rules) in let m : l.i ≤ length c.args.margins = omega (arith, l.invariant.0.at_most, c.requires.n_le_most_margins, k) in let w = whole_is (get_or c.args.margins (l.i - 1) bare_margin) l.e c.up_to_and.result c.pair_with-e.result c.up_to_and.ensures c.pair_with-e.ensures in (holding_on c.args.margins c.args.n l.i l.e c.pair_with-e.result bare_margin l.invariant.0 t m w, margins_on c.args.margins l.i l.e c.pair_with-e.result bare_margin _ t m w l.invariant.1)

pub returns : goal.returns
returns c = (margins_over _ _ _ _ c.loop-i-test.false c.loop-i.invariant.1, holding_under c.requires.n_le_most_margins c.loop-i.invariant.0)
