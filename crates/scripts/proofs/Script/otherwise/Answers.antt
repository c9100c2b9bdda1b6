use mathlib.Core.Path.{◌≡◌, refl, ◌∙◌, ap}
use native.Mathlib.Omega.{arith}
use lib.ListN.{length}
use Prim.Native.Nat.{◌≤◌}
use Rattle.scripts.proofs.Answers.{else_over, else_list, else_found, else_on}
use Rattle.scripts.proofs.Standings.{extent_under}
use Rattle.extents.proofs.Parts.{length_of_structs, extent_same, going_start, going_sized, going_top, going_on, else_sized, wrapped_as}
use Rattle.extents.specs.Held.{extent_of, layer_of, most_around, bare_around}
use borrow.Author.Rules.{rules}
use Rattle.scripts.proofs.Script.otherwise.Goals as goal

pub loop-i-init : goal.loop-i-init
loop-i-init c = (going_start _ _ _ c.requires.layer_room.small (extent_under {m = 1000} {n = 300000} (omega arith) c.requires.extent_under), refl)

pub offset_bounds-layers-i : goal.offset_bounds-layers-i
offset_bounds-layers-i c = record { fits = omega (arith, c.loop-i.invariant.0.at_most, c.requires.layer_room.room) }

pub bounds-layers-i : goal.bounds-layers-i
bounds-layers-i c = omega (arith, c.loop-i.invariant.0.at_most, c.requires.layer_room.room, c.loop-i-test.true)

pub returns-in-Among : goal.returns-in-Among
returns-in-Among c = let l = c.loop-i in let t = c.loop-i-test.true in let k : length c.args.self.layers ≡ most_around = search (length_of_structs, rules) in let m : l.i ≤ length c.args.self.layers = omega (arith, l.invariant.0.at_most, c.requires.layer_room.room, k) in else_list c.args.self.layers l.i (extent_of l.e) _ l.invariant.1 t m _ (ap layer_of c.in-Among.is)

pub layered-requires : goal.layered-requires
layered-requires c = omega (arith, c.loop-i.invariant.0.at_most, c.requires.layer_room.room, c.loop-i-test.true)

pub returns-in-Then : goal.returns-in-Then
returns-in-Then c = let l = c.loop-i in let t = c.loop-i-test.true in let k : length c.args.self.layers ≡ most_around = search (length_of_structs, rules) in let m : l.i ≤ length c.args.self.layers = omega (arith, l.invariant.0.at_most, c.requires.layer_room.room, k) in c.layered.ensures ∙ else_found c.args.self.layers l.i (extent_of l.e) _ l.invariant.1 t m _ (ap layer_of c.in-Then.is)

pub branch-e-requires : goal.branch-e-requires
branch-e-requires c = let l = c.loop-i in let t = c.loop-i-test.true in let k : length c.args.self.layers ≡ most_around = search (length_of_structs, rules) in let m : l.i ≤ length c.args.self.layers = omega (arith, l.invariant.0.at_most, c.requires.layer_room.room, k) in let g = else_sized _ _ _ c.in-Else.is (going_top c.args.self.layers c.args.self.depth l.i l.e bare_around l.invariant.0 t m) in record { small_extent = g.0; small_extent_2 = g.1; small_extent_3 = going_sized (omega (arith, c.requires.layer_room.room)) l.invariant.0 }

pub loop-i-preserved : goal.loop-i-preserved
loop-i-preserved c = let l = c.loop-i in let t = c.loop-i-test.true in let k : length c.args.self.layers ≡ most_around = search (length_of_structs, rules) in let m : l.i ≤ length c.args.self.layers = omega (arith, l.invariant.0.at_most, c.requires.layer_room.room, k) in (going_on c.args.self.layers c.args.self.depth l.i l.e c.branch-e.result bare_around l.invariant.0 t m (wrapped_as _ _ l.e c.branch-e.result c.in-Else.is c.branch-e.ensures), else_on c.args.self.layers l.i (extent_of l.e) _ l.invariant.1 t m _ _ _ (ap layer_of c.in-Else.is) (extent_same c.branch-e.ensures))

pub returns : goal.returns
returns c = else_over c.args.self.layers c.loop-i.i (extent_of c.loop-i.e) _ c.loop-i.invariant.1 c.loop-i-test.false
