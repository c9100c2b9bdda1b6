use mathlib.Core.List.{List}
use Prim.Native.Nat.{ℕ, ◌-◌, ◌≤◌}
use native.Mathlib.Omega.{arith}
use lib.ListN.{length}
use Rattle.writer.specs.declared.Walk.{Walk}
use Rattle.writer.specs.Walks.{Places, WalkIs, Begun}
use borrow.Author.Rules.{rules}
use Rattle.writer.proofs.write.Goals as goal

-- before the first token
at_first : (text tb te sb se pb pe productions nodes : List ℕ) (w : Walk) → Begun text w → Places tb te sb se pb pe productions nodes
    → WalkIs text w tb te sb se pb pe productions nodes × (Places tb te sb se pb pe productions nodes × (w.from ≤ length text))
at_first text tb te sb se pb pe productions nodes w b p = (b.walk tb te sb se pb pe productions nodes p, (p, omega (arith, b.none_read)))

pub loop-w-init : goal.loop-w-init
loop-w-init c = at_first _ _ _ _ _ _ _ _ _ _ c.begin-w.ensures (record { tag_room = search rules; tag_places = search rules; string_room = search rules; string_places = search rules; program_room = search rules; program_places = search rules; production_room = search rules; node_room = search rules })

pub slice_bounds-settle-end : goal.slice_bounds-settle-end
slice_bounds-settle-end c =
    let h = c.loop-w.invariant.1.0.tag_room in
    search (h, rules)

pub slice_bounds-settle-end-2 : goal.slice_bounds-settle-end-2
slice_bounds-settle-end-2 c =
    let h = c.loop-w.invariant.1.0.tag_places in
    search (h, rules)

pub slice_bounds-settle-end-3 : goal.slice_bounds-settle-end-3
slice_bounds-settle-end-3 c =
    let h = c.loop-w.invariant.1.0.string_room in
    search (h, rules)

pub slice_bounds-settle-end-4 : goal.slice_bounds-settle-end-4
slice_bounds-settle-end-4 c =
    let h = c.loop-w.invariant.1.0.string_places in
    search (h, rules)

pub slice_bounds-settle-end-5 : goal.slice_bounds-settle-end-5
slice_bounds-settle-end-5 c =
    let h = c.loop-w.invariant.1.0.program_room in
    search (h, rules)

pub slice_bounds-settle-end-6 : goal.slice_bounds-settle-end-6
slice_bounds-settle-end-6 c =
    let h = c.loop-w.invariant.1.0.program_places in
    search (h, rules)

pub slice_bounds-settle-end-7 : goal.slice_bounds-settle-end-7
slice_bounds-settle-end-7 c =
    let h = c.loop-w.invariant.1.0.production_room in
    search (h, rules)

pub slice_bounds-settle-end-8 : goal.slice_bounds-settle-end-8
slice_bounds-settle-end-8 c =
    let h = c.loop-w.invariant.1.0.node_room in
    search (h, rules)

pub stride-w-requires : goal.stride-w-requires
stride-w-requires c = (c.in-Token.is, c.loop-w.invariant.0)

pub loop-w-smaller : goal.loop-w-smaller
loop-w-smaller c =
    let h = c.stride-w.ensures in
    omega (arith, h.onward, h.inside)

pub loop-w-preserved : goal.loop-w-preserved
loop-w-preserved c =
    let h = c.stride-w.ensures in
    (h.walk, (h.places, h.inside))

pub settle-requires : goal.settle-requires
settle-requires c = (c.in_default.not-Token, c.loop-w.invariant.0)

pub returns : goal.returns
returns c = c.settle.ensures
