use borrow.Author.Rules.{rules}
use native.Mathlib.Omega.{arith}
use Rattle.ways.proofs.Spots.{five, part_in}
use Rattle.shortest.proofs.Walks.{atom_bare, atom_leaf, atom_star, atom_first, atom_second, atom_right}
use Rattle.shortest.proofs.+up_to.Goals as goal

pub returns-then-kind-gt5 : goal.returns-then-kind-gt5
returns-then-kind-gt5 t c = atom_bare _ _ _ c.kind_of-kind.ensures.is _ _ c.if-kind-gt5.true

pub longer-requires : goal.longer-requires
longer-requires t c =
    let spot = c.requires.spot_in in
    let room = c.requires.nodes_bound in
    record { length_lt_nodes_at_most = omega (arith, spot.any, room); atom_bound = omega (arith, spot.number, spot.few) }

pub returns-then-kind-lt3 : goal.returns-then-kind-lt3
returns-then-kind-lt3 t c = atom_leaf _ _ _ c.kind_of-kind.ensures.is _ c.if-kind-lt3.true _ c.longer.ensures _

pub up_to-requires : goal.up_to-requires
up_to-requires t c =
    let spot = c.requires.spot_in in
    let p = c.part-only.ensures in
    (omega (arith, c.decreases, p.nodes_are, spot.any), (c.requires.laid_out, (part_in _ _ _ c.kind_of-kind.ensures.is _ p (five c.if-kind-gt5.false c.if-kind-gt4.true) spot, omega (arith, p.nodes_are, c.requires.nodes_bound))))

pub returns-then-kind-gt4 : goal.returns-then-kind-gt4
returns-then-kind-gt4 t c = atom_star _ _ _ c.kind_of-kind.ensures.is _ _ (five c.if-kind-gt5.false c.if-kind-gt4.true) _ c.part-only.ensures _ c.up_to.ensures

pub parts_of-two-requires : goal.parts_of-two-requires
parts_of-two-requires t c = record { laid_out = c.requires.laid_out; spot_in = c.requires.spot_in; bound = omega (arith, c.kind_of-kind.ensures.is); node_bound = omega (arith, c.kind_of-kind.ensures.is) }

pub up_to-requires-then-p-second : goal.up_to-requires-then-p-second
up_to-requires-then-p-second t c =
    let p = c.parts_of-two.ensures in
    (omega (arith, c.decreases, p.both, p.first_in.any, p.second_in.any), (c.requires.laid_out, (p.first_in, omega (arith, p.both, c.requires.nodes_bound))))

pub returns-then-p-second : goal.returns-then-p-second
returns-then-p-second t c = atom_first _ _ _ c.kind_of-kind.ensures.is _ _ c.parts_of-two.ensures _ _ c.if-kind-lt3.false c.if-kind-gt4.false c.if-p-second.true c.up_to-then-p-second.ensures

pub word-a-requires : goal.word-a-requires
word-a-requires t c =
    let p = c.parts_of-two.ensures in
    record { laid_out = c.requires.laid_out; spot_in = p.first_in; nodes_bound = omega (arith, p.both, c.requires.nodes_bound) }

pub up_to-requires-then-kind-eq3 : goal.up_to-requires-then-kind-eq3
up_to-requires-then-kind-eq3 t c =
    let p = c.parts_of-two.ensures in
    (omega (arith, c.decreases, p.both, p.first_in.any, p.second_in.any), (c.requires.laid_out, (p.second_in, omega (arith, p.both, c.requires.nodes_bound, c.word-a.ensures.few))))

pub returns-then-kind-eq3 : goal.returns-then-kind-eq3
returns-then-kind-eq3 t c = atom_second _ _ _ c.kind_of-kind.ensures.is _ _ c.parts_of-two.ensures _ _ c.if-kind-eq3.true c.if-p-second.false _ c.word-a.ensures c.up_to-then-kind-eq3.ensures

pub up_to-requires-2 : goal.up_to-requires-2
up_to-requires-2 t c =
    let p = c.parts_of-two.ensures in
    (omega (arith, c.decreases, p.both, p.first_in.any, p.second_in.any), (c.requires.laid_out, (p.second_in, omega (arith, p.both, c.requires.nodes_bound))))

pub returns : goal.returns
returns t c = atom_right _ _ _ c.kind_of-kind.ensures.is _ _ c.parts_of-two.ensures _ _ c.if-kind-lt3.false c.if-kind-gt4.false c.if-kind-eq3.false c.if-p-second.false c.up_to-2.ensures
