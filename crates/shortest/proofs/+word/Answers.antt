use borrow.Author.Rules.{rules}
use native.Mathlib.Omega.{arith}
use Rattle.shortest.proofs.Walks.{word_bare, word_leaf, word_cat, word_right, word_left}
use Rattle.shortest.proofs.+word.Goals as goal

pub returns-then-kind-gt4 : goal.returns-then-kind-gt4
returns-then-kind-gt4 t c = word_bare _ _ _ c.kind_of-kind.ensures.is _ c.if-kind-gt4.true

pub longer-requires : goal.longer-requires
longer-requires t c =
    let spot = c.requires.spot_in in
    let room = c.requires.nodes_bound in
    record { length_lt_nodes_at_most = omega (arith, spot.any, room); atom_bound = omega (arith, spot.number, spot.few) }

pub returns-then-kind-lt3 : goal.returns-then-kind-lt3
returns-then-kind-lt3 t c = word_leaf _ _ _ c.kind_of-kind.ensures.is _ c.if-kind-lt3.true _ c.longer.ensures c.requires.spot_in.any

pub parts_of-two-requires : goal.parts_of-two-requires
parts_of-two-requires t c = record { laid_out = c.requires.laid_out; spot_in = c.requires.spot_in; bound = omega (arith, c.kind_of-kind.ensures.is); node_bound = omega (arith, c.kind_of-kind.ensures.is) }

pub word-a-requires : goal.word-a-requires
word-a-requires t c =
    let p = c.parts_of-two.ensures in
    (omega (arith, c.decreases, p.both, c.requires.spot_in.any, p.first_in.any, p.second_in.any), (c.requires.laid_out, (p.first_in, omega (arith, p.both, c.requires.nodes_bound))))

pub word-requires : goal.word-requires
word-requires t c =
    let p = c.parts_of-two.ensures in
    (omega (arith, c.decreases, p.both, c.requires.spot_in.any, p.first_in.any, p.second_in.any), (c.requires.laid_out, (p.second_in, omega (arith, p.both, c.requires.nodes_bound, c.word-a.ensures.few))))

pub returns-then-kind-eq3 : goal.returns-then-kind-eq3
returns-then-kind-eq3 t c = word_cat _ _ _ c.kind_of-kind.ensures.is _ _ c.parts_of-two.ensures _ c.word-a.ensures c.if-kind-eq3.true _ c.word.ensures

pub word-b-requires : goal.word-b-requires
word-b-requires t c =
    let p = c.parts_of-two.ensures in
    (omega (arith, c.decreases, p.both, c.requires.spot_in.any, p.first_in.any, p.second_in.any), (c.requires.laid_out, (p.second_in, omega (arith, p.both, c.requires.nodes_bound))))

pub returns-then-b-a : goal.returns-then-b-a
returns-then-b-a t c = word_right _ _ _ c.kind_of-kind.ensures.is _ _ c.parts_of-two.ensures _ c.word-a.ensures c.if-kind-lt3.false c.if-kind-gt4.false c.if-kind-eq3.false _ c.word-b.ensures c.if-b-a.true

pub returns : goal.returns
returns t c = word_left _ _ _ c.kind_of-kind.ensures.is _ _ c.parts_of-two.ensures _ c.word-a.ensures c.if-kind-lt3.false c.if-kind-gt4.false c.if-kind-eq3.false _ c.word-b.ensures c.if-b-a.false
