use borrow.Author.Rules.{rules}
use mathlib.Core.Path.{refl}
use Prim.Native.Nat.{◌<◌}
use native.Mathlib.Omega.{arith}
use Rattle.layout.specs.Layout.{production_count}
use Rattle.ways.proofs.Spots.{spot_there}
use Rattle.witness.proofs.Places.{atom_empty, atom_into, atom_across}
use Rattle.witness.proofs.to_atom.Goals as goal

-- `to_atom`: a production with no nodes has no atom; else a walk over its tree.
-- Assumes nothing.
pub returns-then-nodes-eq0 : goal.returns-then-nodes-eq0
returns-then-nodes-eq0 c = atom_empty _ _ _ c.node_count_of-nodes.ensures.is _ _ c.if-nodes-eq0.true _ c.nothing.ensures

pub into-requires : goal.into-requires
into-requires c =
    let h : c.args.q < production_count c.args.s.now = omega (arith, c.requires.laid_out.layout_is.productions_is) in
    let n = c.node_count_of-nodes.ensures.is in
    record { laid_out = c.requires.laid_out; spot_in = spot_there _ _ _ n c.if-nodes-eq0.false _ c.first_node_of-first.ensures.is refl refl refl c.requires.trees c.requires.runs_inside h c.requires.q_bound }

pub returns-then-p-eq0 : goal.returns-then-p-eq0
returns-then-p-eq0 c = atom_into _ _ _ c.node_count_of-nodes.ensures.is _ _ c.if-nodes-eq0.false _ c.first_node_of-first.ensures.is refl refl _ c.if-p-eq0.true c.into.ensures

pub across-requires : goal.across-requires
across-requires c =
    let h : c.args.q < production_count c.args.s.now = omega (arith, c.requires.laid_out.layout_is.productions_is) in
    let n = c.node_count_of-nodes.ensures.is in
    record { laid_out = c.requires.laid_out; spot_in = spot_there _ _ _ n c.if-nodes-eq0.false _ c.first_node_of-first.ensures.is refl refl refl c.requires.trees c.requires.runs_inside h c.requires.q_bound }

pub returns : goal.returns
returns c = atom_across _ _ _ c.node_count_of-nodes.ensures.is _ _ c.if-nodes-eq0.false _ c.first_node_of-first.ensures.is refl refl _ c.if-p-eq0.false c.across.ensures
