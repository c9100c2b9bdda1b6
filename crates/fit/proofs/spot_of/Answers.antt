use mathlib.Core.Path.{refl}
use Prim.Native.Nat.{◌<◌}
use native.Mathlib.Omega.{arith}
use Rattle.layout.specs.Layout.{production_count}
use Rattle.trees.proofs.Answers.{tree_there}
use Rattle.fit.proofs.Frames.{start_spot, empty_spot, walked_spot}
use Rattle.fit.proofs.spot_of.Goals as goal

-- `spot_of`: the start is a place of every expression, and has no open node; an expression without nodes has no other; else the walk finds it.
-- Assumes nothing.
pub returns-then-p-eq0 : goal.returns-then-p-eq0
returns-then-p-eq0 c =
    start_spot _ c.requires.trees _ _ (omega (arith, c.requires.laid_out.layout_is.productions_is, c.requires.q_lt_productions)) _ refl refl refl c.if-p-eq0.true

pub returns-then-nodes-eq0 : goal.returns-then-nodes-eq0
returns-then-nodes-eq0 c =
    empty_spot _ c.requires.trees _ _ (omega (arith, c.requires.laid_out.layout_is.productions_is, c.requires.q_lt_productions)) _ refl c.if-p-eq0.false _ c.node_count_of-nodes.ensures.is c.if-nodes-eq0.true

pub walk-found-requires : goal.walk-found-requires
walk-found-requires c =
    let h : c.args.q < production_count c.args.s.now = omega (arith, c.requires.laid_out.layout_is.productions_is, c.requires.q_lt_productions) in
    record { laid_out = c.requires.laid_out; tree_in = tree_there _ _ _ c.node_count_of-nodes.ensures.is c.if-nodes-eq0.false _ c.first_node_of-first.ensures.is c.requires.trees c.requires.runs_inside h }

pub returns : goal.returns
returns c =
    walked_spot _ c.requires.trees _ _ (omega (arith, c.requires.laid_out.layout_is.productions_is, c.requires.q_lt_productions)) c.if-p-eq0.false _ c.node_count_of-nodes.ensures.is c.if-nodes-eq0.false _ c.first_node_of-first.ensures.is _ c.walk-found.ensures
