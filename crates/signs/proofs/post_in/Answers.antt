use borrow.Author.Rules.{rules}
use mathlib.Core.Path.{refl}
use Prim.Native.Nat.{◌<◌}
use native.Mathlib.Omega.{arith}
use Rattle.layout.specs.Layout.{production_count}
use Rattle.ways.proofs.Spots.{spot_there}
use Rattle.signs.proofs.Answers.{post_of_none, post_of_tree}
use Rattle.signs.proofs.post_in.Goals as goal

-- A production with no nodes has no such post; else a walk over its tree. Assumes nothing.
pub returns-then-nodes-eq0 : goal.returns-then-nodes-eq0
returns-then-nodes-eq0 c = post_of_none _ _ _ _ c.node_count_of-nodes.ensures.is c.if-nodes-eq0.true

pub written_before-requires : goal.written_before-requires
written_before-requires c =
    let h : c.args.q < production_count c.args.s.now = omega (arith, c.requires.laid_out.layout_is.productions_is) in
    let n = c.node_count_of-nodes.ensures.is in
    record { laid_out = c.requires.laid_out; spot_in = spot_there _ _ _ n c.if-nodes-eq0.false _ c.first_node_of-first.ensures.is refl refl refl c.requires.trees c.requires.runs_inside h c.requires.q_bound }

pub overflow_add-result : goal.overflow_add-result
overflow_add-result c = search rules

pub returns : goal.returns
returns c = post_of_tree _ _ _ _ c.first_node_of-first.ensures.is refl refl _ c.written_before.ensures
