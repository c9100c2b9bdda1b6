use mathlib.Core.Path.{◌≡◌, ap, ◌∙◌}
use native.Mathlib.Omega.{arith}
use lib.ListN.{length, length-append}
use Rattle.std.specs.Slice.Iter.{chunks_exact_rest}
use Rattle.entries.proofs.Laid.{pair_put, pairs_put}
use Rattle.binding.proofs.Tags.{same_room}
use Rattle.entries.proofs.put_nodes.Goals as goal

pub loop-pair-preserved : goal.loop-pair-preserved
loop-pair-preserved c =
    let w = c.loop-pair in
    let a = c.args in
    let p = c.put_bytes-n in
    let pair = c.in-Some.pair.now in
    let step = c.in-Some.ensures.steps in
    let two : length pair ≡ 2 = step.1.1 ∙ w.invariant.0 in (
      step.0 ∙ w.invariant.0,
      omega (arith, p.ensures.next, w.invariant.1, ap length step.1.0, length-append pair (chunks_exact_rest c.next.new.self), two),
      same_room w.memory _ _ w.n p.result p.ensures ∙ w.invariant.2,
      pair_put a.memory.now a.at a.pairs.now (chunks_exact_rest w.pair-iterator) pair (chunks_exact_rest c.next.new.self) w.n p.result w.memory _ step.1.0 two w.invariant.3 p.ensures,
    )

pub returns : goal.returns
returns c =
    let w = c.loop-pair in
    let a = c.args in
    let step = c.in-None.ensures.steps in
    pairs_put a.memory.now a.at a.pairs.now (chunks_exact_rest w.pair-iterator) w.n w.memory (omega (arith, step.1.0, w.invariant.0)) w.invariant.3
