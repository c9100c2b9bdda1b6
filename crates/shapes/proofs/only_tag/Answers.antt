use Prim.Native.Nat.{◌+◌}
use mathlib.Core.Path.{sym, ap, subst, ◌∙◌}
use Rattle.std.specs.Prelude.{Some}
use native.Mathlib.Omega.{arith}
use Rattle.shapes.proofs.Walks.{production_there, all_passed, TagsSo, so_start, so_passes, so_first, so_second, so_all}
use Rattle.shapes.proofs.only_tag.Goals as goal
use Rattle.shapes.proofs.only_tag.Goals.{then-n-nonterminal_of+in-None, else-n-nonterminal_of}

pub loop-q-init : goal.loop-q-init
loop-q-init c = (tt, so_start c.args.s.now c.args.n)

pub returns-in-Some : goal.returns-in-Some
returns-in-Some c =
    so_second c.args.s.now c.args.n c.loop-q.q _ (production_there c.args.s.now c.args.l c.requires c.loop-q.q (omega arith))
    (c.if-n-nonterminal_of.true ∙ c.nonterminal_of.ensures.is) (rw c.in-Some.is at c.loop-q.invariant.1)

pub loop-q-preserved : goal.loop-q-preserved
loop-q-preserved c =
    let b = production_there c.args.s.now c.args.l c.requires c.loop-q.q (omega arith) in
    elim c.if-n-nonterminal_of.branch [
      | then-n-nonterminal_of+in-None w ↦
          let t = w.tag_number_of.ensures in (
            rw w.seen-is t.below,
            subst (TagsSo c.args.s.now c.args.n (c.loop-q.q + 1)) (sym (w.seen-is ∙ ap Some t.is))
                (so_first c.args.s.now c.args.n c.loop-q.q b (w.if-n-nonterminal_of.true ∙ c.nonterminal_of.ensures.is) (omega (arith, t.is, t.below)) (rw w.in-None.is at c.loop-q.invariant.1)),
          )
      | else-n-nonterminal_of w ↦ (
        rw w.seen-is c.loop-q.invariant.0,
        subst (TagsSo c.args.s.now c.args.n (c.loop-q.q + 1)) (sym w.seen-is)
            (so_passes c.args.s.now c.args.n c.loop-q.q c.loop-q.seen b (λ e. w.if-n-nonterminal_of.false (e ∙ sym c.nonterminal_of.ensures.is)) c.loop-q.invariant.1),
      )
    ]

pub returns : goal.returns
returns c =
    so_all c.args.s.now c.args.n c.loop-q.q c.loop-q.seen c.loop-q.invariant.0 (all_passed c.args.s.now c.args.l c.requires c.loop-q.q (omega arith)) c.loop-q.invariant.1
