use mathlib.Core.Path.{◌≡◌, ap, ◌∙◌}
use mathlib.Core.Bool.{cond, ◌&&◌}
use Prim.Native.Nat.{ℕ, ◌+◌}
use native.Mathlib.Omega.{arith}
use native.Mathlib.Numerals.{add-one}
use lib.Dec.{eqb}
use borrow.Author.Rules.{rules}
use Rattle.layout.specs.Layout.{production_count}
use Rattle.layout.specs.Records.{nonterminal_of, tag_number_of}
use Rattle.trees.specs.Answers.{alike_before}
use Rattle.trees.proofs.alike.Goals as goal

pub loop-q-preserved : goal.loop-q-preserved
loop-q-preserved c =
    (search rules, rw (add-one, c.one_if_both-count.ensures.value, c.nonterminal_of-nonterminal.ensures.is, c.tag_number_of-tag.ensures.is) (ap (λ (n : ℕ). n + cond (eqb c.args.m (nonterminal_of c.args.s.now c.loop-q.q) && eqb c.args.t (tag_number_of c.args.s.now c.loop-q.q)) 1 0) c.loop-q.invariant.1))

pub returns : goal.returns
returns c =
    let e : c.loop-q.q ≡ production_count c.args.s.now = omega (arith, c.requires.layout_is.productions_is) in
    record { few = omega (arith, c.loop-q.invariant); is = c.loop-q.invariant.1 ∙ ap (alike_before c.args.s.now c.args.m c.args.t) e }
