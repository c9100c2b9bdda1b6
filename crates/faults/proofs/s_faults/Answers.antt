use mathlib.Core.Path.{◌≡◌, ap, ◌∙◌}
use Prim.Native.Nat.{ℕ}
use native.Mathlib.Omega.{arith}
use Rattle.expressions.specs.Grammar.{tags_of}
use Rattle.expressions.specs.Listed.{gather, s_faults_of}
use Rattle.layout.specs.Layout.{tag_count, production_count}
use Rattle.expressions.specs.Grammar.{content_of}
use Rattle.faults.proofs.Laws.{loop_begun, loop_on, loop_done, s_gathered}
use Rattle.faults.proofs.s_faults.Goals as goal

pub loop-q-init : goal.loop-q-init
loop-q-init c =
    let s = c.args.s.now in
    let e : production_count s ≡ c.args.l.productions = omega (arith, c.requires.laid_out.layout_is.productions_is.is) in
    loop_begun _ 8712 (λ g i. s_gathered s (tag_count s) g i ∙ ap (λ (k : ℕ). gather 0 k (λ q. s_faults_of (tag_count s) (tags_of g) q (content_of g q))) e)

pub loop-q-preserved : goal.loop-q-preserved
loop-q-preserved c =
    loop_on _ 8712 _ (omega arith) c.loop-q.invariant c.s_faults_of-n.ensures c.s_faults_of-n.auto.list

pub returns : goal.returns
returns c = loop_done _ 8712 _ 557568 (omega arith) (omega arith) c.loop-q.invariant
