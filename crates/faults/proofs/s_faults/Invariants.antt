use mathlib.Core.List.{List}
use Prim.Native.Nat.{ℕ}
use Rattle.expressions.specs.Grammar.{Production, tags_of}
use Rattle.expressions.specs.Listed.{s_faults_of, s_faults_from}
use Rattle.layout.specs.Layout.{tag_count}
use Rattle.expressions.specs.Grammar.{content_of}
use Rattle.faults.proofs.Laws.{Loop}
use Rattle.faults.proofs.s_faults.Given as goal

-- The loop goes over the productions; the sheet's number of productions is the layout's.
abbrev pub invariant-loop-q : goal.invariant-loop-q
invariant-loop-q l =
    Loop l.s (λ (g : List Production). s_faults_from (tag_count l.s) (tags_of g) 0 g)
    (λ (g : List Production) (q : ℕ). s_faults_of (tag_count l.s) (tags_of g) q (content_of g q)) l.l.productions 8712 l.write l.initial.list l.at l.list l.n l.q
