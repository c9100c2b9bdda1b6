use mathlib.Core.List.{List}
use Prim.Native.Nat.{◌+◌, ◌≤◌}
use Rattle.expressions.specs.Grammar.{Production, tags_of}
use Rattle.expressions.specs.Listed.{s_faults_at, s_faults_of}
use Rattle.layout.specs.Layout.{tag_count}
use Rattle.expressions.specs.Grammar.{content_of}
use Rattle.faults.proofs.Laws.{Loop}
use Rattle.faults.proofs.s_faults_of.Given as goal

-- The loop goes over the places, which are one more than the atoms; a production has at most 32 nodes, so no more atoms.
abbrev pub invariant-loop-p : goal.invariant-loop-p
invariant-loop-p l =
    (l.atoms ≤ 32) × Loop l.s (λ (g : List Production). s_faults_of (tag_count l.s) (tags_of g) l.q (content_of g l.q))
    (λ (g : List Production). s_faults_at (tag_count l.s) (tags_of g) (content_of g l.q) l.q) (l.atoms + 1) 264 l.write l.initial.list l.at l.list l.n l.p
