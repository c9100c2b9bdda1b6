use mathlib.Core.List.{List}
use Rattle.expressions.specs.Grammar.{Production}
use Rattle.expressions.specs.Listed.{t_fault_at, t_faults_of}
use Rattle.layout.specs.Layout.{tag_count}
use Rattle.faults.proofs.Laws.{Loop}
use Rattle.faults.proofs.t_faults_of.Given as goal

-- The loop goes over the tags; the sheet's number of tags is the layout's.
abbrev pub invariant-loop-t : goal.invariant-loop-t
invariant-loop-t l = Loop l.s (λ (g : List Production). t_faults_of (tag_count l.s) g l.m) (λ (g : List Production). t_fault_at g l.m) l.fn.l.tags 4 l.write l.initial.list l.at l.list l.n l.t
