use mathlib.Core.List.{List}
use Rattle.expressions.specs.Grammar.{Production}
use Rattle.expressions.specs.Listed.{t_faults_of, t_faults}
use Rattle.layout.specs.Layout.{tag_count}
use Rattle.faults.proofs.Laws.{Loop}
use Rattle.faults.proofs.t_faults.Given as goal

-- The loop goes over the nonterminals.
abbrev pub invariant-loop-m : goal.invariant-loop-m
invariant-loop-m l = Loop l.s (λ (g : List Production). t_faults (tag_count l.s) g) (λ (g : List Production). t_faults_of (tag_count l.s) g) 64 256 l.write l.initial.list l.at l.list l.n l.m
