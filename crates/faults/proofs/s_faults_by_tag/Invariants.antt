use mathlib.Core.List.{List}
use Prim.Native.Nat.{ℕ}
use Rattle.expressions.specs.Grammar.{Production, content_of, tags_of, tag}
use Rattle.expressions.specs.Listed.{s_fault_at}
use Rattle.layout.specs.Layout.{tag_count}
use Rattle.faults.specs.Part.{s_by_tag}
use Rattle.faults.proofs.Laws.{Loop}
use Rattle.faults.proofs.s_faults_by_tag.Given as goal

-- The loop goes over the tags; the sheet's number of tags is the layout's, and a tag's sum tells whether there is an entry.
abbrev pub invariant-loop-t : goal.invariant-loop-t
invariant-loop-t l =
    Loop l.s (λ (g : List Production). s_by_tag (tag_count l.s) (tags_of g) (content_of g l.q) l.q l.p)
    (λ (g : List Production) (t : ℕ). s_fault_at (tags_of g) (content_of g l.q) l.q l.p (tag t)) l.fn.l.tags 4 l.write l.initial.list l.at l.list l.n l.t
