-- The layers around a place hold what the machine's lists and ifs do. Assumes nothing.
use mathlib.Core.Path.{◌≡◌, refl, sym, ◌∙◌, ap, ap₂}
use mathlib.Core.Bool.{Bool, true, false}
use mathlib.Core.Option.{Option, none, some}
use mathlib.Core.List.{List, [], ◌∷◌}
use Rattle.programs.specs.Program.{Condition}
use Rattle.notation.specs.Program.{TextProgram, done, ◌then◌}
use Rattle.reading.specs.Statements.{Pending, in_then, in_else, ended_branch, ended_all, otherwise, ListLevel, listed, around_list}
use Rattle.outlines.specs.Extents.{Extent, condition_extent, program_extent, vacant, in_turn}
use Rattle.outlines.specs.Statements.{Layer, among, then_of, else_of_lem, wrapped, wrapped_in, Closed, closed_list, else_of, layer_of, layers_on, layers_of}
use Rattle.outlines.proofs.Measures.{then_extent, branch_extent}

abbrev closed_as : Extent → List Layer → Closed
closed_as w ls = record { whole = w; outside = ls }

pub wrapped_extent : (f : Pending) (p : TextProgram) → wrapped (layer_of f) (program_extent p) ≡ program_extent (ended_branch f p)
wrapped_extent (in_then c) p = sym (branch_extent c p done)
wrapped_extent (in_else c q) p = sym (branch_extent c q p)

closed_ifs : (fs : List Pending) (b : Extent) (ls : List Layer) (p : TextProgram) → closed_list (layers_on fs (among b ∷ ls)) (program_extent p) ≡ closed_as (in_turn b (program_extent (ended_all fs p))) ls
closed_ifs [] b ls p = refl
closed_ifs (in_then c ∷ fs) b ls p = ap (closed_list (layers_on fs (among b ∷ ls))) (wrapped_extent (in_then c) p) ∙ closed_ifs fs b ls (ended_branch (in_then c) p)
closed_ifs (in_else c q ∷ fs) b ls p = ap (closed_list (layers_on fs (among b ∷ ls))) (wrapped_extent (in_else c q) p) ∙ closed_ifs fs b ls (ended_branch (in_else c q) p)

pub closed_extent : (l : ListLevel) (ls : List ListLevel) (p : TextProgram) → closed_list (layers_of (l ∷ ls)) (program_extent p) ≡ closed_as (program_extent (listed l p)) (layers_of ls)
closed_extent l ls p =
    closed_ifs l.ifs (program_extent l.before) (layers_of ls) p
    ∙ ap (λ x. closed_as x (layers_of ls)) (sym (then_extent l.before (ended_all l.ifs p)))

wrapped_ifs : (fs : List Pending) (ls : List Layer) (p : TextProgram) → wrapped_in (layers_on fs ls) (program_extent p) ≡ wrapped_in ls (program_extent (ended_all fs p))
wrapped_ifs [] ls p = refl
wrapped_ifs (f ∷ fs) ls p = ap (wrapped_in (layers_on fs ls)) (wrapped_extent f p) ∙ wrapped_ifs fs ls (ended_branch f p)

pub around_extent : (ls : List ListLevel) (p : TextProgram) → wrapped_in (layers_of ls) (program_extent p) ≡ program_extent (around_list ls p)
around_extent [] p = refl
around_extent (l ∷ ls) p =
    wrapped_ifs l.ifs (among (program_extent l.before) ∷ layers_of ls) p
    ∙ (ap (wrapped_in (layers_of ls)) (sym (then_extent l.before (ended_all l.ifs p)))
    ∙ around_extent ls (listed l p))

abbrev pub layers_if : List Layer → Option (List Pending) → Option (List Layer)
layers_if ls none = none
layers_if ls (some fs) = some (layers_on fs ls)

pub else_alike : (fs : List Pending) (b : Extent) (ls : List Layer) (p : TextProgram) → else_of (layers_on fs (among b ∷ ls)) (program_extent p) ≡ layers_if (among b ∷ ls) (otherwise fs p)
else_alike [] b ls p = refl
else_alike (in_then c ∷ fs) b ls p = refl
else_alike (in_else c q ∷ fs) b ls p = ap (else_of (layers_on fs (among b ∷ ls))) (wrapped_extent (in_else c q) p) ∙ else_alike fs b ls (ended_branch (in_else c q) p)
