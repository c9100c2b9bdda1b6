-- The outline starts, ends and finishes as the machine does, and keeps the limits where the machine does. Assumes nothing.
use mathlib.Core.Path.{◌≡◌, refl, sym, ◌∙◌, ap, ap₂, subst}
use mathlib.Core.Bool.{Bool, true, false}
use mathlib.Core.Option.{Option, none, some}
use mathlib.Core.List.{List, [], ◌∷◌}
use Prim.Native.Nat.{ℕ, suc, ◌≤◌}
use native.Mathlib.Omega.{arith}
use Rattle.programs.specs.Program.{constant}
use Rattle.programs.specs.Limits.{Visit}
use Rattle.notation.specs.Program.{TextProgram, done, reject, become, print_start, branch}
use Rattle.notation.specs.Limits.{size_of, nesting_of, ProgramWithin}
use Rattle.notation.specs.Statements.{only}
use Rattle.notation.specs.Tokens.{TextToken}
use Rattle.reading.specs.Conditions.{finished_of}
use Rattle.reading.specs.Statements.{Pending, ListLevel, listed, around_list, Place, opening, separated, branching, Listing, wants, target, assigning, printing, testing, after, shortest_list, whole_list_value, empty_list_value, step_statements, value_of_list, finished_list}
use Rattle.lexemes.specs.Kinds.{token_kind, TokenFits}
use Rattle.outlines.specs.Extents as extents
use Rattle.outlines.specs.Extents.{Extent, condition_extent, program_extent, vacant, unnested, ExtentWithin}
use Rattle.outlines.specs.Statements.{Layer, among, wrapped_in, layers_on, layers_of, Outline, outline, step_outline, none_outside, ends_here, finished}
use Rattle.outlines.specs.Promises.{outline_if, given, StartsAlike, EndsAlike, SizesAlike, MachineKeeps, OutlineKeeps, KeepsAlike}
use Rattle.outlines.proofs.Measures.{size_extent, branch_extent}
use Rattle.outlines.proofs.Conditions.{finished_alike}
use Rattle.outlines.proofs.Layers.{closed_extent, around_extent}
use Rattle.outlines.proofs.Statements.{steps_alike}

pub starts_alike : StartsAlike
starts_alike = refl

some_outside : (fs : List Pending) (b : Extent) (ls : List Layer) → none_outside (layers_on fs (among b ∷ ls)) ≡ false
some_outside [] b ls = refl
some_outside (f ∷ fs) b ls = refl

whole_alike : (ls : List ListLevel) (p : TextProgram) → none_outside (layers_of ls) ≡ given (whole_list_value ls p)
whole_alike [] p = refl
whole_alike (l ∷ ls) p = some_outside l.ifs (program_extent l.before) (layers_of ls)

empty_alike : (ls : List ListLevel) → none_outside (layers_of ls) ≡ given (empty_list_value opening ls)
empty_alike [] = refl
empty_alike (l ∷ ls) = some_outside l.ifs (program_extent l.before) (layers_of ls)

pub ends_alike : EndsAlike
ends_alike (wants opening l ls) = ap (λ c. none_outside c.outside) (closed_extent l ls done) ∙ empty_alike ls
ends_alike (wants separated l ls) = refl
ends_alike (wants branching l ls) = refl
ends_alike (target a l ls) = refl
ends_alike (assigning a l ls) = refl
ends_alike (printing l ls) = refl
ends_alike (testing r l ls) = refl
ends_alike (after b p l ls) = ap (λ c. none_outside c.outside) (closed_extent l ls p) ∙ whole_alike ls (listed l p)

test_extent : (e : Extent) (l : ListLevel) (ls : List ListLevel) (p : TextProgram) → e ≡ program_extent p → wrapped_in (layers_of (l ∷ ls)) e ≡ program_extent (around_list (l ∷ ls) p)
test_extent e l ls p h = ap (wrapped_in (layers_of (l ∷ ls))) h ∙ around_extent (l ∷ ls) p

pub finished_extent : (q : Listing) → finished (outline q) ≡ program_extent (finished_list q)
finished_extent (wants opening l ls) = ap (λ c. wrapped_in c.outside vacant) (closed_extent l ls done) ∙ around_extent ls done
finished_extent (wants separated l ls) = around_extent (l ∷ ls) (only reject)
finished_extent (wants branching l ls) = around_extent (l ∷ ls) done
finished_extent (target a l ls) = around_extent (l ∷ ls) (only (become a 0))
finished_extent (assigning a l ls) = around_extent (l ∷ ls) (only (become a 0))
finished_extent (printing l ls) = around_extent (l ∷ ls) (only (print_start (97 ∷ [])))
finished_extent (testing r l ls) = test_extent _ l ls (only (branch (finished_of r) done done)) (ap (λ c. extents.branching c vacant vacant) (finished_alike r) ∙ sym (branch_extent (finished_of r) done done))
finished_extent (after b p l ls) = around_extent (l ∷ ls) p

pub sizes_alike : SizesAlike
sizes_alike q = (size_extent (finished_list q) ∙ ap (λ e. suc e.bytes) (sym (finished_extent q)), ap (λ e. e.nested) (sym (finished_extent q)))

pub within_out : (q : Listing) → ProgramWithin (finished_list q) → ExtentWithin (finished (outline q))
within_out q h = let s = sizes_alike q in record { short = omega (arith, s.0, h.short); shallow = omega (arith, s.1, h.shallow) }

pub within_back : (q : Listing) → ExtentWithin (finished (outline q)) → ProgramWithin (finished_list q)
within_back q h = let s = sizes_alike q in record { short = omega (arith, s.0, h.short); shallow = omega (arith, s.1, h.shallow) }

keeps_out : (v : Visit) (q : Listing) (t : TextToken) → TokenFits t → (q' : Listing) → MachineKeeps v q t q' → OutlineKeeps v (outline q) (token_kind t) (outline q')
keeps_out v q t h q' k = record { taken = steps_alike v q t h ∙ ap outline_if k.taken; within = within_out q' k.within }

keeps_back : (v : Visit) (q : Listing) (t : TextToken) (m : Option Listing) → step_statements v q t ≡ m → (o : Outline) → outline_if m ≡ some o → ExtentWithin (finished o)
    → (q' : Listing) × MachineKeeps v q t q' × (o ≡ outline q')
keeps_back v q t none e o f w = absurd (let z : ◌≡◌ {A = ℕ} 0 1 = cc in omega arith)
keeps_back v q t (some q') e o f w =
    let g : o ≡ outline q' = cc in
    (q', record { taken = e; within = within_back q' (subst (λ x. ExtentWithin (finished x)) g w) }, g)

pub keeps_alike : KeepsAlike
keeps_alike v q t h = (keeps_out v q t h, λ o k. keeps_back v q t (step_statements v q t) refl o (sym (steps_alike v q t h) ∙ k.taken) k.within)
