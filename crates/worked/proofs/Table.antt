-- The worked examples hold. A grammar's list is the one that is computed, for the tags that it has; a sheet's bytes are taken apart number by number; a stream's bytes are
-- tokens, and the run over them is computed. Each sort of row has one lemma, and the faults of all rows are then computed at once.
-- Assumes nothing.
use mathlib.Core.Path.{◌≡◌, refl, ap, subst}
use mathlib.Core.List.{List, [], ◌∷◌}
use Prim.Native.Nat.{ℕ, suc, ◌≤◌, max}
use native.Mathlib.Omega.{arith}
use Rattle.expressions.specs.Grammar.{Production, Numbered}
use Rattle.expressions.specs.FaultList.{IsFaultList}
use Rattle.expressions.specs.Listed.{fault_list}
use Rattle.expressions.proofs.Listed.{listed}
use Rattle.sheet.specs.Sheet.{IsSheet}
use Rattle.runs.specs.Examples.{Each}
use Rattle.runs.proofs.Examples.{Summary, no_run, the_faults, SheetSmall, passes, each}
use Rattle.worked.specs.Worked.{Row, has_faults, is_sheet, accepts, refuses, RowHolds, worked}
use Rattle.worked.proofs.Smallest.{smallest_is}
use Rattle.worked.proofs.Sheet28.{sheet28_is}
use Rattle.worked.proofs.Sheet27.{sheet27_is, rejecting27_is}
use Rattle.worked.proofs.Streams.{taken_whole, refused_at, RunFits, smallest_stream, stream28, stream27, stream27_rejected}

-- one more than the greatest tag number
abbrev tags_in : List Production → ℕ
tags_in [] = 0
tags_in (d ∷ ds) = max (suc d.tagno) (tags_in ds)

-- a grammar's numbers are those of a sheet; bytes are their sheet; a stream's bytes are tokens that the machine takes, or takes up to one
abbrev RowFits : Row → Type 0
RowFits (has_faults g l) = (tags_in g ≤ 64) × Numbered (tags_in g) g
RowFits (is_sheet s a) = IsSheet s a × SheetSmall a
RowFits (accepts a s o n) = SheetSmall a × RunFits (accepts a s o n)
RowFits (refuses a s k at o) = SheetSmall a × RunFits (refuses a s k at o)

-- the faults that are computed of a row, and those that it must have
abbrev row_computed : Row → Summary
row_computed (has_faults g l) = no_run (fault_list (tags_in g) g)
row_computed (is_sheet s a) = no_run (the_faults a)
row_computed (accepts a s o n) = no_run (the_faults a)
row_computed (refuses a s k at o) = no_run (the_faults a)

abbrev row_given : Row → Summary
row_given (has_faults g l) = no_run l
row_given (is_sheet s a) = no_run []
row_given (accepts a s o n) = no_run []
row_given (refuses a s k at o) = no_run []

row_holds : (r : Row) → RowFits r → row_computed r ≡ row_given r → RowHolds r
row_holds (has_faults g l) f e =
    let same : fault_list (tags_in g) g ≡ l = ap (λ (c : Summary). c.faults) e in
    subst (IsFaultList g) same (listed (tags_in g) g (record { few_tags = f.0; numbered = f.1 }))
row_holds (is_sheet s a) f e = let ok = passes a f.1 (ap (λ (c : Summary). c.faults) e) in (f.0, ok.keeps_T, ok.keeps_S)
row_holds (accepts a s o n) f e = let ok = passes a f.0 (ap (λ (c : Summary). c.faults) e) in (ok, taken_whole a ok s o n f.1)
row_holds (refuses a s k at o) f e = let ok = passes a f.0 (ap (λ (c : Summary). c.faults) e) in (ok, refused_at a ok s k at o f.1)

all_fit : Each RowFits worked
all_fit = search (arith, smallest_is, sheet28_is, sheet27_is, rejecting27_is, smallest_stream, stream28, stream27, stream27_rejected) depth 40 fits 5000

pub worked_hold : Each RowHolds worked
worked_hold = each RowFits RowHolds row_computed row_given row_holds worked all_fit refl
