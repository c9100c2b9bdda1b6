-- A program's size and nesting do not depend on how its tags and strings are numbered.
-- Assumes nothing.
use mathlib.Core.Path.{◌≡◌, refl, ap, ap₂}
use mathlib.Core.Bool.{Bool, true, false}
use mathlib.Core.List.{List, [], ◌∷◌, ◌++◌}
use Prim.Native.Nat.{ℕ, suc, ◌+◌, max}
use native.Mathlib.Omega.{arith}
use lib.ListN.{length, length-append}
use Rattle.programs.specs.Program.{condition_bytes, statement_bytes, program_bytes}
use Rattle.programs.specs.Limits.{condition_nesting, statement_nesting, nesting}
use Rattle.notation.specs.Program.{TextStatement, become, copy, recall, reject, print_start, print_end, print_text, echo, branch, TextProgram, done, step, statement_in, program_in}
use Rattle.notation.specs.Limits.{size_of, nesting_of}
use Rattle.notation.specs.Promises.{SizeInEverySheet, NestingInEverySheet}

module _ (tag offset tag' offset' : List ℕ → ℕ) where
  mutual
    statement_size : (t : TextStatement) → length (statement_bytes (statement_in tag offset t)) ≡ length (statement_bytes (statement_in tag' offset' t))
    statement_size (become a v) = refl
    statement_size (copy a b) = refl
    statement_size (recall a b) = refl
    statement_size reject = refl
    statement_size (print_start n) = refl
    statement_size (print_end n) = refl
    statement_size (print_text s) = refl
    statement_size (echo on) = refl
    statement_size (branch c l m) = ap suc (simp length-append (ap₂ (λ x y. length (condition_bytes c) + (x + y)) (program_size l) (program_size m)))

    program_size : (p : TextProgram) → length (program_bytes (program_in tag offset p)) ≡ length (program_bytes (program_in tag' offset' p))
    program_size done = refl
    program_size (step t p) = simp length-append (ap₂ ◌+◌ (statement_size t) (program_size p))

  mutual
    statement_nesting_lem : (t : TextStatement) → statement_nesting (statement_in tag offset t) ≡ statement_nesting (statement_in tag' offset' t)
    statement_nesting_lem (become a v) = refl
    statement_nesting_lem (copy a b) = refl
    statement_nesting_lem (recall a b) = refl
    statement_nesting_lem reject = refl
    statement_nesting_lem (print_start n) = refl
    statement_nesting_lem (print_end n) = refl
    statement_nesting_lem (print_text s) = refl
    statement_nesting_lem (echo on) = refl
    statement_nesting_lem (branch c l m) = ap₂ (λ x y. suc (max (condition_nesting c) (max x y))) (program_nesting l) (program_nesting m)

    program_nesting : (p : TextProgram) → nesting (program_in tag offset p) ≡ nesting (program_in tag' offset' p)
    program_nesting done = refl
    program_nesting (step t p) = ap₂ max (statement_nesting_lem t) (program_nesting p)

pub size_in_every_sheet : SizeInEverySheet
size_in_every_sheet tag offset p = program_size tag offset (λ n. 0) (λ s. 0) p

pub nesting_in_every_sheet : NestingInEverySheet
nesting_in_every_sheet tag offset p = program_nesting tag offset (λ n. 0) (λ s. 0) p
