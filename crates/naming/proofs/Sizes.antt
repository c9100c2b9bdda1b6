-- A program's size and nesting by name are those that it has in the sheet, and each of its prints is as short as a byte says. Assumes nothing.
use mathlib.Core.Path.{◌≡◌, refl, ap, ap₂, subst}
use mathlib.Core.Bool.{Bool, true}
use mathlib.Core.List.{List, [], ◌∷◌, ◌++◌}
use Prim.Native.Nat.{ℕ, zero, suc, ◌+◌, ◌≤◌, max}
use native.Mathlib.Omega.{arith}
use lib.Dec.{leb}
use lib.ListN.{length, length-append, take, drop}
use borrow.Author.Tests.{leb-true}
use Rattle.text.specs.Names.{All}
use Rattle.programs.specs.Program.{condition_bytes, Statement, become, copy, recall, reject, print_start, print_end, print_text, echo, branch, Program, done, step, statement_bytes, program_bytes}
use Rattle.programs.specs.Limits.{condition_nesting, statement_nesting, nesting}
use Rattle.sheet.specs.Sheet.{Sheet}
use Rattle.notation.specs.Program.{statement_in, program_in}
use Rattle.naming.specs.ByName.{statement_named, program_named}
use Rattle.naming.specs.Promises.{is_byte}

module _ (a : Sheet) (tag offset : List ℕ → ℕ) where
  mutual
    statement_size : (t : Statement) → length (statement_bytes (statement_in tag offset (statement_named a t))) ≡ length (statement_bytes t)
    statement_size (become x v) = refl
    statement_size (copy x y) = refl
    statement_size (recall x y) = refl
    statement_size reject = refl
    statement_size (print_start n) = refl
    statement_size (print_end n) = refl
    statement_size (print_text o n) = refl
    statement_size (echo on) = refl
    statement_size (branch c l m) = ap suc (simp length-append (ap₂ (λ x y. length (condition_bytes c) + (x + y)) (program_size l) (program_size m)))

    pub program_size : (p : Program) → length (program_bytes (program_in tag offset (program_named a p))) ≡ length (program_bytes p)
    program_size done = refl
    program_size (step t p) = simp length-append (ap₂ ◌+◌ (statement_size t) (program_size p))

  mutual
    statement_nesting_lem : (t : Statement) → statement_nesting (statement_in tag offset (statement_named a t)) ≡ statement_nesting t
    statement_nesting_lem (become x v) = refl
    statement_nesting_lem (copy x y) = refl
    statement_nesting_lem (recall x y) = refl
    statement_nesting_lem reject = refl
    statement_nesting_lem (print_start n) = refl
    statement_nesting_lem (print_end n) = refl
    statement_nesting_lem (print_text o n) = refl
    statement_nesting_lem (echo on) = refl
    statement_nesting_lem (branch c l m) = ap₂ (λ x y. suc (max (condition_nesting c) (max x y))) (program_nesting l) (program_nesting m)

    pub program_nesting : (p : Program) → nesting (program_in tag offset (program_named a p)) ≡ nesting p
    program_nesting done = refl
    program_nesting (step t p) = ap₂ max (statement_nesting_lem t) (program_nesting p)

-- all of what lies together
pub all_front : (p : ℕ → Bool) (l m : List ℕ) → All p (l ++ m) → All p l
all_front p [] m h = tt
all_front p (x ∷ l) m h = (h.0, all_front p l m h.1)

pub all_back : (p : ℕ → Bool) (l m : List ℕ) → All p (l ++ m) → All p m
all_back p [] m h = h
all_back p (x ∷ l) m h = all_back p l m h.1

pub all_take : (p : ℕ → Bool) (n : ℕ) (l : List ℕ) → All p l → All p (take n l)
all_take p zero l h = tt
all_take p (suc n) [] h = tt
all_take p (suc n) (x ∷ l) h = (h.0, all_take p n l h.1)

pub all_drop : (p : ℕ → Bool) (n : ℕ) (l : List ℕ) → All p l → All p (drop n l)
all_drop p zero l h = h
all_drop p (suc n) [] h = tt
all_drop p (suc n) (x ∷ l) h = all_drop p n l h.1

-- each print is of at most 255 bytes
abbrev mutual
  pub ShortStatement : Statement → Type 0
  ShortStatement (become x v) = Unit {0}
  ShortStatement (copy x y) = Unit {0}
  ShortStatement (recall x y) = Unit {0}
  ShortStatement reject = Unit {0}
  ShortStatement (print_start t) = Unit {0}
  ShortStatement (print_end t) = Unit {0}
  ShortStatement (print_text o n) = n ≤ 255
  ShortStatement (echo on) = Unit {0}
  ShortStatement (branch c l m) = ShortPrints l × ShortPrints m

  pub ShortPrints : Program → Type 0
  ShortPrints done = Unit {0}
  ShortPrints (step t p) = ShortStatement t × ShortPrints p

mutual
  short_statement : (t : Statement) → All is_byte (statement_bytes t) → ShortStatement t
  short_statement (become x v) h = tt
  short_statement (copy x y) h = tt
  short_statement (recall x y) h = tt
  short_statement reject h = tt
  short_statement (print_start t) h = tt
  short_statement (print_end t) h = tt
  short_statement (print_text o n) h = leb-true n 255 h.1.1.1.0
  short_statement (echo on) h = tt
  short_statement (branch c l m) h =
      let k = all_back is_byte (condition_bytes c) (program_bytes l ++ program_bytes m) h.1 in
      (short_prints l (all_front is_byte (program_bytes l) (program_bytes m) k), short_prints m (all_back is_byte (program_bytes l) (program_bytes m) k))

  pub short_prints : (p : Program) → All is_byte (program_bytes p) → ShortPrints p
  short_prints done h = tt
  short_prints (step t p) h = (short_statement t (all_front is_byte (statement_bytes t) (program_bytes p) h), short_prints p (all_back is_byte (statement_bytes t) (program_bytes p) h))
