-- Strings that programs print, each kept once in a store: what a function that keeps some of them answers and leaves; and which strings a statement
-- or a list of statements prints that lies in a program section. Assumes nothing.
use Rattle.std.specs.Prelude.{◌≡◌, Option, Some, None, IfSome, List, [], ◌∷◌, ◌++◌, ℕ, ◌+◌, ◌≤◌, length, take, drop}
use Rattle.programs.specs.Program.{statement_bytes, program_bytes}
use Rattle.programs.specs.Limits.{StatementFits, StatementsFit}
use Rattle.sheet.specs.Sheet.{Sheet}
use Rattle.encoding.specs.Mentions.{Mention, in_statement, in_program, strings_mentioned}
use Rattle.encoding.specs.Distinct.{distinct}
use Rattle.naming.specs.ByName.{statement_named, program_named}
use Rattle.visits.specs.Evaluated.{LiesAt}
use Rattle.stores.specs.Rows.{RowsIn, HasRows}
use Rattle.stores.specs.Mentioned.{TooManyFor}

-- they are the rows of the store, or they do not fit in it
abbrev pub StoredIf : Option ℕ → List (List ℕ) → List ℕ → List ℕ → Type 0
StoredIf (Some count) l bytes ends = RowsIn bytes ends count l
StoredIf None l bytes ends = TooManyFor l bytes ends

-- behind all strings l that were kept before, all strings m that are due are kept, or they do not fit
pub record KeptAs (Due : List (List ℕ) → Type 0) (bytes ends : List ℕ) (count : ℕ) (r : Option ℕ) (bytes_after ends_after : List ℕ) : Type 0 where
  pub same_bytes : length bytes_after ≡ length bytes
  pub same_ends : length ends_after ≡ length ends
  pub rows : IfSome r (HasRows bytes_after ends_after)
  pub right : (m : List (List ℕ)) → Due m → (l : List (List ℕ)) → RowsIn bytes ends count (distinct l) → StoredIf r (distinct (l ++ m)) bytes_after ends_after

-- the string that n bytes from o on are
pub record StringIs (strings : List ℕ) (o n : ℕ) (m : List (List ℕ)) : Type 0 where
  pub inside : o + n ≤ length strings
  pub is : m ≡ take n (drop o strings) ∷ []

-- the strings that what lies at i prints, in the order of its bytes
pub record StringsAt {T : Type 0} (bytes : T → List ℕ) (Fits : ℕ → List ℕ → T → Type 0) (mentions : Sheet → T → List Mention) (s strings : List ℕ) (i : ℕ) (m : List (List ℕ)) : Type 0 where
  pub sheet : Sheet
  pub strings_are : sheet.strings ≡ strings
  pub thing : T
  pub lies : LiesAt bytes s i thing
  pub fits : Fits (length sheet.names) strings thing
  pub are : m ≡ strings_mentioned (mentions sheet thing)

abbrev pub StatementStrings : List ℕ → List ℕ → ℕ → List (List ℕ) → Type 0
StatementStrings = StringsAt statement_bytes StatementFits (λ a t. in_statement (statement_named a t))

abbrev pub ListStrings : List ℕ → List ℕ → ℕ → List (List ℕ) → Type 0
ListStrings = StringsAt program_bytes StatementsFit (λ a p. in_program (program_named a p))
