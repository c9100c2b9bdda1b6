-- Programs as text writes them: as document 01's, but with tags by name and strings by bytes; and the program of a sheet that each is.
-- Assumes nothing.
use Rattle.std.specs.Prelude.{Bool, List, ℕ, length}
use Rattle.programs.specs.Program.{Condition, Statement, Program}

mutual
  pub data TextStatement : Type 0 where
    become : ℕ → ℕ → TextStatement  -- attribute a becomes v
    copy : ℕ → ℕ → TextStatement  -- a becomes b's current value
    recall : ℕ → ℕ → TextStatement  -- a becomes the value that b had just after this node's first visit
    reject : TextStatement
    print_start : List ℕ → TextStatement  -- the start tag of that name
    print_end : List ℕ → TextStatement  -- its end tag
    print_text : List ℕ → TextStatement  -- a string, by its bytes
    echo : Bool → TextStatement
    branch : Condition → TextProgram → TextProgram → TextStatement  -- if c then L else M

  pub data TextProgram : Type 0 where
    done : TextProgram
    step : TextStatement → TextProgram → TextProgram

-- one after the other
infixr 60 ◌then◌
abbrev pub ◌then◌ : TextProgram → TextProgram → TextProgram
done then q = q
(step t p) then q = step t (p then q)

-- the program of a sheet, where `tag` numbers the names and `offset` says where each string lies
abbrev mutual
  pub statement_in : (List ℕ → ℕ) → (List ℕ → ℕ) → TextStatement → Statement
  statement_in tag offset (become a v) = Statement.become a v
  statement_in tag offset (copy a b) = Statement.copy a b
  statement_in tag offset (recall a b) = Statement.recall a b
  statement_in tag offset reject = Statement.reject
  statement_in tag offset (print_start n) = Statement.print_start (tag n)
  statement_in tag offset (print_end n) = Statement.print_end (tag n)
  statement_in tag offset (print_text s) = Statement.print_text (offset s) (length s)
  statement_in tag offset (echo on) = Statement.echo on
  statement_in tag offset (branch c l m) = Statement.branch c (program_in tag offset l) (program_in tag offset m)

  pub program_in : (List ℕ → ℕ) → (List ℕ → ℕ) → TextProgram → Program
  program_in tag offset done = Program.done
  program_in tag offset (step t p) = Program.step (statement_in tag offset t) (program_in tag offset p)
