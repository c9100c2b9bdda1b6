-- What looking up in a sheet's bytes answers, of the sheet that the bytes are.
-- Assumes nothing.
use Rattle.std.specs.Prelude.{Option as Answered, Some, None, IfSome, ◌≡◌, Bool, List, ℕ, ◌<◌}
use Rattle.std.proofs.Math.Option.{Option, none, some}
use Rattle.expressions.specs.Grammar.{content_of}
use Rattle.sheet.specs.Sheet.{Sheet, IsSheet}
use Rattle.runs.specs.Lookup.{find}
use Rattle.runs.specs.Visits.{grammar}
use Rattle.runs.specs.Spells.{blanks_pass}
use Rattle.calls.specs.Names.{tag_named}

-- a number that may be missing, as the code answers it
abbrev pub answer_of : Option ℕ → Answered ℕ
answer_of none = None
answer_of (some n) = Some n

-- the tag that the bytes `name` are the name of
pub record TagFound (s name : List ℕ) (r : Answered ℕ) : Type 0 where
  pub few : IfSome r (λ i. i < 256)
  pub is : (a : Sheet) → IsSheet s a → r ≡ answer_of (tag_named a.names name)

-- the first production of nonterminal n with tag t
pub record ProductionFound (s : List ℕ) (n t : ℕ) (r : Answered ℕ) : Type 0 where
  pub few : IfSome r (λ i. i < 256)
  pub is : (a : Sheet) → IsSheet s a → r ≡ answer_of (find (grammar a) n t)

-- whether white space is no event inside an element of production q
pub record BlanksTold (s : List ℕ) (q : ℕ) (r : Bool) : Type 0 where
  pub is : (a : Sheet) → IsSheet s a → r ≡ blanks_pass (content_of (grammar a) q)
