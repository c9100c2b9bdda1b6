-- Any text we write reads back as the same characters: what a tree puts out, written, reads back as the tags and characters that it put out.
-- Assumes nothing.
use Rattle.std.specs.Prelude.{Bool, List, ℕ}
use Rattle.sheet.specs.Sheet.{Sheet}
use Rattle.output.specs.Escape.{render}
use Rattle.runs.specs.Visits.{Env}
use Rattle.calls.specs.Accepted.{Accepted}
use Rattle.calls.specs.Explained.{Explained}
use Rattle.calls.specs.ReadsBack.{ReadsBackAs}

-- of every stream that is accepted: v is what its tree comes to
abbrev pub AcceptedReadBack : Sheet → Type 0
AcceptedReadBack a = (s : List ℕ) (v : Env) → Accepted a s v → ReadsBackAs (render v.out) v.out

-- of every answer from a fresh state, whatever its number: its tree is whole or open
abbrev pub ExplainedReadBack : Sheet → Type 0
ExplainedReadBack a =
    (s : List ℕ) (more : Bool) (room number taken : ℕ) (output : List ℕ) (visits : ℕ) (x : Explained a s more room number taken output visits) →
    ReadsBackAs output x.store.env.out

-- an answer, the tree that explains it, and that what was written reads back as what this tree puts out
pub record SameCharacters (a : Sheet) (s : List ℕ) (more : Bool) (room number taken : ℕ) (output : List ℕ) (visits : ℕ) : Type 0 where
  pub explained : Explained a s more room number taken output visits
  pub reads_back : ReadsBackAs output explained.store.env.out
