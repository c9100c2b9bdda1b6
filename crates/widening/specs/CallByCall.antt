-- Calls one after another from a fresh state, whatever a host asks of each, and what it hears of each.
-- Assumes nothing.
use Rattle.std.specs.Prelude.{Bool, List, [], ◌∷◌, ℕ}
use Rattle.std.proofs.Math.Option.{none}
use Rattle.programs.specs.Bounds.{Bounds, attributes_in}
use Rattle.sheet.specs.Sheet.{Sheet}
use Rattle.runs.specs.Visits.{fresh_with}
use Rattle.runs.specs.Machine.{before}
use Rattle.calls.specs.Held.{Held}
use Rattle.calls.specs.Call.{Result, Called}

-- what one call is asked: a part of the stream, whether more is to come, and the room lent
pub record Asked : Type 0 where
  pub part : List ℕ
  pub more : Bool
  pub room : ℕ

-- what is heard of it: its number, the bytes taken, the output, and the visits so far
pub record Heard : Type 0 where
  pub number : ℕ
  pub taken : ℕ
  pub output : List ℕ
  pub visits : ℕ

abbrev pub heard : Result → Heard
heard r = record { number = r.number; taken = r.taken; output = r.output; visits = r.held.run.store.env.count }

-- each call gets what the one before has handed back
pub data CallByCall (a : Sheet) : Held → List Asked → List Heard → Type 0 where
  no_call : {h : Held} → CallByCall a h [] []
  call : {h : Held} {qs : List Asked} {hs : List Heard} (q : Asked) (r : Result) → Called a q.part q.more q.room h r → CallByCall a r.held qs hs →
      CallByCall a h (q ∷ qs) (heard r ∷ hs)

-- the fresh state with the attributes of b, each 0
abbrev pub fresh_in : Bounds → Held
fresh_in b =
    record { run = record { control = before; store = record { kept = []; env = fresh_with (attributes_in b) } }; closing = none }
