-- What running a statement or a list of statements in a program section answers and leaves. Assumes nothing.
use Rattle.std.specs.Prelude.{Option as Taken, Some, None, IfSome, ◌≡◌, Bool, true, false, List, [], ℕ, ◌+◌, ◌*◌, ◌≤◌, length}
use Rattle.std.proofs.Math.Option.{Option, none, some}
use Rattle.lent.specs.Put.{PutAs}
use Rattle.programs.specs.Program.{Statement, statement_bytes, Program, program_bytes}
use Rattle.programs.specs.Limits.{StatementFits, StatementsFit}
use Rattle.sheet.specs.Sheet.{Sheet}
use Rattle.output.specs.Escape.{render}
use Rattle.runs.specs.Execute.{Effect, execute_one, execute}
use Rattle.visits.specs.Evaluated.{LiesAt}
use Rattle.visits.specs.Written.{Pen, Sources}
use Rattle.visits.specs.declared.Env.{Env}
use Rattle.visits.specs.declared.Ran.{Ran}

-- more than a statement prints: 255 bytes of text at most, of which each becomes five at most
abbrev pub most_printed : ℕ
most_printed = 1280

-- a program that is passed over changes and prints nothing, and does not reject
abbrev pub lived : Bool → Option Effect → Env → Option Effect
lived true o e = o
lived false o e = some (record { values = e.values; echo = e.echo; printed = [] })

-- the offset, the attributes with echo, and the memory, are what the outcome says from p on; of a rejection they say nothing, as there are none
abbrev pub Came : Option Effect → Pen → ℕ → Env → List ℕ → Type 0
Came none p at e d = ⊥
Came (some x) p at e d = (e.values ≡ x.values) × (e.echo ≡ x.echo) × PutAs p.write p.lent p.at (render x.printed) d at

-- what was run rejects where the outcome does; else it came to that
abbrev pub RanTo : Option Effect → Pen → Taken Ran → List ℕ → Type 0
RanTo o p None d = o ≡ none
RanTo o p (Some r) d = Came o p r.at r.env d

-- also what was run ended at n, where it went on
abbrev pub WentOnTo : Option Effect → Pen → ℕ → Taken Ran → List ℕ → Type 0
WentOnTo o p n r d = RanTo o p r d × IfSome r (λ x. x.next ≡ n)

-- a kind of thing that lies in a program section and does something
pub record Runnable : Type 1 where
  pub Thing : Type 0
  pub bytes : Thing → List ℕ
  pub Fits : ℕ → List ℕ → Thing → Type 0
  pub does : Sheet → List ℕ → Thing → List ℕ → Bool → Option Effect
  pub least : ℕ

abbrev pub statements : Runnable
statements = record { Thing = Statement; bytes = statement_bytes; Fits = StatementFits; does = execute_one; least = 1 }

abbrev pub lists : Runnable
lists = record { Thing = Program; bytes = program_bytes; Fits = StatementsFit; does = execute; least = 0 }

-- the bytes that a run reads: the programs, the tags' records, the strings
pub record Ground : Type 0 where
  pub section : List ℕ
  pub tags : List ℕ
  pub strings : List ℕ

-- what running at i with the recalled values `kept` came to
pub record RanAs (K : Runnable) (g : Ground) (i : ℕ) (kept : List ℕ) (e : Env) (live : Bool) (p : Pen) (r : Taken Ran) (d : List ℕ) : Type 0 where
  pub low : IfSome r (λ x. i + K.least ≤ x.next)
  pub high : IfSome r (λ x. x.next ≤ length g.section)
  pub reach : IfSome r (λ x. x.at + most_printed * i ≤ p.at + most_printed * x.next)
  pub dry : p.write ≡ false → d ≡ p.lent
  pub right : (a : Sheet) → Sources g.tags g.strings a → (x : K.Thing) → LiesAt K.bytes g.section i x → K.Fits (length a.names) g.strings x
      → WentOnTo (lived live (K.does a kept x e.values e.echo) e) p (i + length (K.bytes x)) r d
