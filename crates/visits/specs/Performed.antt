-- What performing the program that a field names answers and leaves. Assumes nothing.
use Rattle.std.specs.Prelude.{Option as Taken, Some, None, IfSome, ◌≡◌, false, List, ℕ, ◌+◌, ◌*◌, ◌≤◌}
use Rattle.std.proofs.Math.Option.{Option, none}
use Rattle.programs.specs.Program.{Program}
use Rattle.programs.specs.Limits.{Visit}
use Rattle.programs.specs.Section.{FieldIs}
use Rattle.sheet.specs.Sheet.{Sheet, IsSheet}
use Rattle.runs.specs.Execute.{Effect}
use Rattle.runs.specs.Visits.{performed}
use Rattle.visits.specs.Written.{Pen}
use Rattle.visits.specs.Ran.{most_printed, Came}
use Rattle.visits.specs.declared.Env.{Env}
use Rattle.visits.specs.declared.Performed.{Performed}

-- a program is rejected where the outcome is; else it came to it
abbrev pub CameTo : Option Effect → Pen → Taken Performed → List ℕ → Type 0
CameTo o p None d = o ≡ none
CameTo o p (Some r) d = Came o p r.at r.env d

-- the field's program, or none, of the sheet that the bytes are, performed with the recalled values `kept`
pub record PerformedAs (s : List ℕ) (field : ℕ) (kept : List ℕ) (e : Env) (p : Pen) (r : Taken Performed) (d : List ℕ) : Type 0 where
  pub reach : IfSome r (λ x. x.at ≤ p.at + most_printed * 16384)
  pub dry : p.write ≡ false → d ≡ p.lent
  pub right : (a : Sheet) (z : IsSheet s a) (v : Visit) (m : Option Program) → FieldIs z.well_formed_lem.programs.programs v field m
      → CameTo (performed a kept m e.values e.echo) p r d
