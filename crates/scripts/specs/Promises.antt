-- What a script is promised to say of the machine that reads statements. Assumes nothing.
use Rattle.std.specs.Prelude.{Option as Taken, Some, None, ◌≡◌, suc}
use Rattle.programs.specs.Limits.{Visit}
use Rattle.notation.specs.Limits.{size_of, ProgramWithin}
use Rattle.notation.specs.Tokens.{TextToken}
use Rattle.reading.specs.Statements.{Listing, list_start, value_of_list, finished_list}
use Rattle.lexemes.specs.Kinds.{token_kind, TokenFits}
use Rattle.outlines.specs.Statements.{outline, outline_start, ends_here, finished}
use Rattle.outlines.specs.Promises.{MachineKeeps, given}
use Rattle.scripts.specs.declared.Script.{Script}
use Rattle.scripts.specs.Scripts.{outline_of, Standing, Stepped}

-- the script holds the outline of where the machine stands
pub record ScriptIs (q : Listing) (s : Script) : Type 0 where
  pub same : outline_of s ≡ outline q
  pub standing : Standing s

-- the machine takes the token and keeps the limits, and the next script holds where it stands then; or it does not
pub data MachineStepped (v : Visit) (q : Listing) (t : TextToken) : Taken Script → Type 0 where
  goes : {s : Script} (q' : Listing) → MachineKeeps v q t q' → ScriptIs q' s → MachineStepped v q t (Some s)
  stays : ((q' : Listing) → MachineKeeps v q t q' → ⊥) → MachineStepped v q t None

abbrev pub StartOfMachine : Type 0
StartOfMachine = (s : Script) → outline_of s ≡ outline_start → Standing s → ScriptIs list_start s

-- whichever token of the kind it is
abbrev pub StepOfMachine : Type 0
StepOfMachine = (v : Visit) (q : Listing) (t : TextToken) (s : Script) (r : Taken Script) → ScriptIs q s → TokenFits t → Stepped v s (token_kind t) r → MachineStepped v q t r

abbrev pub EndOfMachine : Type 0
EndOfMachine = (q : Listing) (s : Script) → ScriptIs q s → ends_here (outline_of s) ≡ given (value_of_list q)

abbrev pub SizeOfMachine : Type 0
SizeOfMachine = (q : Listing) (s : Script) → ScriptIs q s → suc (finished (outline_of s)).bytes ≡ size_of (finished_list q)

abbrev pub KeptByMachine : Type 0
KeptByMachine = (q : Listing) (s : Script) → ScriptIs q s → ProgramWithin (finished_list q)
