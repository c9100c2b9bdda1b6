-- Runs that are computed hold: their sheets pass, for the computed fault lists are empty; the machine comes to what each run says, and so, by the theorems on
-- the machine, do the trees. All runs of a list are computed at once.
-- Assumes nothing.
use mathlib.Core.Path.{◌≡◌, refl, ◌∙◌, ap}
use mathlib.Core.List.{List, [], ◌∷◌}
use mathlib.Core.Option.{Option, none, some}
use Prim.Native.Nat.{ℕ, ◌≤◌}
use native.Mathlib.Omega.{arith}
use lib.ListN.{length}
use Rattle.expressions.specs.Grammar.{Numbered}
use Rattle.expressions.specs.Listed.{fault_list}
use Rattle.expressions.proofs.Numbers.{passes_iff}
use Rattle.sheet.specs.Sheet.{Sheet}
use Rattle.output.specs.Escape.{Piece}
use Rattle.runs.specs.Visits.{grammar, Env, Saved}
use Rattle.runs.specs.Events.{Event}
use Rattle.runs.specs.Acts.{Store}
use Rattle.runs.specs.Machine.{Control, before, inside, after, Configuration, fresh_configuration, Outcome, finished, stopped, run}
use Rattle.runs.specs.Taken.{Passed, closed_with, Stopped}
use Rattle.runs.specs.Spells.{Token, TokenOutcome, through, stops, run_tokens}
use Rattle.runs.specs.Examples.{Run, accepts, halts, refuses, RunHolds, Each}
use Rattle.runs.proofs.Answers.{stopped_iff}
use Rattle.runs.proofs.Spells.{spelled_iff}

no_env : {X : Type 0} (v : Env) → none ≡ some v → X
no_env v e = absurd (let z : ◌≡◌ {A = ℕ} 0 1 = cc in omega arith)

-- a run over tokens to the root's end
abbrev pub of_closed : Control → List (List Saved) → Env → Option Env
of_closed before kss v = none
of_closed (inside o os) kss v = none
of_closed after [] v = some v
of_closed after (ks ∷ kss) v = none

abbrev pub of_tokens : TokenOutcome → Option Env
of_tokens (through z) = of_closed z.control z.store.kept z.store.env
of_tokens (stops k z ts) = none

closed_is : (c : Control) (kss : List (List Saved)) (w v : Env) → of_closed c kss w ≡ some v → record { control = c; store = record { kept = kss; env = w } } ≡ closed_with v
closed_is before kss w v e = no_env v e
closed_is (inside o os) kss w v e = no_env v e
closed_is after [] w v e = let h : w ≡ v = cc in ap closed_with h
closed_is after (ks ∷ kss) w v e = no_env v e

pub tokens_are : (o : TokenOutcome) (v : Env) → of_tokens o ≡ some v → o ≡ through (closed_with v)
tokens_are (through z) v e = ap through (closed_is z.control z.store.kept z.store.env v e)
tokens_are (stops k z ts) v e = no_env v e

-- a run over events that stops
pub record Stop : Type 0 where
  pub number : ℕ
  pub out : List Piece
  pub left : List Event

abbrev pub of_events : Outcome → Option Stop
of_events (finished z) = none
of_events (stopped k z left) = some (record { number = k; out = z.store.env.out; left = left })

module _ (s : Sheet) (ok : Passed s) (xs : List Event) (k : ℕ) (o : List Piece) (left : List Event) where
  stop_is : (u : Outcome) → run s fresh_configuration xs ≡ u → of_events u ≡ some (record { number = k; out = o; left = left }) →
      (m : Store) × Stopped s xs k m left × (m.env.out ≡ o)
  stop_is (finished z) r e = absurd (let y : ◌≡◌ {A = ℕ} 0 1 = cc in omega arith)
  stop_is (stopped j z l) r e =
      let h : ◌≡◌ {A = Stop} (record { number = j; out = z.store.env.out; left = l }) (record { number = k; out = o; left = left }) = cc in
      let hk : j ≡ k = ap (λ (p : Stop). p.number) h in
      let hl : l ≡ left = ap (λ (p : Stop). p.left) h in
      (z.store, (stopped_iff s ok xs k z.store left).0 (z.control, r ∙ (λ i. stopped (hk i) z (hl i))), ap (λ (p : Stop). p.out) h)

-- a run over tokens that halts
pub record Halt : Type 0 where
  pub number : ℕ
  pub out : List Piece
  pub left : List Token

abbrev pub of_halt : TokenOutcome → Option Halt
of_halt (through z) = none
of_halt (stops k z left) = some (record { number = k; out = z.store.env.out; left = left })

halt_is : (u : TokenOutcome) (k : ℕ) (o : List Piece) (left : List Token) → of_halt u ≡ some (record { number = k; out = o; left = left }) →
    (z : Configuration) × (u ≡ stops k z left) × (z.store.env.out ≡ o)
halt_is (through z) k o left e = absurd (let y : ◌≡◌ {A = ℕ} 0 1 = cc in omega arith)
halt_is (stops j z l) k o left e =
    let h : ◌≡◌ {A = Halt} (record { number = j; out = z.store.env.out; left = l }) (record { number = k; out = o; left = left }) = cc in
    let hk : j ≡ k = ap (λ (p : Halt). p.number) h in
    let hl : l ≡ left = ap (λ (p : Halt). p.left) h in
    (z, (λ i. stops (hk i) z (hl i)), ap (λ (p : Halt). p.out) h)

-- what is computed of a run, and what it must be
pub record Summary : Type 0 where
  pub faults : List (List ℕ)
  pub ended_with : Option Env
  pub halted_with : Option Halt
  pub stopped_with : Option Stop

-- of a list of faults alone
abbrev pub no_run : List (List ℕ) → Summary
no_run l = record { faults = l; ended_with = none; halted_with = none; stopped_with = none }

abbrev pub the_faults : Sheet → List (List ℕ)
the_faults s = fault_list (length s.names) (grammar s)

abbrev pub computed : Run → Summary
computed (accepts s ts v) = record { faults = the_faults s; ended_with = of_tokens (run_tokens s fresh_configuration ts); halted_with = none; stopped_with = none }
computed (halts s ts k o left) = record { faults = the_faults s; ended_with = none; halted_with = of_halt (run_tokens s fresh_configuration ts); stopped_with = none }
computed (refuses s xs k o left) = record { faults = the_faults s; ended_with = none; halted_with = none; stopped_with = of_events (run s fresh_configuration xs) }

abbrev pub given : Run → Summary
given (accepts s ts v) = record { faults = []; ended_with = some v; halted_with = none; stopped_with = none }
given (halts s ts k o left) = record { faults = []; ended_with = none; halted_with = some (record { number = k; out = o; left = left }); stopped_with = none }
given (refuses s xs k o left) = record { faults = []; ended_with = none; halted_with = none; stopped_with = some (record { number = k; out = o; left = left }) }

-- the numbers are those of a sheet
abbrev pub SheetSmall : Sheet → Type 0
SheetSmall s = (length s.names ≤ 64) × Numbered (length s.names) (grammar s)

abbrev pub Fits : Run → Type 0
Fits (accepts s ts v) = SheetSmall s
Fits (halts s ts k o left) = SheetSmall s
Fits (refuses s xs k o left) = SheetSmall s

pub passes : (s : Sheet) → SheetSmall s → the_faults s ≡ [] → Passed s
passes s f e =
    let k = (passes_iff (length s.names) (grammar s) (record { few_tags = f.0; numbered = f.1 })).0 e in
    record { keeps_T = k.0; keeps_S = k.1 }

pub run_holds : (r : Run) → Fits r → computed r ≡ given r → RunHolds r
run_holds (accepts s ts v) f e =
    let ok = passes s f (ap (λ (c : Summary). c.faults) e) in
    (ok, (spelled_iff s ok ts v).0 (tokens_are (run_tokens s fresh_configuration ts) v (ap (λ (c : Summary). c.ended_with) e)))
run_holds (halts s ts k o left) f e =
    (passes s f (ap (λ (c : Summary). c.faults) e), halt_is (run_tokens s fresh_configuration ts) k o left (ap (λ (c : Summary). c.halted_with) e))
run_holds (refuses s xs k o left) f e =
    let ok = passes s f (ap (λ (c : Summary). c.faults) e) in
    (ok, stop_is s ok xs k o left (run s fresh_configuration xs) refl (ap (λ (c : Summary). c.stopped_with) e))

-- a list of examples holds where each fits and their summaries are one list
abbrev pub all : {A : Type 0} → (A → Summary) → List A → List Summary
all f [] = []
all f (x ∷ xs) = f x ∷ all f xs

head_same : (l l' : Summary) (ls ls' : List Summary) → l ∷ ls ≡ l' ∷ ls' → l ≡ l'
head_same l l' ls ls' e = cc

tail_same : (l l' : Summary) (ls ls' : List Summary) → l ∷ ls ≡ l' ∷ ls' → ls ≡ ls'
tail_same l l' ls ls' e = cc

module _ {A : Type 0} (P Q : A → Type 0) (f g : A → Summary) (holds : (x : A) → P x → f x ≡ g x → Q x) where
  pub each : (xs : List A) → Each P xs → all f xs ≡ all g xs → Each Q xs
  each [] h e = tt
  each (x ∷ xs) h e = (holds x h.0 (head_same _ _ _ _ e), each xs h.1 (tail_same _ _ _ _ e))
