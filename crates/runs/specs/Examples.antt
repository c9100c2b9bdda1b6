-- Runs and what they come to; small sheets from their parts.
-- Assumes nothing.
use Rattle.std.specs.Prelude.{◌≡◌, false, List, [], ◌∷◌, ◌++◌, ℕ, ◌-◌, length, replicate}
use Rattle.std.proofs.Math.Option.{none, some}
use Rattle.expressions.specs.Expr.{Exp, atom, nonterminal, Content, tree, nodes_of}
use Rattle.programs.specs.Program.{constant, current, Condition, equal, Statement, Program, done, step}
use Rattle.sheet.specs.Fields.{Visits}
use Rattle.sheet.specs.Sheet.{Rule, Sheet}
use Rattle.output.specs.Escape.{Piece}
use Rattle.runs.specs.Visits.{Env, attributes, no_programs_lem}
use Rattle.runs.specs.Events.{Event}
use Rattle.runs.specs.Acts.{Store}
use Rattle.runs.specs.Machine.{Configuration, fresh_configuration}
use Rattle.runs.specs.Taken.{Passed, Stopped}
use Rattle.runs.specs.Spells.{Token, Spelled, stops, run_tokens}

-- a run: a sheet, and tokens that are accepted with the values, echo, output and count that they come to; or tokens of which one is refused, with the
-- number, the output before it, and the tokens from it on; or the same of events
pub data Run : Type 0 where
  accepts : Sheet → List Token → Env → Run
  halts : Sheet → List Token → ℕ → List Piece → List Token → Run
  refuses : Sheet → List Event → ℕ → List Piece → List Event → Run

abbrev pub RunHolds : Run → Type 0
RunHolds (accepts s ts v) = Passed s × Spelled s ts v
RunHolds (halts s ts k o left) = Passed s × ((z : Configuration) × (run_tokens s fresh_configuration ts ≡ stops k z left) × (z.store.env.out ≡ o))
RunHolds (refuses s xs k o left) = Passed s × ((m : Store) × Stopped s xs k m left × (m.env.out ≡ o))

abbrev pub Each : {A : Type 0} → (A → Type 0) → List A → Type 0
Each P [] = Unit {0}
Each P (x ∷ xs) = P x × Each P xs

-- sheets from their parts
abbrev pub program : List Statement → Program
program [] = done
program (t ∷ ts) = step t (program ts)

abbrev pub first_only : List Statement → Visits
first_only ts = record { first_visit = some (program ts); second_visit = none }

abbrev pub two_visits : List Statement → List Statement → Visits
two_visits ts us = record { first_visit = some (program ts); second_visit = some (program us) }

-- nonterminal and tag have one number; the programs are the production's own and its nodes'
abbrev pub rule_with : ℕ → Content → Visits → List Visits → Rule
rule_with n e v vs = record { production = record { nonterm = n; tagno = n; content = e }; own = v; of_nodes = vs }

-- no node has a program
abbrev pub rule : ℕ → Content → Visits → Rule
rule n e v = rule_with n e v (replicate (nodes_of e) no_programs_lem)

-- no strings, and the start is 0
abbrev pub sheet_of : List (List ℕ) → List Rule → Sheet
sheet_of ns rs = record { names = ns; rules = rs; strings = []; start_nonterminal = 0 }

abbrev pub child_of : ℕ → Exp
child_of n = atom (nonterminal n)

abbrev pub book : List ℕ
book = 98 ∷ 111 ∷ 111 ∷ 107 ∷ []

abbrev pub name_A : List ℕ
name_A = 97 ∷ []

-- the first attributes are vs, the others 0
abbrev pub ended : List ℕ → List Piece → ℕ → Env
ended vs o n = record { values = vs ++ replicate (attributes - length vs) 0; echo = false; out = o; count = n }

-- attribute 0 is v
abbrev pub current_is : ℕ → Condition
current_is v = equal (current 0) (constant v)

-- n0 ::= a(n0): a sheet may pass and have no tree
abbrev pub endless : Sheet
endless = sheet_of (name_A ∷ []) (rule 0 (tree (child_of 0)) no_programs_lem ∷ [])
