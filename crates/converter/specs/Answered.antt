-- What a call answers, whatever the bytes of the sheet and of the part and whatever the state: the number, the bytes taken and written, the visits, the
-- state handed back, and every byte of the lent output then.
-- Assumes nothing.
use Rattle.std.specs.Prelude.{◌≡◌, Bool, not, cond, List, ◌++◌, ℕ, ◌≤◌, eqb, length, drop}
use Rattle.std.proofs.Math.Option.{Option, none, some}
use Rattle.sheet.specs.Sheet.{Sheet, IsSheet, grammar_of}
use Rattle.faults.specs.Verdict.{VerdictIs}
use Rattle.runs.specs.Taken.{Passed}
use Rattle.calls.specs.Held.{Held}
use Rattle.calls.specs.Call.{Result, Called, again}
use Rattle.state.specs.Changes.{not_closed}
use Rattle.state.specs.Meaning.{meaning_of}
use Rattle.state.specs.Canonical.{state_for}
use Rattle.state.specs.declared.State.{State}
use Rattle.fit.specs.Fit.{Fit}
use Rattle.converter.specs.declared.Reply.{Reply}

-- the state fits the sheet: number 29 is not given
abbrev pub FitsSheet : Sheet → State → Type 0
FitsSheet a z = Fit (grammar_of a.rules) a.start_nonterminal z

-- what a state holds: the run that it stands for, and the number that closed it
abbrev pub closing_in : ℕ → Option ℕ
closing_in c = cond (eqb c not_closed) none (some c)

abbrev pub held_of : State → Held
held_of z = record { run = meaning_of z; closing = closing_in z.closed }

-- the one state in which a call hands this back: what is not in use is bare
abbrev pub closing_byte : Option ℕ → ℕ
closing_byte none = not_closed
closing_byte (some n) = n

abbrev pub state_of : Held → State
state_of h = state_for h.run (closing_byte h.closing)

-- a state that a call hands back is of this form, and so is the fresh state
abbrev pub Canonical : State → Type 0
Canonical z = z ≡ state_of (held_of z)

-- the numbers with which nothing is taken or written and the state is handed back as given: 1 to 9; 29, where there is no state or it does not fit; 28 or an
-- earlier refusal again. Where the sheet passes it is the sheet a
pub data GivenBack (s : List ℕ) (o : Option State) : ℕ → Type 0 where
  sheet_fails : {n : ℕ} → 1 ≤ n → VerdictIs s n → GivenBack s o n
  unfit : (a : Sheet) → IsSheet s a → Passed a → ((z : State) → o ≡ some z → FitsSheet a z → ⊥) → GivenBack s o 29
  closed : (a : Sheet) → IsSheet s a → Passed a → (z : State) → o ≡ some z → FitsSheet a z → (n : ℕ) → (held_of z).closing ≡ some n → GivenBack s o (again n)

-- a run over the part's tokens, under the sheet a, from an open state: the answer x as the code holds it. x's output stands first in the lent memory, every
-- byte past it is as lent, and the state handed back is the one that holds what the answer hands back, and fits
pub record Ran (s : List ℕ) (z : State) (part : List ℕ) (ended : Bool) (lent after : List ℕ) (r : Reply) : Type 0 where
  pub sheet : Sheet
  pub is_sheet : IsSheet s sheet
  pub passed : Passed sheet
  pub fits : FitsSheet sheet z
  pub is_open : (held_of z).closing ≡ none
  pub answer : Result
  pub called : Called sheet part (not ended) (length lent) (held_of z) answer
  pub number : r.number ≡ answer.number
  pub taken : r.taken ≡ answer.taken
  pub within : r.taken ≤ length part
  pub written : r.written ≡ length answer.output
  pub room : length answer.output ≤ length lent
  pub left : after ≡ answer.output ++ drop (length answer.output) lent
  pub state : r.state ≡ state_of answer.held
  pub held : held_of r.state ≡ answer.held
  pub fits_again : FitsSheet sheet r.state

-- nothing is taken or written, and the state is handed back as given
pub record AsGiven (z : State) (lent after : List ℕ) (r : Reply) : Type 0 where
  pub taken : r.taken ≡ 0
  pub written : r.written ≡ 0
  pub state : r.state ≡ z
  pub left : after ≡ lent

-- the visits are the count of the state handed back
pub data AnsweredAs (s : List ℕ) (z : State) (part : List ℕ) (ended : Bool) (lent after : List ℕ) (r : Reply) : Type 0 where
  as_given : GivenBack s (some z) r.number → AsGiven z lent after r → r.visits ≡ z.count → AnsweredAs s z part ended lent after r
  runs : Ran s z part ended lent after r → r.visits ≡ r.state.count → AnsweredAs s z part ended lent after r
