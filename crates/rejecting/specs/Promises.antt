-- What is promised of naming: number 25 is given exactly where an act rejects the token, there is no other, there is one answer, and it names somebody wherever a call of the
-- converter is refused with 25.
-- Assumes nothing.
use Rattle.std.specs.Prelude.{◌≡◌, Bool, List, ◌↔◌, ℕ, drop}
use Rattle.std.proofs.Math.Option.{none}
use Rattle.sheet.specs.Sheet.{Sheet}
use Rattle.runs.specs.Acts.{Act}
use Rattle.runs.specs.Machine.{Configuration, refused}
use Rattle.runs.specs.Spells.{Token, step_token}
use Rattle.state.specs.declared.State.{State}
use Rattle.converter.specs.Answered.{held_of, AnsweredAs}
use Rattle.converter.specs.declared.Reply.{Reply}
use Rattle.rejecting.specs.First.{TokenRejects}
use Rattle.rejecting.specs.Named.{RejectedBy}
use Rattle.rejecting.specs.declared.Rejecter.{Rejecter}
use Rattle.rejecting.specs.declared.Rejecter.TheVariants.{Nobody}

abbrev pub RejectsExactly : Type 0
RejectsExactly = (s : Sheet) (z : Configuration) (k : Token) → (step_token s z k ≡ refused 25) ↔ ((a : Act) × TokenRejects s z k a)

abbrev pub OneAct : Type 0
OneAct = (s : Sheet) (z : Configuration) (k : Token) (a b : Act) → TokenRejects s z k a → TokenRejects s z k b → a ≡ b

abbrev pub OneRejecter : Type 0
OneRejecter = (s : List ℕ) (z : State) (part : List ℕ) (r r' : Rejecter) → RejectedBy s z part r → RejectedBy s z part r' → r ≡ r'

-- from an open state: asked with the state that is handed back and the bytes that were not taken
abbrev pub RefusalsNamed : Type 0
RefusalsNamed =
    (s : List ℕ) (z : State) (part : List ℕ) (ended : Bool) (lent after : List ℕ) (r : Reply) → AnsweredAs s z part ended lent after r → (held_of z).closing ≡ none → r.number ≡ 25 →
    (q : Rejecter) → RejectedBy s r.state (drop r.taken part) q → q ≡ Nobody → ⊥
