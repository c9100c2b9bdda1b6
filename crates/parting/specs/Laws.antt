-- What is promised of parting, and of the first two strings.
-- Assumes nothing.
use Rattle.std.specs.Prelude.{◌≡◌, List, ℕ}
use Rattle.expressions.specs.Expr.{Content}
use Rattle.expressions.specs.Words.{Bracket, Sym}
use Rattle.expressions.specs.Grammar.{Next}
use Rattle.expressions.specs.Fault.{UpTo, GoesOn, Fault}
use Rattle.parting.specs.Parting.{PartAt}
use Rattle.parting.specs.Firsts.{Firsts, no_string, one_string, two_strings, firsts}

-- two different bracket strings from one place, whatever each goes on to, first part at one star or one union
abbrev pub PartAtOneSign : Type 0
PartAtOneSign = (tags : ℕ → List ℕ) (e : Content) (p : ℕ) (u u' : List Sym) → UpTo p u → UpTo p u' → (x x' : Next) (α β : List Bracket) →
    GoesOn tags e u x α → GoesOn tags e u' x' β → (α ≡ β → ⊥) → (n : ℕ) × PartAt e n α β

-- a fault whose two strings are these
pub record FaultBy (tags : ℕ → List ℕ) (e : Content) (p : ℕ) (x : Next) (α β : List Bracket) : Type 0 where
  pub fault : Fault tags e p x
  pub first_is : fault.first_string ≡ α
  pub second_is : fault.second_string ≡ β

-- where there are two strings they make a fault; where there are not, there is no fault
abbrev pub TellsFault : (ℕ → List ℕ) → Content → ℕ → Next → Firsts → Type 0
TellsFault tags e p x no_string = Fault tags e p x → ⊥
TellsFault tags e p x (one_string α) = Fault tags e p x → ⊥
TellsFault tags e p x (two_strings α β) = FaultBy tags e p x α β

abbrev pub FirstsTellFaults : Type 0
FirstsTellFaults = (tags : ℕ → List ℕ) (e : Content) (p : ℕ) (x : Next) → TellsFault tags e p x (firsts tags e p x)
