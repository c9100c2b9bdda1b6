-- What is answered of a fault: two bracket strings that make it, and the sign at which they part; or that there is none.
-- Assumes nothing.
use Rattle.std.specs.Prelude.{◌≡◌, List, ℕ, ◌≤◌}
use Rattle.expressions.specs.Expr.{Exp, Content}
use Rattle.expressions.specs.Words.{Bracket}
use Rattle.expressions.specs.Grammar.{Production, Nth, tags_of}
use Rattle.expressions.specs.Fault.{Fault}
use Rattle.parting.specs.Parting.{PartingSign, PartAt}
use Rattle.parting.specs.Firsts.{two_strings, firsts}
use Rattle.parting.specs.Laws.{FaultBy}
use Rattle.sheet.specs.Defect.{DefectIs}
use Rattle.sheet.specs.Sheet.{Sheet, grammar_of, IsSheet}
use Rattle.trees.specs.declared.Symbol.{Symbol}
use Rattle.trees.specs.Symbol.{next_of}
use Rattle.ways.specs.Held.{code_of, codes}
use Rattle.witness.specs.declared.Row.{Row}
use Rattle.witness.specs.declared.Reason.{Reason}
use Rattle.witness.specs.Held.{StringIn}

-- the sign at which strings with these brackets' bytes next part
pub record SignAt (c d r : ℕ) : Type 0 where
  pub is : (e : Exp) (i n : ℕ) (γ δ : Bracket) → c ≡ code_of γ → d ≡ code_of δ → PartingSign e i n γ δ → r ≡ n

pub record SignIs (a b : List ℕ) (r : ℕ) : Type 0 where
  pub is : (e : Content) (n : ℕ) (α β : List Bracket) → a ≡ codes α → b ≡ codes β → PartAt e n α β → r ≡ n

pub record SignBetween (a b : Row) (r : ℕ) : Type 0 where
  pub is : (e : Content) (n : ℕ) (α β : List Bracket) → StringIn α a → StringIn β b → PartAt e n α β → r ≡ n

-- the number alone
pub record NoWitness (number : ℕ) (r : Reason) : Type 0 where
  pub number_is : r.number ≡ number
  pub no_first : r.first.length ≡ 0
  pub no_second : r.second.length ≡ 0
  pub no_sign : r.sign ≡ 0

-- with 1 to 7 the bytes are no sheet; with 0 there is no such fault; with 9 the two strings are the first ones from that place to that symbol, both go
-- on and they differ, and they part at the sign
pub data WitnessAs (s : List ℕ) (q p : ℕ) (x : Symbol) (r : Reason) : Type 0 where
  malformed : {n : ℕ} → 1 ≤ n → DefectIs s n → NoWitness n r → WitnessAs s q p x r
  no_fault : (a : Sheet) → IsSheet s a → ((d : Production) → Nth (grammar_of a.rules) q d → Fault (tags_of (grammar_of a.rules)) d.content p (next_of x) → ⊥) →
      NoWitness 0 r → WitnessAs s q p x r
  a_fault : (a : Sheet) → IsSheet s a → (d : Production) → Nth (grammar_of a.rules) q d → (α β : List Bracket) →
      firsts (tags_of (grammar_of a.rules)) d.content p (next_of x) ≡ two_strings α β →
      FaultBy (tags_of (grammar_of a.rules)) d.content p (next_of x) α β →
      r.number ≡ 9 → StringIn α r.first → StringIn β r.second → PartAt d.content r.sign α β → WitnessAs s q p x r
