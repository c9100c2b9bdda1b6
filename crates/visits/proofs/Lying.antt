-- Parts of what lies in a section, and the form that a first byte tells. Assumes nothing.
use mathlib.Core.Path.{◌≡◌, sym, ap, ◌∙◌}
use mathlib.Core.List.{List, ◌∷◌, ◌++◌, append_assoc}
use Prim.Native.Nat.{ℕ, ◌+◌, ◌<◌}
use lib.ListN.{length, get_or, drop}
use Rattle.text.specs.Chars.{Starts}
use Rattle.programs.specs.Program.{Operand, operand_bytes, Condition, condition_bytes, Statement, statement_bytes}
use Rattle.programs.proofs.Agree.{OperandForm, operand_form, ConditionForm, condition_form, StatementForm, statement_form}
use Rattle.programs.proofs.Reading.{behind, at_byte}

pub first_part : (s : List ℕ) (i : ℕ) (w v : List ℕ) → Starts (drop i s) (w ++ v) → Starts (drop i s) w
first_part s i w v st = (v ++ st.0, st.1 ∙ append_assoc w v st.0)

pub second_part : (s : List ℕ) (i : ℕ) (w v : List ℕ) → Starts (drop i s) (w ++ v) → Starts (drop (i + length w) s) v
second_part s i w v st = (st.0, behind s i w (v ++ st.0) (st.1 ∙ append_assoc w v st.0))

module _ (s : List ℕ) (i : ℕ) (h : i < length s) {k : ℕ} (e : get_or s i 0 ≡ k) where
  begins : drop i s ≡ k ∷ drop (i + 1) s
  begins = at_byte s i h ∙ ap (λ (n : ℕ). n ∷ drop (i + 1) s) e

  pub operand_of : (x : Operand) → Starts (drop i s) (operand_bytes x) → OperandForm k x
  operand_of x st = operand_form x st.0 (sym st.1 ∙ begins)

  pub condition_of : (c : Condition) → Starts (drop i s) (condition_bytes c) → ConditionForm k c
  condition_of c st = condition_form c st.0 (sym st.1 ∙ begins)

  pub statement_of : (t : Statement) → Starts (drop i s) (statement_bytes t) → StatementForm k t
  statement_of t st = statement_form t st.0 (sym st.1 ∙ begins)
