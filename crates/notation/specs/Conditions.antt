-- The grammar of conditions: `not` binds tightest, then `and`, then `or`; both group to the left.
-- Assumes nothing.
use Rattle.std.specs.Prelude.{◌≡◌, List, [], ◌∷◌, ◌++◌, ℕ, suc}
use Rattle.programs.specs.Program.{Operand, constant, current, recalled, Condition, equal, negated, both, either}
use Rattle.programs.specs.Limits.{Attribute, Value, Visit, first, second}
use Rattle.notation.specs.Tokens.{plain, left, right, TextToken, value, attribute, word, NOT, AND, OR, sign, OPEN, CLOSE, EQUALS}

-- the tokens that stand for attribute a's current value: $.a, and by the visit $[.a or $].a
pub data CurrentIs (a : ℕ) : Visit → TextToken → Type 0 where
  of_either : {v : Visit} → Attribute a → CurrentIs a v (attribute plain a)
  of_first : Attribute a → CurrentIs a first (attribute left a)
  of_second : Attribute a → CurrentIs a second (attribute right a)

-- in a second visit $[.a is the value just after the first
pub data OperandIs : Visit → TextToken → Operand → Type 0 where
  a_value : {v : Visit} {n : ℕ} → Value n → OperandIs v (value n) (constant n)
  a_current : {v : Visit} {a : ℕ} {t : TextToken} → CurrentIs a v t → OperandIs v t (current a)
  a_recalled : {a : ℕ} → Attribute a → OperandIs second (attribute left a) (recalled a)

-- in a visit, with at most so many parentheses open at once
mutual
  pub data ConditionIs (v : Visit) : ℕ → List TextToken → Condition → Type 0 where
    no_or : {p : ℕ} {ts : List TextToken} {c : Condition} → BothIs v p ts c → ConditionIs v p ts c
    or : {p : ℕ} {ts us ws : List TextToken} {c d : Condition} → ConditionIs v p ts c → BothIs v p us d → ws ≡ ts ++ word OR ∷ us → ConditionIs v p ws (either c d)

  pub data BothIs (v : Visit) : ℕ → List TextToken → Condition → Type 0 where
    no_and : {p : ℕ} {ts : List TextToken} {c : Condition} → SingleIs v p ts c → BothIs v p ts c
    and : {p : ℕ} {ts us ws : List TextToken} {c d : Condition} → BothIs v p ts c → SingleIs v p us d → ws ≡ ts ++ word AND ∷ us → BothIs v p ws (both c d)

  pub data SingleIs (v : Visit) : ℕ → List TextToken → Condition → Type 0 where
    compared : {p : ℕ} {s t : TextToken} {x y : Operand} → OperandIs v s x → OperandIs v t y → SingleIs v p (s ∷ sign EQUALS ∷ t ∷ []) (equal x y)
    not : {p : ℕ} {ts : List TextToken} {c : Condition} → SingleIs v p ts c → SingleIs v p (word NOT ∷ ts) (negated c)
    parenthesised : {p : ℕ} {ts ws : List TextToken} {c : Condition} → ConditionIs v p ts c → ws ≡ sign OPEN ∷ (ts ++ sign CLOSE ∷ []) → SingleIs v (suc p) ws c
