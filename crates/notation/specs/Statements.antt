-- The grammar of statements and of programs in braces. Assumes nothing.
use Rattle.std.specs.Prelude.{◌≡◌, Bool, true, false, List, [], ◌∷◌, ◌++◌, ℕ}
use Rattle.std.proofs.Math.Option.{Option, none}
use Rattle.text.specs.Characters.{utf8s}
use Rattle.programs.specs.Program.{Operand, constant, current, recalled, Condition}
use Rattle.programs.specs.Limits.{Visit, is_first}
use Rattle.notation.specs.Program.{TextStatement, become, copy, recall, reject, print_start, print_end, print_text, echo, branch, TextProgram, done, step, ◌then◌}
use Rattle.notation.specs.Tokens.{TextToken, start_tag, end_tag, empty_tag, string, word, ECHO, ECHO-OFF, REJECT, PRINT, IF, THEN, ELSE, BEGIN, END, sign, ASSIGNED, BRACE, UNBRACE, SEMICOLON, TagName, StringOf}
use Rattle.notation.specs.Conditions.{CurrentIs, OperandIs, ConditionIs}

-- at most 32 parentheses are open at once in one condition, and in one expression
abbrev pub parentheses : ℕ
parentheses = 32

abbrev pub only : TextStatement → TextProgram
only t = step t done

-- what a print writes: one or more items
pub data ItemIs : TextToken → TextProgram → Type 0 where
  a_start : {n : List ℕ} → TagName n → ItemIs (start_tag n) (only (print_start n))
  an_end : {n : List ℕ} → TagName n → ItemIs (end_tag n) (only (print_end n))
  both_tags : {n : List ℕ} → TagName n → ItemIs (empty_tag n) (step (print_start n) (only (print_end n)))
  a_text : {cs : List ℕ} → StringOf cs → ItemIs (string cs) (only (print_text (utf8s cs)))

pub data ItemsAre : List TextToken → TextProgram → Type 0 where
  one : {t : TextToken} {p : TextProgram} → ItemIs t p → ItemsAre (t ∷ []) p
  more : {t : TextToken} {ts : List TextToken} {p q : TextProgram} → ItemIs t p → ItemsAre ts q → ItemsAre (t ∷ ts) (p then q)

-- attribute a becomes what the operand is
abbrev pub assigned : ℕ → Operand → TextStatement
assigned a (constant v) = become a v
assigned a (current b) = copy a b
assigned a (recalled b) = recall a b

-- a statement in a visit, which is several if it prints several items. `true` where it ends in an if that has no else: an else behind it would be that if's
mutual
  pub data StatementIs (v : Visit) : Bool → List TextToken → TextProgram → Type 0 where
    echo_on : is_first v ≡ true → StatementIs v false (word ECHO ∷ []) (only (echo true))
    echo_off : is_first v ≡ true → StatementIs v false (word ECHO-OFF ∷ []) (only (echo false))
    rejects : StatementIs v false (word REJECT ∷ []) (only reject)
    prints : {ts : List TextToken} {p : TextProgram} → ItemsAre ts p → StatementIs v false (word PRINT ∷ ts) p
    assigns : {a : ℕ} {s t : TextToken} {x : Operand} {p : TextProgram} → CurrentIs a v s → OperandIs v t x → p ≡ only (assigned a x) → StatementIs v false (s ∷ sign ASSIGNED ∷ t ∷ []) p
    if_then : {b : Bool} {ts us ws : List TextToken} {c : Condition} {p : TextProgram} → ConditionIs v parentheses ts c → BranchIs v b us p
        → ws ≡ word IF ∷ (ts ++ word THEN ∷ us) → StatementIs v true ws (only (branch c p done))
    if_else : {b : Bool} {ts us ws xs : List TextToken} {c : Condition} {p q : TextProgram} → ConditionIs v parentheses ts c → BranchIs v false us p → BranchIs v b ws q
        → xs ≡ word IF ∷ (ts ++ word THEN ∷ (us ++ word ELSE ∷ ws)) → StatementIs v b xs (only (branch c p q))

  pub data BranchIs (v : Visit) : Bool → List TextToken → TextProgram → Type 0 where
    bare : {b : Bool} {ts : List TextToken} {p : TextProgram} → StatementIs v b ts p → BranchIs v b ts p
    block : {ts ws : List TextToken} {p : TextProgram} → ListIs v ts p → ws ≡ word BEGIN ∷ (ts ++ word END ∷ []) → BranchIs v false ws p

  -- none, or statements with ; between them
  pub data ListIs (v : Visit) : List TextToken → TextProgram → Type 0 where
    empty : ListIs v [] done
    some : {ts : List TextToken} {p : TextProgram} → SomeAre v ts p → ListIs v ts p

  pub data SomeAre (v : Visit) : List TextToken → TextProgram → Type 0 where
    one : {b : Bool} {ts : List TextToken} {p : TextProgram} → StatementIs v b ts p → SomeAre v ts p
    more : {b : Bool} {ts us ws : List TextToken} {p q r : TextProgram} → StatementIs v b ts p → SomeAre v us q → ws ≡ ts ++ sign SEMICOLON ∷ us → r ≡ p then q → SomeAre v ws r

-- braces with a program for a visit, or no braces
pub data BracesAre (v : Visit) : List TextToken → Option TextProgram → Type 0 where
  absent : BracesAre v [] none
  braces : {ts : List TextToken} {p : TextProgram} → ListIs v ts p → BracesAre v (sign BRACE ∷ (ts ++ sign UNBRACE ∷ [])) (Option.some p)
