-- The machine that reads a condition. Assumes nothing.
use Rattle.std.specs.Prelude.{Bool, true, false, List, [], ◌∷◌, ℕ, zero, suc, ltb, length}
use Rattle.std.proofs.Math.Option.{Option, none, some}
use Rattle.std.proofs.Math.Decide.{dec_le}
use Rattle.programs.specs.Program.{Operand, constant, current, recalled, Condition, equal, negated, both, either}
use Rattle.programs.specs.Limits.{Attribute, Value, Visit, first, second}
use Rattle.notation.specs.Tokens.{Dollar, plain, left, right, TextToken, nonterminal, value, attribute, name, start_tag, end_tag, empty_tag, string, word, Keyword, CHAR, ECHO, ECHO-OFF, REJECT, PRINT, IF, THEN, ELSE, BEGIN, END, AND, OR, NOT, EMPTY, sign, Sign, DEFINED, ASSIGNED, OPEN, CLOSE, BRACE, UNBRACE, DOT, BAR, STAR, SEMICOLON, EQUALS}
use Rattle.reading.specs.Machine.{Machine}

-- what a token is in a condition
pub data ConditionPart : Type 0 where
  operand : Operand → ConditionPart
  a_not an_and an_or an_open a_close an_equals other : ConditionPart

abbrev pub part_if : {P : Type 0} → Dec P → Operand → ConditionPart
part_if (yes h) x = operand x
part_if (no h) x = other

abbrev pub value? : (v : ℕ) → Dec (Value v)
value? v = dec_le v _

abbrev pub attribute? : (a : ℕ) → Dec (Attribute a)
attribute? a = dec_le a _

-- an attribute as an operand of a visit; none where it cannot be one
abbrev pub attribute_of : Visit → Dollar → ℕ → Option Operand
attribute_of v plain a = some (current a)
attribute_of first left a = some (current a)
attribute_of second left a = some (recalled a)
attribute_of first right a = none
attribute_of second right a = some (current a)

abbrev pub attribute_part : {P : Type 0} → Dec P → Option Operand → ConditionPart
attribute_part d none = other
attribute_part d (some x) = part_if d x

abbrev pub word_part : Keyword → ConditionPart
word_part CHAR = other
word_part ECHO = other
word_part ECHO-OFF = other
word_part REJECT = other
word_part PRINT = other
word_part IF = other
word_part THEN = other
word_part ELSE = other
word_part BEGIN = other
word_part END = other
word_part AND = an_and
word_part OR = an_or
word_part NOT = a_not
word_part EMPTY = other

abbrev pub sign_part : Sign → ConditionPart
sign_part DEFINED = other
sign_part ASSIGNED = other
sign_part OPEN = an_open
sign_part CLOSE = a_close
sign_part BRACE = other
sign_part UNBRACE = other
sign_part DOT = other
sign_part BAR = other
sign_part STAR = other
sign_part SEMICOLON = other
sign_part EQUALS = an_equals

abbrev pub part_of : Visit → TextToken → ConditionPart
part_of v (nonterminal n) = other
part_of v (value n) = part_if (value? n) (constant n)
part_of v (attribute m a) = attribute_part (attribute? a) (attribute_of v m a)
part_of v (name n) = other
part_of v (start_tag n) = other
part_of v (end_tag n) = other
part_of v (empty_tag n) = other
part_of v (string cs) = other
part_of v (word w) = word_part w
part_of v (sign s) = sign_part s

-- what stands to the left within one pair of parentheses: of an or, of an and behind that, and how many nots behind that
pub record ConditionLevel : Type 0 where
  pub or_left : Option Condition
  pub and_left : Option Condition
  pub nots : ℕ

abbrev pub condition_level : Option Condition → Option Condition → ℕ → ConditionLevel
condition_level o a k = record { or_left = o; and_left = a; nots = k }

abbrev pub fresh_condition : ConditionLevel
fresh_condition = condition_level none none 0

abbrev pub disjoined : Option Condition → Condition → Condition
disjoined none d = d
disjoined (some c) d = either c d

abbrev pub conjoined : Option Condition → Condition → Condition
conjoined none d = d
conjoined (some c) d = both c d

abbrev pub negated_by : ℕ → Condition → Condition
negated_by zero c = c
negated_by (suc k) c = negated_by k (negated c)

-- up to an and, with a single condition put behind what stands to the left; and the whole level
abbrev pub up_to_and : ConditionLevel → Condition → Condition
up_to_and l c = conjoined l.and_left (negated_by l.nots c)

abbrev pub whole_condition : ConditionLevel → Condition → Condition
whole_condition l c = disjoined l.or_left (up_to_and l c)

-- the levels around, innermost first
abbrev pub around_condition : List ConditionLevel → Condition → Condition
around_condition [] c = c
around_condition (l ∷ ls) c = around_condition ls (whole_condition l c)

pub data Reading : Type 0 where
  wants : ConditionLevel → List ConditionLevel → Reading  -- a single condition
  compares : Operand → ConditionLevel → List ConditionLevel → Reading  -- an =
  wants_other : Operand → ConditionLevel → List ConditionLevel → Reading  -- the other operand
  after : Condition → Option Condition → List ConditionLevel → Reading  -- read up to an and, with what stands left of an or

-- a single condition is read
abbrev pub got : ConditionLevel → List ConditionLevel → Condition → Reading
got l ls c = after (up_to_and l c) l.or_left ls

-- ( and )
abbrev pub condition_opened : Bool → ConditionLevel → List ConditionLevel → Option Reading
condition_opened true l ls = some (wants fresh_condition (l ∷ ls))
condition_opened false l ls = none

abbrev pub condition_closed : List ConditionLevel → Condition → Option Reading
condition_closed [] c = none
condition_closed (l ∷ ls) c = some (got l ls c)

-- with at most p parentheses open at once
abbrev pub step_part : ℕ → Reading → ConditionPart → Option Reading
step_part p (wants l ls) (operand x) = some (compares x l ls)
step_part p (wants l ls) a_not = some (wants (condition_level l.or_left l.and_left (suc l.nots)) ls)
step_part p (wants l ls) an_and = none
step_part p (wants l ls) an_or = none
step_part p (wants l ls) an_open = condition_opened (ltb (length ls) p) l ls
step_part p (wants l ls) a_close = none
step_part p (wants l ls) an_equals = none
step_part p (wants l ls) other = none
step_part p (compares x l ls) (operand y) = none
step_part p (compares x l ls) a_not = none
step_part p (compares x l ls) an_and = none
step_part p (compares x l ls) an_or = none
step_part p (compares x l ls) an_open = none
step_part p (compares x l ls) a_close = none
step_part p (compares x l ls) an_equals = some (wants_other x l ls)
step_part p (compares x l ls) other = none
step_part p (wants_other x l ls) (operand y) = some (got l ls (equal x y))
step_part p (wants_other x l ls) a_not = none
step_part p (wants_other x l ls) an_and = none
step_part p (wants_other x l ls) an_or = none
step_part p (wants_other x l ls) an_open = none
step_part p (wants_other x l ls) a_close = none
step_part p (wants_other x l ls) an_equals = none
step_part p (wants_other x l ls) other = none
step_part p (after d o ls) (operand y) = none
step_part p (after d o ls) a_not = none
step_part p (after d o ls) an_and = some (wants (condition_level o (some d) 0) ls)
step_part p (after d o ls) an_or = some (wants (condition_level (some (disjoined o d)) none 0) ls)
step_part p (after d o ls) an_open = none
step_part p (after d o ls) a_close = condition_closed ls (disjoined o d)
step_part p (after d o ls) an_equals = none
step_part p (after d o ls) other = none

abbrev pub value_of_condition : Reading → Option Condition
value_of_condition (wants l ls) = none
value_of_condition (compares x l ls) = none
value_of_condition (wants_other x l ls) = none
value_of_condition (after d o []) = some (disjoined o d)
value_of_condition (after d o (l ∷ ls)) = none

-- the shortest continuation compares with 0 and closes
abbrev pub finished_of : Reading → Condition
finished_of (wants l ls) = around_condition (l ∷ ls) (equal (constant 0) (constant 0))
finished_of (compares x l ls) = around_condition (l ∷ ls) (equal x (constant 0))
finished_of (wants_other x l ls) = around_condition (l ∷ ls) (equal x (constant 0))
finished_of (after d o ls) = around_condition ls (disjoined o d)

abbrev pub step_condition : Visit → ℕ → Reading → TextToken → Option Reading
step_condition v p s t = step_part p s (part_of v t)

abbrev pub conditions : Visit → ℕ → Machine TextToken Condition
conditions v p = record { State = Reading; start = wants fresh_condition []; step = step_condition v p; value = value_of_condition; finished = finished_of }
