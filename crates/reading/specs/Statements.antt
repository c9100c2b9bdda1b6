-- The machine that reads a list of statements. Assumes nothing.
use Rattle.std.specs.Prelude.{Bool, true, false, List, [], ◌∷◌, ℕ}
use Rattle.std.proofs.Math.Option.{Option, none, some}
use Rattle.text.specs.Characters.{utf8s}
use Rattle.programs.specs.Program.{Operand, constant, Condition}
use Rattle.programs.specs.Limits.{Visit, first, second, is_first}
use Rattle.notation.specs.Program.{TextStatement, become, reject, print_start, print_end, print_text, echo, branch, TextProgram, done, step, ◌then◌}
use Rattle.notation.specs.Statements.{parentheses, only, assigned}
use Rattle.notation.specs.Tokens.{Dollar, plain, left, right, TextToken, nonterminal, value, attribute, name, start_tag, end_tag, empty_tag, string, word, Keyword, CHAR, ECHO, ECHO-OFF, REJECT, PRINT, IF, THEN, ELSE, BEGIN, END, AND, OR, NOT, EMPTY, sign, Sign, DEFINED, ASSIGNED, OPEN, CLOSE, BRACE, UNBRACE, DOT, BAR, STAR, SEMICOLON, EQUALS}
use Rattle.reading.specs.Machine.{Machine}
use Rattle.reading.specs.Tests.{tag_name?, string?}
use Rattle.reading.specs.Conditions.{ConditionPart, operand, a_not, an_and, an_or, an_open, a_close, an_equals, other, attribute?, part_of, Reading, fresh_condition, step_condition, value_of_condition, finished_of}

-- what a token is where a statement may begin
pub data Start : Type 0 where
  simply : TextStatement → Start
  a_target : ℕ → Start
  a_print an_if a_begin an_end no_start : Start

abbrev pub start_if : Bool → Start → Start
start_if true k = k
start_if false k = no_start

abbrev pub start_word : Visit → Keyword → Start
start_word v CHAR = no_start
start_word v ECHO = start_if (is_first v) (simply (echo true))
start_word v ECHO-OFF = start_if (is_first v) (simply (echo false))
start_word v REJECT = simply reject
start_word v PRINT = a_print
start_word v IF = an_if
start_word v THEN = no_start
start_word v ELSE = no_start
start_word v BEGIN = a_begin
start_word v END = an_end
start_word v AND = no_start
start_word v OR = no_start
start_word v NOT = no_start
start_word v EMPTY = no_start

-- an attribute that may be assigned
abbrev pub current? : Visit → Dollar → Bool
current? v plain = true
current? first left = true
current? second left = false
current? first right = false
current? second right = true

abbrev pub target_if : {P : Type 0} → Dec P → Bool → ℕ → Start
target_if (yes h) b a = start_if b (a_target a)
target_if (no h) b a = no_start

abbrev pub start_of : Visit → TextToken → Start
start_of v (nonterminal n) = no_start
start_of v (value n) = no_start
start_of v (attribute m a) = target_if (attribute? a) (current? v m) a
start_of v (name n) = no_start
start_of v (start_tag n) = no_start
start_of v (end_tag n) = no_start
start_of v (empty_tag n) = no_start
start_of v (string cs) = no_start
start_of v (word w) = start_word v w
start_of v (sign s) = no_start

-- what a token is behind a statement
pub data Behind : Type 0 where
  an_item : TextProgram → Behind
  a_semicolon an_else an_end a_then an_assign nothing : Behind

abbrev pub item_if : {P : Type 0} → Dec P → TextProgram → Behind
item_if (yes h) p = an_item p
item_if (no h) p = nothing

abbrev pub next_word : Keyword → Behind
next_word CHAR = nothing
next_word ECHO = nothing
next_word ECHO-OFF = nothing
next_word REJECT = nothing
next_word PRINT = nothing
next_word IF = nothing
next_word THEN = a_then
next_word ELSE = an_else
next_word BEGIN = nothing
next_word END = an_end
next_word AND = nothing
next_word OR = nothing
next_word NOT = nothing
next_word EMPTY = nothing

abbrev pub next_sign : Sign → Behind
next_sign DEFINED = nothing
next_sign ASSIGNED = an_assign
next_sign OPEN = nothing
next_sign CLOSE = nothing
next_sign BRACE = nothing
next_sign UNBRACE = nothing
next_sign DOT = nothing
next_sign BAR = nothing
next_sign STAR = nothing
next_sign SEMICOLON = a_semicolon
next_sign EQUALS = nothing

abbrev pub behind_of : TextToken → Behind
behind_of (nonterminal n) = nothing
behind_of (value n) = nothing
behind_of (attribute m a) = nothing
behind_of (name n) = nothing
behind_of (start_tag n) = item_if (tag_name? n) (only (print_start n))
behind_of (end_tag n) = item_if (tag_name? n) (only (print_end n))
behind_of (empty_tag n) = item_if (tag_name? n) (step (print_start n) (only (print_end n)))
behind_of (string cs) = item_if (string? cs) (only (print_text (utf8s cs)))
behind_of (word w) = next_word w
behind_of (sign s) = next_sign s

-- an if around what is being read: in its first branch, or in its second behind the first
pub data Pending : Type 0 where
  in_then : Condition → Pending
  in_else : Condition → TextProgram → Pending

abbrev pub ended_branch : Pending → TextProgram → TextProgram
ended_branch (in_then c) p = only (branch c p done)
ended_branch (in_else c q) p = only (branch c q p)

-- the ifs around a branch with no begin between them, innermost first
abbrev pub ended_all : List Pending → TextProgram → TextProgram
ended_all [] p = p
ended_all (f ∷ fs) p = ended_all fs (ended_branch f p)

-- an else: it is the nearest if's that has none
abbrev pub otherwise : List Pending → TextProgram → Option (List Pending)
otherwise [] p = none
otherwise (in_then c ∷ fs) p = some (in_else c p ∷ fs)
otherwise (in_else c q ∷ fs) p = otherwise fs (ended_branch (in_else c q) p)

-- a list of statements that is being read: those before, and the ifs around the place
pub record ListLevel : Type 0 where
  pub before : TextProgram
  pub ifs : List Pending

abbrev pub list_level : TextProgram → List Pending → ListLevel
list_level p fs = record { before = p; ifs = fs }

abbrev pub listed : ListLevel → TextProgram → TextProgram
listed l p = l.before then ended_all l.ifs p

-- the lists around, innermost first, each between begin and end in a branch of the next
abbrev pub around_list : List ListLevel → TextProgram → TextProgram
around_list [] p = p
around_list (l ∷ ls) p = around_list ls (listed l p)

-- where a statement may begin: at the start of a list, behind a ; or in a branch
pub data Place : Type 0 where
  opening separated branching : Place

pub data Listing : Type 0 where
  wants : Place → ListLevel → List ListLevel → Listing
  target : ℕ → ListLevel → List ListLevel → Listing  -- wants a :=
  assigning : ℕ → ListLevel → List ListLevel → Listing  -- wants what is assigned
  printing : ListLevel → List ListLevel → Listing  -- wants an item
  testing : Reading → ListLevel → List ListLevel → Listing  -- in a condition
  after : Bool → TextProgram → ListLevel → List ListLevel → Listing  -- behind a statement or branch; whether it is a print, which may have more items

-- a list ends between begin and end
abbrev pub unblocked : List ListLevel → TextProgram → Option Listing
unblocked [] p = none
unblocked (l ∷ ls) p = some (after false p l ls)

abbrev pub blocked : Place → ListLevel → List ListLevel → Option Listing
blocked opening l ls = none
blocked separated l ls = none
blocked branching l ls = some (wants opening (list_level done []) (l ∷ ls))

abbrev pub emptied : Place → ListLevel → List ListLevel → Option Listing
emptied opening l ls = unblocked ls done
emptied separated l ls = none
emptied branching l ls = none

abbrev pub started_list : Place → ListLevel → List ListLevel → Start → Option Listing
started_list w l ls (simply t) = some (after false (only t) l ls)
started_list w l ls (a_target a) = some (target a l ls)
started_list w l ls a_print = some (printing l ls)
started_list w l ls an_if = some (testing (Reading.wants fresh_condition []) l ls)
started_list w l ls a_begin = blocked w l ls
started_list w l ls an_end = emptied w l ls
started_list w l ls no_start = none

abbrev pub elsed : ListLevel → List ListLevel → Option (List Pending) → Option Listing
elsed l ls none = none
elsed l ls (some fs) = some (wants branching (list_level l.before fs) ls)

abbrev pub one_more : Bool → TextProgram → TextProgram → ListLevel → List ListLevel → Option Listing
one_more true p q l ls = some (after true (p then q) l ls)
one_more false p q l ls = none

abbrev pub followed : Bool → TextProgram → ListLevel → List ListLevel → Behind → Option Listing
followed b p l ls (an_item q) = one_more b p q l ls
followed b p l ls a_semicolon = some (wants separated (list_level (listed l p) []) ls)
followed b p l ls an_else = elsed l ls (otherwise l.ifs p)
followed b p l ls an_end = unblocked ls (listed l p)
followed b p l ls a_then = none
followed b p l ls an_assign = none
followed b p l ls nothing = none

abbrev pub printed : ListLevel → List ListLevel → Behind → Option Listing
printed l ls (an_item q) = some (after true q l ls)
printed l ls a_semicolon = none
printed l ls an_else = none
printed l ls an_end = none
printed l ls a_then = none
printed l ls an_assign = none
printed l ls nothing = none

abbrev pub targeted : ℕ → ListLevel → List ListLevel → Behind → Option Listing
targeted a l ls (an_item q) = none
targeted a l ls a_semicolon = none
targeted a l ls an_else = none
targeted a l ls an_end = none
targeted a l ls a_then = none
targeted a l ls an_assign = some (assigning a l ls)
targeted a l ls nothing = none

abbrev pub assigned_by : ℕ → ListLevel → List ListLevel → ConditionPart → Option Listing
assigned_by a l ls (operand x) = some (after false (only (assigned a x)) l ls)
assigned_by a l ls a_not = none
assigned_by a l ls an_and = none
assigned_by a l ls an_or = none
assigned_by a l ls an_open = none
assigned_by a l ls a_close = none
assigned_by a l ls an_equals = none
assigned_by a l ls other = none

-- a condition goes on, or ends with then
abbrev pub thenned : Option Condition → ListLevel → List ListLevel → Behind → Option Listing
thenned none l ls k = none
thenned (some c) l ls (an_item q) = none
thenned (some c) l ls a_semicolon = none
thenned (some c) l ls an_else = none
thenned (some c) l ls an_end = none
thenned (some c) l ls a_then = some (wants branching (list_level l.before (in_then c ∷ l.ifs)) ls)
thenned (some c) l ls an_assign = none
thenned (some c) l ls nothing = none

abbrev pub tested : Option Reading → Option Condition → ListLevel → List ListLevel → Behind → Option Listing
tested (some r) o l ls k = some (testing r l ls)
tested none o l ls k = thenned o l ls k

abbrev pub step_statements : Visit → Listing → TextToken → Option Listing
step_statements v (wants w l ls) t = started_list w l ls (start_of v t)
step_statements v (target a l ls) t = targeted a l ls (behind_of t)
step_statements v (assigning a l ls) t = assigned_by a l ls (part_of v t)
step_statements v (printing l ls) t = printed l ls (behind_of t)
step_statements v (testing r l ls) t = tested (step_condition v parentheses r t) (value_of_condition r) l ls (behind_of t)
step_statements v (after b p l ls) t = followed b p l ls (behind_of t)

abbrev pub empty_list_value : Place → List ListLevel → Option TextProgram
empty_list_value opening [] = some done
empty_list_value opening (l ∷ ls) = none
empty_list_value separated ls = none
empty_list_value branching ls = none

abbrev pub whole_list_value : List ListLevel → TextProgram → Option TextProgram
whole_list_value [] p = some p
whole_list_value (l ∷ ls) p = none

abbrev pub value_of_list : Listing → Option TextProgram
value_of_list (wants w l ls) = empty_list_value w ls
value_of_list (target a l ls) = none
value_of_list (assigning a l ls) = none
value_of_list (printing l ls) = none
value_of_list (testing r l ls) = none
value_of_list (after b p l ls) = whole_list_value ls (listed l p)

-- the shortest continuation: nothing, reject, or begin end
abbrev pub shortest_list : Place → ListLevel → List ListLevel → TextProgram
shortest_list opening l ls = around_list ls done
shortest_list separated l ls = around_list (l ∷ ls) (only reject)
shortest_list branching l ls = around_list (l ∷ ls) done

abbrev pub finished_list : Listing → TextProgram
finished_list (wants w l ls) = shortest_list w l ls
finished_list (target a l ls) = around_list (l ∷ ls) (only (become a 0))
finished_list (assigning a l ls) = around_list (l ∷ ls) (only (become a 0))
finished_list (printing l ls) = around_list (l ∷ ls) (only (print_start (97 ∷ [])))
finished_list (testing r l ls) = around_list (l ∷ ls) (only (branch (finished_of r) done done))
finished_list (after b p l ls) = around_list (l ∷ ls) p

-- where a program begins
abbrev pub list_start : Listing
list_start = wants opening (list_level done []) []

abbrev pub statements : Visit → Machine TextToken TextProgram
statements v = record { State = Listing; start = list_start; step = step_statements v; value = value_of_list; finished = finished_list }
