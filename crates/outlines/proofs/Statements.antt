-- The outline of a program goes on as the machine does. Assumes nothing.
use mathlib.Core.Path.{◌≡◌, refl, sym, ◌∙◌, ap, ap₂}
use mathlib.Core.Bool.{Bool, true, false, cond, ◌&&◌}
use mathlib.Core.Option.{Option, none, some}
use mathlib.Core.List.{List, [], ◌∷◌}
use Prim.Native.Nat.{ℕ, suc, ◌≤◌, ◌<◌}
use native.Mathlib.Omega.{arith}
use Rattle.programs.specs.Program.{Operand, Condition}
use Rattle.programs.specs.Limits.{Attribute, Visit, first, second, is_first}
use Rattle.notation.specs.Program.{TextStatement, echo, TextProgram, done, ◌then◌}
use Rattle.notation.specs.Statements.{only, assigned, parentheses}
use Rattle.notation.specs.Tokens.{Dollar, plain, left, right, TextToken, nonterminal, value, attribute, name, start_tag, end_tag, empty_tag, string, word, Keyword, CHAR, ECHO, ECHO-OFF, REJECT, PRINT, IF, THEN, ELSE, BEGIN, END, AND, OR, NOT, EMPTY, sign, Sign, DEFINED, ASSIGNED, OPEN, CLOSE, BRACE, UNBRACE, DOT, BAR, STAR, SEMICOLON, EQUALS, TagName, StringOf}
use Rattle.reading.specs.Tests.{tag_name?, string?}
use Rattle.reading.specs.Conditions.{ConditionPart, operand, a_not, an_and, an_or, an_open, a_close, an_equals, other, attribute?, part_of, Reading, step_condition, value_of_condition, finished_of}
use Rattle.reading.specs.Statements as reading
use Rattle.reading.specs.Statements.{Start, simply, a_target, a_print, an_if, a_begin, no_start, current?, target_if, start_word, start_of, Behind, an_item, a_semicolon, an_else, a_then, an_assign, nothing, item_if, next_word, next_sign, behind_of, Pending, otherwise, ListLevel, list_level, listed, Place, opening, separated, branching, Listing, wants, target, assigning, printing, testing, after, step_statements, value_of_list, finished_list}
use Rattle.lexemes.specs.Kinds.{token_kind, word_number, sign_number, mark_number, TokenFits}
use Rattle.outlines.specs.Extents as extents
use Rattle.outlines.specs.Extents.{Extent, condition_extent, program_extent, vacant, unnested, in_turn}
use Rattle.outlines.specs.Kinds.{is_word, is_sign, is_target, is_operand, is_plain, is_short_item, is_long_item}
use Rattle.outlines.specs.Conditions.{ConditionOutline, wanting, a_single, blank_margin, extent_if, condition_outline, step_condition_outline, read_condition}
use Rattle.outlines.specs.Statements.{Layer, among, then_of, Closed, closed_list, else_of, Stage, past, at, at_assign, at_operand, at_item, in_condition, Outline, outlined, layers_on, layers_of, outline, begun_at, ended_in, ended_at, step_at, elsed_at, step_past, step_item, then_at, step_tested, step_outline}
use Rattle.outlines.specs.Promises.{outline_if, StepsAlike}
use Rattle.outlines.proofs.Measures.{then_extent, assigned_extent}
use Rattle.outlines.proofs.Conditions.{condition_if, Asked, of_part, condition_alike, operand_asked, read_alike}
use Rattle.outlines.proofs.Layers.{layers_if, closed_extent, else_alike}

-- what is asked of a kind where a statement may begin
record Begins : Type 0 where
  plain? : Bool
  target? : Bool
  print? : Bool
  if? : Bool
  begin? : Bool
  end? : Bool

abbrev begins : Bool → Bool → Bool → Bool → Bool → Bool → Begins
begins a b c d e f = record { plain? = a; target? = b; print? = c; if? = d; begin? = e; end? = f }

abbrev begins_kind : Visit → ℕ → Begins
begins_kind v k = begins (is_plain v k) (is_target v k) (is_word PRINT k) (is_word IF k) (is_word BEGIN k) (is_word END k)

abbrev begins_start : Start → Begins
begins_start (simply t) = begins true false false false false false
begins_start (a_target a) = begins false true false false false false
begins_start a_print = begins false false true false false false
begins_start an_if = begins false false false true false false
begins_start a_begin = begins false false false false true false
begins_start Start.an_end = begins false false false false false true
begins_start no_start = begins false false false false false false

-- a statement of one token has one byte
abbrev SimpleIs : Start → Type 0
SimpleIs (simply t) = program_extent (only t) ≡ unnested 1
SimpleIs (a_target a) = Unit {0}
SimpleIs a_print = Unit {0}
SimpleIs an_if = Unit {0}
SimpleIs a_begin = Unit {0}
SimpleIs Start.an_end = Unit {0}
SimpleIs no_start = Unit {0}

record StartSeen (b : Begins) (k : Start) : Type 0 where
  seen : b ≡ begins_start k
  simple : SimpleIs k

start_word_lem : (v : Visit) (w : Keyword) → StartSeen (begins_kind v (word_number w)) (start_word v w)
start_word_lem v CHAR = record { seen = refl; simple = tt }
start_word_lem first ECHO = record { seen = refl; simple = refl }
start_word_lem second ECHO = record { seen = refl; simple = tt }
start_word_lem first ECHO-OFF = record { seen = refl; simple = refl }
start_word_lem second ECHO-OFF = record { seen = refl; simple = tt }
start_word_lem v REJECT = record { seen = refl; simple = refl }
start_word_lem v PRINT = record { seen = refl; simple = tt }
start_word_lem v IF = record { seen = refl; simple = tt }
start_word_lem v THEN = record { seen = refl; simple = tt }
start_word_lem v ELSE = record { seen = refl; simple = tt }
start_word_lem v BEGIN = record { seen = refl; simple = tt }
start_word_lem v END = record { seen = refl; simple = tt }
start_word_lem v AND = record { seen = refl; simple = tt }
start_word_lem v OR = record { seen = refl; simple = tt }
start_word_lem v NOT = record { seen = refl; simple = tt }
start_word_lem v EMPTY = record { seen = refl; simple = tt }

start_attribute : (v : Visit) (m : Dollar) (a : ℕ) (d : Dec (Attribute a)) → Attribute a → StartSeen (begins_kind v (mark_number m)) (target_if d (current? v m) a)
start_attribute v m a (no h) g = absurd (h g)
start_attribute v plain a (yes h) g = record { seen = refl; simple = tt }
start_attribute first left a (yes h) g = record { seen = refl; simple = tt }
start_attribute first right a (yes h) g = record { seen = refl; simple = tt }
start_attribute second left a (yes h) g = record { seen = refl; simple = tt }
start_attribute second right a (yes h) g = record { seen = refl; simple = tt }

start_sign : (v : Visit) (s : Sign) → StartSeen (begins_kind v (sign_number s)) no_start
start_sign v DEFINED = record { seen = refl; simple = tt }
start_sign v ASSIGNED = record { seen = refl; simple = tt }
start_sign v OPEN = record { seen = refl; simple = tt }
start_sign v CLOSE = record { seen = refl; simple = tt }
start_sign v BRACE = record { seen = refl; simple = tt }
start_sign v UNBRACE = record { seen = refl; simple = tt }
start_sign v DOT = record { seen = refl; simple = tt }
start_sign v BAR = record { seen = refl; simple = tt }
start_sign v STAR = record { seen = refl; simple = tt }
start_sign v SEMICOLON = record { seen = refl; simple = tt }
start_sign v EQUALS = record { seen = refl; simple = tt }

start_seen : (v : Visit) (t : TextToken) → TokenFits t → StartSeen (begins_kind v (token_kind t)) (start_of v t)
start_seen v (nonterminal n) h = record { seen = refl; simple = tt }
start_seen v (value n) h = record { seen = refl; simple = tt }
start_seen v (attribute m a) h = start_attribute v m a (attribute? a) (omega arith)
start_seen v (name n) h = record { seen = refl; simple = tt }
start_seen v (start_tag n) h = record { seen = refl; simple = tt }
start_seen v (end_tag n) h = record { seen = refl; simple = tt }
start_seen v (empty_tag n) h = record { seen = refl; simple = tt }
start_seen v (string cs) h = record { seen = refl; simple = tt }
start_seen v (word w) h = start_word_lem v w
start_seen v (sign s) h = start_sign v s

-- what is asked of a kind behind a statement
record Follows : Type 0 where
  short? : Bool
  long? : Bool
  semicolon? : Bool
  else? : Bool
  end? : Bool
  then? : Bool
  assign? : Bool

abbrev follows : Bool → Bool → Bool → Bool → Bool → Bool → Bool → Follows
follows a b c d e f g = record { short? = a; long? = b; semicolon? = c; else? = d; end? = e; then? = f; assign? = g }

abbrev follows_kind : ℕ → Follows
follows_kind k = follows (is_short_item k) (is_long_item k) (is_sign SEMICOLON k) (is_word ELSE k) (is_word END k) (is_word THEN k) (is_sign ASSIGNED k)

data NextSeen : Follows → Behind → Type 0 where
  short_item : {p : TextProgram} → program_extent p ≡ unnested 2 → NextSeen (follows true false false false false false false) (an_item p)
  long_item : {p : TextProgram} → program_extent p ≡ unnested 4 → NextSeen (follows false true false false false false false) (an_item p)
  seen_semicolon : NextSeen (follows false false true false false false false) a_semicolon
  seen_else : NextSeen (follows false false false true false false false) an_else
  seen_end : NextSeen (follows false false false false true false false) Behind.an_end
  seen_then : NextSeen (follows false false false false false true false) a_then
  seen_assign : NextSeen (follows false false false false false false true) an_assign
  seen_nothing : NextSeen (follows false false false false false false false) nothing

next_word_lem : (w : Keyword) → NextSeen (follows_kind (word_number w)) (next_word w)
next_word_lem CHAR = seen_nothing
next_word_lem ECHO = seen_nothing
next_word_lem ECHO-OFF = seen_nothing
next_word_lem REJECT = seen_nothing
next_word_lem PRINT = seen_nothing
next_word_lem IF = seen_nothing
next_word_lem THEN = seen_then
next_word_lem ELSE = seen_else
next_word_lem BEGIN = seen_nothing
next_word_lem END = seen_end
next_word_lem AND = seen_nothing
next_word_lem OR = seen_nothing
next_word_lem NOT = seen_nothing
next_word_lem EMPTY = seen_nothing

next_sign_lem : (s : Sign) → NextSeen (follows_kind (sign_number s)) (next_sign s)
next_sign_lem DEFINED = seen_nothing
next_sign_lem ASSIGNED = seen_assign
next_sign_lem OPEN = seen_nothing
next_sign_lem CLOSE = seen_nothing
next_sign_lem BRACE = seen_nothing
next_sign_lem UNBRACE = seen_nothing
next_sign_lem DOT = seen_nothing
next_sign_lem BAR = seen_nothing
next_sign_lem STAR = seen_nothing
next_sign_lem SEMICOLON = seen_semicolon
next_sign_lem EQUALS = seen_nothing

next_item : {P : Type 0} (k : ℕ) (p : TextProgram) (d : Dec P) → P → NextSeen (follows_kind k) (an_item p) → NextSeen (follows_kind k) (item_if d p)
next_item k p (yes h) g s = s
next_item k p (no h) g s = absurd (h g)

next_seen : (t : TextToken) → TokenFits t → NextSeen (follows_kind (token_kind t)) (behind_of t)
next_seen (nonterminal n) h = seen_nothing
next_seen (value n) h = seen_nothing
next_seen (attribute plain a) h = seen_nothing
next_seen (attribute left a) h = seen_nothing
next_seen (attribute right a) h = seen_nothing
next_seen (name n) h = seen_nothing
next_seen (start_tag n) h = next_item 6 _ (tag_name? n) h (short_item refl)
next_seen (end_tag n) h = next_item 7 _ (tag_name? n) h (short_item refl)
next_seen (empty_tag n) h = next_item 8 _ (tag_name? n) h (long_item refl)
next_seen (string cs) h = next_item 9 _ (string? cs) h (long_item refl)
next_seen (word w) h = next_word_lem w
next_seen (sign s) h = next_sign_lem s

-- where a statement may begin
abbrev step_begins : Begins → Place → List Layer → Option Outline
step_begins q w ls =
    cond q.plain? (some (outlined (past false (unnested 1)) ls))
    (cond q.target? (some (outlined at_assign ls))
    (cond q.print? (some (outlined at_item ls))
    (cond q.if? (some (outlined (in_condition (wanting a_single (blank_margin ∷ []))) ls))
    (cond q.begin? (begun_at w ls)
    (cond q.end? (ended_at w ls) none)))))

some_around : (fs : List Pending) (b p : Extent) (ls : List Layer) → ended_in (layers_on fs (among b ∷ ls)) p ≡ some (outlined (past false p) (layers_on fs (among b ∷ ls)))
some_around [] b p ls = refl
some_around (f ∷ fs) b p ls = refl

ended_alike : (ls : List ListLevel) (p : TextProgram) → ended_in (layers_of ls) (program_extent p) ≡ outline_if (reading.unblocked ls p)
ended_alike [] p = refl
ended_alike (l ∷ ls) p = some_around l.ifs (program_extent l.before) (program_extent p) (layers_of ls)

begin_alike : (w : Place) (l : ListLevel) (ls : List ListLevel) → begun_at w (layers_of (l ∷ ls)) ≡ outline_if (reading.blocked w l ls)
begin_alike opening l ls = refl
begin_alike separated l ls = refl
begin_alike branching l ls = refl

empty_alike : (w : Place) (l : ListLevel) (ls : List ListLevel) → ended_at w (layers_of (l ∷ ls)) ≡ outline_if (reading.emptied w l ls)
empty_alike opening l ls = ap (λ x. ended_in x.outside vacant) (closed_extent l ls done) ∙ ended_alike ls done
empty_alike separated l ls = refl
empty_alike branching l ls = refl

start_alike : (w : Place) (l : ListLevel) (ls : List ListLevel) (k : Start) → SimpleIs k → step_begins (begins_start k) w (layers_of (l ∷ ls)) ≡ outline_if (reading.started_list w l ls k)
start_alike w l ls (simply t) e = ap (λ x. some (outlined (past false x) (layers_of (l ∷ ls)))) (sym e)
start_alike w l ls (a_target a) e = refl
start_alike w l ls a_print e = refl
start_alike w l ls an_if e = refl
start_alike w l ls a_begin e = begin_alike w l ls
start_alike w l ls Start.an_end e = empty_alike w l ls
start_alike w l ls no_start e = refl

wants_alike : (v : Visit) (w : Place) (l : ListLevel) (ls : List ListLevel) (t : TextToken) → TokenFits t → step_at v w (layers_of (l ∷ ls)) (token_kind t) ≡ outline_if (reading.started_list w l ls (start_of v t))
wants_alike v w l ls t h =
    let s = start_seen v t h in
    ap (λ q. step_begins q w (layers_of (l ∷ ls))) s.seen ∙ start_alike w l ls (start_of v t) s.simple

-- behind a statement
abbrev step_follows : Follows → Bool → Extent → Closed → List Layer → Option Outline
step_follows q b p c ls =
    cond (b && q.short?) (some (outlined (past true (in_turn p (unnested 2))) ls))
    (cond (b && q.long?) (some (outlined (past true (in_turn p (unnested 4))) ls))
    (cond q.semicolon? (some (outlined (at separated) (among c.whole ∷ c.outside)))
    (cond q.else? (elsed_at (else_of ls p))
    (cond q.end? (ended_in c.outside c.whole) none))))

item_alike : (b : Bool) (p q : TextProgram) (l : ListLevel) (ls : List ListLevel) (n : ℕ) → program_extent q ≡ unnested n
    → cond b (some (outlined (past true (in_turn (program_extent p) (unnested n))) (layers_of (l ∷ ls)))) none ≡ outline_if (reading.one_more b p q l ls)
item_alike true p q l ls n e = ap (λ x. some (outlined (past true x) (layers_of (l ∷ ls)))) (sym (then_extent p q ∙ ap (in_turn (program_extent p)) e))
item_alike false p q l ls n e = refl

elsed_alike : (l : ListLevel) (ls : List ListLevel) (o : Option (List Pending)) → elsed_at (layers_if (among (program_extent l.before) ∷ layers_of ls) o) ≡ outline_if (reading.elsed l ls o)
elsed_alike l ls none = refl
elsed_alike l ls (some fs) = refl

semicolon_alike : (p : TextProgram) (l : ListLevel) (ls : List ListLevel) → some (outlined (at separated) (among (program_extent (listed l p)) ∷ layers_of ls)) ≡ outline_if (some (wants separated (list_level (listed l p) []) ls))
semicolon_alike p l ls = refl

follow_alike : (b : Bool) (p : TextProgram) (l : ListLevel) (ls : List ListLevel) {q : Follows} {k : Behind} → NextSeen q k
    → step_follows q b (program_extent p) (record { whole = program_extent (listed l p); outside = layers_of ls }) (layers_of (l ∷ ls)) ≡ outline_if (reading.followed b p l ls k)
follow_alike true p l ls (short_item {p = q} e) = item_alike true p q l ls 2 e
follow_alike false p l ls (short_item e) = refl
follow_alike true p l ls (long_item {p = q} e) = item_alike true p q l ls 4 e
follow_alike false p l ls (long_item e) = refl
follow_alike true p l ls seen_semicolon = semicolon_alike p l ls
follow_alike false p l ls seen_semicolon = semicolon_alike p l ls
follow_alike true p l ls seen_else = ap elsed_at (else_alike l.ifs (program_extent l.before) (layers_of ls) p) ∙ elsed_alike l ls (otherwise l.ifs p)
follow_alike false p l ls seen_else = ap elsed_at (else_alike l.ifs (program_extent l.before) (layers_of ls) p) ∙ elsed_alike l ls (otherwise l.ifs p)
follow_alike true p l ls seen_end = ended_alike ls (listed l p)
follow_alike false p l ls seen_end = ended_alike ls (listed l p)
follow_alike true p l ls seen_then = refl
follow_alike false p l ls seen_then = refl
follow_alike true p l ls seen_assign = refl
follow_alike false p l ls seen_assign = refl
follow_alike true p l ls seen_nothing = refl
follow_alike false p l ls seen_nothing = refl

past_alike : (b : Bool) (p : TextProgram) (l : ListLevel) (ls : List ListLevel) (t : TextToken) → TokenFits t
    → step_past b (program_extent p) (closed_list (layers_of (l ∷ ls)) (program_extent p)) (layers_of (l ∷ ls)) (token_kind t) ≡ outline_if (reading.followed b p l ls (behind_of t))
past_alike b p l ls t h =
    ap (λ c. step_past b (program_extent p) c (layers_of (l ∷ ls)) (token_kind t)) (closed_extent l ls p) ∙ follow_alike b p l ls (next_seen t h)

-- where something is wanted
assign_alike : (a : ℕ) (l : ListLevel) (ls : List ListLevel) {q : Follows} {k : Behind} → NextSeen q k
    → cond q.assign? (some (outlined at_operand (layers_of (l ∷ ls)))) none ≡ outline_if (reading.targeted a l ls k)
assign_alike a l ls (short_item e) = refl
assign_alike a l ls (long_item e) = refl
assign_alike a l ls seen_semicolon = refl
assign_alike a l ls seen_else = refl
assign_alike a l ls seen_end = refl
assign_alike a l ls seen_then = refl
assign_alike a l ls seen_assign = refl
assign_alike a l ls seen_nothing = refl

print_alike : (l : ListLevel) (ls : List ListLevel) {q : Follows} {k : Behind} → NextSeen q k
    → cond q.short? (some (outlined (past true (unnested 2)) (layers_of (l ∷ ls)))) (cond q.long? (some (outlined (past true (unnested 4)) (layers_of (l ∷ ls)))) none) ≡ outline_if (reading.printed l ls k)
print_alike l ls (short_item e) = ap (λ x. some (outlined (past true x) (layers_of (l ∷ ls)))) (sym e)
print_alike l ls (long_item e) = ap (λ x. some (outlined (past true x) (layers_of (l ∷ ls)))) (sym e)
print_alike l ls seen_semicolon = refl
print_alike l ls seen_else = refl
print_alike l ls seen_end = refl
print_alike l ls seen_then = refl
print_alike l ls seen_assign = refl
print_alike l ls seen_nothing = refl

operand_alike : (a : ℕ) (l : ListLevel) (ls : List ListLevel) (k : ConditionPart) → cond (of_part k).an_operand? (some (outlined (past false (unnested 3)) (layers_of (l ∷ ls)))) none ≡ outline_if (reading.assigned_by a l ls k)
operand_alike a l ls (operand x) = ap (λ e. some (outlined (past false e) (layers_of (l ∷ ls)))) (sym (assigned_extent a x))
operand_alike a l ls a_not = refl
operand_alike a l ls an_and = refl
operand_alike a l ls an_or = refl
operand_alike a l ls an_open = refl
operand_alike a l ls a_close = refl
operand_alike a l ls an_equals = refl
operand_alike a l ls other = refl

-- in a condition
abbrev step_then : Bool → Option Extent → List Layer → Option Outline
step_then b none ls = none
step_then b (some c) ls = cond b (some (outlined (at branching) (then_of c ∷ ls))) none

then_alike : (o : Option Condition) (l : ListLevel) (ls : List ListLevel) {q : Follows} {k : Behind} → NextSeen q k → step_then q.then? (extent_if o) (layers_of (l ∷ ls)) ≡ outline_if (reading.thenned o l ls k)
then_alike none l ls s = refl
then_alike (some c) l ls (short_item e) = refl
then_alike (some c) l ls (long_item e) = refl
then_alike (some c) l ls seen_semicolon = refl
then_alike (some c) l ls seen_else = refl
then_alike (some c) l ls seen_end = refl
then_alike (some c) l ls seen_then = refl
then_alike (some c) l ls seen_assign = refl
then_alike (some c) l ls seen_nothing = refl

then_kind : (o : Option Extent) (ls : List Layer) (k : ℕ) → then_at o ls k ≡ step_then (is_word THEN k) o ls
then_kind none ls k = refl
then_kind (some c) ls k = refl

tested_alike : (r : Option Reading) (o : Option Condition) (l : ListLevel) (ls : List ListLevel) (t : TextToken) → TokenFits t
    → step_tested (condition_if r) (extent_if o) (layers_of (l ∷ ls)) (token_kind t) ≡ outline_if (reading.tested r o l ls (behind_of t))
tested_alike (some r) o l ls t h = refl
tested_alike none o l ls t h = then_kind (extent_if o) (layers_of (l ∷ ls)) (token_kind t) ∙ then_alike o l ls (next_seen t h)

pub steps_alike : StepsAlike
steps_alike v (wants w l ls) t h = wants_alike v w l ls t h
steps_alike v (target a l ls) t h = assign_alike a l ls (next_seen t h)
steps_alike v (assigning a l ls) t h = ap (λ b. cond b (some (outlined (past false (unnested 3)) (layers_of (l ∷ ls)))) none) (operand_asked v t h) ∙ operand_alike a l ls (part_of v t)
steps_alike v (printing l ls) t h = print_alike l ls (next_seen t h)
steps_alike v (testing r l ls) t h =
    ap₂ (λ x y. step_tested x y (layers_of (l ∷ ls)) (token_kind t)) (condition_alike v r t h) (read_alike r)
    ∙ tested_alike (step_condition v parentheses r t) (value_of_condition r) l ls t h
steps_alike v (after b p l ls) t h = past_alike b p l ls t h
