-- What each token does to the bytes, by what it is to the machine. Assumes nothing.
use mathlib.Core.Path.{◌≡◌, refl, sym, ◌∙◌, ap}
use mathlib.Core.Bool.{Bool, true, false}
use mathlib.Core.List.{List, [], ◌∷◌}
use Prim.Native.Nat.{ℕ, ◌≤◌, ◌/◌, ◌%◌}
use native.Mathlib.Nat.{mod-eq_of_lt}
use native.Mathlib.Omega.{arith}
use lib.ListN.{length}
use Rattle.text.specs.Characters.{utf8s}
use Rattle.programs.specs.Program.{Operand, constant, current, recalled, statement_bytes}
use Rattle.programs.specs.Limits.{Attribute, Value, Visit}
use Rattle.programs.specs.Parsed.{which_visit}
use Rattle.notation.specs.Program.{TextStatement, print_start, print_end, print_text, TextProgram, step, statement_in}
use Rattle.notation.specs.Statements.{only}
use Rattle.notation.specs.Tokens.{Dollar, plain, left, right, TextToken, nonterminal, value, attribute, name, start_tag, end_tag, empty_tag, string, word, Keyword, CHAR, ECHO, ECHO-OFF, REJECT, PRINT, IF, THEN, ELSE, BEGIN, END, AND, OR, NOT, EMPTY, sign, Sign, DEFINED, ASSIGNED, OPEN, CLOSE, BRACE, UNBRACE, DOT, BAR, STAR, SEMICOLON, EQUALS}
use Rattle.reading.specs.Tests.{tag_name?, string?}
use Rattle.reading.specs.Conditions.{ConditionPart, operand, a_not, an_and, an_or, an_open, a_close, an_equals, other, part_if, value?, attribute?, attribute_of, attribute_part, part_of}
use Rattle.reading.specs.Statements.{Start, simply, a_target, a_print, an_if, a_begin, no_start, current?, target_if, start_of, Behind, an_item, a_semicolon, an_else, a_then, an_assign, nothing, item_if, behind_of}
use Rattle.lexemes.specs.Kinds.{token_kind, token_number, TokenFits}
use Rattle.strokes.specs.Bodies.{body_bytes}
use Rattle.strokes.specs.Strokes.{Stroke, idle, writes, uses, assigns, tests, thens, elses, begins, ends, separates, conjoins, disjoins, opens, closes, stroke_of, item_bytes}
use Rattle.strokes.specs.Promises.{NoItem, ItemAt, TagNumbered, StringAt}

-- 0 v, 1 a, 2 a
abbrev pub code_of : Operand → ℕ
code_of (constant v) = 0
code_of (current a) = 1
code_of (recalled a) = 2

abbrev pub which_of : Operand → ℕ
which_of (constant v) = v
which_of (current a) = a
which_of (recalled a) = a

-- in a condition, where a statement may begin, and behind one
pub data PartDoes : ConditionPart → Stroke → Type 0 where
  part_used : {x : Operand} {c n : ℕ} → c ≡ code_of x → n ≡ which_of x → PartDoes (operand x) (uses c n)
  part_not : PartDoes a_not (writes (1 ∷ []))
  part_and : PartDoes an_and conjoins
  part_or : PartDoes an_or disjoins
  part_open : PartDoes an_open opens
  part_close : PartDoes a_close closes
  part_equals : PartDoes an_equals idle
  no_part : {st : Stroke} → PartDoes other st

pub data StartDoes (tag offset : List ℕ → ℕ) : Start → Stroke → Type 0 where
  start_simple : {t : TextStatement} {bs : List ℕ} → statement_bytes (statement_in tag offset t) ≡ bs → StartDoes tag offset (simply t) (writes bs)
  start_target : {a c n : ℕ} → n ≡ a → StartDoes tag offset (a_target a) (uses c n)
  start_print : StartDoes tag offset a_print idle
  start_if_lem : StartDoes tag offset an_if tests
  start_begin : StartDoes tag offset a_begin begins
  start_end : StartDoes tag offset Start.an_end ends
  start_none : {st : Stroke} → StartDoes tag offset no_start st

pub data NextDoes (tag offset : List ℕ → ℕ) : Behind → Stroke → Type 0 where
  next_item : {p : TextProgram} {bs : List ℕ} → body_bytes tag offset p ≡ bs → NextDoes tag offset (an_item p) (writes bs)
  next_semicolon : NextDoes tag offset a_semicolon separates
  next_else : NextDoes tag offset an_else elses
  next_end : NextDoes tag offset Behind.an_end ends
  next_then : NextDoes tag offset a_then thens
  next_assign : NextDoes tag offset an_assign assigns
  next_none : {st : Stroke} → NextDoes tag offset nothing st

pub record TokenDoes (tag offset : List ℕ → ℕ) (v : Visit) (t : TextToken) (st : Stroke) : Type 0 where
  pub part : PartDoes (part_of v t) st
  pub start : StartDoes tag offset (start_of v t) st
  pub next : NextDoes tag offset (behind_of t) st

value_does : (n : ℕ) (d : Dec (Value n)) → n % 256 ≡ n → PartDoes (part_if d (constant n)) (uses 0 (n % 256))
value_does n (yes h) e = part_used refl e
value_does n (no h) e = no_part

attribute_part_lem : (b : Bool) (m : Dollar) (a : ℕ) (d : Dec (Attribute a)) → a % 256 ≡ a → PartDoes (attribute_part d (attribute_of (which_visit b) m a)) (stroke_of b (token_kind (attribute m a)) a)
attribute_part_lem true plain a (yes h) e = part_used refl e
attribute_part_lem false plain a (yes h) e = part_used refl e
attribute_part_lem true left a (yes h) e = part_used refl e
attribute_part_lem false left a (yes h) e = part_used refl e
attribute_part_lem true right a (yes h) e = part_used refl e
attribute_part_lem false right a (yes h) e = no_part
attribute_part_lem true plain a (no h) e = no_part
attribute_part_lem false plain a (no h) e = no_part
attribute_part_lem true left a (no h) e = no_part
attribute_part_lem false left a (no h) e = no_part
attribute_part_lem true right a (no h) e = no_part
attribute_part_lem false right a (no h) e = no_part

module _ (tag offset : List ℕ → ℕ) where
  attribute_start : (b : Bool) (m : Dollar) (a : ℕ) (d : Dec (Attribute a)) → a % 256 ≡ a → StartDoes tag offset (target_if d (current? (which_visit b) m) a) (stroke_of b (token_kind (attribute m a)) a)
  attribute_start true plain a (yes h) e = start_target e
  attribute_start false plain a (yes h) e = start_target e
  attribute_start true left a (yes h) e = start_none
  attribute_start false left a (yes h) e = start_target e
  attribute_start true right a (yes h) e = start_target e
  attribute_start false right a (yes h) e = start_none
  attribute_start b m a (no h) e = start_none

  word_does : (b : Bool) (w : Keyword) → TokenDoes tag offset (which_visit b) (word w) (stroke_of b (token_kind (word w)) 0)
  word_does b CHAR = record { part = no_part; start = start_none; next = next_none }
  word_does true ECHO = record { part = no_part; start = start_none; next = next_none }
  word_does false ECHO = record { part = no_part; start = start_simple refl; next = next_none }
  word_does true ECHO-OFF = record { part = no_part; start = start_none; next = next_none }
  word_does false ECHO-OFF = record { part = no_part; start = start_simple refl; next = next_none }
  word_does b REJECT = record { part = no_part; start = start_simple refl; next = next_none }
  word_does b PRINT = record { part = no_part; start = start_print; next = next_none }
  word_does b IF = record { part = no_part; start = start_if_lem; next = next_none }
  word_does b THEN = record { part = no_part; start = start_none; next = next_then }
  word_does b ELSE = record { part = no_part; start = start_none; next = next_else }
  word_does b BEGIN = record { part = no_part; start = start_begin; next = next_none }
  word_does b END = record { part = no_part; start = start_end; next = next_end }
  word_does b AND = record { part = part_and; start = start_none; next = next_none }
  word_does b OR = record { part = part_or; start = start_none; next = next_none }
  word_does b NOT = record { part = part_not; start = start_none; next = next_none }
  word_does b EMPTY = record { part = no_part; start = start_none; next = next_none }

  sign_does : (b : Bool) (s : Sign) → TokenDoes tag offset (which_visit b) (sign s) (stroke_of b (token_kind (sign s)) 0)
  sign_does b DEFINED = record { part = no_part; start = start_none; next = next_none }
  sign_does b ASSIGNED = record { part = no_part; start = start_none; next = next_assign }
  sign_does b OPEN = record { part = part_open; start = start_none; next = next_none }
  sign_does b CLOSE = record { part = part_close; start = start_none; next = next_none }
  sign_does b BRACE = record { part = no_part; start = start_none; next = next_none }
  sign_does b UNBRACE = record { part = no_part; start = start_none; next = next_none }
  sign_does b DOT = record { part = no_part; start = start_none; next = next_none }
  sign_does b BAR = record { part = no_part; start = start_none; next = next_none }
  sign_does b STAR = record { part = no_part; start = start_none; next = next_none }
  sign_does b SEMICOLON = record { part = no_part; start = start_none; next = next_semicolon }
  sign_does b EQUALS = record { part = part_equals; start = start_none; next = next_none }

  pub token_does : (b : Bool) (t : TextToken) → NoItem t → TokenFits t → TokenDoes tag offset (which_visit b) t (stroke_of b (token_kind t) (token_number t))
  token_does b (nonterminal n) i h = record { part = no_part; start = start_none; next = next_none }
  token_does b (value n) i h = record { part = value_does n (value? n) (mod-eq_of_lt (omega arith)); start = start_none; next = next_none }
  token_does b (attribute m a) i h =
      let e : a % 256 ≡ a = mod-eq_of_lt (omega arith) in
      record { part = attribute_part_lem b m a (attribute? a) e; start = attribute_start b m a (attribute? a) e; next = next_none }
  token_does b (name n) i h = record { part = no_part; start = start_none; next = next_none }
  token_does b (start_tag n) i h = absurd i
  token_does b (end_tag n) i h = absurd i
  token_does b (empty_tag n) i h = absurd i
  token_does b (string cs) i h = absurd i
  token_does b (word w) i h = word_does b w
  token_does b (sign s) i h = sign_does b s

  item_next : {P : Type 0} (d : Dec P) (p : TextProgram) (bs : List ℕ) → body_bytes tag offset p ≡ bs → NextDoes tag offset (item_if d p) (writes bs)
  item_next (yes h) p bs e = next_item e
  item_next (no h) p bs e = next_none

  tag_byte : {n : List ℕ} {place : ℕ} → TagNumbered tag n place → tag n ≡ place % 256
  tag_byte h = sym h.numbered ∙ sym (mod-eq_of_lt h.small)

  string_bytes : (s : List ℕ) (place : ℕ) → StringAt offset s place → length s ≤ 255
      → ◌≡◌ {A = List ℕ} (7 ∷ (offset s % 256) ∷ (offset s / 256) ∷ length s ∷ []) (7 ∷ (place % 256) ∷ (place / 256 % 256) ∷ (length s % 256) ∷ [])
  string_bytes s place h g =
      let e : offset s / 256 ≡ place / 256 % 256 = ap (λ z. z / 256) (sym h.lies) ∙ sym (mod-eq_of_lt (omega (arith, h.small))) in
      let f : length s ≡ length s % 256 = sym (mod-eq_of_lt (omega arith)) in
      let k : offset s % 256 ≡ place % 256 = ap (λ z. z % 256) (sym h.lies) in
      cc

  pub item_does : (b : Bool) (t : TextToken) (place : ℕ) → ItemAt tag offset place t → TokenFits t → TokenDoes tag offset (which_visit b) t (writes (item_bytes (token_kind t) place (token_number t)))
  item_does b (nonterminal n) place i h = absurd i
  item_does b (value n) place i h = absurd i
  item_does b (attribute m a) place i h = absurd i
  item_does b (name n) place i h = absurd i
  item_does b (start_tag n) place i h = record { part = no_part; start = start_none; next = item_next (tag_name? n) (only (print_start n)) _ (ap (λ z. 5 ∷ z ∷ []) (tag_byte i)) }
  item_does b (end_tag n) place i h = record { part = no_part; start = start_none; next = item_next (tag_name? n) (only (print_end n)) _ (ap (λ z. 6 ∷ z ∷ []) (tag_byte i)) }
  item_does b (empty_tag n) place i h = record { part = no_part; start = start_none; next = item_next (tag_name? n) (step (print_start n) (only (print_end n))) _ (ap (λ z. 5 ∷ z ∷ 6 ∷ z ∷ []) (tag_byte i)) }
  item_does b (string cs) place i h = record { part = no_part; start = start_none; next = item_next (string? cs) (only (print_text (utf8s cs))) _ (string_bytes (utf8s cs) place i h.short) }
  item_does b (word w) place i h = absurd i
  item_does b (sign s) place i h = absurd i
