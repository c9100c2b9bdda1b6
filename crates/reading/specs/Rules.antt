-- The machine that reads the tokens of a whole text. Assumes nothing.
use Rattle.std.specs.Prelude.{true, List, [], ◌∷◌, ◌++◌, ℕ}
use Rattle.std.proofs.Math.Option.{Option, none, some}
use Rattle.programs.specs.Limits.{first, second}
use Rattle.notation.specs.Program.{TextProgram}
use Rattle.notation.specs.Rules.{TextVisits, Tree, TextRule, Rules}
use Rattle.notation.specs.Tokens.{TextToken, nonterminal, value, attribute, name, start_tag, end_tag, empty_tag, string, word, sign, Sign, DEFINED, ASSIGNED, OPEN, CLOSE, BRACE, UNBRACE, DOT, BAR, STAR, SEMICOLON, EQUALS}
use Rattle.reading.specs.Machine.{Machine}
use Rattle.reading.specs.Tests.{tag_name?}
use Rattle.reading.specs.Statements.{Listing, list_start, step_statements, value_of_list, finished_list}
use Rattle.reading.specs.Expressions.{Parsing, fresh_expression, nonterminal?, piece_of, unbraces, listing, step_expression, value_of_content, finished_content}

-- what a token is outside expressions and programs
pub data Key : Type 0 where
  a_nonterminal : ℕ → Key
  a_name : List ℕ → Key
  a_definition an_open a_close a_brace other : Key

abbrev pub key_if : {P : Type 0} → Dec P → Key → Key
key_if (yes h) k = k
key_if (no h) k = other

abbrev pub sign_key : Sign → Key
sign_key DEFINED = a_definition
sign_key ASSIGNED = other
sign_key OPEN = an_open
sign_key CLOSE = a_close
sign_key BRACE = a_brace
sign_key UNBRACE = other
sign_key DOT = other
sign_key BAR = other
sign_key STAR = other
sign_key SEMICOLON = other
sign_key EQUALS = other

abbrev pub key_of : TextToken → Key
key_of (nonterminal n) = key_if (nonterminal? n) (a_nonterminal n)
key_of (value n) = other
key_of (attribute m a) = other
key_of (name n) = key_if (tag_name? n) (a_name n)
key_of (start_tag n) = other
key_of (end_tag n) = other
key_of (empty_tag n) = other
key_of (string cs) = other
key_of (word w) = other
key_of (sign s) = sign_key s

-- the production that is being read: the start, the productions before, its nonterminal
pub record Head : Type 0 where
  pub start : ℕ
  pub earlier : List TextRule
  pub nonterm : ℕ

abbrev pub head : ℕ → List TextRule → ℕ → Head
head s rs n = record { start = s; earlier = rs; nonterm = n }

pub data Progress : Type 0 where
  beginning : Progress
  first_word : ℕ → Progress  -- the start, alone or as a production's nonterminal
  named : Head → Progress  -- wants ::=
  defined : Head → Progress  -- wants a program or a tag
  own_front : Listing → Head → Progress
  wants_tag : Option TextProgram → Head → Progress
  tagged : Option TextProgram → List ℕ → Head → Progress  -- wants (
  within : Parsing → Option TextProgram → List ℕ → Head → Progress
  closed : Option TextProgram → List ℕ → Option Tree → Head → Progress  -- behind the ): a production may end
  own_back : Listing → Option TextProgram → List ℕ → Option Tree → Head → Progress
  complete : TextRule → Head → Progress  -- behind its second program

abbrev pub rule_read : Option TextProgram → Option TextProgram → List ℕ → Option Tree → Head → TextRule
rule_read f g t e h = record { nonterminal = h.nonterm; tag = t; own = record { first_visit = f; second_visit = g }; inside = e }

abbrev pub rules_read : TextRule → Head → Rules
rules_read r h = record { start = h.start; productions = h.earlier ++ r ∷ [] }

-- the next production's nonterminal, behind a rule
abbrev pub next_head : TextRule → Head → ℕ → Head
next_head r h n = head h.start (h.earlier ++ r ∷ []) n

abbrev pub step_key : Progress → Key → Option Progress
step_key beginning (a_nonterminal n) = some (first_word n)
step_key beginning (a_name t) = none
step_key beginning a_definition = none
step_key beginning an_open = none
step_key beginning a_close = none
step_key beginning a_brace = none
step_key beginning other = none
step_key (first_word s) (a_nonterminal n) = some (named (head s [] n))
step_key (first_word s) (a_name t) = none
step_key (first_word s) a_definition = some (defined (head s [] s))
step_key (first_word s) an_open = none
step_key (first_word s) a_close = none
step_key (first_word s) a_brace = none
step_key (first_word s) other = none
step_key (named h) (a_nonterminal n) = none
step_key (named h) (a_name t) = none
step_key (named h) a_definition = some (defined h)
step_key (named h) an_open = none
step_key (named h) a_close = none
step_key (named h) a_brace = none
step_key (named h) other = none
step_key (defined h) (a_nonterminal n) = none
step_key (defined h) (a_name t) = some (tagged none t h)
step_key (defined h) a_definition = none
step_key (defined h) an_open = none
step_key (defined h) a_close = none
step_key (defined h) a_brace = some (own_front list_start h)
step_key (defined h) other = none
step_key (own_front q h) k = none
step_key (wants_tag f h) (a_nonterminal n) = none
step_key (wants_tag f h) (a_name t) = some (tagged f t h)
step_key (wants_tag f h) a_definition = none
step_key (wants_tag f h) an_open = none
step_key (wants_tag f h) a_close = none
step_key (wants_tag f h) a_brace = none
step_key (wants_tag f h) other = none
step_key (tagged f t h) (a_nonterminal n) = none
step_key (tagged f t h) (a_name u) = none
step_key (tagged f t h) a_definition = none
step_key (tagged f t h) an_open = some (within (Parsing.wants true fresh_expression []) f t h)
step_key (tagged f t h) a_close = none
step_key (tagged f t h) a_brace = none
step_key (tagged f t h) other = none
step_key (within x f t h) k = none
step_key (closed f t e h) (a_nonterminal n) = some (named (next_head (rule_read f none t e h) h n))
step_key (closed f t e h) (a_name u) = none
step_key (closed f t e h) a_definition = none
step_key (closed f t e h) an_open = none
step_key (closed f t e h) a_close = none
step_key (closed f t e h) a_brace = some (own_back list_start f t e h)
step_key (closed f t e h) other = none
step_key (own_back q f t e h) k = none
step_key (complete r h) (a_nonterminal n) = some (named (next_head r h n))
step_key (complete r h) (a_name u) = none
step_key (complete r h) a_definition = none
step_key (complete r h) an_open = none
step_key (complete r h) a_close = none
step_key (complete r h) a_brace = none
step_key (complete r h) other = none

-- what stands between a tag's parentheses goes on, or ends with )
abbrev pub closes_content : Key → Option (Option Tree) → Option TextProgram → List ℕ → Head → Option Progress
closes_content (a_nonterminal n) o f t h = none
closes_content (a_name u) o f t h = none
closes_content a_definition o f t h = none
closes_content an_open o f t h = none
closes_content a_close none f t h = none
closes_content a_close (some e) f t h = some (closed f t e h)
closes_content a_brace o f t h = none
closes_content other o f t h = none

abbrev pub parsing : Option Parsing → Option Progress → Option TextProgram → List ℕ → Head → Option Progress
parsing none o f t h = o
parsing (some x) o f t h = some (within x f t h)

abbrev pub step_rules : Progress → TextToken → Option Progress
step_rules beginning t = step_key beginning (key_of t)
step_rules (first_word n) t = step_key (first_word n) (key_of t)
step_rules (named h) t = step_key (named h) (key_of t)
step_rules (defined h) t = step_key (defined h) (key_of t)
step_rules (own_front q h) t = listing (step_statements first q t) (λ r. own_front r h) (unbraces (piece_of t) (value_of_list q) (λ p. wants_tag (some p) h))
step_rules (wants_tag f h) t = step_key (wants_tag f h) (key_of t)
step_rules (tagged f u h) t = step_key (tagged f u h) (key_of t)
step_rules (within x f u h) t = parsing (step_expression x t) (closes_content (key_of t) (value_of_content x) f u h) f u h
step_rules (closed f u e h) t = step_key (closed f u e h) (key_of t)
step_rules (own_back q f u e h) t =
    listing (step_statements second q t) (λ r. own_back r f u e h) (unbraces (piece_of t) (value_of_list q) (λ p. complete (rule_read f (some p) u e h) h))
step_rules (complete r h) t = step_key (complete r h) (key_of t)

abbrev pub value_of_rules : Progress → Option Rules
value_of_rules beginning = none
value_of_rules (first_word n) = none
value_of_rules (named h) = none
value_of_rules (defined h) = none
value_of_rules (own_front q h) = none
value_of_rules (wants_tag f h) = none
value_of_rules (tagged f t h) = none
value_of_rules (within x f t h) = none
value_of_rules (closed f t e h) = some (rules_read (rule_read f none t e h) h)
value_of_rules (own_back q f t e h) = none
value_of_rules (complete r h) = some (rules_read r h)

-- the shortest continuation: the tag a with nothing inside
abbrev pub plain_rule : Option TextProgram → Head → TextRule
plain_rule f h = rule_read f none (97 ∷ []) none h

abbrev pub finished_rules : Progress → Rules
finished_rules beginning = rules_read (plain_rule none (head 0 [] 0)) (head 0 [] 0)
finished_rules (first_word n) = rules_read (plain_rule none (head n [] n)) (head n [] n)
finished_rules (named h) = rules_read (plain_rule none h) h
finished_rules (defined h) = rules_read (plain_rule none h) h
finished_rules (own_front q h) = rules_read (plain_rule (some (finished_list q)) h) h
finished_rules (wants_tag f h) = rules_read (plain_rule f h) h
finished_rules (tagged f t h) = rules_read (rule_read f none t none h) h
finished_rules (within x f t h) = rules_read (rule_read f none t (finished_content x) h) h
finished_rules (closed f t e h) = rules_read (rule_read f none t e h) h
finished_rules (own_back q f t e h) = rules_read (rule_read f (some (finished_list q)) t e h) h
finished_rules (complete r h) = rules_read r h

abbrev pub rules : Machine TextToken Rules
rules = record { State = Progress; start = beginning; step = step_rules; value = value_of_rules; finished = finished_rules }
