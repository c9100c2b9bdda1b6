-- The machine that reads what stands between a tag's parentheses. Assumes nothing.
use Rattle.std.specs.Prelude.{Bool, true, false, List, [], ◌∷◌, ℕ, ◌<◌, ltb, length}
use Rattle.std.proofs.Math.Option.{Option, none, some}
use Rattle.std.proofs.Math.Decide.{dec_lt}
use Rattle.expressions.specs.Expr.{Atom, anychar}
use Rattle.expressions.specs.Grammar.{nonterminals}
use Rattle.programs.specs.Limits.{Visit, first, second}
use Rattle.notation.specs.Program.{TextProgram}
use Rattle.notation.specs.Rules.{Tree, node, Form, atom, cat, alt, star, empty}
use Rattle.notation.specs.Statements.{parentheses}
use Rattle.notation.specs.Tokens.{TextToken, nonterminal, value, attribute, name, start_tag, end_tag, empty_tag, string, word, Keyword, CHAR, ECHO, ECHO-OFF, REJECT, PRINT, IF, THEN, ELSE, BEGIN, END, AND, OR, NOT, EMPTY, sign, Sign, DEFINED, ASSIGNED, OPEN, CLOSE, BRACE, UNBRACE, DOT, BAR, STAR, SEMICOLON, EQUALS}
use Rattle.reading.specs.Machine.{Machine}
use Rattle.reading.specs.Statements.{Listing, list_start, step_statements, value_of_list, finished_list}

-- what a token is in an expression
pub data ExpressionPart : Type 0 where
  a_leaf : Option Atom → ExpressionPart  -- an operand by itself: an atom, or EMPTY
  a_star a_dot a_bar an_open a_close a_brace an_unbrace other : ExpressionPart

abbrev pub nonterminal? : (n : ℕ) → Dec (n < nonterminals)
nonterminal? n = dec_lt n nonterminals

abbrev pub atom_if : {P : Type 0} → Dec P → Atom → ExpressionPart
atom_if (yes h) k = a_leaf (some k)
atom_if (no h) k = other

abbrev pub word_piece : Keyword → ExpressionPart
word_piece CHAR = a_leaf (some anychar)
word_piece ECHO = other
word_piece ECHO-OFF = other
word_piece REJECT = other
word_piece PRINT = other
word_piece IF = other
word_piece THEN = other
word_piece ELSE = other
word_piece BEGIN = other
word_piece END = other
word_piece AND = other
word_piece OR = other
word_piece NOT = other
word_piece EMPTY = a_leaf none

abbrev pub sign_piece : Sign → ExpressionPart
sign_piece DEFINED = other
sign_piece ASSIGNED = other
sign_piece OPEN = an_open
sign_piece CLOSE = a_close
sign_piece BRACE = a_brace
sign_piece UNBRACE = an_unbrace
sign_piece DOT = a_dot
sign_piece BAR = a_bar
sign_piece STAR = a_star
sign_piece SEMICOLON = other
sign_piece EQUALS = other

abbrev pub piece_of : TextToken → ExpressionPart
piece_of (nonterminal n) = atom_if (nonterminal? n) (Atom.nonterminal n)
piece_of (value n) = other
piece_of (attribute m a) = other
piece_of (name n) = other
piece_of (start_tag n) = other
piece_of (end_tag n) = other
piece_of (empty_tag n) = other
piece_of (string cs) = other
piece_of (word w) = word_piece w
piece_of (sign s) = sign_piece s

-- what stands to the left within one pair of parentheses: the program in front, what is left of a |, and of a . behind that
pub record ExpressionLevel : Type 0 where
  pub before : Option TextProgram
  pub alt_left : Option Tree
  pub cat_left : Option Tree

abbrev pub expression_level : Option TextProgram → Option Tree → Option Tree → ExpressionLevel
expression_level f a c = record { before = f; alt_left = a; cat_left = c }

abbrev pub fresh_expression : ExpressionLevel
fresh_expression = expression_level none none none

abbrev pub joined_cat : Option Tree → Tree → Tree
joined_cat none e = e
joined_cat (some c) e = node none none (cat c e)

abbrev pub joined_alt : Option Tree → Tree → Tree
joined_alt none e = e
joined_alt (some a) e = node none none (alt a e)

-- the whole union, with an operand put behind what stands to the left
abbrev pub whole_expression : ExpressionLevel → Tree → Tree
whole_expression l e = joined_alt l.alt_left (joined_cat l.cat_left e)

-- at most one of two programs; none where there are two
abbrev pub one_of : Option TextProgram → Option TextProgram → Option (Option TextProgram)
one_of none o = some o
one_of (some p) none = some (some p)
one_of (some p) (some q) = none

-- a node with the program in front
abbrev pub fronted_with : Option (Option TextProgram) → Option TextProgram → Form → Option Tree
fronted_with none g k = none
fronted_with (some f) g k = some (node f g k)

abbrev pub fronted : Option TextProgram → Tree → Option Tree
fronted b (node f g k) = fronted_with (one_of b f) g k

-- the same where a star makes room for a second program in front
abbrev pub sealed_with : Option (Option TextProgram) → Option TextProgram → Option TextProgram → Option TextProgram → Form → Tree
sealed_with none b f g k = node b none (star (node f g k))
sealed_with (some o) b f g k = node o g k

abbrev pub sealed : Option TextProgram → Tree → Tree
sealed b (node f g k) = sealed_with (one_of b f) b f g k

-- the levels around, innermost first
abbrev pub around_expression : List ExpressionLevel → Tree → Tree
around_expression [] e = e
around_expression (l ∷ ls) e = around_expression ls (sealed l.before (whole_expression l e))

pub data Parsing : Type 0 where
  wants : Bool → ExpressionLevel → List ExpressionLevel → Parsing  -- an operand; or, just behind a parenthesis, a program
  in_front : Listing → List ExpressionLevel → Parsing  -- in the program in front
  after : Tree → ExpressionLevel → List ExpressionLevel → Parsing  -- behind an operand
  behind : Listing → Option TextProgram → Form → List ExpressionLevel → Parsing  -- in the program behind
  over : Tree → List ExpressionLevel → Parsing  -- behind the program behind: wants the parenthesis

abbrev pub expression_opened : Bool → ExpressionLevel → List ExpressionLevel → Option Parsing
expression_opened true l ls = some (wants true fresh_expression (l ∷ ls))
expression_opened false l ls = none

abbrev pub expression_closed : List ExpressionLevel → Option Tree → Option Parsing
expression_closed ls none = none
expression_closed [] (some e) = none
expression_closed (l ∷ ls) (some e) = some (after e l ls)

abbrev pub braced : Bool → List ExpressionLevel → Option Parsing
braced true ls = some (in_front list_start ls)
braced false ls = none

-- a program behind, where the node has none for that visit yet
abbrev pub backed : Option Tree → List ExpressionLevel → Option Parsing
backed none ls = none
backed (some (node f none k)) ls = some (behind list_start f k ls)
backed (some (node f (some g) k)) ls = none

abbrev pub leaf_form : Option Atom → Form
leaf_form none = empty
leaf_form (some k) = atom k

abbrev pub step_piece : Parsing → ExpressionPart → Option Parsing
step_piece (wants b l ls) (a_leaf k) = some (after (node none none (leaf_form k)) l ls)
step_piece (wants b l ls) a_star = none
step_piece (wants b l ls) a_dot = none
step_piece (wants b l ls) a_bar = none
step_piece (wants b l ls) an_open = expression_opened (ltb (length ls) parentheses) l ls
step_piece (wants b l ls) a_close = none
step_piece (wants b l ls) a_brace = braced b ls
step_piece (wants b l ls) an_unbrace = none
step_piece (wants b l ls) other = none
step_piece (in_front q ls) k = none
step_piece (after e l ls) (a_leaf k) = none
step_piece (after e l ls) a_star = some (after (node none none (star e)) l ls)
step_piece (after e l ls) a_dot = some (wants false (expression_level l.before l.alt_left (some (joined_cat l.cat_left e))) ls)
step_piece (after e l ls) a_bar = some (wants false (expression_level l.before (some (whole_expression l e)) none) ls)
step_piece (after e l ls) an_open = none
step_piece (after e l ls) a_close = expression_closed ls (fronted l.before (whole_expression l e))
step_piece (after e l ls) a_brace = backed (fronted l.before (whole_expression l e)) ls
step_piece (after e l ls) an_unbrace = none
step_piece (after e l ls) other = none
step_piece (behind q f k ls) j = none
step_piece (over e ls) (a_leaf k) = none
step_piece (over e ls) a_star = none
step_piece (over e ls) a_dot = none
step_piece (over e ls) a_bar = none
step_piece (over e ls) an_open = none
step_piece (over e ls) a_close = expression_closed ls (some e)
step_piece (over e ls) a_brace = none
step_piece (over e ls) an_unbrace = none
step_piece (over e ls) other = none

-- whether a token is }, which ends a program
abbrev pub unbraces : {S : Type 0} → ExpressionPart → Option TextProgram → (TextProgram → S) → Option S
unbraces (a_leaf k) o f = none
unbraces a_star o f = none
unbraces a_dot o f = none
unbraces a_bar o f = none
unbraces an_open o f = none
unbraces a_close o f = none
unbraces a_brace o f = none
unbraces an_unbrace none f = none
unbraces an_unbrace (some p) f = some (f p)
unbraces other o f = none

-- a program goes on, or ends
abbrev pub listing : {S : Type 0} → Option Listing → (Listing → S) → Option S → Option S
listing none f o = o
listing (some q) f o = some (f q)

abbrev pub step_expression : Parsing → TextToken → Option Parsing
step_expression (wants b l ls) t = step_piece (wants b l ls) (piece_of t)
step_expression (in_front q ls) t =
    listing (step_statements first q t) (λ r. in_front r ls) (unbraces (piece_of t) (value_of_list q) (λ p. wants false (expression_level (some p) none none) ls))
step_expression (after e l ls) t = step_piece (after e l ls) (piece_of t)
step_expression (behind q f k ls) t = listing (step_statements second q t) (λ r. behind r f k ls) (unbraces (piece_of t) (value_of_list q) (λ p. over (node f (some p) k) ls))
step_expression (over e ls) t = step_piece (over e ls) (piece_of t)

abbrev pub whole_value : List ExpressionLevel → Option Tree → Option (Option Tree)
whole_value [] none = none
whole_value [] (some e) = some (some e)
whole_value (l ∷ ls) o = none

abbrev pub empty_value : Bool → List ExpressionLevel → Option (Option Tree)
empty_value true [] = some none
empty_value true (l ∷ ls) = none
empty_value false ls = none

abbrev pub value_of_content : Parsing → Option (Option Tree)
value_of_content (wants b l ls) = empty_value b ls
value_of_content (in_front q ls) = none
value_of_content (after e l ls) = whole_value ls (fronted l.before (whole_expression l e))
value_of_content (behind q f k ls) = none
value_of_content (over e ls) = whole_value ls (some e)

-- the shortest continuation has one atom where an operand is wanted
abbrev pub placeholder : Tree
placeholder = node none none (atom (Atom.nonterminal 0))

abbrev pub shortest_at : Bool → ExpressionLevel → List ExpressionLevel → Option Tree
shortest_at true l [] = none
shortest_at true l (m ∷ ls) = some (around_expression (m ∷ ls) placeholder)
shortest_at false l ls = some (around_expression (l ∷ ls) placeholder)

abbrev pub finished_content : Parsing → Option Tree
finished_content (wants b l ls) = shortest_at b l ls
finished_content (in_front q ls) = some (around_expression (expression_level (some (finished_list q)) none none ∷ ls) placeholder)
finished_content (after e l ls) = some (around_expression (l ∷ ls) e)
finished_content (behind q f k ls) = some (around_expression ls (node f (some (finished_list q)) k))
finished_content (over e ls) = some (around_expression ls e)

abbrev pub contents : Machine TextToken (Option Tree)
contents = record { State = Parsing; start = wants true fresh_expression []; step = step_expression; value = value_of_content; finished = finished_content }
