-- What a state of the machine that reads rules has mentioned so far, in the order of the text, and what a token mentions. Assumes nothing.
use Rattle.std.specs.Prelude.{◌≡◌, true, false, List, [], ◌∷◌, ◌++◌}
use Rattle.std.proofs.Math.Option.{Option, none, some}
use Rattle.text.specs.Characters.{utf8s}
use Rattle.notation.specs.Program.{TextProgram, done}
use Rattle.notation.specs.Tokens.{TextToken, nonterminal, value, attribute, name, start_tag, end_tag, empty_tag, string, word, sign, Sign, DEFINED, ASSIGNED, OPEN, CLOSE, BRACE, UNBRACE, DOT, BAR, STAR, SEMICOLON, EQUALS}
use Rattle.encoding.specs.Mentions.{Mention, a_tag, a_string, a_program, in_program, in_braces, in_tree, in_form, in_content, in_rule, in_rules}
use Rattle.reading.specs.Statements.{Pending, in_then, in_else, ListLevel, list_level, Place, opening, separated, branching, Listing, wants, target, assigning, printing, testing, after, value_of_list}
use Rattle.reading.specs.Expressions.{ExpressionLevel as Paren, fresh_expression, Parsing, in_front, behind, over}
use Rattle.reading.specs.Rules.{Head, Progress, beginning, first_word, named, defined, own_front, wants_tag, tagged, within, closed, own_back, complete}
use Rattle.sketches.specs.Sketched.{listing_of}

-- in a list of statements: the first branch of an if whose second is being read, and the lists around, outermost first
abbrev pub in_pending : Pending → List Mention
in_pending (in_then c) = []
in_pending (in_else c p) = in_program p

abbrev pub in_ifs : List Pending → List Mention
in_ifs [] = []
in_ifs (f ∷ fs) = in_ifs fs ++ in_pending f

abbrev pub in_level : ListLevel → List Mention
in_level l = in_program l.before ++ in_ifs l.ifs

abbrev pub in_levels : List ListLevel → List Mention
in_levels [] = []
in_levels (l ∷ ls) = in_levels ls ++ in_level l

abbrev pub in_listing : Listing → List Mention
in_listing (wants w l ls) = in_levels (l ∷ ls)
in_listing (target a l ls) = in_levels (l ∷ ls)
in_listing (assigning a l ls) = in_levels (l ∷ ls)
in_listing (printing l ls) = in_levels (l ∷ ls)
in_listing (testing r l ls) = in_levels (l ∷ ls)
in_listing (after b p l ls) = in_levels (l ∷ ls) ++ in_program p

-- in an expression: within one pair of parentheses the program in front, what is left of a |, and of a .
abbrev pub in_paren : Paren → List Mention
in_paren l = in_braces l.before ++ (in_content l.alt_left ++ in_content l.cat_left)

abbrev pub in_parens : List Paren → List Mention
in_parens [] = []
in_parens (l ∷ ls) = in_parens ls ++ in_paren l

abbrev pub in_parsing : Parsing → List Mention
in_parsing (Parsing.wants b l ls) = in_parens (l ∷ ls)
in_parsing (in_front q ls) = in_parens ls ++ in_listing q
in_parsing (Parsing.after e l ls) = in_parens (l ∷ ls) ++ in_tree e
in_parsing (behind q f k ls) = in_parens ls ++ (in_braces f ++ (in_form k ++ in_listing q))
in_parsing (over e ls) = in_parens ls ++ in_tree e

-- in a text
abbrev pub so_far : Progress → List Mention
so_far beginning = []
so_far (first_word n) = []
so_far (named h) = in_rules h.earlier
so_far (defined h) = in_rules h.earlier
so_far (own_front q h) = in_rules h.earlier ++ in_listing q
so_far (wants_tag f h) = in_rules h.earlier ++ in_braces f
so_far (tagged f t h) = in_rules h.earlier ++ (in_braces f ++ a_tag t ∷ [])
so_far (within x f t h) = in_rules h.earlier ++ (in_braces f ++ (a_tag t ∷ in_parsing x))
so_far (closed f t e h) = in_rules h.earlier ++ (in_braces f ++ (a_tag t ∷ in_content e))
so_far (own_back q f t e h) = in_rules h.earlier ++ (in_braces f ++ (a_tag t ∷ (in_content e ++ in_listing q)))
so_far (complete r h) = in_rules h.earlier ++ in_rule r

-- what a token mentions by itself
abbrev pub in_token : TextToken → List Mention
in_token (nonterminal n) = []
in_token (value v) = []
in_token (attribute m a) = []
in_token (name n) = a_tag n ∷ []
in_token (start_tag n) = a_tag n ∷ []
in_token (end_tag n) = a_tag n ∷ []
in_token (empty_tag n) = a_tag n ∷ a_tag n ∷ []
in_token (string cs) = a_string (utf8s cs) ∷ []
in_token (word w) = []
in_token (sign s) = []

-- and a } the program that it ends
abbrev pub ended : Option TextProgram → List Mention
ended none = []
ended (some p) = a_program p ∷ []

abbrev pub ended_by : Sign → Option TextProgram → List Mention
ended_by DEFINED o = []
ended_by ASSIGNED o = []
ended_by OPEN o = []
ended_by CLOSE o = []
ended_by BRACE o = []
ended_by UNBRACE o = ended o
ended_by DOT o = []
ended_by BAR o = []
ended_by STAR o = []
ended_by SEMICOLON o = []
ended_by EQUALS o = []

abbrev pub whole_in : Option Listing → Option TextProgram
whole_in none = none
whole_in (some q) = value_of_list q

abbrev pub mention_with : Option Listing → TextToken → List Mention
mention_with o (nonterminal n) = []
mention_with o (value v) = []
mention_with o (attribute m a) = []
mention_with o (name n) = in_token (name n)
mention_with o (start_tag n) = in_token (start_tag n)
mention_with o (end_tag n) = in_token (end_tag n)
mention_with o (empty_tag n) = in_token (empty_tag n)
mention_with o (string cs) = in_token (string cs)
mention_with o (word w) = []
mention_with o (sign g) = ended_by g (whole_in o)

abbrev pub mention_of : Progress → TextToken → List Mention
mention_of s t = mention_with (listing_of s) t

-- where a list of statements or an expression opens, nothing stands to the left
abbrev pub TidyList : Listing → Type 0
TidyList (wants opening l ls) = l ≡ list_level done []
TidyList (wants separated l ls) = Unit {0}
TidyList (wants branching l ls) = Unit {0}
TidyList (target a l ls) = Unit {0}
TidyList (assigning a l ls) = Unit {0}
TidyList (printing l ls) = Unit {0}
TidyList (testing r l ls) = Unit {0}
TidyList (after b p l ls) = Unit {0}

abbrev pub TidyParsing : Parsing → Type 0
TidyParsing (Parsing.wants true l ls) = l ≡ fresh_expression
TidyParsing (Parsing.wants false l ls) = Unit {0}
TidyParsing (in_front q ls) = TidyList q
TidyParsing (Parsing.after e l ls) = Unit {0}
TidyParsing (behind q f k ls) = TidyList q
TidyParsing (over e ls) = Unit {0}

abbrev pub Tidy : Progress → Type 0
Tidy beginning = Unit {0}
Tidy (first_word n) = Unit {0}
Tidy (named h) = Unit {0}
Tidy (defined h) = Unit {0}
Tidy (own_front q h) = TidyList q
Tidy (wants_tag f h) = Unit {0}
Tidy (tagged f t h) = Unit {0}
Tidy (within x f t h) = TidyParsing x
Tidy (closed f t e h) = Unit {0}
Tidy (own_back q f t e h) = TidyList q
Tidy (complete r h) = Unit {0}
