-- The posts of a text of rules, and the token that is wanted. Assumes nothing.
use Rattle.std.specs.Prelude.{◌≡◌, Bool, true, false, cond, ◌&&◌, List, [], ◌∷◌, ℕ, suc, eqb}
use Rattle.notation.specs.Tokens.{TextToken, nonterminal, value, attribute, name, start_tag, end_tag, empty_tag, string, word, Keyword, CHAR, ECHO, ECHO-OFF, REJECT, PRINT, IF, THEN, ELSE, BEGIN, END, AND, OR, NOT, EMPTY, sign, Sign, DEFINED, ASSIGNED, OPEN, CLOSE, BRACE, UNBRACE, DOT, BAR, STAR, SEMICOLON, EQUALS}
use Rattle.posts.specs.declared.Milestone.{Milestone}
use Rattle.posts.specs.declared.Wanted.{Wanted}
use Rattle.posts.specs.declared.Wanted.TheVariants.{Post, Nonterminal}

-- a nonterminal, a tag's name, CHAR, EMPTY, or a sign of an expression
abbrev pub is_post_word : Keyword → Bool
is_post_word CHAR = true
is_post_word ECHO = false
is_post_word ECHO-OFF = false
is_post_word REJECT = false
is_post_word PRINT = false
is_post_word IF = false
is_post_word THEN = false
is_post_word ELSE = false
is_post_word BEGIN = false
is_post_word END = false
is_post_word AND = false
is_post_word OR = false
is_post_word NOT = false
is_post_word EMPTY = true

abbrev pub is_post_sign : Sign → Bool
is_post_sign DEFINED = false
is_post_sign ASSIGNED = false
is_post_sign OPEN = false
is_post_sign CLOSE = false
is_post_sign BRACE = false
is_post_sign UNBRACE = false
is_post_sign DOT = true
is_post_sign BAR = true
is_post_sign STAR = true
is_post_sign SEMICOLON = false
is_post_sign EQUALS = false

abbrev pub is_post : TextToken → Bool
is_post (nonterminal n) = true
is_post (value v) = false
is_post (attribute m a) = false
is_post (name n) = true
is_post (start_tag n) = false
is_post (end_tag n) = false
is_post (empty_tag n) = false
is_post (string cs) = false
is_post (word w) = is_post_word w
is_post (sign s) = is_post_sign s

abbrev pub is_defined_sign : Sign → Bool
is_defined_sign DEFINED = true
is_defined_sign ASSIGNED = false
is_defined_sign OPEN = false
is_defined_sign CLOSE = false
is_defined_sign BRACE = false
is_defined_sign UNBRACE = false
is_defined_sign DOT = false
is_defined_sign BAR = false
is_defined_sign STAR = false
is_defined_sign SEMICOLON = false
is_defined_sign EQUALS = false

-- ::=
abbrev pub is_defined : TextToken → Bool
is_defined (nonterminal n) = false
is_defined (value v) = false
is_defined (attribute m a) = false
is_defined (name n) = false
is_defined (start_tag n) = false
is_defined (end_tag n) = false
is_defined (empty_tag n) = false
is_defined (string cs) = false
is_defined (word w) = false
is_defined (sign s) = is_defined_sign s

-- how many ::= signs were passed, and how many posts behind the last of them
abbrev pub set_out : Milestone
set_out = record { productions = 0; posts = 0 }

abbrev pub next_production : Milestone → Milestone
next_production m = record { productions = suc m.productions; posts = 0 }

abbrev pub one_post : Milestone → Milestone
one_post m = record { productions = m.productions; posts = suc m.posts }

abbrev pub passed : Milestone → TextToken → Milestone
passed m t = cond (is_defined t) (next_production m) (cond (is_post t) (one_post m) m)

abbrev pub passed_all : Milestone → List TextToken → Milestone
passed_all m [] = m
passed_all m (t ∷ ts) = passed_all (passed m t) ts

abbrev pub is_nonterminal : ℕ → TextToken → Bool
is_nonterminal n (nonterminal k) = eqb k n
is_nonterminal n (value v) = false
is_nonterminal n (attribute m a) = false
is_nonterminal n (name k) = false
is_nonterminal n (start_tag k) = false
is_nonterminal n (end_tag k) = false
is_nonterminal n (empty_tag k) = false
is_nonterminal n (string cs) = false
is_nonterminal n (word w) = false
is_nonterminal n (sign s) = false

-- the post of a number behind so many ::= signs; or a nonterminal
abbrev pub is_wanted : Wanted → Milestone → TextToken → Bool
is_wanted (Post b k) m t = is_post t && (eqb m.productions b && eqb m.posts k)
is_wanted (Nonterminal n) m t = is_nonterminal n t

-- none of these tokens is wanted
abbrev pub NoneWanted : Wanted → Milestone → List TextToken → Type 0
NoneWanted w m [] = Unit {0}
NoneWanted w m (t ∷ ts) = (is_wanted w m t ≡ false) × NoneWanted w (passed m t) ts
