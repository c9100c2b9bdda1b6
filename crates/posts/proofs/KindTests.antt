-- What posts are by the kinds and the numbers of tokens. Assumes nothing.
use mathlib.Core.Path.{◌≡◌, refl, ap, ap₂}
use mathlib.Core.Bool.{Bool, cond, ◌&&◌}
use Prim.Native.Nat.{ℕ}
use lib.Dec.{eqb}
use Rattle.notation.specs.Tokens.{plain, left, right, TextToken, nonterminal, value, attribute, name, start_tag, end_tag, empty_tag, string, word, CHAR, ECHO, ECHO-OFF, REJECT, PRINT, IF, THEN, ELSE, BEGIN, END, AND, OR, NOT, EMPTY, sign, DEFINED, ASSIGNED, OPEN, CLOSE, BRACE, UNBRACE, DOT, BAR, STAR, SEMICOLON, EQUALS}
use Rattle.lexemes.specs.Kinds.{token_kind, token_number}
use Rattle.posts.specs.declared.Milestone.{Milestone}
use Rattle.posts.specs.declared.Wanted.{Wanted}
use Rattle.posts.specs.declared.Wanted.TheVariants.{Post, Nonterminal}
use Rattle.posts.specs.Posts.{is_post, is_defined, next_production, one_post, passed, is_nonterminal, is_wanted}
use Rattle.posts.specs.ByKind.{is_post_kind, passed_kind, is_wanted_kind}

post_kind : (t : TextToken) → is_post t ≡ is_post_kind (token_kind t)
post_kind (nonterminal n) = refl
post_kind (value v) = refl
post_kind (attribute plain a) = refl
post_kind (attribute left a) = refl
post_kind (attribute right a) = refl
post_kind (name n) = refl
post_kind (start_tag n) = refl
post_kind (end_tag n) = refl
post_kind (empty_tag n) = refl
post_kind (string cs) = refl
post_kind (word CHAR) = refl
post_kind (word ECHO) = refl
post_kind (word ECHO-OFF) = refl
post_kind (word REJECT) = refl
post_kind (word PRINT) = refl
post_kind (word IF) = refl
post_kind (word THEN) = refl
post_kind (word ELSE) = refl
post_kind (word BEGIN) = refl
post_kind (word END) = refl
post_kind (word AND) = refl
post_kind (word OR) = refl
post_kind (word NOT) = refl
post_kind (word EMPTY) = refl
post_kind (sign DEFINED) = refl
post_kind (sign ASSIGNED) = refl
post_kind (sign OPEN) = refl
post_kind (sign CLOSE) = refl
post_kind (sign BRACE) = refl
post_kind (sign UNBRACE) = refl
post_kind (sign DOT) = refl
post_kind (sign BAR) = refl
post_kind (sign STAR) = refl
post_kind (sign SEMICOLON) = refl
post_kind (sign EQUALS) = refl

defined_kind : (t : TextToken) → is_defined t ≡ eqb (token_kind t) 23
defined_kind (nonterminal n) = refl
defined_kind (value v) = refl
defined_kind (attribute plain a) = refl
defined_kind (attribute left a) = refl
defined_kind (attribute right a) = refl
defined_kind (name n) = refl
defined_kind (start_tag n) = refl
defined_kind (end_tag n) = refl
defined_kind (empty_tag n) = refl
defined_kind (string cs) = refl
defined_kind (word CHAR) = refl
defined_kind (word ECHO) = refl
defined_kind (word ECHO-OFF) = refl
defined_kind (word REJECT) = refl
defined_kind (word PRINT) = refl
defined_kind (word IF) = refl
defined_kind (word THEN) = refl
defined_kind (word ELSE) = refl
defined_kind (word BEGIN) = refl
defined_kind (word END) = refl
defined_kind (word AND) = refl
defined_kind (word OR) = refl
defined_kind (word NOT) = refl
defined_kind (word EMPTY) = refl
defined_kind (sign DEFINED) = refl
defined_kind (sign ASSIGNED) = refl
defined_kind (sign OPEN) = refl
defined_kind (sign CLOSE) = refl
defined_kind (sign BRACE) = refl
defined_kind (sign UNBRACE) = refl
defined_kind (sign DOT) = refl
defined_kind (sign BAR) = refl
defined_kind (sign STAR) = refl
defined_kind (sign SEMICOLON) = refl
defined_kind (sign EQUALS) = refl

nonterminal_kind : (n : ℕ) (t : TextToken) → is_nonterminal n t ≡ eqb (token_kind t) 0 && eqb (token_number t) n
nonterminal_kind n (nonterminal k) = refl
nonterminal_kind n (value v) = refl
nonterminal_kind n (attribute plain a) = refl
nonterminal_kind n (attribute left a) = refl
nonterminal_kind n (attribute right a) = refl
nonterminal_kind n (name k) = refl
nonterminal_kind n (start_tag k) = refl
nonterminal_kind n (end_tag k) = refl
nonterminal_kind n (empty_tag k) = refl
nonterminal_kind n (string cs) = refl
nonterminal_kind n (word CHAR) = refl
nonterminal_kind n (word ECHO) = refl
nonterminal_kind n (word ECHO-OFF) = refl
nonterminal_kind n (word REJECT) = refl
nonterminal_kind n (word PRINT) = refl
nonterminal_kind n (word IF) = refl
nonterminal_kind n (word THEN) = refl
nonterminal_kind n (word ELSE) = refl
nonterminal_kind n (word BEGIN) = refl
nonterminal_kind n (word END) = refl
nonterminal_kind n (word AND) = refl
nonterminal_kind n (word OR) = refl
nonterminal_kind n (word NOT) = refl
nonterminal_kind n (word EMPTY) = refl
nonterminal_kind n (sign DEFINED) = refl
nonterminal_kind n (sign ASSIGNED) = refl
nonterminal_kind n (sign OPEN) = refl
nonterminal_kind n (sign CLOSE) = refl
nonterminal_kind n (sign BRACE) = refl
nonterminal_kind n (sign UNBRACE) = refl
nonterminal_kind n (sign DOT) = refl
nonterminal_kind n (sign BAR) = refl
nonterminal_kind n (sign STAR) = refl
nonterminal_kind n (sign SEMICOLON) = refl
nonterminal_kind n (sign EQUALS) = refl

pub passed_kind_lem : (m : Milestone) (t : TextToken) → passed m t ≡ passed_kind m (token_kind t)
passed_kind_lem m t = ap₂ (λ (a b : Bool). cond a (next_production m) (cond b (one_post m) m)) (defined_kind t) (post_kind t)

pub wanted_kind : (w : Wanted) (m : Milestone) (t : TextToken) → is_wanted w m t ≡ is_wanted_kind w m (token_kind t) (token_number t)
wanted_kind (Post b k) m t = ap (λ (a : Bool). a && (eqb m.productions b && eqb m.posts k)) (post_kind t)
wanted_kind (Nonterminal n) m t = nonterminal_kind n t
