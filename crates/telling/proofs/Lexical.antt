-- Bytes and what may follow them tell the token, where it is no name and no string. Assumes nothing.
use mathlib.Core.Path.{◌≡◌, refl, sym, ◌∙◌, ap, subst}
use mathlib.Core.Logic.{◌⊎◌, inl, inr, ⊎_elim}
use mathlib.Core.Bool.{Bool, true, false, cond, ◌&&◌, ◌||◌}
use mathlib.Core.List.{List, [], ◌∷◌, ◌++◌, append_assoc, append-nil, append_cancel_left, head-eq_of_cons-eq, tail-eq_of_cons-eq}
use Prim.Native.Nat.{ℕ, zero, suc, ◌+◌, ◌-◌, ◌*◌, ◌/◌, ◌%◌, ◌≤◌, ◌<◌}
use native.Mathlib.Omega.{arith}
use native.Mathlib.Decide.{dec_lt, ℕ_discrete}
use lib.Dec.{ltb, leb, eqb}
use lib.ListN.{length}
use borrow.Author.Tests.{lt-ltb, le-ltb, le-leb, lt-leb, eq-eqb, ne_eqb}
use Rattle.text.specs.Chars.{pick, Char, utf8}
use Rattle.text.specs.Characters.{AllChar}
use Rattle.text.specs.Names.{name_first, name_byte, blank, All, Name}
use Rattle.text.proofs.Shapes.{cons≢[], shape1}
use Rattle.text.proofs.Unique.{char_one}
use Rattle.text.proofs.NameLaws.{name_all, blank_stops}
use Rattle.notation.specs.Tokens.{Dollar, plain, left, right, TextToken, nonterminal, value, attribute, name, start_tag, end_tag, empty_tag, string, word, Keyword, CHAR, ECHO, ECHO-OFF, REJECT, PRINT, IF, THEN, ELSE, BEGIN, END, AND, OR, NOT, EMPTY, sign, Sign, DEFINED, ASSIGNED, OPEN, CLOSE, BRACE, UNBRACE, DOT, BAR, STAR, SEMICOLON, EQUALS, decimal, in_quotes, all_in_quotes, token_bytes, TagName, StringOf}
use Rattle.notation.specs.Spelled.{word_byte, joins, MayFollow}
use Rattle.notation.proofs.Strings.{same_string}
use Rattle.telling.proofs.Acceptable.{Proper}

-- the bytes in front that pass a test, and those behind them
pub span : (ℕ → Bool) → List ℕ → List ℕ
span p [] = []
span p (x ∷ l) = cond (p x) (x ∷ span p l) []

pub beyond : (ℕ → Bool) → List ℕ → List ℕ
beyond p [] = []
beyond p (x ∷ l) = cond (p x) (beyond p l) (x ∷ l)

abbrev pub Stops : (ℕ → Bool) → List ℕ → Type 0
Stops p [] = Unit {0}
Stops p (b ∷ r) = p b ≡ false

span_run : (p : ℕ → Bool) (n r : List ℕ) → All p n → Stops p r → span p (n ++ r) ≡ n
unfolding span
span_run p [] [] a s = refl
span_run p [] (b ∷ r) a s = rw s refl
span_run p (x ∷ n) r a s = rw a.0 (ap (λ l. x ∷ l) (span_run p n r a.1 s))

beyond_run : (p : ℕ → Bool) (n r : List ℕ) → All p n → Stops p r → beyond p (n ++ r) ≡ r
unfolding beyond
beyond_run p [] [] a s = refl
beyond_run p [] (b ∷ r) a s = rw s refl
beyond_run p (x ∷ n) r a s = rw a.0 (beyond_run p n r a.1 s)

pub first_of : List ℕ → ℕ
first_of [] = 0
first_of (x ∷ l) = x

pub number : List ℕ → ℕ
number [] = 0
number (a ∷ []) = a - 48
number (a ∷ b ∷ l) = (a - 48) * 10 + (b - 48)

abbrev digit : ℕ → Bool
digit b = leb 48 b && leb b 57

-- the token that begins with a byte and goes on with others
abbrev lettered : ℕ → List ℕ → TextToken
lettered b x =
    cond (eqb b 67) (word CHAR)
    (cond (eqb b 69) (cond (eqb (first_of x) 77) (word EMPTY) (cond (eqb (length (span word_byte x)) 3) (word ECHO) (word ECHO-OFF)))
    (cond (eqb b 114) (word REJECT)
    (cond (eqb b 112) (word PRINT)
    (cond (eqb b 105) (word IF)
    (cond (eqb b 116) (word THEN)
    (cond (eqb b 101) (cond (eqb (first_of x) 108) (word ELSE) (word END))
    (cond (eqb b 98) (word BEGIN)
    (cond (eqb b 97) (word AND) (word OR)))))))))

abbrev signed : ℕ → List ℕ → TextToken
signed b x =
    cond (eqb b 58) (cond (eqb (first_of x) 58) (sign DEFINED) (sign ASSIGNED))
    (cond (eqb b 40) (sign OPEN)
    (cond (eqb b 41) (sign CLOSE)
    (cond (eqb b 123) (sign BRACE)
    (cond (eqb b 125) (sign UNBRACE)
    (cond (eqb b 46) (sign DOT)
    (cond (eqb b 124) (sign BAR)
    (cond (eqb b 42) (sign STAR)
    (cond (eqb b 59) (sign SEMICOLON)
    (cond (eqb b 61) (sign EQUALS) (lettered b x))))))))))

abbrev tail_of : List ℕ → List ℕ
tail_of [] = []
tail_of (y ∷ l) = l

abbrev marked : List ℕ → TextToken
marked x =
    cond (eqb (first_of x) 46) (attribute plain (number (span word_byte (tail_of (tail_of x)))))
    (cond (eqb (first_of x) 91) (attribute left (number (span word_byte (tail_of (tail_of (tail_of x)))))) (attribute right (number (span word_byte (tail_of (tail_of (tail_of x)))))))

abbrev bracketed : List ℕ → TextToken
bracketed x =
    cond (eqb (first_of x) 47) (end_tag (span name_byte (tail_of x)))
    (cond (eqb (first_of (beyond name_byte x)) 62) (start_tag (span name_byte x)) (empty_tag (span name_byte x)))

abbrev lexeme : ℕ → List ℕ → TextToken
lexeme b x =
    cond (digit b) (value (number (span word_byte (b ∷ x))))
    (cond (eqb b 110) (cond (digit (first_of x)) (nonterminal (number (span word_byte x))) (word NOT))
    (cond (eqb b 36) (marked x)
    (cond (eqb b 60) (bracketed x)
    (cond (eqb b 34) (string []) (signed b x)))))

abbrev pub lexed : List ℕ → TextToken
lexed [] = sign EQUALS
lexed (b ∷ x) = lexeme b x

word_lexed : (w : Keyword) (r : List ℕ) → Stops word_byte r → lexed (token_bytes (word w) ++ r) ≡ word w
unfolding first_of
word_lexed CHAR r s = refl
word_lexed ECHO r s = rw (span_run word_byte (67 ∷ 72 ∷ 79 ∷ []) r (refl, (refl, (refl, tt))) s) refl
word_lexed ECHO-OFF r s = rw (span_run word_byte (67 ∷ 72 ∷ 79 ∷ 95 ∷ 79 ∷ 70 ∷ 70 ∷ []) r (refl, (refl, (refl, (refl, (refl, (refl, (refl, tt))))))) s) refl
word_lexed REJECT r s = refl
word_lexed PRINT r s = refl
word_lexed IF r s = refl
word_lexed THEN r s = refl
word_lexed ELSE r s = refl
word_lexed BEGIN r s = refl
word_lexed END r s = refl
word_lexed AND r s = refl
word_lexed OR r s = refl
word_lexed NOT r s = refl
word_lexed EMPTY r s = refl

sign_lexed : (s : Sign) (r : List ℕ) → lexed (token_bytes (sign s) ++ r) ≡ sign s
unfolding first_of
sign_lexed DEFINED r = refl
sign_lexed ASSIGNED r = refl
sign_lexed OPEN r = refl
sign_lexed CLOSE r = refl
sign_lexed BRACE r = refl
sign_lexed UNBRACE r = refl
sign_lexed DOT r = refl
sign_lexed BAR r = refl
sign_lexed STAR r = refl
sign_lexed SEMICOLON r = refl
sign_lexed EQUALS r = refl

-- numbers
or_right : (x y : Bool) → y ≡ true → x || y ≡ true
or_right true y e = refl
or_right false y e = e

digit_is : (b : ℕ) → 48 ≤ b → b ≤ 57 → digit b ≡ true
digit_is b l h = rw (le-leb 48 b l, le-leb b 57 h) refl

digit_joins : (b : ℕ) → digit b ≡ true → word_byte b ≡ true
digit_joins b h = or_right (name_first b) (digit b) h

record Digits (n : ℕ) : Type 0 where
  lead : ℕ
  others : List ℕ
  are : decimal n ≡ lead ∷ others
  low : 48 ≤ lead
  high : lead ≤ 57
  run : All word_byte (lead ∷ others)
  counted : number (lead ∷ others) ≡ n

digits : (n : ℕ) → n < 100 → Digits n
unfolding decimal number
digits n h = on (dec_lt n 10)
  where
    on : Dec (n < 10) → Digits n
    on (yes l) = record {
      lead = 48 + n;
      others = [];
      are = rw (lt-ltb n 10 l) refl;
      low = omega arith;
      high = omega arith;
      run = (digit_joins (48 + n) (digit_is (48 + n) (omega arith) (omega arith)), tt);
      counted = omega arith;
    }
    on (no l) = record {
      lead = 48 + n / 10;
      others = (48 + n % 10) ∷ [];
      are = rw (le-ltb n 10 (omega arith)) refl;
      low = omega arith;
      high = omega arith;
      run = (digit_joins (48 + n / 10) (digit_is (48 + n / 10) (omega arith) (omega arith)), (digit_joins (48 + n % 10) (digit_is (48 + n % 10) (omega arith) (omega arith)), tt));
      counted = omega arith;
    }

number_read : (n : ℕ) (r : List ℕ) → n < 100 → Stops word_byte r → number (span word_byte (decimal n ++ r)) ≡ n
number_read n r h s =
    let d = digits n h in
    ap (λ l. number (span word_byte (l ++ r))) d.are ∙ ap number (span_run word_byte (d.lead ∷ d.others) r d.run s) ∙ d.counted

value_lexed : (n : ℕ) (r : List ℕ) → n < 100 → Stops word_byte r → lexed (decimal n ++ r) ≡ value n
value_lexed n r h s =
    let d = digits n h in
    ap (λ l. lexed (l ++ r)) d.are
    ∙ ap (λ b. cond b (value (number (span word_byte (d.lead ∷ (d.others ++ r))))) (cond (eqb d.lead 110) (cond (digit (first_of (d.others ++ r))) (nonterminal (number (span word_byte (d.others ++ r)))) (word NOT))
    (cond (eqb d.lead 36) (marked (d.others ++ r)) (cond (eqb d.lead 60) (bracketed (d.others ++ r)) (cond (eqb d.lead 34) (string []) (signed d.lead (d.others ++ r))))))) (digit_is d.lead d.low d.high)
    ∙ ap value (ap number (span_run word_byte (d.lead ∷ d.others) r d.run s) ∙ d.counted)

nonterminal_lexed : (n : ℕ) (r : List ℕ) → n < 100 → Stops word_byte r → lexed (110 ∷ (decimal n ++ r)) ≡ nonterminal n
unfolding first_of
nonterminal_lexed n r h s =
    let d = digits n h in
    ap (λ l. cond (digit (first_of (l ++ r))) (nonterminal (number (span word_byte (decimal n ++ r)))) (word NOT)) d.are
    ∙ ap (λ b. cond b (nonterminal (number (span word_byte (decimal n ++ r)))) (word NOT)) (digit_is d.lead d.low d.high)
    ∙ ap nonterminal (number_read n r h s)

attribute_lexed : (m : Dollar) (a : ℕ) (r : List ℕ) → a < 100 → Stops word_byte r → lexed (token_bytes (attribute m a) ++ r) ≡ attribute m a
unfolding first_of
attribute_lexed plain a r h s = ap (attribute plain) (number_read a r h s)
attribute_lexed left a r h s = ap (attribute left) (number_read a r h s)
attribute_lexed right a r h s = ap (attribute right) (number_read a r h s)

-- tags
not_slash : (x : ℕ) → name_first x ≡ true → eqb x 47 ≡ false
not_slash x h = ne_eqb x 47 (λ e. let z : name_first 47 ≡ true = subst (λ y. name_first y ≡ true) e h in let y : ◌≡◌ {A = ℕ} 0 1 = cc in omega arith)

first_not_slash : (n r : List ℕ) → Name n → eqb (first_of (n ++ r)) 47 ≡ false
unfolding first_of
first_not_slash [] r h = absurd h
first_not_slash (x ∷ n) r h = not_slash x h.0

start_lexed : (n r : List ℕ) → Name n → lexed ((60 ∷ (n ++ 62 ∷ [])) ++ r) ≡ start_tag n
unfolding first_of
start_lexed n r h =
    ap bracketed (append_assoc n (62 ∷ []) r)
    ∙ rw (first_not_slash n (62 ∷ r) h, beyond_run name_byte n (62 ∷ r) (name_all n h) refl, span_run name_byte n (62 ∷ r) (name_all n h) refl) refl

empty_lexed : (n r : List ℕ) → Name n → lexed ((60 ∷ (n ++ 47 ∷ 62 ∷ [])) ++ r) ≡ empty_tag n
unfolding first_of
empty_lexed n r h =
    ap bracketed (append_assoc n (47 ∷ 62 ∷ []) r)
    ∙ rw (first_not_slash n (47 ∷ 62 ∷ r) h, beyond_run name_byte n (47 ∷ 62 ∷ r) (name_all n h) refl, span_run name_byte n (47 ∷ 62 ∷ r) (name_all n h) refl) refl

end_lexed : (n r : List ℕ) → Name n → lexed ((60 ∷ 47 ∷ (n ++ 62 ∷ [])) ++ r) ≡ end_tag n
unfolding first_of
end_lexed n r h = ap (λ l. end_tag (span name_byte l)) (append_assoc n (62 ∷ []) r) ∙ ap end_tag (span_run name_byte n (62 ∷ r) (name_all n h) refl)

pub same_name : (n m r q : List ℕ) → Name n → Name m → Stops name_byte r → Stops name_byte q → n ++ r ≡ m ++ q → n ≡ m
same_name n m r q h k s t e = sym (span_run name_byte n r (name_all n h) s) ∙ ap (span name_byte) e ∙ span_run name_byte m q (name_all m k) t

-- what a token is, to its reader
pub data View (t : TextToken) : Type 0 where
  a_name : (n : List ℕ) → t ≡ name n → TagName n → View t
  a_string : (cs : List ℕ) → t ≡ string cs → View t
  lexical : ((r : List ℕ) → MayFollow t r → lexed (token_bytes t ++ r) ≡ t) → ((cs : List ℕ) → t ≡ string cs → ⊥) → ((n : List ℕ) → t ≡ name n → ⊥) → View t

pub stops_of : (p : ℕ → Bool) (t : TextToken) → ((b : ℕ) → joins t b ≡ p b) → (r : List ℕ) → MayFollow t r → Stops p r
stops_of p t h [] m = tt
stops_of p t h (b ∷ r) m = sym (h b) ∙ m

pub view : (t : TextToken) → Proper t → View t
view (nonterminal n) h = lexical (λ r m. nonterminal_lexed n r h (stops_of word_byte (nonterminal n) (λ b. refl) r m)) (λ cs e. let z : ◌≡◌ {A = ℕ} 0 1 = cc in omega arith) (λ n e. let z : ◌≡◌ {A = ℕ} 0 1 = cc in omega arith)
view (value n) h = lexical (λ r m. value_lexed n r h (stops_of word_byte (value n) (λ b. refl) r m)) (λ cs e. let z : ◌≡◌ {A = ℕ} 0 1 = cc in omega arith) (λ n e. let z : ◌≡◌ {A = ℕ} 0 1 = cc in omega arith)
view (attribute k a) h = lexical (λ r m. attribute_lexed k a r h (stops_of word_byte (attribute k a) (λ b. refl) r m)) (λ cs e. let z : ◌≡◌ {A = ℕ} 0 1 = cc in omega arith) (λ n e. let z : ◌≡◌ {A = ℕ} 0 1 = cc in omega arith)
view (name n) h = a_name n refl h
view (start_tag n) h = lexical (λ r m. start_lexed n r h.a_name) (λ cs e. let z : ◌≡◌ {A = ℕ} 0 1 = cc in omega arith) (λ n e. let z : ◌≡◌ {A = ℕ} 0 1 = cc in omega arith)
view (end_tag n) h = lexical (λ r m. end_lexed n r h.a_name) (λ cs e. let z : ◌≡◌ {A = ℕ} 0 1 = cc in omega arith) (λ n e. let z : ◌≡◌ {A = ℕ} 0 1 = cc in omega arith)
view (empty_tag n) h = lexical (λ r m. empty_lexed n r h.a_name) (λ cs e. let z : ◌≡◌ {A = ℕ} 0 1 = cc in omega arith) (λ n e. let z : ◌≡◌ {A = ℕ} 0 1 = cc in omega arith)
view (string cs) h = a_string cs refl
view (word w) h = lexical (λ r m. word_lexed w r (stops_of word_byte (word w) (λ b. refl) r m)) (λ cs e. let z : ◌≡◌ {A = ℕ} 0 1 = cc in omega arith) (λ n e. let z : ◌≡◌ {A = ℕ} 0 1 = cc in omega arith)
view (sign s) h = lexical (λ r m. sign_lexed s r) (λ cs e. let z : ◌≡◌ {A = ℕ} 0 1 = cc in omega arith) (λ n e. let z : ◌≡◌ {A = ℕ} 0 1 = cc in omega arith)

-- the first byte of a token is no white space and no #
pub record Solid (x : List ℕ) : Type 0 where
  pub lead : ℕ
  pub others : List ℕ
  pub are : x ≡ lead ∷ others
  pub no_blank : blank lead ≡ false
  pub no_sharp : lead ≡ 35 → ⊥

solid_at : (b : ℕ) (l : List ℕ) → blank b ≡ false → (b ≡ 35 → ⊥) → Solid (b ∷ l)
solid_at b l h k = record { lead = b; others = l; are = refl; no_blank = h; no_sharp = k }

digit_solid : (b : ℕ) → 48 ≤ b → b ≤ 57 → blank b ≡ false
digit_solid b l h = rw (ne_eqb b 32 (λ e. omega arith), ne_eqb b 9 (λ e. omega arith), ne_eqb b 13 (λ e. omega arith), ne_eqb b 10 (λ e. omega arith)) refl

value_solid : (n : ℕ) → n < 100 → Solid (decimal n)
value_solid n h = let d = digits n h in record { lead = d.lead; others = d.others; are = d.are; no_blank = digit_solid d.lead d.low d.high; no_sharp = λ e. omega (arith, d.low) }

false_or_true : (b : Bool) → (b ≡ false) ⊎ (b ≡ true)
false_or_true true = inr refl
false_or_true false = inl refl

name_solid : (n : List ℕ) → Name n → Solid n
name_solid [] h = absurd h
name_solid (x ∷ n) h = record {
  lead = x;
  others = n;
  are = refl;
  no_blank = ⊎_elim (λ (e : blank x ≡ false). e) (λ (e : blank x ≡ true). absurd (let p = blank_stops x e in let q = (name_all (x ∷ n) h).0 in let z : ◌≡◌ {A = ℕ} 0 1 = cc in omega arith)) (false_or_true (blank x));
  no_sharp = λ e. let z : name_first 35 ≡ true = subst (λ y. name_first y ≡ true) e h.0 in let y : ◌≡◌ {A = ℕ} 0 1 = cc in omega arith;
}

mark_solid : (m : Dollar) (a : ℕ) → Solid (token_bytes (attribute m a))
mark_solid plain a = solid_at 36 (46 ∷ 97 ∷ decimal a) refl (λ e. omega arith)
mark_solid left a = solid_at 36 (91 ∷ 46 ∷ 97 ∷ decimal a) refl (λ e. omega arith)
mark_solid right a = solid_at 36 (93 ∷ 46 ∷ 97 ∷ decimal a) refl (λ e. omega arith)

word_solid : (w : Keyword) → Solid (token_bytes (word w))
word_solid CHAR = record { lead = _; others = _; are = refl; no_blank = refl; no_sharp = λ e. omega arith }
word_solid ECHO = record { lead = _; others = _; are = refl; no_blank = refl; no_sharp = λ e. omega arith }
word_solid ECHO-OFF = record { lead = _; others = _; are = refl; no_blank = refl; no_sharp = λ e. omega arith }
word_solid REJECT = record { lead = _; others = _; are = refl; no_blank = refl; no_sharp = λ e. omega arith }
word_solid PRINT = record { lead = _; others = _; are = refl; no_blank = refl; no_sharp = λ e. omega arith }
word_solid IF = record { lead = _; others = _; are = refl; no_blank = refl; no_sharp = λ e. omega arith }
word_solid THEN = record { lead = _; others = _; are = refl; no_blank = refl; no_sharp = λ e. omega arith }
word_solid ELSE = record { lead = _; others = _; are = refl; no_blank = refl; no_sharp = λ e. omega arith }
word_solid BEGIN = record { lead = _; others = _; are = refl; no_blank = refl; no_sharp = λ e. omega arith }
word_solid END = record { lead = _; others = _; are = refl; no_blank = refl; no_sharp = λ e. omega arith }
word_solid AND = record { lead = _; others = _; are = refl; no_blank = refl; no_sharp = λ e. omega arith }
word_solid OR = record { lead = _; others = _; are = refl; no_blank = refl; no_sharp = λ e. omega arith }
word_solid NOT = record { lead = _; others = _; are = refl; no_blank = refl; no_sharp = λ e. omega arith }
word_solid EMPTY = record { lead = _; others = _; are = refl; no_blank = refl; no_sharp = λ e. omega arith }

sign_solid : (s : Sign) → Solid (token_bytes (sign s))
sign_solid DEFINED = record { lead = _; others = _; are = refl; no_blank = refl; no_sharp = λ e. omega arith }
sign_solid ASSIGNED = record { lead = _; others = _; are = refl; no_blank = refl; no_sharp = λ e. omega arith }
sign_solid OPEN = record { lead = _; others = _; are = refl; no_blank = refl; no_sharp = λ e. omega arith }
sign_solid CLOSE = record { lead = _; others = _; are = refl; no_blank = refl; no_sharp = λ e. omega arith }
sign_solid BRACE = record { lead = _; others = _; are = refl; no_blank = refl; no_sharp = λ e. omega arith }
sign_solid UNBRACE = record { lead = _; others = _; are = refl; no_blank = refl; no_sharp = λ e. omega arith }
sign_solid DOT = record { lead = _; others = _; are = refl; no_blank = refl; no_sharp = λ e. omega arith }
sign_solid BAR = record { lead = _; others = _; are = refl; no_blank = refl; no_sharp = λ e. omega arith }
sign_solid STAR = record { lead = _; others = _; are = refl; no_blank = refl; no_sharp = λ e. omega arith }
sign_solid SEMICOLON = record { lead = _; others = _; are = refl; no_blank = refl; no_sharp = λ e. omega arith }
sign_solid EQUALS = record { lead = _; others = _; are = refl; no_blank = refl; no_sharp = λ e. omega arith }

pub solid : (t : TextToken) → Proper t → Solid (token_bytes t)
solid (nonterminal n) h = solid_at 110 (decimal n) refl (λ e. omega arith)
solid (value n) h = value_solid n h
solid (attribute m a) h = mark_solid m a
solid (name n) h = name_solid n h.a_name
solid (start_tag n) h = solid_at 60 (n ++ 62 ∷ []) refl (λ e. omega arith)
solid (end_tag n) h = solid_at 60 (47 ∷ (n ++ 62 ∷ [])) refl (λ e. omega arith)
solid (empty_tag n) h = solid_at 60 (n ++ 47 ∷ 62 ∷ []) refl (λ e. omega arith)
solid (string cs) h = solid_at 34 (all_in_quotes cs ++ 34 ∷ []) refl (λ e. omega arith)
solid (word w) h = word_solid w
solid (sign s) h = sign_solid s
