-- Each kind of token is read by its sort of spellings, and a token of some kinds is found kind by kind. Assumes nothing.
use mathlib.Core.Path.{◌≡◌, refl, sym, ◌∙◌, ap, subst}
use mathlib.Core.Logic.{◌⊎◌, inl, inr}
use mathlib.Core.Bool.{Bool, true, false}
use mathlib.Core.List.{List, [], ◌∷◌, ◌++◌, append_assoc, append-nil}
use Prim.Native.Nat.{ℕ, zero, suc, ◌+◌, ◌-◌, ◌*◌, ◌≤◌, ◌<◌, max}
use native.Mathlib.Omega.{arith}
use native.Mathlib.Decide.{dec_le, ℕ_discrete}
use lib.ListN.{length, take, drop, get_or, take-append-drop}
use lib.Seq.{take-take}
use Rattle.text.specs.Names.{name_byte}
use Rattle.programs.specs.Bounds.{bounds, attributes_in, values_in}
use Rattle.notation.specs.Tokens.{Dollar, plain, left, right, TextToken, nonterminal, value, attribute, name, start_tag, end_tag, empty_tag, string, word, Keyword, CHAR, ECHO, ECHO-OFF, REJECT, PRINT, IF, THEN, ELSE, BEGIN, END, AND, OR, NOT, EMPTY, sign, Sign, DEFINED, ASSIGNED, OPEN, CLOSE, BRACE, UNBRACE, DOT, BAR, STAR, SEMICOLON, EQUALS, decimal, token_bytes, TagName}
use Rattle.notation.specs.Spelled.{word_byte, joins, MayFollow}
use Rattle.lexing.specs.declared.Tried.{Tried}
use Rattle.lexemes.specs.declared.Lexeme.{Lexeme}
use Rattle.lexing.specs.Front.{WholeToken, BeginsToken, Stuck}
use Rattle.lexing.specs.Reads.{Stops, stops_at, nothing, BeginsSpelling, ReadIs, whole, halts, OneSpelling, NumberBehind, NameSpelling, TagSpelling, StringSpelling}
use Rattle.lexemes.specs.Kinds.{kinds, mark_number, word_number, sign_number, token_kind, token_number, TokenFits, OfKind, MayIf, MarkedKind, TriedIs, a_token, no_token, Lexed}

-- a sort of spellings is that of some tokens
record SortOf (May : TextToken → Type 0) (L : List ℕ → ℕ → Type 0) (j : ℕ → Bool) : Type 0 where
  spelled : (t : TextToken) → May t → L (token_bytes t) (token_number t)
  joined : (t : TextToken) → May t → (b : ℕ) → joins t b ≡ j b
  token : (w : List ℕ) (n : ℕ) → L w n → (t : TextToken) × May t × (token_bytes t ≡ w) × (token_number t ≡ n)

module _ (May : TextToken → Type 0) (L : List ℕ → ℕ → Type 0) (j : ℕ → Bool) (sort : SortOf May L j) (x : List ℕ) where
  follow_stops : (t : TextToken) → May t → (r : List ℕ) → MayFollow t r → Stops j r
  follow_stops t m [] h = tt
  follow_stops t m (b ∷ r) h = sym (sort.joined t m b) ∙ h

  stops_follow : (t : TextToken) → May t → (r : List ℕ) → Stops j r → MayFollow t r
  stops_follow t m [] h = tt
  stops_follow t m (b ∷ r) h = sort.joined t m b ∙ h

  starts_begins : (y : List ℕ) → BeginsSpelling L y → BeginsToken May y
  starts_begins y s = let t = sort.token s.spelling s.number s.is in record { token = t.0; may = t.1; rest = s.rest; are = t.2 ∙ s.are }

  begins_starts : (y : List ℕ) → BeginsToken May y → BeginsSpelling L y
  begins_starts y s = record { spelling = token_bytes s.token; number = token_number s.token; rest = s.rest; is = sort.spelled s.token s.may; are = s.are }

  read_token : (r : Tried) → ReadIs L j x r → TriedIs May x r
  read_token (Tried.Whole n k) (whole s) =
      let t = sort.token s.spelling n s.is in
      a_token {n = n} {k = k} t.0 (record { may = t.1; rest = s.rest; are = s.are ∙ ap (λ z. z ++ s.rest) (sym t.2); follows = stops_follow t.0 t.1 s.rest s.stops }) (sym t.3) (s.long ∙ ap length (sym t.2))
  read_token (Tried.Stuck k) (halts h) = no_token {k = k} (record {
    reached = h.reached;
    begun = λ i. starts_begins (take k x) (h.begun i);
    no_further = λ i s. h.no_further i (begins_starts (take (suc k) x) s);
    no_token = λ t w. h.no_whole (token_number t) (length (token_bytes t)) (record { spelling = token_bytes t; rest = w.rest; is = sort.spelled t w.may; are = w.are; long = refl; stops = follow_stops t w.may w.rest w.follows });
  })

-- numbers of kinds
mark_range : (m : Dollar) → (2 ≤ mark_number m) × (mark_number m ≤ 4)
mark_range plain = (omega arith, omega arith)
mark_range left = (omega arith, omega arith)
mark_range right = (omega arith, omega arith)

word_range : (w : Keyword) → (10 ≤ word_number w) × (word_number w ≤ 34)
word_range CHAR = (omega arith, omega arith)
word_range ECHO = (omega arith, omega arith)
word_range ECHO-OFF = (omega arith, omega arith)
word_range REJECT = (omega arith, omega arith)
word_range PRINT = (omega arith, omega arith)
word_range IF = (omega arith, omega arith)
word_range THEN = (omega arith, omega arith)
word_range ELSE = (omega arith, omega arith)
word_range BEGIN = (omega arith, omega arith)
word_range END = (omega arith, omega arith)
word_range AND = (omega arith, omega arith)
word_range OR = (omega arith, omega arith)
word_range NOT = (omega arith, omega arith)
word_range EMPTY = (omega arith, omega arith)

sign_range : (s : Sign) → (23 ≤ sign_number s) × (sign_number s ≤ 33)
sign_range DEFINED = (omega arith, omega arith)
sign_range ASSIGNED = (omega arith, omega arith)
sign_range OPEN = (omega arith, omega arith)
sign_range CLOSE = (omega arith, omega arith)
sign_range BRACE = (omega arith, omega arith)
sign_range UNBRACE = (omega arith, omega arith)
sign_range DOT = (omega arith, omega arith)
sign_range BAR = (omega arith, omega arith)
sign_range STAR = (omega arith, omega arith)
sign_range SEMICOLON = (omega arith, omega arith)
sign_range EQUALS = (omega arith, omega arith)

word_apart : (w : Keyword) (s : Sign) → word_number w ≡ sign_number s → ⊥
word_apart CHAR s e = omega (arith, e, sign_range s)
word_apart ECHO s e = omega (arith, e, sign_range s)
word_apart ECHO-OFF s e = omega (arith, e, sign_range s)
word_apart REJECT s e = omega (arith, e, sign_range s)
word_apart PRINT s e = omega (arith, e, sign_range s)
word_apart IF s e = omega (arith, e, sign_range s)
word_apart THEN s e = omega (arith, e, sign_range s)
word_apart ELSE s e = omega (arith, e, sign_range s)
word_apart BEGIN s e = omega (arith, e, sign_range s)
word_apart END s e = omega (arith, e, sign_range s)
word_apart AND s e = omega (arith, e, sign_range s)
word_apart OR s e = omega (arith, e, sign_range s)
word_apart NOT s e = omega (arith, e, sign_range s)
word_apart EMPTY s e = omega (arith, e, sign_range s)

pub kind_below : (t : TextToken) → token_kind t < kinds
kind_below (nonterminal n) = omega arith
kind_below (value v) = omega arith
kind_below (attribute m a) = omega (arith, (mark_range m).1)
kind_below (name n) = omega arith
kind_below (start_tag n) = omega arith
kind_below (end_tag n) = omega arith
kind_below (empty_tag n) = omega arith
kind_below (string cs) = omega arith
kind_below (word w) = omega (arith, (word_range w).1)
kind_below (sign s) = omega (arith, (sign_range s).1)

one_mark : (m l : Dollar) → mark_number m ≡ mark_number l → m ≡ l
one_mark plain plain e = refl
one_mark plain left e = absurd (omega arith)
one_mark plain right e = absurd (omega arith)
one_mark left plain e = absurd (omega arith)
one_mark left left e = refl
one_mark left right e = absurd (omega arith)
one_mark right plain e = absurd (omega arith)
one_mark right left e = absurd (omega arith)
one_mark right right e = refl

-- a word, a sign by its number
abbrev word_from : List Keyword → Keyword → ℕ → Keyword
word_from [] v n = v
word_from (w ∷ ws) v zero = w
word_from (w ∷ ws) v (suc n) = word_from ws v n

abbrev sign_from : List Sign → Sign → ℕ → Sign
sign_from [] v n = v
sign_from (w ∷ ws) v zero = w
sign_from (w ∷ ws) v (suc n) = sign_from ws v n

word_at : ℕ → Keyword
word_at n = word_from (CHAR ∷ ECHO ∷ ECHO-OFF ∷ REJECT ∷ PRINT ∷ IF ∷ THEN ∷ ELSE ∷ BEGIN ∷ END ∷ AND ∷ OR ∷ NOT ∷ []) EMPTY (n - 10)

sign_at : ℕ → Sign
sign_at n = sign_from (DEFINED ∷ ASSIGNED ∷ OPEN ∷ CLOSE ∷ BRACE ∷ UNBRACE ∷ DOT ∷ BAR ∷ STAR ∷ SEMICOLON ∷ EQUALS ∷ []) EQUALS (n - 23)

word_at_lem : (w : Keyword) → word_at (word_number w) ≡ w
unfolding word_at
word_at_lem CHAR = refl
word_at_lem ECHO = refl
word_at_lem ECHO-OFF = refl
word_at_lem REJECT = refl
word_at_lem PRINT = refl
word_at_lem IF = refl
word_at_lem THEN = refl
word_at_lem ELSE = refl
word_at_lem BEGIN = refl
word_at_lem END = refl
word_at_lem AND = refl
word_at_lem OR = refl
word_at_lem NOT = refl
word_at_lem EMPTY = refl

sign_at_lem : (s : Sign) → sign_at (sign_number s) ≡ s
unfolding sign_at
sign_at_lem DEFINED = refl
sign_at_lem ASSIGNED = refl
sign_at_lem OPEN = refl
sign_at_lem CLOSE = refl
sign_at_lem BRACE = refl
sign_at_lem UNBRACE = refl
sign_at_lem DOT = refl
sign_at_lem BAR = refl
sign_at_lem STAR = refl
sign_at_lem SEMICOLON = refl
sign_at_lem EQUALS = refl

one_word : (w v : Keyword) → word_number w ≡ word_number v → w ≡ v
one_word w v e = sym (word_at_lem w) ∙ ap word_at e ∙ word_at_lem v

one_sign : (s u : Sign) → sign_number s ≡ sign_number u → s ≡ u
one_sign s u e = sym (sign_at_lem s) ∙ ap sign_at e ∙ sign_at_lem u

-- the only token of a word's kind, of a sign's kind
word_only : (z : Keyword) (t : TextToken) → OfKind (word_number z) t → t ≡ word z
word_only z (nonterminal n) h = absurd (omega (arith, h.kind, word_range z))
word_only z (value v) h = absurd (omega (arith, h.kind, word_range z))
word_only z (attribute m a) h = absurd (omega (arith, h.kind, mark_range m, word_range z))
word_only z (name n) h = absurd (omega (arith, h.kind, word_range z))
word_only z (start_tag n) h = absurd (omega (arith, h.kind, word_range z))
word_only z (end_tag n) h = absurd (omega (arith, h.kind, word_range z))
word_only z (empty_tag n) h = absurd (omega (arith, h.kind, word_range z))
word_only z (string cs) h = absurd (omega (arith, h.kind, word_range z))
word_only z (word w) h = ap word (one_word w z h.kind)
word_only z (sign s) h = absurd (word_apart z s (sym h.kind))

sign_only : (u : Sign) (t : TextToken) → OfKind (sign_number u) t → t ≡ sign u
sign_only u (nonterminal n) h = absurd (omega (arith, h.kind, sign_range u))
sign_only u (value v) h = absurd (omega (arith, h.kind, sign_range u))
sign_only u (attribute m a) h = absurd (omega (arith, h.kind, mark_range m, sign_range u))
sign_only u (name n) h = absurd (omega (arith, h.kind, sign_range u))
sign_only u (start_tag n) h = absurd (omega (arith, h.kind, sign_range u))
sign_only u (end_tag n) h = absurd (omega (arith, h.kind, sign_range u))
sign_only u (empty_tag n) h = absurd (omega (arith, h.kind, sign_range u))
sign_only u (string cs) h = absurd (omega (arith, h.kind, sign_range u))
sign_only u (word w) h = absurd (word_apart w u h.kind)
sign_only u (sign s) h = ap sign (one_sign s u h.kind)

word_sort : (v : Keyword) → SortOf (OfKind (word_number v)) (OneSpelling (token_bytes (word v) ++ []) 0) (stops_at true)
word_sort v = record {
  spelled = λ t m. let e = word_only v t m in record { spelled = ap token_bytes e ∙ sym (append-nil (token_bytes (word v))); numbered = ap token_number e };
  joined = λ t m b. ap (λ z. joins z b) (word_only v t m);
  token = λ w n l. (word v, record { kind = refl; fit = tt }, sym (append-nil (token_bytes (word v))) ∙ sym l.spelled, sym l.numbered);
}

sign_sort : (u : Sign) → SortOf (OfKind (sign_number u)) (OneSpelling (token_bytes (sign u) ++ []) 0) (stops_at false)
sign_sort u = record {
  spelled = λ t m. let e = sign_only u t m in record { spelled = ap token_bytes e ∙ sym (append-nil (token_bytes (sign u))); numbered = ap token_number e };
  joined = λ t m b. ap (λ z. joins z b) (sign_only u t m);
  token = λ w n l. (sign u, record { kind = refl; fit = tt }, sym (append-nil (token_bytes (sign u))) ∙ sym l.spelled, sym l.numbered);
}

pub word_read : (v : Keyword) (k : ℕ) (x : List ℕ) (r : Tried) → k ≡ word_number v → ReadIs (OneSpelling (token_bytes (word v) ++ []) 0) (stops_at true) x r → TriedIs (OfKind k) x r
word_read v k x r e h = subst (λ z. TriedIs (OfKind z) x r) (sym e) (read_token (OfKind (word_number v)) (OneSpelling (token_bytes (word v) ++ []) 0) (stops_at true) (word_sort v) x r h)

pub sign_read : (u : Sign) (k : ℕ) (x : List ℕ) (r : Tried) → k ≡ sign_number u → ReadIs (OneSpelling (token_bytes (sign u) ++ []) 0) (stops_at false) x r → TriedIs (OfKind k) x r
sign_read u k x r e h = subst (λ z. TriedIs (OfKind z) x r) (sym e) (read_token (OfKind (sign_number u)) (OneSpelling (token_bytes (sign u) ++ []) 0) (stops_at false) (sign_sort u) x r h)

-- the tokens of each other kind
abbrev As : (ℕ → TextToken) → (ℕ → Type 0) → TextToken → Type 0
As make Good t = (n : ℕ) × Good n × (t ≡ make n)

abbrev Named : (List ℕ → TextToken) → TextToken → Type 0
Named make t = (n : List ℕ) × TokenFits (make n) × (t ≡ make n)

nonterminal_only : (t : TextToken) → OfKind 0 t → As nonterminal (λ n. n < 64) t
nonterminal_only (nonterminal n) h = (n, h.fit, refl)
nonterminal_only (value v) h = absurd (omega (arith, h.kind))
nonterminal_only (attribute m a) h = absurd (omega (arith, h.kind, mark_range m))
nonterminal_only (name n) h = absurd (omega (arith, h.kind))
nonterminal_only (start_tag n) h = absurd (omega (arith, h.kind))
nonterminal_only (end_tag n) h = absurd (omega (arith, h.kind))
nonterminal_only (empty_tag n) h = absurd (omega (arith, h.kind))
nonterminal_only (string cs) h = absurd (omega (arith, h.kind))
nonterminal_only (word w) h = absurd (omega (arith, h.kind, word_range w))
nonterminal_only (sign s) h = absurd (omega (arith, h.kind, sign_range s))

value_only : (t : TextToken) → OfKind 1 t → As value (λ n. n < values_in bounds) t
value_only (nonterminal n) h = absurd (omega (arith, h.kind))
value_only (value v) h = (v, omega (arith, h.fit), refl)
value_only (attribute m a) h = absurd (omega (arith, h.kind, mark_range m))
value_only (name n) h = absurd (omega (arith, h.kind))
value_only (start_tag n) h = absurd (omega (arith, h.kind))
value_only (end_tag n) h = absurd (omega (arith, h.kind))
value_only (empty_tag n) h = absurd (omega (arith, h.kind))
value_only (string cs) h = absurd (omega (arith, h.kind))
value_only (word w) h = absurd (omega (arith, h.kind, word_range w))
value_only (sign s) h = absurd (omega (arith, h.kind, sign_range s))

attribute_only : (l : Dollar) (t : TextToken) → OfKind (mark_number l) t → As (attribute l) (λ n. n < attributes_in bounds) t
attribute_only l (nonterminal n) h = absurd (omega (arith, h.kind, mark_range l))
attribute_only l (value v) h = absurd (omega (arith, h.kind, mark_range l))
attribute_only l (attribute m a) h = (a, omega (arith, h.fit), ap (λ z. attribute z a) (one_mark m l h.kind))
attribute_only l (name n) h = absurd (omega (arith, h.kind, mark_range l))
attribute_only l (start_tag n) h = absurd (omega (arith, h.kind, mark_range l))
attribute_only l (end_tag n) h = absurd (omega (arith, h.kind, mark_range l))
attribute_only l (empty_tag n) h = absurd (omega (arith, h.kind, mark_range l))
attribute_only l (string cs) h = absurd (omega (arith, h.kind, mark_range l))
attribute_only l (word w) h = absurd (omega (arith, h.kind, word_range w, mark_range l))
attribute_only l (sign s) h = absurd (omega (arith, h.kind, sign_range s, mark_range l))

name_only : (t : TextToken) → OfKind 5 t → Named name t
name_only (nonterminal n) h = absurd (omega (arith, h.kind))
name_only (value v) h = absurd (omega (arith, h.kind))
name_only (attribute m a) h = absurd (omega (arith, h.kind, mark_range m))
name_only (name n) h = (n, h.fit, refl)
name_only (start_tag n) h = absurd (omega (arith, h.kind))
name_only (end_tag n) h = absurd (omega (arith, h.kind))
name_only (empty_tag n) h = absurd (omega (arith, h.kind))
name_only (string cs) h = absurd (omega (arith, h.kind))
name_only (word w) h = absurd (omega (arith, h.kind, word_range w))
name_only (sign s) h = absurd (omega (arith, h.kind, sign_range s))

start_only : (t : TextToken) → OfKind 6 t → Named start_tag t
start_only (nonterminal n) h = absurd (omega (arith, h.kind))
start_only (value v) h = absurd (omega (arith, h.kind))
start_only (attribute m a) h = absurd (omega (arith, h.kind, mark_range m))
start_only (name n) h = absurd (omega (arith, h.kind))
start_only (start_tag n) h = (n, h.fit, refl)
start_only (end_tag n) h = absurd (omega (arith, h.kind))
start_only (empty_tag n) h = absurd (omega (arith, h.kind))
start_only (string cs) h = absurd (omega (arith, h.kind))
start_only (word w) h = absurd (omega (arith, h.kind, word_range w))
start_only (sign s) h = absurd (omega (arith, h.kind, sign_range s))

end_only : (t : TextToken) → OfKind 7 t → Named end_tag t
end_only (nonterminal n) h = absurd (omega (arith, h.kind))
end_only (value v) h = absurd (omega (arith, h.kind))
end_only (attribute m a) h = absurd (omega (arith, h.kind, mark_range m))
end_only (name n) h = absurd (omega (arith, h.kind))
end_only (start_tag n) h = absurd (omega (arith, h.kind))
end_only (end_tag n) h = (n, h.fit, refl)
end_only (empty_tag n) h = absurd (omega (arith, h.kind))
end_only (string cs) h = absurd (omega (arith, h.kind))
end_only (word w) h = absurd (omega (arith, h.kind, word_range w))
end_only (sign s) h = absurd (omega (arith, h.kind, sign_range s))

empty_only : (t : TextToken) → OfKind 8 t → Named empty_tag t
empty_only (nonterminal n) h = absurd (omega (arith, h.kind))
empty_only (value v) h = absurd (omega (arith, h.kind))
empty_only (attribute m a) h = absurd (omega (arith, h.kind, mark_range m))
empty_only (name n) h = absurd (omega (arith, h.kind))
empty_only (start_tag n) h = absurd (omega (arith, h.kind))
empty_only (end_tag n) h = absurd (omega (arith, h.kind))
empty_only (empty_tag n) h = (n, h.fit, refl)
empty_only (string cs) h = absurd (omega (arith, h.kind))
empty_only (word w) h = absurd (omega (arith, h.kind, word_range w))
empty_only (sign s) h = absurd (omega (arith, h.kind, sign_range s))

string_only : (t : TextToken) → OfKind 9 t → Named string t
string_only (nonterminal n) h = absurd (omega (arith, h.kind))
string_only (value v) h = absurd (omega (arith, h.kind))
string_only (attribute m a) h = absurd (omega (arith, h.kind, mark_range m))
string_only (name n) h = absurd (omega (arith, h.kind))
string_only (start_tag n) h = absurd (omega (arith, h.kind))
string_only (end_tag n) h = absurd (omega (arith, h.kind))
string_only (empty_tag n) h = absurd (omega (arith, h.kind))
string_only (string cs) h = (cs, h.fit, refl)
string_only (word w) h = absurd (omega (arith, h.kind, word_range w))
string_only (sign s) h = absurd (omega (arith, h.kind, sign_range s))

-- tokens with a number behind some bytes
number_sort : (k count : ℕ) (a : List ℕ) (make : ℕ → TextToken) → ((t : TextToken) → OfKind k t → As make (λ n. n < count) t) → ((n : ℕ) → n < count → OfKind k (make n)) → ((n : ℕ) → token_bytes (make n) ≡ a ++ decimal n) → ((n : ℕ) → token_number (make n) ≡ n)
    → ((n b : ℕ) → joins (make n) b ≡ word_byte b) → SortOf (OfKind k) (NumberBehind a count) (stops_at true)
number_sort k count a make only made bytes number join = record {
  spelled = λ t m. let o = only t m in record { below = subst (λ z. z < count) (sym (ap token_number o.2 ∙ number o.0)) o.1; spelled = ap token_bytes o.2 ∙ bytes o.0 ∙ ap (λ z. a ++ decimal z) (sym (ap token_number o.2 ∙ number o.0)) };
  joined = λ t m b. let o = only t m in ap (λ z. joins z b) o.2 ∙ join o.0 b;
  token = λ w n l. (make n, made n l.below, bytes n ∙ sym l.spelled, number n);
}

pub nonterminal_read : (k : ℕ) (x : List ℕ) (r : Tried) → k ≡ 0 → ReadIs (NumberBehind (110 ∷ []) 64) (stops_at true) x r → TriedIs (OfKind k) x r
nonterminal_read k x r e h = subst (λ z. TriedIs (OfKind z) x r) (sym e) (read_token (OfKind 0) (NumberBehind (110 ∷ []) 64) (stops_at true)
    (number_sort 0 64 (110 ∷ []) nonterminal nonterminal_only (λ n l. record { kind = refl; fit = l }) (λ n. refl) (λ n. refl) (λ n b. refl)) x r h)

pub value_read : (k : ℕ) (x : List ℕ) (r : Tried) → k ≡ 1 → ReadIs (NumberBehind [] (values_in bounds)) (stops_at true) x r → TriedIs (OfKind k) x r
value_read k x r e h = subst (λ z. TriedIs (OfKind z) x r) (sym e) (read_token (OfKind 1) (NumberBehind [] (values_in bounds)) (stops_at true)
    (number_sort 1 (values_in bounds) [] value value_only (λ n l. record { kind = refl; fit = omega (arith, l) }) (λ n. refl) (λ n. refl) (λ n b. refl)) x r h)

pub attribute_read : (m : Dollar) (a : List ℕ) (k : ℕ) (x : List ℕ) (r : Tried) → k ≡ mark_number m → ((n : ℕ) → token_bytes (attribute m n) ≡ a ++ decimal n) → ReadIs (NumberBehind a (attributes_in bounds)) (stops_at true) x r → TriedIs (OfKind k) x r
attribute_read m a k x r e bytes h = subst (λ z. TriedIs (OfKind z) x r) (sym e) (read_token (OfKind (mark_number m)) (NumberBehind a (attributes_in bounds)) (stops_at true)
    (number_sort (mark_number m) (attributes_in bounds) a (attribute m) (attribute_only m) (λ n l. record { kind = refl; fit = omega (arith, l) }) bytes (λ n. refl) (λ n b. refl)) x r h)

pub name_read : (k : ℕ) (x : List ℕ) (r : Tried) → k ≡ 5 → ReadIs NameSpelling name_byte x r → TriedIs (OfKind k) x r
name_read k x r e h = subst (λ z. TriedIs (OfKind z) x r) (sym e) (read_token (OfKind 5) NameSpelling name_byte (record {
  spelled = λ t m. let o = name_only t m in record { named = subst (λ z. TagName (token_bytes z)) (sym o.2) o.1; long = ap token_number o.2 ∙ sym (ap (λ z. length (token_bytes z)) o.2) };
  joined = λ t m b. ap (λ z. joins z b) (name_only t m).2;
  token = λ w n l. (name w, record { kind = refl; fit = l.named }, refl, sym l.long);
}) x r h)

-- tags: a name between two rows of bytes
tag_sort : (k : ℕ) (a b : List ℕ) (make : List ℕ → TextToken) → ((t : TextToken) → OfKind k t → Named make t) → ((n : List ℕ) → TagName n → OfKind k (make n)) → ((n : List ℕ) → TokenFits (make n) → TagName n) → ((n : List ℕ) → token_bytes (make n) ≡ a ++ (n ++ b))
    → ((n : List ℕ) → token_number (make n) ≡ length n) → ((n : List ℕ) (c : ℕ) → joins (make n) c ≡ false) → SortOf (OfKind k) (TagSpelling a b) nothing
tag_sort k a b make only made fits bytes number join = record {
  spelled = λ t m. let o = only t m in record { name = o.0; named = fits o.0 o.1; long = ap token_number o.2 ∙ number o.0; spelled = ap token_bytes o.2 ∙ bytes o.0 };
  joined = λ t m c. let o = only t m in ap (λ z. joins z c) o.2 ∙ join o.0 c;
  token = λ w n l. (make l.name, made l.name l.named, bytes l.name ∙ sym l.spelled, number l.name ∙ sym l.long);
}

pub start_read : (k : ℕ) (x : List ℕ) (r : Tried) → k ≡ 6 → ReadIs (TagSpelling (60 ∷ []) (62 ∷ [])) nothing x r → TriedIs (OfKind k) x r
start_read k x r e h = subst (λ z. TriedIs (OfKind z) x r) (sym e) (read_token (OfKind 6) (TagSpelling (60 ∷ []) (62 ∷ [])) nothing
    (tag_sort 6 (60 ∷ []) (62 ∷ []) start_tag start_only (λ n t. record { kind = refl; fit = t }) (λ n t. t) (λ n. refl) (λ n. refl) (λ n c. refl)) x r h)

pub end_read : (k : ℕ) (x : List ℕ) (r : Tried) → k ≡ 7 → ReadIs (TagSpelling (60 ∷ 47 ∷ []) (62 ∷ [])) nothing x r → TriedIs (OfKind k) x r
end_read k x r e h = subst (λ z. TriedIs (OfKind z) x r) (sym e) (read_token (OfKind 7) (TagSpelling (60 ∷ 47 ∷ []) (62 ∷ [])) nothing
    (tag_sort 7 (60 ∷ 47 ∷ []) (62 ∷ []) end_tag end_only (λ n t. record { kind = refl; fit = t }) (λ n t. t) (λ n. refl) (λ n. refl) (λ n c. refl)) x r h)

pub empty_read : (k : ℕ) (x : List ℕ) (r : Tried) → k ≡ 8 → ReadIs (TagSpelling (60 ∷ []) (47 ∷ 62 ∷ [])) nothing x r → TriedIs (OfKind k) x r
empty_read k x r e h = subst (λ z. TriedIs (OfKind z) x r) (sym e) (read_token (OfKind 8) (TagSpelling (60 ∷ []) (47 ∷ 62 ∷ [])) nothing
    (tag_sort 8 (60 ∷ []) (47 ∷ 62 ∷ []) empty_tag empty_only (λ n t. record { kind = refl; fit = t }) (λ n t. t) (λ n. refl) (λ n. refl) (λ n c. refl)) x r h)

pub string_read : (k : ℕ) (x : List ℕ) (r : Tried) → k ≡ 9 → ReadIs StringSpelling nothing x r → TriedIs (OfKind k) x r
string_read k x r e h = subst (λ z. TriedIs (OfKind z) x r) (sym e) (read_token (OfKind 9) StringSpelling nothing (record {
  spelled = λ t m. let o = string_only t m in record { characters = o.0; are_string = o.1; spelled = ap token_bytes o.2; long = ap token_number o.2 };
  joined = λ t m b. ap (λ z. joins z b) (string_only t m).2;
  token = λ w n l. (string l.characters, record { kind = refl; fit = l.are_string }, sym l.spelled, sym l.long);
}) x r h)

-- kinds that may stand here
pub only_read : (m : Bool) (k : ℕ) (x : List ℕ) (r : Tried) → m ≡ true → TriedIs (OfKind k) x r → TriedIs (MayIf m (OfKind k)) x r
only_read m k x r e h = subst (λ z. TriedIs (MayIf z (OfKind k)) x r) (sym e) h

none_of : (May : TextToken → Type 0) (x : List ℕ) → ((t : TextToken) → May t → ⊥) → Stuck May x 0
none_of May x f = record { reached = omega arith; begun = λ i. absurd (omega arith); no_further = λ i s. f s.token s.may; no_token = λ t w. f t w.may }

pub none_read : (m : Bool) (k : ℕ) (x : List ℕ) → m ≡ false → TriedIs (MayIf m (OfKind k)) x (Tried.Stuck 0)
none_read m k x e = subst (λ z. TriedIs (MayIf z (OfKind k)) x (Tried.Stuck 0)) (sym e) (no_token (none_of (MayIf false (OfKind k)) x (λ t h. h)))

-- the kinds below k that are marked
pub record Below (may : List Bool) (k : ℕ) (t : TextToken) : Type 0 where
  pub below : token_kind t < k
  pub allowed : MarkedKind may t

begins_less : (May : TextToken → Type 0) (x : List ℕ) (p q : ℕ) → p ≤ q → BeginsToken May (take q x) → BeginsToken May (take p x)
begins_less May x p q h s = record {
  token = s.token;
  may = s.may;
  rest = drop p (take q x) ++ s.rest;
  are = s.are ∙ ap (λ z. z ++ s.rest) (sym (take-append-drop p (take q x)) ∙ ap (λ z. z ++ drop p (take q x)) (take-take p q x h)) ∙ append_assoc (take p x) (drop p (take q x)) s.rest;
}

-- two sorts of tokens: the longer beginning counts
module _ (L M N : TextToken → Type 0) (x : List ℕ) (split : (t : TextToken) → N t → L t ⊎ M t) (to_l : (t : TextToken) → L t → N t) (to_m : (t : TextToken) → M t → N t) where
  begins_as : (A B : TextToken → Type 0) → ((t : TextToken) → A t → B t) → (y : List ℕ) → BeginsToken A y → BeginsToken B y
  begins_as A B f y s = record { token = s.token; may = f s.token s.may; rest = s.rest; are = s.are }

  begins_split : (y : List ℕ) → BeginsToken N y → BeginsToken L y ⊎ BeginsToken M y
  begins_split y s = on (split s.token s.may)
    where
      on : L s.token ⊎ M s.token → BeginsToken L y ⊎ BeginsToken M y
      on (inl h) = inl (record { token = s.token; may = h; rest = s.rest; are = s.are })
      on (inr h) = inr (record { token = s.token; may = h; rest = s.rest; are = s.are })

  no_token_union : (p q : ℕ) → Stuck L x p → Stuck M x q → (t : TextToken) → WholeToken N x t → ⊥
  no_token_union p q a b t w = on (split t w.may)
    where
      on : L t ⊎ M t → ⊥
      on (inl h) = a.no_token t (record { may = h; rest = w.rest; are = w.are; follows = w.follows })
      on (inr h) = b.no_token t (record { may = h; rest = w.rest; are = w.are; follows = w.follows })

  stuck_union : (p q : ℕ) → Stuck L x p → Stuck M x q → Stuck N x (max p q)
  stuck_union p q a b = on (dec_le p q)
    where
      further : (k : ℕ) → p ≤ k → q ≤ k → k < length x → BeginsToken L (take (suc k) x) ⊎ BeginsToken M (take (suc k) x) → ⊥
      further k lp lq i (inl s) = a.no_further (omega arith) (begins_less L x (suc p) (suc k) (omega arith) s)
      further k lp lq i (inr s) = b.no_further (omega arith) (begins_less M x (suc q) (suc k) (omega arith) s)

      on : Dec (p ≤ q) → Stuck N x (max p q)
      on (yes h) = let e : max p q ≡ q = omega arith in subst (Stuck N x) (sym e) (record {
        reached = b.reached;
        begun = λ i. begins_as M N to_m (take q x) (b.begun i);
        no_further = λ i s. further q h (omega arith) i (begins_split (take (suc q) x) s);
        no_token = no_token_union p q a b;
      })
      on (no h) = let e : max p q ≡ p = omega arith in subst (Stuck N x) (sym e) (record {
        reached = a.reached;
        begun = λ i. begins_as L N to_l (take p x) (a.begun i);
        no_further = λ i s. further p (omega arith) (omega arith) i (begins_split (take (suc p) x) s);
        no_token = no_token_union p q a b;
      })

only_true : (m : Bool) (May : TextToken → Type 0) (t : TextToken) → MayIf m May t → (m ≡ true) × May t
only_true true May t h = (refl, h)
only_true false May t h = absurd h

true_only : (m : Bool) (May : TextToken → Type 0) (t : TextToken) → m ≡ true → May t → MayIf m May t
true_only true May t e h = h
true_only false May t e h = absurd (let z : ◌≡◌ {A = ℕ} 0 1 = cc in omega arith)

pub kinds_none : (may : List Bool) (x : List ℕ) → Stuck (Below may 0) x 0
kinds_none may x = none_of (Below may 0) x (λ t h. omega (arith, h.below))

pub kinds_more : (may : List Bool) (x : List ℕ) (k p q : ℕ) → Stuck (Below may k) x p → TriedIs (MayIf (get_or may k false) (OfKind k)) x (Tried.Stuck q) → Stuck (Below may (k + 1)) x (max p q)
kinds_more may x k p q h (no_token s) = stuck_union (Below may k) (MayIf (get_or may k false) (OfKind k)) (Below may (k + 1)) x split
    (λ t i. record { below = omega (arith, i.below); allowed = i.allowed })
    (λ t i. let o = only_true (get_or may k false) (OfKind k) t i in record { below = omega (arith, o.1.kind); allowed = record { marked = ap (λ z. get_or may z false) o.1.kind ∙ o.0; fit = o.1.fit } })
    p q h s
  where
    split : (t : TextToken) → Below may (k + 1) t → Below may k t ⊎ MayIf (get_or may k false) (OfKind k) t
    split t i = on (ℕ_discrete (token_kind t) k)
      where
        on : Dec (token_kind t ≡ k) → Below may k t ⊎ MayIf (get_or may k false) (OfKind k) t
        on (yes e) = inr (true_only (get_or may k false) (OfKind k) t (ap (λ z. get_or may z false) (sym e) ∙ i.allowed.marked) (record { kind = e; fit = i.allowed.fit }))
        on (no e) = inl (record { below = omega (arith, i.below); allowed = i.allowed })

pub kind_found : (may : List Bool) (x : List ℕ) (k n l : ℕ) → TriedIs (MayIf (get_or may k false) (OfKind k)) x (Tried.Whole n l) → Lexed may x (Lexeme.Token k n l)
kind_found may x k n l (a_token t w e f) =
    let o = only_true (get_or may k false) (OfKind k) t w.may in
    Lexed.a_token {k = k} {n = n} {l = l} t (record { may = record { marked = ap (λ z. get_or may z false) o.1.kind ∙ o.0; fit = o.1.fit }; rest = w.rest; are = w.are; follows = w.follows }) (sym o.1.kind) e f

pub kinds_done : (may : List Bool) (x : List ℕ) (k p : ℕ) → kinds ≤ k → Stuck (Below may k) x p → Lexed may x (Lexeme.Stuck p)
kinds_done may x k p l h = Lexed.no_token {k = p} (record {
  reached = h.reached;
  begun = λ i. let s = h.begun i in record { token = s.token; may = s.may.allowed; rest = s.rest; are = s.are };
  no_further = λ i s. h.no_further i (record { token = s.token; may = record { below = omega (arith, kind_below s.token); allowed = s.may }; rest = s.rest; are = s.are });
  no_token = λ t w. h.no_token t (record { may = record { below = omega (arith, kind_below t); allowed = w.may }; rest = w.rest; are = w.are; follows = w.follows });
})

pub tried_as : (May : TextToken → Type 0) (x : List ℕ) (r v : Tried) → r ≡ v → TriedIs May x r → TriedIs May x v
tried_as May x r v e h = subst (TriedIs May x) e h

-- the word (but for EMPTY, whose kind is the last), the sign of a kind
word_of_12 : (k : ℕ) → 22 ≤ k → k < 23 → (v : Keyword) × (k ≡ word_number v)
word_of_12 k l h = (NOT, omega arith)

word_of_11 : (k : ℕ) → 21 ≤ k → k < 23 → (v : Keyword) × (k ≡ word_number v)
word_of_11 k l h = on (ℕ_discrete k 21)
  where
    on : Dec (k ≡ 21) → (v : Keyword) × (k ≡ word_number v)
    on (yes e) = (OR, e)
    on (no e) = word_of_12 k (omega arith) h

word_of_10 : (k : ℕ) → 20 ≤ k → k < 23 → (v : Keyword) × (k ≡ word_number v)
word_of_10 k l h = on (ℕ_discrete k 20)
  where
    on : Dec (k ≡ 20) → (v : Keyword) × (k ≡ word_number v)
    on (yes e) = (AND, e)
    on (no e) = word_of_11 k (omega arith) h

word_of_9 : (k : ℕ) → 19 ≤ k → k < 23 → (v : Keyword) × (k ≡ word_number v)
word_of_9 k l h = on (ℕ_discrete k 19)
  where
    on : Dec (k ≡ 19) → (v : Keyword) × (k ≡ word_number v)
    on (yes e) = (END, e)
    on (no e) = word_of_10 k (omega arith) h

word_of_8 : (k : ℕ) → 18 ≤ k → k < 23 → (v : Keyword) × (k ≡ word_number v)
word_of_8 k l h = on (ℕ_discrete k 18)
  where
    on : Dec (k ≡ 18) → (v : Keyword) × (k ≡ word_number v)
    on (yes e) = (BEGIN, e)
    on (no e) = word_of_9 k (omega arith) h

word_of_7 : (k : ℕ) → 17 ≤ k → k < 23 → (v : Keyword) × (k ≡ word_number v)
word_of_7 k l h = on (ℕ_discrete k 17)
  where
    on : Dec (k ≡ 17) → (v : Keyword) × (k ≡ word_number v)
    on (yes e) = (ELSE, e)
    on (no e) = word_of_8 k (omega arith) h

word_of_6 : (k : ℕ) → 16 ≤ k → k < 23 → (v : Keyword) × (k ≡ word_number v)
word_of_6 k l h = on (ℕ_discrete k 16)
  where
    on : Dec (k ≡ 16) → (v : Keyword) × (k ≡ word_number v)
    on (yes e) = (THEN, e)
    on (no e) = word_of_7 k (omega arith) h

word_of_5 : (k : ℕ) → 15 ≤ k → k < 23 → (v : Keyword) × (k ≡ word_number v)
word_of_5 k l h = on (ℕ_discrete k 15)
  where
    on : Dec (k ≡ 15) → (v : Keyword) × (k ≡ word_number v)
    on (yes e) = (IF, e)
    on (no e) = word_of_6 k (omega arith) h

word_of_4 : (k : ℕ) → 14 ≤ k → k < 23 → (v : Keyword) × (k ≡ word_number v)
word_of_4 k l h = on (ℕ_discrete k 14)
  where
    on : Dec (k ≡ 14) → (v : Keyword) × (k ≡ word_number v)
    on (yes e) = (PRINT, e)
    on (no e) = word_of_5 k (omega arith) h

word_of_3 : (k : ℕ) → 13 ≤ k → k < 23 → (v : Keyword) × (k ≡ word_number v)
word_of_3 k l h = on (ℕ_discrete k 13)
  where
    on : Dec (k ≡ 13) → (v : Keyword) × (k ≡ word_number v)
    on (yes e) = (REJECT, e)
    on (no e) = word_of_4 k (omega arith) h

word_of_2 : (k : ℕ) → 12 ≤ k → k < 23 → (v : Keyword) × (k ≡ word_number v)
word_of_2 k l h = on (ℕ_discrete k 12)
  where
    on : Dec (k ≡ 12) → (v : Keyword) × (k ≡ word_number v)
    on (yes e) = (ECHO-OFF, e)
    on (no e) = word_of_3 k (omega arith) h

word_of_1 : (k : ℕ) → 11 ≤ k → k < 23 → (v : Keyword) × (k ≡ word_number v)
word_of_1 k l h = on (ℕ_discrete k 11)
  where
    on : Dec (k ≡ 11) → (v : Keyword) × (k ≡ word_number v)
    on (yes e) = (ECHO, e)
    on (no e) = word_of_2 k (omega arith) h

word_of_0 : (k : ℕ) → 10 ≤ k → k < 23 → (v : Keyword) × (k ≡ word_number v)
word_of_0 k l h = on (ℕ_discrete k 10)
  where
    on : Dec (k ≡ 10) → (v : Keyword) × (k ≡ word_number v)
    on (yes e) = (CHAR, e)
    on (no e) = word_of_1 k (omega arith) h

sign_of_10 : (k : ℕ) → 33 ≤ k → k < 34 → (v : Sign) × (k ≡ sign_number v)
sign_of_10 k l h = (EQUALS, omega arith)

sign_of_9 : (k : ℕ) → 32 ≤ k → k < 34 → (v : Sign) × (k ≡ sign_number v)
sign_of_9 k l h = on (ℕ_discrete k 32)
  where
    on : Dec (k ≡ 32) → (v : Sign) × (k ≡ sign_number v)
    on (yes e) = (SEMICOLON, e)
    on (no e) = sign_of_10 k (omega arith) h

sign_of_8 : (k : ℕ) → 31 ≤ k → k < 34 → (v : Sign) × (k ≡ sign_number v)
sign_of_8 k l h = on (ℕ_discrete k 31)
  where
    on : Dec (k ≡ 31) → (v : Sign) × (k ≡ sign_number v)
    on (yes e) = (STAR, e)
    on (no e) = sign_of_9 k (omega arith) h

sign_of_7 : (k : ℕ) → 30 ≤ k → k < 34 → (v : Sign) × (k ≡ sign_number v)
sign_of_7 k l h = on (ℕ_discrete k 30)
  where
    on : Dec (k ≡ 30) → (v : Sign) × (k ≡ sign_number v)
    on (yes e) = (BAR, e)
    on (no e) = sign_of_8 k (omega arith) h

sign_of_6 : (k : ℕ) → 29 ≤ k → k < 34 → (v : Sign) × (k ≡ sign_number v)
sign_of_6 k l h = on (ℕ_discrete k 29)
  where
    on : Dec (k ≡ 29) → (v : Sign) × (k ≡ sign_number v)
    on (yes e) = (DOT, e)
    on (no e) = sign_of_7 k (omega arith) h

sign_of_5 : (k : ℕ) → 28 ≤ k → k < 34 → (v : Sign) × (k ≡ sign_number v)
sign_of_5 k l h = on (ℕ_discrete k 28)
  where
    on : Dec (k ≡ 28) → (v : Sign) × (k ≡ sign_number v)
    on (yes e) = (UNBRACE, e)
    on (no e) = sign_of_6 k (omega arith) h

sign_of_4 : (k : ℕ) → 27 ≤ k → k < 34 → (v : Sign) × (k ≡ sign_number v)
sign_of_4 k l h = on (ℕ_discrete k 27)
  where
    on : Dec (k ≡ 27) → (v : Sign) × (k ≡ sign_number v)
    on (yes e) = (BRACE, e)
    on (no e) = sign_of_5 k (omega arith) h

sign_of_3 : (k : ℕ) → 26 ≤ k → k < 34 → (v : Sign) × (k ≡ sign_number v)
sign_of_3 k l h = on (ℕ_discrete k 26)
  where
    on : Dec (k ≡ 26) → (v : Sign) × (k ≡ sign_number v)
    on (yes e) = (CLOSE, e)
    on (no e) = sign_of_4 k (omega arith) h

sign_of_2 : (k : ℕ) → 25 ≤ k → k < 34 → (v : Sign) × (k ≡ sign_number v)
sign_of_2 k l h = on (ℕ_discrete k 25)
  where
    on : Dec (k ≡ 25) → (v : Sign) × (k ≡ sign_number v)
    on (yes e) = (OPEN, e)
    on (no e) = sign_of_3 k (omega arith) h

sign_of_1 : (k : ℕ) → 24 ≤ k → k < 34 → (v : Sign) × (k ≡ sign_number v)
sign_of_1 k l h = on (ℕ_discrete k 24)
  where
    on : Dec (k ≡ 24) → (v : Sign) × (k ≡ sign_number v)
    on (yes e) = (ASSIGNED, e)
    on (no e) = sign_of_2 k (omega arith) h

sign_of_0 : (k : ℕ) → 23 ≤ k → k < 34 → (v : Sign) × (k ≡ sign_number v)
sign_of_0 k l h = on (ℕ_discrete k 23)
  where
    on : Dec (k ≡ 23) → (v : Sign) × (k ≡ sign_number v)
    on (yes e) = (DEFINED, e)
    on (no e) = sign_of_1 k (omega arith) h

abbrev pub word_row : List ℕ
word_row = 67 ∷ 72 ∷ 65 ∷ 82 ∷ 32 ∷ 32 ∷ 32 ∷ 32 ∷ 69 ∷ 67 ∷ 72 ∷ 79 ∷ 32 ∷ 32 ∷ 32 ∷ 32 ∷ 69 ∷ 67 ∷ 72 ∷ 79 ∷ 95 ∷ 79 ∷ 70 ∷ 70 ∷ 114 ∷ 101 ∷ 106 ∷ 101 ∷ 99 ∷ 116 ∷ 32 ∷ 32 ∷ 112 ∷ 114 ∷ 105 ∷ 110 ∷ 116 ∷ 32 ∷ 32 ∷ 32 ∷ 105 ∷ 102 ∷ 32 ∷ 32 ∷ 32 ∷ 32 ∷ 32 ∷ 32 ∷ 116 ∷ 104 ∷ 101 ∷ 110 ∷ 32 ∷ 32 ∷ 32 ∷ 32 ∷ 101 ∷ 108 ∷ 115 ∷ 101 ∷ 32 ∷ 32 ∷ 32 ∷ 32 ∷ 98 ∷ 101 ∷ 103 ∷ 105 ∷ 110 ∷ 32 ∷ 32 ∷ 32 ∷ 101 ∷ 110 ∷ 100 ∷ 32 ∷ 32 ∷ 32 ∷ 32 ∷ 32 ∷ 97 ∷ 110 ∷ 100 ∷ 32 ∷ 32 ∷ 32 ∷ 32 ∷ 32 ∷ 111 ∷ 114 ∷ 32 ∷ 32 ∷ 32 ∷ 32 ∷ 32 ∷ 32 ∷ 110 ∷ 111 ∷ 116 ∷ 32 ∷ 32 ∷ 32 ∷ 32 ∷ 32 ∷ []

abbrev pub word_lengths : List ℕ
word_lengths = 4 ∷ 4 ∷ 8 ∷ 6 ∷ 5 ∷ 2 ∷ 4 ∷ 4 ∷ 5 ∷ 3 ∷ 3 ∷ 2 ∷ 3 ∷ []

word_length : (v : Keyword) → word_number v < 23 → get_or word_lengths (word_number v - 10) 0 ≡ length (token_bytes (word v))
word_length CHAR h = refl
word_length ECHO h = refl
word_length ECHO-OFF h = refl
word_length REJECT h = refl
word_length PRINT h = refl
word_length IF h = refl
word_length THEN h = refl
word_length ELSE h = refl
word_length BEGIN h = refl
word_length END h = refl
word_length AND h = refl
word_length OR h = refl
word_length NOT h = refl
word_length EMPTY h = absurd (omega arith)

word_part_lem : (v : Keyword) → word_number v < 23 → take (length (token_bytes (word v))) (drop (8 * (word_number v - 10)) word_row) ≡ token_bytes (word v)
word_part_lem CHAR h = refl
word_part_lem ECHO h = refl
word_part_lem ECHO-OFF h = refl
word_part_lem REJECT h = refl
word_part_lem PRINT h = refl
word_part_lem IF h = refl
word_part_lem THEN h = refl
word_part_lem ELSE h = refl
word_part_lem BEGIN h = refl
word_part_lem END h = refl
word_part_lem AND h = refl
word_part_lem OR h = refl
word_part_lem NOT h = refl
word_part_lem EMPTY h = absurd (omega arith)

abbrev pub sign_row : List ℕ
sign_row = 58 ∷ 58 ∷ 61 ∷ 58 ∷ 61 ∷ 32 ∷ 40 ∷ 32 ∷ 32 ∷ 41 ∷ 32 ∷ 32 ∷ 123 ∷ 32 ∷ 32 ∷ 125 ∷ 32 ∷ 32 ∷ 46 ∷ 32 ∷ 32 ∷ 124 ∷ 32 ∷ 32 ∷ 42 ∷ 32 ∷ 32 ∷ 59 ∷ 32 ∷ 32 ∷ 61 ∷ 32 ∷ 32 ∷ []

abbrev pub sign_lengths : List ℕ
sign_lengths = 3 ∷ 2 ∷ 1 ∷ 1 ∷ 1 ∷ 1 ∷ 1 ∷ 1 ∷ 1 ∷ 1 ∷ 1 ∷ []

sign_length : (v : Sign) → get_or sign_lengths (sign_number v - 23) 0 ≡ length (token_bytes (sign v))
sign_length DEFINED = refl
sign_length ASSIGNED = refl
sign_length OPEN = refl
sign_length CLOSE = refl
sign_length BRACE = refl
sign_length UNBRACE = refl
sign_length DOT = refl
sign_length BAR = refl
sign_length STAR = refl
sign_length SEMICOLON = refl
sign_length EQUALS = refl

sign_part : (v : Sign) → take (length (token_bytes (sign v))) (drop (3 * (sign_number v - 23)) sign_row) ≡ token_bytes (sign v)
sign_part DEFINED = refl
sign_part ASSIGNED = refl
sign_part OPEN = refl
sign_part CLOSE = refl
sign_part BRACE = refl
sign_part UNBRACE = refl
sign_part DOT = refl
sign_part BAR = refl
sign_part STAR = refl
sign_part SEMICOLON = refl
sign_part EQUALS = refl

added_off : (a n : ℕ) → a + n - a ≡ n
added_off a n = omega arith

word_short : (v : Keyword) → length (token_bytes (word v)) ≤ 8
word_short CHAR = omega arith
word_short ECHO = omega arith
word_short ECHO-OFF = omega arith
word_short REJECT = omega arith
word_short PRINT = omega arith
word_short IF = omega arith
word_short THEN = omega arith
word_short ELSE = omega arith
word_short BEGIN = omega arith
word_short END = omega arith
word_short AND = omega arith
word_short OR = omega arith
word_short NOT = omega arith
word_short EMPTY = omega arith

pub word_long : (k : ℕ) → 10 ≤ k → k < 23 → get_or word_lengths (k - 10) 0 ≤ 8
word_long k l h = let o = word_of_0 k l h in subst (λ z. z ≤ 8) (sym (ap (λ z. get_or word_lengths (z - 10) 0) o.1 ∙ word_length o.0 (subst (λ z. z < 23) o.1 h))) (word_short o.0)

pub word_cut : (k : ℕ) (x : List ℕ) (r : Tried) → 10 ≤ k → k < 23 → ReadIs (OneSpelling (take (8 * (k - 10) + get_or word_lengths (k - 10) 0 - 8 * (k - 10)) (drop (8 * (k - 10)) word_row) ++ []) 0) (stops_at true) x r → TriedIs (OfKind k) x r
word_cut k x r l h i = word_read o.0 k x r o.1 (subst (λ z. ReadIs (OneSpelling (z ++ []) 0) (stops_at true) x r) part i)
  where
    o : (v : Keyword) × (k ≡ word_number v)
    o = word_of_0 k l h

    low : word_number o.0 < 23
    low = subst (λ z. z < 23) o.1 h

    part : take (8 * (k - 10) + get_or word_lengths (k - 10) 0 - 8 * (k - 10)) (drop (8 * (k - 10)) word_row) ≡ token_bytes (word o.0)
    part =
        ap (λ z. take z (drop (8 * (k - 10)) word_row)) (added_off (8 * (k - 10)) (get_or word_lengths (k - 10) 0) ∙ ap (λ z. get_or word_lengths (z - 10) 0) o.1 ∙ word_length o.0 low)
        ∙ ap (λ z. take (length (token_bytes (word o.0))) (drop (8 * (z - 10)) word_row)) o.1 ∙ word_part_lem o.0 low

sign_short : (v : Sign) → length (token_bytes (sign v)) ≤ 3
sign_short DEFINED = omega arith
sign_short ASSIGNED = omega arith
sign_short OPEN = omega arith
sign_short CLOSE = omega arith
sign_short BRACE = omega arith
sign_short UNBRACE = omega arith
sign_short DOT = omega arith
sign_short BAR = omega arith
sign_short STAR = omega arith
sign_short SEMICOLON = omega arith
sign_short EQUALS = omega arith

pub sign_long : (k : ℕ) → 23 ≤ k → k < 34 → get_or sign_lengths (k - 23) 0 ≤ 3
sign_long k l h = let o = sign_of_0 k l h in subst (λ z. z ≤ 3) (sym (ap (λ z. get_or sign_lengths (z - 23) 0) o.1 ∙ sign_length o.0)) (sign_short o.0)

pub sign_cut : (k : ℕ) (x : List ℕ) (r : Tried) → 23 ≤ k → k < 34 → ReadIs (OneSpelling (take (3 * (k - 23) + get_or sign_lengths (k - 23) 0 - 3 * (k - 23)) (drop (3 * (k - 23)) sign_row) ++ []) 0) (stops_at false) x r → TriedIs (OfKind k) x r
sign_cut k x r l h i = sign_read o.0 k x r o.1 (subst (λ z. ReadIs (OneSpelling (z ++ []) 0) (stops_at false) x r) part i)
  where
    o : (v : Sign) × (k ≡ sign_number v)
    o = sign_of_0 k l h

    part : take (3 * (k - 23) + get_or sign_lengths (k - 23) 0 - 3 * (k - 23)) (drop (3 * (k - 23)) sign_row) ≡ token_bytes (sign o.0)
    part =
        ap (λ z. take z (drop (3 * (k - 23)) sign_row)) (added_off (3 * (k - 23)) (get_or sign_lengths (k - 23) 0) ∙ ap (λ z. get_or sign_lengths (z - 23) 0) o.1 ∙ sign_length o.0)
        ∙ ap (λ z. take (length (token_bytes (sign o.0))) (drop (3 * (z - 23)) sign_row)) o.1 ∙ sign_part o.0
