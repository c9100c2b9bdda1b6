-- A token that the machine takes has a bounded number, name or string, and some bytes. Assumes nothing.
use mathlib.Core.Path.{◌≡◌, refl, sym, ◌∙◌, ap, subst}
use mathlib.Core.Logic.{◌⊎◌, inl, inr, ⊎_elim}
use mathlib.Core.Bool.{Bool, true, false, ◌&&◌, ◌||◌}
use mathlib.Core.Option.{Option, none, some}
use mathlib.Core.List.{List, [], ◌∷◌, ◌++◌}
use Prim.Native.Nat.{ℕ, zero, suc, ◌+◌, ◌/◌, ◌%◌, ◌≤◌, ◌<◌}
use native.Mathlib.Omega.{arith}
use native.Mathlib.Decide.{dec_lt}
use lib.Dec.{ltb, leb, eqb}
use lib.ListN.{length, length-append}
use borrow.Author.Tests.{lt-leb, ne_eqb}
use Rattle.text.specs.Chars.{pick, Char, utf8}
use Rattle.text.specs.Characters.{AllChar, utf8s}
use Rattle.text.specs.Names.{name_first, name_byte, All, Name}
use Rattle.text.proofs.Shapes.{char_most, cons≢[], Range, range, shape1, shape2, shape3, shape4}
use Rattle.text.proofs.NameLaws.{name_all}
use Rattle.expressions.specs.Expr.{Atom}
use Rattle.expressions.specs.Grammar.{nonterminals}
use Rattle.programs.specs.Program.{Operand, Condition}
use Rattle.programs.specs.Limits.{Visit, first, second, Value, Attribute}
use Rattle.notation.specs.Program.{TextProgram}
use Rattle.notation.specs.Rules.{Tree}
use Rattle.notation.specs.Tokens.{Dollar, plain, left, right, TextToken, nonterminal, value, attribute, name, start_tag, end_tag, empty_tag, string, word, Keyword, CHAR, ECHO, ECHO-OFF, REJECT, PRINT, IF, THEN, ELSE, BEGIN, END, AND, OR, NOT, EMPTY, sign, Sign, DEFINED, ASSIGNED, OPEN, CLOSE, BRACE, UNBRACE, DOT, BAR, STAR, SEMICOLON, EQUALS, decimal, token_bytes, mark_bytes, TagName, StringOf}
use Rattle.notation.specs.Statements.{parentheses}
use Rattle.notation.proofs.Rows.{utf8_some}
use Rattle.reading.specs.Tests.{tag_name?, string?}
use Rattle.reading.specs.Conditions.{ConditionPart, other, part_if, value?, attribute?, attribute_part, attribute_of, part_of, Reading, step_part, step_condition, value_of_condition}
use Rattle.reading.specs.Statements.{Start, no_start, target_if, current?, start_of, Behind, nothing, item_if, behind_of, ListLevel, Listing, wants, target, assigning, printing, testing, after, thenned, tested, started_list, targeted, assigned_by, printed, followed, step_statements, value_of_list}
use Rattle.reading.specs.Expressions.{ExpressionPart, atom_if, nonterminal?, piece_of, Parsing, step_piece, unbraces, listing, step_expression, value_of_content}
use Rattle.reading.specs.Rules.{Key, key_if, key_of, Head, rule_read, Progress, beginning, first_word, named, defined, own_front, wants_tag, tagged, within, closed, own_back, complete, step_key, closes_content, parsing, step_rules}
use Rattle.reading.proofs.Telling.{none≢some}
use Rattle.reading.proofs.Braces.{part_stops, then_stops}
use Rattle.reading.proofs.RuleHeld.{KeyIs, key_is}
use Rattle.telling.proofs.Search.{Bounded, Good}

-- numbers under 100, names and strings as tokens may have them
abbrev pub Proper : TextToken → Type 0
Proper (nonterminal n) = n < 100
Proper (value n) = n < 100
Proper (attribute m a) = a < 100
Proper (name n) = TagName n
Proper (start_tag n) = TagName n
Proper (end_tag n) = TagName n
Proper (empty_tag n) = TagName n
Proper (string cs) = StringOf cs
Proper (word w) = Unit {0}
Proper (sign s) = Unit {0}

pub record Fine (t : TextToken) : Type 0 where
  pub good : Good t
  pub proper : Proper t
  pub some_bytes : token_bytes t ≡ [] → ⊥

-- a token that stands in no expression and no program; and one that stands nowhere
record Silent (t : TextToken) : Type 0 where
  in_condition : (v : Visit) → part_of v t ≡ other
  at_start : (v : Visit) → start_of v t ≡ no_start
  behind : behind_of t ≡ nothing
  in_expression : piece_of t ≡ ExpressionPart.other

record Stray (t : TextToken) : Type 0 where
  silent : Silent t
  outside : key_of t ≡ Key.other

-- numbers
pick_some : (b : Bool) (x y : ℕ) (l m : List ℕ) → pick b (x ∷ l) (y ∷ m) ≡ [] → ⊥
pick_some true x y l m e = cons≢[] e
pick_some false x y l m e = cons≢[] e

decimal_some : (n : ℕ) → decimal n ≡ [] → ⊥
unfolding decimal
decimal_some n e = pick_some (ltb n 10) (48 + n) (48 + n / 10) [] ((48 + n % 10) ∷ []) e

no_part : {P : Type 0} (d : Dec P) (x : Operand) → (P → ⊥) → part_if d x ≡ other
no_part (yes p) x h = absurd (h p)
no_part (no p) x h = refl

no_attribute : {P : Type 0} (d : Dec P) (o : Option Operand) → (P → ⊥) → attribute_part d o ≡ other
no_attribute d none h = refl
no_attribute d (some x) h = no_part d x h

no_target : {P : Type 0} (d : Dec P) (b : Bool) (a : ℕ) → (P → ⊥) → target_if d b a ≡ no_start
no_target (yes p) b a h = absurd (h p)
no_target (no p) b a h = refl

no_item : {P : Type 0} (d : Dec P) (p : TextProgram) → (P → ⊥) → item_if d p ≡ nothing
no_item (yes p) q h = absurd (h p)
no_item (no p) q h = refl

no_atom : {P : Type 0} (d : Dec P) (k : Atom) → (P → ⊥) → atom_if d k ≡ ExpressionPart.other
no_atom (yes p) k h = absurd (h p)
no_atom (no p) k h = refl

no_key : {P : Type 0} (d : Dec P) (k : Key) → (P → ⊥) → key_if d k ≡ Key.other
no_key (yes p) k h = absurd (h p)
no_key (no p) k h = refl

-- a byte of a name is a byte
name_byte_lem : (b : ℕ) → name_byte b ≡ true → b < 256
name_byte_lem b h = on (dec_lt b 256)
  where
    on : Dec (b < 256) → b < 256
    on (yes l) = l
    on (no l) =
        let big : (k : ℕ) → k < 256 → leb b k ≡ false = λ k i. lt-leb b k (omega arith) in
        let far : (k : ℕ) → k < 256 → eqb b k ≡ false = λ k i. ne_eqb b k (λ e. omega arith) in
        let z : name_byte b ≡ false = all_false (leb 65 b) (leb b 90) (leb 97 b) (leb b 122) (eqb b 95) (leb 48 b) (leb b 57) (eqb b 46) (eqb b 45)
        (big 90 (omega arith)) (big 122 (omega arith)) (far 95 (omega arith)) (big 57 (omega arith)) (far 46 (omega arith)) (far 45 (omega arith)) in
        absurd (let y : ◌≡◌ {A = ℕ} 0 1 = cc in omega arith)
      where
        and_false : (x : Bool) → x && false ≡ false
        and_false true = refl
        and_false false = refl

        all_false : (a b c d e f g i j : Bool) → b ≡ false → d ≡ false → e ≡ false → g ≡ false → i ≡ false → j ≡ false
            → ((a && b) || ((c && d) || e)) || ((f && g) || (i || j)) ≡ false
        all_false a b c d e f g i j p q r s t u = rw (p, q, r, s, t, u, and_false a, and_false c, and_false f) refl

name_bounded : (k : ℕ) (n : List ℕ) → All name_byte n → length n ≤ k → Bounded k 256 n
name_bounded zero [] h l = tt
name_bounded zero (x ∷ n) h l = absurd (omega arith)
name_bounded (suc k) [] h l = tt
name_bounded (suc k) (x ∷ n) h l = (name_byte_lem x h.0, name_bounded k n h.1 (omega arith))

tag_bounded : (n : List ℕ) → TagName n → Bounded 15 256 n
tag_bounded n h = name_bounded 15 n (name_all n h.a_name) h.short

name_some : (n : List ℕ) → Name n → n ≡ [] → ⊥
name_some [] h e = h
name_some (x ∷ n) h e = cons≢[] e

chars_bounded : (k : ℕ) (cs : List ℕ) → AllChar cs → length (utf8s cs) ≤ k → Bounded k 0x110000 cs
chars_bounded zero [] h l = tt
chars_bounded zero (c ∷ cs) h l = absurd (omega (arith, utf8_some c, simp length-append at l))
chars_bounded (suc k) [] h l = tt
chars_bounded (suc k) (c ∷ cs) h l = (omega (arith, char_most h.0), chars_bounded k cs h.1 (omega (arith, utf8_some c, simp length-append at l)))

mark_some : (m : Dollar) (l : List ℕ) → mark_bytes m ++ l ≡ [] → ⊥
mark_some plain l e = cons≢[] e
mark_some left l e = cons≢[] e
mark_some right l e = cons≢[] e

word_some : (w : Keyword) → token_bytes (word w) ≡ [] → ⊥
word_some CHAR e = cons≢[] e
word_some ECHO e = cons≢[] e
word_some ECHO-OFF e = cons≢[] e
word_some REJECT e = cons≢[] e
word_some PRINT e = cons≢[] e
word_some IF e = cons≢[] e
word_some THEN e = cons≢[] e
word_some ELSE e = cons≢[] e
word_some BEGIN e = cons≢[] e
word_some END e = cons≢[] e
word_some AND e = cons≢[] e
word_some OR e = cons≢[] e
word_some NOT e = cons≢[] e
word_some EMPTY e = cons≢[] e

sign_some : (s : Sign) → token_bytes (sign s) ≡ [] → ⊥
sign_some DEFINED e = cons≢[] e
sign_some ASSIGNED e = cons≢[] e
sign_some OPEN e = cons≢[] e
sign_some CLOSE e = cons≢[] e
sign_some BRACE e = cons≢[] e
sign_some UNBRACE e = cons≢[] e
sign_some DOT e = cons≢[] e
sign_some BAR e = cons≢[] e
sign_some STAR e = cons≢[] e
sign_some SEMICOLON e = cons≢[] e
sign_some EQUALS e = cons≢[] e

fine_or_stray : (t : TextToken) → Fine t ⊎ Stray t
fine_or_stray (nonterminal n) = on (nonterminal? n)
  where
    on : Dec (n < nonterminals) → Fine (nonterminal n) ⊎ Stray (nonterminal n)
    on (yes h) = inl (record { good = omega arith; proper = omega arith; some_bytes = cons≢[] })
    on (no h) = inr (record { silent = record { in_condition = λ v. refl; at_start = λ v. refl; behind = refl; in_expression = no_atom (nonterminal? n) _ h }; outside = no_key (nonterminal? n) _ h })
fine_or_stray (value n) = on (value? n)
  where
    on : Dec (Value n) → Fine (value n) ⊎ Stray (value n)
    on (yes h) = inl (record { good = omega arith; proper = omega arith; some_bytes = decimal_some n })
    on (no h) = inr (record { silent = record { in_condition = λ v. no_part (value? n) _ h; at_start = λ v. refl; behind = refl; in_expression = refl }; outside = refl })
fine_or_stray (attribute m a) = on (attribute? a)
  where
    on : Dec (Attribute a) → Fine (attribute m a) ⊎ Stray (attribute m a)
    on (yes h) = inl (record { good = omega arith; proper = omega arith; some_bytes = mark_some m _ })
    on (no h) = inr (record { silent = record { in_condition = λ v. no_attribute (attribute? a) (attribute_of v m a) h; at_start = λ v. no_target (attribute? a) (current? v m) a h; behind = refl; in_expression = refl }; outside = refl })
fine_or_stray (name n) = on (tag_name? n)
  where
    on : Dec (TagName n) → Fine (name n) ⊎ Stray (name n)
    on (yes h) = inl (record { good = tag_bounded n h; proper = h; some_bytes = name_some n h.a_name })
    on (no h) = inr (record { silent = record { in_condition = λ v. refl; at_start = λ v. refl; behind = refl; in_expression = refl }; outside = no_key (tag_name? n) _ h })
fine_or_stray (start_tag n) = on (tag_name? n)
  where
    on : Dec (TagName n) → Fine (start_tag n) ⊎ Stray (start_tag n)
    on (yes h) = inl (record { good = tag_bounded n h; proper = h; some_bytes = cons≢[] })
    on (no h) = inr (record { silent = record { in_condition = λ v. refl; at_start = λ v. refl; behind = no_item (tag_name? n) _ h; in_expression = refl }; outside = refl })
fine_or_stray (end_tag n) = on (tag_name? n)
  where
    on : Dec (TagName n) → Fine (end_tag n) ⊎ Stray (end_tag n)
    on (yes h) = inl (record { good = tag_bounded n h; proper = h; some_bytes = cons≢[] })
    on (no h) = inr (record { silent = record { in_condition = λ v. refl; at_start = λ v. refl; behind = no_item (tag_name? n) _ h; in_expression = refl }; outside = refl })
fine_or_stray (empty_tag n) = on (tag_name? n)
  where
    on : Dec (TagName n) → Fine (empty_tag n) ⊎ Stray (empty_tag n)
    on (yes h) = inl (record { good = tag_bounded n h; proper = h; some_bytes = cons≢[] })
    on (no h) = inr (record { silent = record { in_condition = λ v. refl; at_start = λ v. refl; behind = no_item (tag_name? n) _ h; in_expression = refl }; outside = refl })
fine_or_stray (string cs) = on (string? cs)
  where
    on : Dec (StringOf cs) → Fine (string cs) ⊎ Stray (string cs)
    on (yes h) = inl (record { good = chars_bounded 255 cs h.characters h.short; proper = h; some_bytes = cons≢[] })
    on (no h) = inr (record { silent = record { in_condition = λ v. refl; at_start = λ v. refl; behind = no_item (string? cs) _ h; in_expression = refl }; outside = refl })
fine_or_stray (word w) = inl (record { good = tt; proper = tt; some_bytes = word_some w })
fine_or_stray (sign s) = inl (record { good = tt; proper = tt; some_bytes = sign_some s })

-- no machine takes it
list_stops : (v : Visit) (s : Listing) (t : TextToken) → Silent t → step_statements v s t ≡ none
list_stops v (wants w l ls) t h = ap (started_list w l ls) (h.at_start v)
list_stops v (target a l ls) t h = ap (targeted a l ls) h.behind
list_stops v (assigning a l ls) t h = ap (assigned_by a l ls) (h.in_condition v)
list_stops v (printing l ls) t h = ap (printed l ls) h.behind
list_stops v (testing r l ls) t h =
    ap (λ k. tested (step_part parentheses r k) (value_of_condition r) l ls (behind_of t)) (h.in_condition v)
    ∙ ap (λ o. tested o (value_of_condition r) l ls (behind_of t)) (part_stops parentheses r)
    ∙ ap (thenned (value_of_condition r) l ls) h.behind ∙ then_stops (value_of_condition r) l ls
list_stops v (after b p l ls) t h = ap (followed b p l ls) h.behind

listing_stops : {S : Type 0} (v : Visit) (q : Listing) (t : TextToken) (holds : Listing → S) (ended : TextProgram → S) → Silent t → listing (step_statements v q t) holds (unbraces (piece_of t) (value_of_list q) ended) ≡ none
listing_stops v q t holds ended h = ap (λ o. listing o holds (unbraces (piece_of t) (value_of_list q) ended)) (list_stops v q t h) ∙ ap (λ k. unbraces k (value_of_list q) ended) h.in_expression

piece_stops : (s : Parsing) → step_piece s ExpressionPart.other ≡ none
piece_stops (Parsing.wants b l ls) = refl
piece_stops (Parsing.in_front q ls) = refl
piece_stops (Parsing.after e l ls) = refl
piece_stops (Parsing.behind q f k ls) = refl
piece_stops (Parsing.over e ls) = refl

content_stops : (s : Parsing) (t : TextToken) → Silent t → step_expression s t ≡ none
content_stops (Parsing.wants b l ls) t h = ap (step_piece (Parsing.wants b l ls)) h.in_expression
content_stops (Parsing.in_front q ls) t h = listing_stops first q t _ _ h
content_stops (Parsing.after e l ls) t h = ap (step_piece (Parsing.after e l ls)) h.in_expression
content_stops (Parsing.behind q f k ls) t h = listing_stops second q t _ _ h
content_stops (Parsing.over e ls) t h = ap (step_piece (Parsing.over e ls)) h.in_expression

rules_stop : (s : Progress) (t : TextToken) → Stray t → step_rules s t ≡ none
rules_stop beginning t h = ap (step_key beginning) h.outside
rules_stop (first_word n) t h = ap (step_key (first_word n)) h.outside
rules_stop (named d) t h = ap (step_key (named d)) h.outside
rules_stop (defined d) t h = ap (step_key (defined d)) h.outside
rules_stop (own_front q d) t h = listing_stops first q t _ _ h.silent
rules_stop (wants_tag f d) t h = ap (step_key (wants_tag f d)) h.outside
rules_stop (tagged f u d) t h = ap (step_key (tagged f u d)) h.outside
rules_stop (within x f u d) t h =
    ap (λ o. parsing o (closes_content (key_of t) (value_of_content x) f u d) f u d) (content_stops x t h.silent)
    ∙ ap (λ k. closes_content k (value_of_content x) f u d) h.outside
rules_stop (closed f u e d) t h = ap (step_key (closed f u e d)) h.outside
rules_stop (own_back q f u e d) t h = listing_stops second q t _ _ h.silent
rules_stop (complete r d) t h = ap (step_key (complete r d)) h.outside

pub taken_is_fine : (s s' : Progress) (t : TextToken) → step_rules s t ≡ some s' → Fine t
taken_is_fine s s' t e = ⊎_elim (λ (f : Fine t). f) (λ (h : Stray t). absurd (none≢some (rules_stop s t h) e)) (fine_or_stray t)

-- a name stands only where a tag is wanted, and there nothing but a name or a { does
abbrev pub WantsTag : Progress → Type 0
WantsTag beginning = ⊥
WantsTag (first_word n) = ⊥
WantsTag (named h) = ⊥
WantsTag (defined h) = Unit {0}
WantsTag (own_front q h) = ⊥
WantsTag (wants_tag f h) = Unit {0}
WantsTag (tagged f t h) = ⊥
WantsTag (within x f t h) = ⊥
WantsTag (closed f t e h) = ⊥
WantsTag (own_back q f t e h) = ⊥
WantsTag (complete r h) = ⊥

abbrev NameKey : Key → Type 0
NameKey (Key.a_nonterminal n) = ⊥
NameKey (Key.a_name n) = Unit {0}
NameKey Key.a_definition = ⊥
NameKey Key.an_open = ⊥
NameKey Key.a_close = ⊥
NameKey Key.a_brace = ⊥
NameKey Key.other = Unit {0}

name_key : {P : Type 0} (d : Dec P) (n : List ℕ) → NameKey (key_if d (Key.a_name n))
name_key (yes h) n = tt
name_key (no h) n = tt

abbrev Tags : Option Progress → Progress → Type 0
Tags none s = Unit {0}
Tags (some s') s = WantsTag s

key_tags : (s : Progress) (k : Key) → NameKey k → Tags (step_key s k) s
key_tags s (Key.a_nonterminal n) h = absurd h
key_tags s Key.a_definition h = absurd h
key_tags s Key.an_open h = absurd h
key_tags s Key.a_close h = absurd h
key_tags s Key.a_brace h = absurd h
key_tags beginning (Key.a_name n) h = tt
key_tags (first_word m) (Key.a_name n) h = tt
key_tags (named d) (Key.a_name n) h = tt
key_tags (defined d) (Key.a_name n) h = tt
key_tags (own_front q d) (Key.a_name n) h = tt
key_tags (wants_tag f d) (Key.a_name n) h = tt
key_tags (tagged f t d) (Key.a_name n) h = tt
key_tags (within x f t d) (Key.a_name n) h = tt
key_tags (closed f t e d) (Key.a_name n) h = tt
key_tags (own_back q f t e d) (Key.a_name n) h = tt
key_tags (complete r d) (Key.a_name n) h = tt
key_tags beginning Key.other h = tt
key_tags (first_word m) Key.other h = tt
key_tags (named d) Key.other h = tt
key_tags (defined d) Key.other h = tt
key_tags (own_front q d) Key.other h = tt
key_tags (wants_tag f d) Key.other h = tt
key_tags (tagged f t d) Key.other h = tt
key_tags (within x f t d) Key.other h = tt
key_tags (closed f t e d) Key.other h = tt
key_tags (own_back q f t e d) Key.other h = tt
key_tags (complete r d) Key.other h = tt

name_silent : (n : List ℕ) → Silent (name n)
name_silent n = record { in_condition = λ v. refl; at_start = λ v. refl; behind = refl; in_expression = refl }

closes_name : (k : Key) (o : Option (Option Tree)) (f : Option TextProgram) (t : List ℕ) (h : Head) → NameKey k → closes_content k o f t h ≡ none
closes_name (Key.a_nonterminal n) o f t h i = absurd i
closes_name (Key.a_name n) o f t h i = refl
closes_name Key.a_definition o f t h i = absurd i
closes_name Key.an_open o f t h i = absurd i
closes_name Key.a_close o f t h i = absurd i
closes_name Key.a_brace o f t h i = absurd i
closes_name Key.other o f t h i = refl

pub name_wants_tag : (s s' : Progress) (n : List ℕ) → step_rules s (name n) ≡ some s' → WantsTag s
name_wants_tag s s' n e = on s e
  where
    by_key : (s : Progress) → step_key s (key_of (name n)) ≡ some s' → WantsTag s
    by_key s i = subst (λ o. Tags o s) i (key_tags s (key_of (name n)) (name_key (tag_name? n) n))

    on : (s : Progress) → step_rules s (name n) ≡ some s' → WantsTag s
    on beginning i = by_key beginning i
    on (first_word m) i = by_key (first_word m) i
    on (named h) i = by_key (named h) i
    on (defined h) i = tt
    on (own_front q h) i = none≢some (listing_stops first q (name n) (λ r. own_front r h) (λ p. wants_tag (some p) h) (name_silent n)) i
    on (wants_tag f h) i = tt
    on (tagged f t h) i = by_key (tagged f t h) i
    on (within x f t h) i =
        none≢some (ap (λ o. parsing o (closes_content (key_of (name n)) (value_of_content x) f t h) f t h) (content_stops x (name n) (name_silent n)) ∙ closes_name (key_of (name n)) (value_of_content x) f t h (name_key (tag_name? n) n)) i
    on (closed f t x h) i = by_key (closed f t x h) i
    on (own_back q f t x h) i = none≢some (listing_stops second q (name n) (λ r. own_back r f t x h) (λ p. complete (rule_read f (some p) t x h) h) (name_silent n)) i
    on (complete r h) i = by_key (complete r h) i

pub tag_place : (s s' : Progress) (t : TextToken) → WantsTag s → step_rules s t ≡ some s' → ((n : List ℕ) × (t ≡ name n)) ⊎ (t ≡ sign BRACE)
tag_place s s' t w e = on s w e
  where
    of_defined : (h : Head) (k : Key) → KeyIs t k → step_key (defined h) k ≡ some s' → ((n : List ℕ) × (t ≡ name n)) ⊎ (t ≡ sign BRACE)
    of_defined h (Key.a_nonterminal n) i j = absurd (none≢some refl j)
    of_defined h (Key.a_name n) i j = inl (n, i.0)
    of_defined h Key.a_definition i j = absurd (none≢some refl j)
    of_defined h Key.an_open i j = absurd (none≢some refl j)
    of_defined h Key.a_close i j = absurd (none≢some refl j)
    of_defined h Key.a_brace i j = inr i
    of_defined h Key.other i j = absurd (none≢some refl j)

    of_wanting : (f : Option TextProgram) (h : Head) (k : Key) → KeyIs t k → step_key (wants_tag f h) k ≡ some s' → ((n : List ℕ) × (t ≡ name n)) ⊎ (t ≡ sign BRACE)
    of_wanting f h (Key.a_nonterminal n) i j = absurd (none≢some refl j)
    of_wanting f h (Key.a_name n) i j = inl (n, i.0)
    of_wanting f h Key.a_definition i j = absurd (none≢some refl j)
    of_wanting f h Key.an_open i j = absurd (none≢some refl j)
    of_wanting f h Key.a_close i j = absurd (none≢some refl j)
    of_wanting f h Key.a_brace i j = absurd (none≢some refl j)
    of_wanting f h Key.other i j = absurd (none≢some refl j)

    on : (s : Progress) → WantsTag s → step_rules s t ≡ some s' → ((n : List ℕ) × (t ≡ name n)) ⊎ (t ≡ sign BRACE)
    on beginning w i = absurd w
    on (first_word m) w i = absurd w
    on (named h) w i = absurd w
    on (defined h) w i = of_defined h (key_of t) (key_is t) i
    on (own_front q h) w i = absurd w
    on (wants_tag f h) w i = of_wanting f h (key_of t) (key_is t) i
    on (tagged f u h) w i = absurd w
    on (within x f u h) w i = absurd w
    on (closed f u x h) w i = absurd w
    on (own_back q f u x h) w i = absurd w
    on (complete r h) w i = absurd w
