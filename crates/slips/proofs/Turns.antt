-- A slip is that of the state, token by token. Assumes nothing.
use mathlib.Core.Path.{◌≡◌, refl, sym, ◌∙◌, ap, subst}
use mathlib.Core.Option.{Option, none, some}
use mathlib.Core.List.{List, []}
use Prim.Native.Nat.{ℕ}
use Rattle.programs.specs.Program.{Condition}
use Rattle.programs.specs.Limits.{Visit, first, second}
use Rattle.notation.specs.Program.{TextProgram}
use Rattle.notation.specs.Rules.{Tree, Rules}
use Rattle.notation.specs.Statements.{parentheses}
use Rattle.notation.specs.Tokens.{Dollar, plain, left, right, TextToken, nonterminal, value, attribute, name, start_tag, end_tag, empty_tag, string, word, Keyword, CHAR, ECHO, ECHO-OFF, REJECT, PRINT, IF, THEN, ELSE, BEGIN, END, AND, OR, NOT, EMPTY, sign, Sign, DEFINED, ASSIGNED, OPEN, CLOSE, BRACE, UNBRACE, DOT, BAR, STAR, SEMICOLON, EQUALS}
use Rattle.reading.specs.Tests.{tag_name?}
use Rattle.reading.specs.Conditions.{Reading, ConditionPart, part_of, step_part, step_condition, value_of_condition}
use Rattle.reading.specs.Statements.{Start, no_start, start_of, Behind, nothing, behind_of, started_list, targeted, assigned_by, printed, followed, thenned, tested, Listing, wants, target, assigning, printing, testing, after, step_statements, value_of_list}
use Rattle.reading.specs.Expressions.{Parsing, in_front, behind, over, nonterminal?, piece_of, unbraces, listing, step_expression, value_of_content}
use Rattle.reading.specs.Rules.{Key, a_nonterminal, a_name, a_definition, an_open, a_close, a_brace, other, key_if, key_of, Head, head, Progress, beginning, first_word, named, defined, own_front, wants_tag, tagged, within, closed, own_back, complete, rule_read, next_head, step_key, closes_content, parsing, step_rules}
use Rattle.reading.proofs.Telling.{none≢some}
use Rattle.lexemes.specs.Kinds.{token_kind, token_number}
use Rattle.sketches.specs.Sketched.{sketch}
use Rattle.mentions.proofs.Statements.{no_unbrace}
use Rattle.mentions.proofs.Expressions.{unbraced}
use Rattle.desks.specs.Spots.{spot, spot_of}
use Rattle.desks.specs.Kept.{RowPlaceIs}
use Rattle.slips.specs.declared.Slip.{Slip}
use Rattle.slips.specs.Slips.{slip_turned, Slipped, Turns}

-- the spot is that of the sketch
pub spots_alike : (s : Progress) → spot_of (sketch s).point ≡ spot s
spots_alike beginning = refl
spots_alike (first_word n) = refl
spots_alike (named h) = refl
spots_alike (defined h) = refl
spots_alike (own_front q h) = refl
spots_alike (wants_tag f h) = refl
spots_alike (tagged f t h) = refl
spots_alike (within (Parsing.wants b l ls) f t h) = refl
spots_alike (within (in_front q ls) f t h) = refl
spots_alike (within (Parsing.after e l ls) f t h) = refl
spots_alike (within (behind q g k ls) f t h) = refl
spots_alike (within (over e ls) f t h) = refl
spots_alike (closed f t e h) = refl
spots_alike (own_back q f t e h) = refl
spots_alike (complete r h) = refl

-- no list of statements goes on with a token that is nothing there
other_stops : (p : ℕ) (r : Reading) → step_part p r ConditionPart.other ≡ none
other_stops p (Reading.wants l ls) = refl
other_stops p (Reading.compares x l ls) = refl
other_stops p (Reading.wants_other x l ls) = refl
other_stops p (Reading.after d o ls) = refl

pub no_step : (v : Visit) (q : Listing) (t : TextToken) → start_of v t ≡ no_start → behind_of t ≡ nothing → part_of v t ≡ ConditionPart.other → step_statements v q t ≡ none
no_step v (wants w l ls) t a b c = ap (started_list w l ls) a
no_step v (target n l ls) t a b c = ap (targeted n l ls) b
no_step v (assigning n l ls) t a b c = ap (assigned_by n l ls) c
no_step v (printing l ls) t a b c = ap (printed l ls) b
no_step v (testing r l ls) t a b c =
    ap (λ o. tested o (value_of_condition r) l ls (behind_of t)) (ap (step_part parentheses r) c ∙ other_stops parentheses r) ∙ ap (λ k. thenned (value_of_condition r) l ls k) b ∙ on (value_of_condition r)
  where
    on : (o : Option Condition) → thenned o l ls nothing ≡ none
    on none = refl
    on (some c) = refl
no_step v (after b p l ls) t a c d = ap (followed b p l ls) c

no_name_inside : (x : Parsing) (n : List ℕ) → step_expression x (name n) ≡ none
no_name_inside (Parsing.wants b l ls) n = refl
no_name_inside (in_front q ls) n = ap (λ o. listing o (λ r. in_front r ls) none) (no_step first q (name n) refl refl refl)
no_name_inside (Parsing.after e l ls) n = refl
no_name_inside (behind q f k ls) n = ap (λ o. listing o (λ r. behind r f k ls) none) (no_step second q (name n) refl refl refl)
no_name_inside (over e ls) n = refl

pub word_quiet : (o : Slip) (here place : ℕ) (w : Keyword) → slip_turned o here (token_kind (word w)) 0 place ≡ o
word_quiet o here place CHAR = refl
word_quiet o here place ECHO = refl
word_quiet o here place ECHO-OFF = refl
word_quiet o here place REJECT = refl
word_quiet o here place PRINT = refl
word_quiet o here place IF = refl
word_quiet o here place THEN = refl
word_quiet o here place ELSE = refl
word_quiet o here place BEGIN = refl
word_quiet o here place END = refl
word_quiet o here place AND = refl
word_quiet o here place OR = refl
word_quiet o here place NOT = refl
word_quiet o here place EMPTY = refl

pub mark_quiet : (o : Slip) (here place a : ℕ) (m : Dollar) → slip_turned o here (token_kind (attribute m a)) a place ≡ o
mark_quiet o here place a plain = refl
mark_quiet o here place a left = refl
mark_quiet o here place a right = refl

-- a token that is none of the three leaves the slip
quiet : (o : Slip) (here place : ℕ) (t : TextToken) → ((n : ℕ) → t ≡ nonterminal n → ⊥) → ((n : List ℕ) → t ≡ name n → ⊥) → (t ≡ sign UNBRACE → ⊥) → slip_turned o here (token_kind t) (token_number t) place ≡ o
quiet o here place (nonterminal n) a b c = absurd (a n refl)
quiet o here place (value v) a b c = refl
quiet o here place (attribute m n) a b c = mark_quiet o here place n m
quiet o here place (name n) a b c = absurd (b n refl)
quiet o here place (start_tag n) a b c = refl
quiet o here place (end_tag n) a b c = refl
quiet o here place (empty_tag n) a b c = refl
quiet o here place (string cs) a b c = refl
quiet o here place (word w) a b c = word_quiet o here place w
quiet o here place (sign DEFINED) a b c = refl
quiet o here place (sign ASSIGNED) a b c = refl
quiet o here place (sign OPEN) a b c = refl
quiet o here place (sign CLOSE) a b c = refl
quiet o here place (sign BRACE) a b c = refl
quiet o here place (sign UNBRACE) a b c = absurd (c refl)
quiet o here place (sign DOT) a b c = refl
quiet o here place (sign BAR) a b c = refl
quiet o here place (sign STAR) a b c = refl
quiet o here place (sign SEMICOLON) a b c = refl
quiet o here place (sign EQUALS) a b c = refl

program_quiet : (o : Slip) (here place : ℕ) (v : Visit) (q q' : Listing) (t : TextToken) → step_statements v q t ≡ some q' → slip_turned o here (token_kind t) (token_number t) place ≡ o
program_quiet o here place v q q' t e =
    quiet o here place t (λ n h. none≢some (ap (step_statements v q) h ∙ no_step v q (nonterminal n) refl refl refl) e) (λ n h. none≢some (ap (step_statements v q) h ∙ no_step v q (name n) refl refl refl) e)
    (λ h. none≢some (ap (step_statements v q) h ∙ no_unbrace v q) e)

inside_quiet : (o : Slip) (place : ℕ) (x y : Parsing) (t : TextToken) → step_expression x t ≡ some y → slip_turned o 7 (token_kind t) (token_number t) place ≡ o
inside_quiet o place x y (nonterminal n) e = refl
inside_quiet o place x y (value v) e = refl
inside_quiet o place x y (attribute m n) e = mark_quiet o 7 place n m
inside_quiet o place x y (name n) e = absurd (none≢some (no_name_inside x n) e)
inside_quiet o place x y (start_tag n) e = refl
inside_quiet o place x y (end_tag n) e = refl
inside_quiet o place x y (empty_tag n) e = refl
inside_quiet o place x y (string cs) e = refl
inside_quiet o place x y (word w) e = word_quiet o 7 place w
inside_quiet o place x y (sign DEFINED) e = refl
inside_quiet o place x y (sign ASSIGNED) e = refl
inside_quiet o place x y (sign OPEN) e = refl
inside_quiet o place x y (sign CLOSE) e = refl
inside_quiet o place x y (sign BRACE) e = refl
inside_quiet o place x y (sign UNBRACE) e = refl
inside_quiet o place x y (sign DOT) e = refl
inside_quiet o place x y (sign BAR) e = refl
inside_quiet o place x y (sign STAR) e = refl
inside_quiet o place x y (sign SEMICOLON) e = refl
inside_quiet o place x y (sign EQUALS) e = refl

abbrev pub KeyIs : TextToken → Key → Type 0
KeyIs t (a_nonterminal n) = t ≡ nonterminal n
KeyIs t (a_name n) = t ≡ name n
KeyIs t a_definition = t ≡ sign DEFINED
KeyIs t an_open = t ≡ sign OPEN
KeyIs t a_close = t ≡ sign CLOSE
KeyIs t a_brace = t ≡ sign BRACE
KeyIs t other = Unit {0}

key_if_lem : {P : Type 0} (d : Dec P) (t : TextToken) (k : Key) → KeyIs t k → KeyIs t (key_if d k)
key_if_lem (yes h) t k f = f
key_if_lem (no h) t k f = tt

pub key_is : (t : TextToken) → KeyIs t (key_of t)
key_is (nonterminal n) = key_if_lem (nonterminal? n) (nonterminal n) (a_nonterminal n) refl
key_is (value v) = tt
key_is (attribute m a) = tt
key_is (name n) = key_if_lem (tag_name? n) (name n) (a_name n) refl
key_is (start_tag n) = tt
key_is (end_tag n) = tt
key_is (empty_tag n) = tt
key_is (string cs) = tt
key_is (word w) = tt
key_is (sign DEFINED) = refl
key_is (sign ASSIGNED) = tt
key_is (sign OPEN) = refl
key_is (sign CLOSE) = refl
key_is (sign BRACE) = refl
key_is (sign UNBRACE) = tt
key_is (sign DOT) = tt
key_is (sign BAR) = tt
key_is (sign STAR) = tt
key_is (sign SEMICOLON) = tt
key_is (sign EQUALS) = tt

module _ (r : Rules) (place : ℕ) (o : Slip) where
  abbrev Goal : Progress → TextToken → Progress → Type 0
  Goal s t z = RowPlaceIs r s t place → Slipped r s o → Slipped r z (slip_turned o (spot s) (token_kind t) (token_number t) place)

  to : (s y z : Progress) (u t : TextToken) → some y ≡ some z → t ≡ u → Goal s u y → Goal s t z
  to s y z u t e h g = let same : y ≡ z = cc in subst (λ (a : TextToken). Goal s a z) (sym h) (subst (λ (a : Progress). Goal s u a) same g)

  -- the slip stays
  stay : (s y z : Progress) (t : TextToken) → some y ≡ some z → slip_turned o (spot s) (token_kind t) (token_number t) place ≡ o → (Slipped r s o → Slipped r y o) → Goal s t z
  stay s y z t e h g = let same : y ≡ z = cc in λ p k. subst (λ (a : Progress). Slipped r a (slip_turned o (spot s) (token_kind t) (token_number t) place)) same (subst (Slipped r y) (sym h) (g k))

  key_turned : (s z : Progress) (t : TextToken) (k : Key) → KeyIs t k → step_key s k ≡ some z → Goal s t z
  key_turned beginning z t (a_nonterminal n) f e = to beginning (first_word n) z (nonterminal n) t e f (λ p k. (refl, (refl, (refl, refl))))
  key_turned beginning z t (a_name u) f e = absurd (none≢some refl e)
  key_turned beginning z t a_definition f e = absurd (none≢some refl e)
  key_turned beginning z t an_open f e = absurd (none≢some refl e)
  key_turned beginning z t a_close f e = absurd (none≢some refl e)
  key_turned beginning z t a_brace f e = absurd (none≢some refl e)
  key_turned beginning z t other f e = absurd (none≢some refl e)
  key_turned (first_word m) z t (a_nonterminal n) f e = to (first_word m) (named (head m [] n)) z (nonterminal n) t e f (λ p k. (record { start_is = k.0; nonterm_is = refl }, (refl, refl)))
  key_turned (first_word m) z t (a_name u) f e = absurd (none≢some refl e)
  key_turned (first_word m) z t a_definition f e = to (first_word m) (defined (head m [] m)) z (sign DEFINED) t e f (λ p k. (record { start_is = k.0; nonterm_is = k.1.0 }, k.1.1))
  key_turned (first_word m) z t an_open f e = absurd (none≢some refl e)
  key_turned (first_word m) z t a_close f e = absurd (none≢some refl e)
  key_turned (first_word m) z t a_brace f e = absurd (none≢some refl e)
  key_turned (first_word m) z t other f e = absurd (none≢some refl e)
  key_turned (named h) z t (a_nonterminal n) f e = absurd (none≢some refl e)
  key_turned (named h) z t (a_name u) f e = absurd (none≢some refl e)
  key_turned (named h) z t a_definition f e = to (named h) (defined h) z (sign DEFINED) t e f (λ p k. k)
  key_turned (named h) z t an_open f e = absurd (none≢some refl e)
  key_turned (named h) z t a_close f e = absurd (none≢some refl e)
  key_turned (named h) z t a_brace f e = absurd (none≢some refl e)
  key_turned (named h) z t other f e = absurd (none≢some refl e)
  key_turned (defined h) z t (a_nonterminal n) f e = absurd (none≢some refl e)
  key_turned (defined h) z t (a_name u) f e = to (defined h) (tagged none u h) z (name u) t e f (λ p k. (k.0, (k.1.0, (k.1.1, p.is))))
  key_turned (defined h) z t a_definition f e = absurd (none≢some refl e)
  key_turned (defined h) z t an_open f e = absurd (none≢some refl e)
  key_turned (defined h) z t a_close f e = absurd (none≢some refl e)
  key_turned (defined h) z t a_brace f e = to (defined h) (own_front _ h) z (sign BRACE) t e f (λ p k. (k.0, k.1.1))
  key_turned (defined h) z t other f e = absurd (none≢some refl e)
  key_turned (own_front q h) z t k f e = absurd (none≢some refl e)
  key_turned (wants_tag c h) z t (a_nonterminal n) f e = absurd (none≢some refl e)
  key_turned (wants_tag c h) z t (a_name u) f e = to (wants_tag c h) (tagged c u h) z (name u) t e f (λ p k. (k.0, (k.1.0, (k.1.1, p.is))))
  key_turned (wants_tag c h) z t a_definition f e = absurd (none≢some refl e)
  key_turned (wants_tag c h) z t an_open f e = absurd (none≢some refl e)
  key_turned (wants_tag c h) z t a_close f e = absurd (none≢some refl e)
  key_turned (wants_tag c h) z t a_brace f e = absurd (none≢some refl e)
  key_turned (wants_tag c h) z t other f e = absurd (none≢some refl e)
  key_turned (tagged c u h) z t (a_nonterminal n) f e = absurd (none≢some refl e)
  key_turned (tagged c u h) z t (a_name v) f e = absurd (none≢some refl e)
  key_turned (tagged c u h) z t a_definition f e = absurd (none≢some refl e)
  key_turned (tagged c u h) z t an_open f e = to (tagged c u h) (within _ c u h) z (sign OPEN) t e f (λ p k. k)
  key_turned (tagged c u h) z t a_close f e = absurd (none≢some refl e)
  key_turned (tagged c u h) z t a_brace f e = absurd (none≢some refl e)
  key_turned (tagged c u h) z t other f e = absurd (none≢some refl e)
  key_turned (within x c u h) z t k f e = absurd (none≢some refl e)
  key_turned (closed c u i h) z t (a_nonterminal n) f e =
      to (closed c u i h) (named (next_head (rule_read c none u i h) h n)) z (nonterminal n) t e f (λ p k. (record { start_is = k.0.start_is; nonterm_is = refl }, (refl, refl)))
  key_turned (closed c u i h) z t (a_name v) f e = absurd (none≢some refl e)
  key_turned (closed c u i h) z t a_definition f e = absurd (none≢some refl e)
  key_turned (closed c u i h) z t an_open f e = absurd (none≢some refl e)
  key_turned (closed c u i h) z t a_close f e = absurd (none≢some refl e)
  key_turned (closed c u i h) z t a_brace f e = to (closed c u i h) (own_back _ c u i h) z (sign BRACE) t e f (λ p k. k)
  key_turned (closed c u i h) z t other f e = absurd (none≢some refl e)
  key_turned (own_back q c u i h) z t k f e = absurd (none≢some refl e)
  key_turned (complete d h) z t (a_nonterminal n) f e = to (complete d h) (named (next_head d h n)) z (nonterminal n) t e f (λ p k. (record { start_is = k.0; nonterm_is = refl }, (refl, refl)))
  key_turned (complete d h) z t (a_name v) f e = absurd (none≢some refl e)
  key_turned (complete d h) z t a_definition f e = absurd (none≢some refl e)
  key_turned (complete d h) z t an_open f e = absurd (none≢some refl e)
  key_turned (complete d h) z t a_close f e = absurd (none≢some refl e)
  key_turned (complete d h) z t a_brace f e = absurd (none≢some refl e)
  key_turned (complete d h) z t other f e = absurd (none≢some refl e)

  front_turned : (q : Listing) (h : Head) (z : Progress) (t : TextToken) (c : Option Listing) → step_statements first q t ≡ c
      → listing c (λ p. own_front p h) (unbraces (piece_of t) (value_of_list q) (λ p. wants_tag (some p) h)) ≡ some z → Goal (own_front q h) t z
  front_turned q h z t (some p) s e = stay (own_front q h) (own_front p h) z t e (program_quiet o 4 place first q p t s) (λ k. k)
  front_turned q h z t none s e =
      let u = unbraced t (value_of_list q) (λ p. wants_tag (some p) h) z e in
      to (own_front q h) (wants_tag (some u.program) h) z (sign UNBRACE) t (ap some u.behind) u.token_is (λ p k. (k.0, (p.is u.program u.is, k.1)))

  back_turned : (q : Listing) (c : Option TextProgram) (n : List ℕ) (i : Option Tree) (h : Head) (z : Progress) (t : TextToken) (a : Option Listing) → step_statements second q t ≡ a
      → listing a (λ p. own_back p c n i h) (unbraces (piece_of t) (value_of_list q) (λ g. complete (rule_read c (some g) n i h) h)) ≡ some z → Goal (own_back q c n i h) t z
  back_turned q c n i h z t (some p) s e = stay (own_back q c n i h) (own_back p c n i h) z t e (program_quiet o 9 place second q p t s) (λ k. k)
  back_turned q c n i h z t none s e =
      let u = unbraced t (value_of_list q) (λ g. complete (rule_read c (some g) n i h) h) z e in
      to (own_back q c n i h) (complete (rule_read c (some u.program) n i h) h) z (sign UNBRACE) t (ap some u.behind) u.token_is
      (λ p k. (k.0.start_is, (k.0.nonterm_is, (k.1.0, (p.is u.program u.is, k.1.1.1)))))

  closes_turned : (x : Parsing) (c : Option TextProgram) (u : List ℕ) (h : Head) (z : Progress) (t : TextToken) (k : Key) (a : Option (Option Tree)) → KeyIs t k → closes_content k a c u h ≡ some z → Goal (within x c u h) t z
  closes_turned x c u h z t (a_nonterminal n) a f e = absurd (none≢some refl e)
  closes_turned x c u h z t (a_name n) a f e = absurd (none≢some refl e)
  closes_turned x c u h z t a_definition a f e = absurd (none≢some refl e)
  closes_turned x c u h z t an_open a f e = absurd (none≢some refl e)
  closes_turned x c u h z t a_close none f e = absurd (none≢some refl e)
  closes_turned x c u h z t a_close (some i) f e = to (within x c u h) (closed c u i h) z (sign CLOSE) t e f (λ p k. k)
  closes_turned x c u h z t a_brace a f e = absurd (none≢some refl e)
  closes_turned x c u h z t other a f e = absurd (none≢some refl e)

  within_turned : (x : Parsing) (c : Option TextProgram) (u : List ℕ) (h : Head) (z : Progress) (t : TextToken) (a : Option Parsing) → step_expression x t ≡ a
      → parsing a (closes_content (key_of t) (value_of_content x) c u h) c u h ≡ some z → Goal (within x c u h) t z
  within_turned x c u h z t none s e = closes_turned x c u h z t (key_of t) (value_of_content x) (key_is t) e
  within_turned x c u h z t (some y) s e = stay (within x c u h) (within y c u h) z t e (inside_quiet o place x y t s) (λ k. k)

pub turns : Turns
turns r beginning z t place o e = key_turned r place o beginning z t (key_of t) (key_is t) e
turns r (first_word n) z t place o e = key_turned r place o (first_word n) z t (key_of t) (key_is t) e
turns r (named h) z t place o e = key_turned r place o (named h) z t (key_of t) (key_is t) e
turns r (defined h) z t place o e = key_turned r place o (defined h) z t (key_of t) (key_is t) e
turns r (own_front q h) z t place o e = front_turned r place o q h z t (step_statements first q t) refl e
turns r (wants_tag f h) z t place o e = key_turned r place o (wants_tag f h) z t (key_of t) (key_is t) e
turns r (tagged f u h) z t place o e = key_turned r place o (tagged f u h) z t (key_of t) (key_is t) e
turns r (within x f u h) z t place o e = within_turned r place o x f u h z t (step_expression x t) refl e
turns r (closed f u i h) z t place o e = key_turned r place o (closed f u i h) z t (key_of t) (key_is t) e
turns r (own_back q f u i h) z t place o e = back_turned r place o q f u i h z t (step_statements second q t) refl e
turns r (complete d h) z t place o e = key_turned r place o (complete d h) z t (key_of t) (key_is t) e
