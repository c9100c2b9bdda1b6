-- What a list of statements mentions, token by token. Assumes nothing.
use mathlib.Core.Path.{◌≡◌, refl, sym, ◌∙◌, ap, subst}
use mathlib.Core.Logic.{◌⊎◌, inl, inr}
use mathlib.Core.Bool.{Bool, true, false}
use mathlib.Core.Option.{Option, none, some}
use mathlib.Core.List.{List, [], ◌∷◌, ◌++◌, append_assoc, append-nil}
use Prim.Native.Nat.{ℕ}
use Rattle.programs.specs.Program.{Operand, constant, current, recalled, Condition}
use Rattle.programs.specs.Limits.{Visit, first, second, is_first}
use Rattle.notation.specs.Program.{TextStatement, TextProgram, done, step, ◌then◌}
use Rattle.notation.specs.Statements.{parentheses, only, assigned}
use Rattle.notation.specs.Tokens.{Dollar, plain, left, right, TextToken, nonterminal, value, attribute, name, start_tag, end_tag, empty_tag, string, word, Keyword, CHAR, ECHO, ECHO-OFF, REJECT, PRINT, IF, THEN, ELSE, BEGIN, END, AND, OR, NOT, EMPTY, sign, Sign, DEFINED, ASSIGNED, OPEN, CLOSE, BRACE, UNBRACE, DOT, BAR, STAR, SEMICOLON, EQUALS}
use Rattle.encoding.specs.Mentions.{Mention, in_statement, in_program}
use Rattle.reading.specs.Tests.{tag_name?, string?}
use Rattle.reading.specs.Conditions.{ConditionPart, operand, a_not, an_and, an_or, an_open, a_close, an_equals, other, part_of, attribute?, Reading, step_part, step_condition, value_of_condition}
use Rattle.reading.specs.Statements.{Start, simply, a_target, a_print, an_if, a_begin, an_end, no_start, start_if, current?, target_if, start_word, start_of, Behind, an_item, a_semicolon, an_else, a_then, an_assign, nothing, item_if, next_word, behind_of, Pending, in_then, in_else, ended_branch, ended_all, otherwise, ListLevel, list_level, listed, Place, opening, separated, branching, Listing, wants, target, assigning, printing, testing, after, unblocked, blocked, emptied, started_list, elsed, one_more, followed, printed, targeted, assigned_by, thenned, tested, step_statements, empty_list_value, whole_list_value, value_of_list}
use Rattle.reading.proofs.Telling.{none≢some}
use Rattle.mentions.specs.SoFar.{in_pending, in_ifs, in_level, in_levels, in_listing, in_token, TidyList}

abbrev Ms : Type 0
Ms = List Mention

then_mentions : (p q : TextProgram) → in_program (p then q) ≡ in_program p ++ in_program q
then_mentions done q = refl
then_mentions (step t p) q = ap (λ (z : Ms). in_statement t ++ z) (then_mentions p q) ∙ sym (append_assoc (in_statement t) (in_program p) (in_program q))

ended_mentions : (f : Pending) (p : TextProgram) → in_program (ended_branch f p) ≡ in_pending f ++ in_program p
ended_mentions (in_then c) p = append-nil (in_program p ++ []) ∙ append-nil (in_program p)
ended_mentions (in_else c q) p = append-nil (in_program q ++ in_program p)

-- one if more around what is read
around_if : (fs : List Pending) (f : Pending) (p : TextProgram) → in_ifs fs ++ in_program (ended_branch f p) ≡ in_ifs (f ∷ fs) ++ in_program p
around_if fs f p = ap (λ (z : Ms). in_ifs fs ++ z) (ended_mentions f p) ∙ sym (append_assoc (in_ifs fs) (in_pending f) (in_program p))

all_ended_mentions : (fs : List Pending) (p : TextProgram) → in_program (ended_all fs p) ≡ in_ifs fs ++ in_program p
all_ended_mentions [] p = refl
all_ended_mentions (f ∷ fs) p = all_ended_mentions fs (ended_branch f p) ∙ around_if fs f p

listed_mentions : (l : ListLevel) (p : TextProgram) → in_program (listed l p) ≡ in_level l ++ in_program p
listed_mentions l p =
    then_mentions l.before (ended_all l.ifs p) ∙ ap (λ (z : Ms). in_program l.before ++ z) (all_ended_mentions l.ifs p)
    ∙ sym (append_assoc (in_program l.before) (in_ifs l.ifs) (in_program p))

otherwise_mentions : (fs gs : List Pending) (p : TextProgram) → otherwise fs p ≡ some gs → in_ifs gs ≡ in_ifs fs ++ in_program p
otherwise_mentions [] gs p e = absurd (none≢some refl e)
otherwise_mentions (in_then c ∷ fs) gs p e = let same : gs ≡ in_else c p ∷ fs = cc in ap in_ifs same ∙ ap (λ (z : Ms). z ++ in_program p) (sym (append-nil (in_ifs fs)))
otherwise_mentions (in_else c q ∷ fs) gs p e = otherwise_mentions fs gs (ended_branch (in_else c q) p) e ∙ around_if fs (in_else c q) p

-- what a token is says what it mentions
abbrev StartFits : Start → Type 0
StartFits (simply t) = in_statement t ≡ []
StartFits (a_target a) = Unit {0}
StartFits a_print = Unit {0}
StartFits an_if = Unit {0}
StartFits a_begin = Unit {0}
StartFits an_end = Unit {0}
StartFits no_start = Unit {0}

start_if_lem : (b : Bool) (k : Start) → StartFits k → StartFits (start_if b k)
start_if_lem true k h = h
start_if_lem false k h = tt

word_fits : (v : Visit) (w : Keyword) → StartFits (start_word v w)
word_fits v CHAR = tt
word_fits v ECHO = start_if_lem (is_first v) _ refl
word_fits v ECHO-OFF = start_if_lem (is_first v) _ refl
word_fits v REJECT = refl
word_fits v PRINT = tt
word_fits v IF = tt
word_fits v THEN = tt
word_fits v ELSE = tt
word_fits v BEGIN = tt
word_fits v END = tt
word_fits v AND = tt
word_fits v OR = tt
word_fits v NOT = tt
word_fits v EMPTY = tt

target_fits : {P : Type 0} (d : Dec P) (b : Bool) (a : ℕ) → StartFits (target_if d b a)
target_fits (yes h) b a = start_if_lem b (a_target a) tt
target_fits (no h) b a = tt

start_fits : (v : Visit) (t : TextToken) → StartFits (start_of v t)
start_fits v (nonterminal n) = tt
start_fits v (value n) = tt
start_fits v (attribute m a) = target_fits (attribute? a) (current? v m) a
start_fits v (name n) = tt
start_fits v (start_tag n) = tt
start_fits v (end_tag n) = tt
start_fits v (empty_tag n) = tt
start_fits v (string cs) = tt
start_fits v (word w) = word_fits v w
start_fits v (sign s) = tt

start_silent : (v : Visit) (t : TextToken) → (start_of v t ≡ no_start) ⊎ (in_token t ≡ [])
start_silent v (nonterminal n) = inr refl
start_silent v (value n) = inr refl
start_silent v (attribute m a) = inr refl
start_silent v (name n) = inl refl
start_silent v (start_tag n) = inl refl
start_silent v (end_tag n) = inl refl
start_silent v (empty_tag n) = inl refl
start_silent v (string cs) = inl refl
start_silent v (word w) = inr refl
start_silent v (sign s) = inr refl

part_silent : (v : Visit) (t : TextToken) → (part_of v t ≡ other) ⊎ (in_token t ≡ [])
part_silent v (nonterminal n) = inr refl
part_silent v (value n) = inr refl
part_silent v (attribute m a) = inr refl
part_silent v (name n) = inl refl
part_silent v (start_tag n) = inl refl
part_silent v (end_tag n) = inl refl
part_silent v (empty_tag n) = inl refl
part_silent v (string cs) = inl refl
part_silent v (word w) = inr refl
part_silent v (sign s) = inr refl

other_stops : (p : ℕ) (r : Reading) → step_part p r other ≡ none
other_stops p (Reading.wants l ls) = refl
other_stops p (Reading.compares x l ls) = refl
other_stops p (Reading.wants_other x l ls) = refl
other_stops p (Reading.after d o ls) = refl

condition_silent : (v : Visit) (p : ℕ) (r r' : Reading) (t : TextToken) → step_condition v p r t ≡ some r' → in_token t ≡ []
condition_silent v p r r' t e = on (part_silent v t)
  where
    on : (part_of v t ≡ other) ⊎ (in_token t ≡ []) → in_token t ≡ []
    on (inl h) = absurd (none≢some (ap (step_part p r) h ∙ other_stops p r) e)
    on (inr h) = h

abbrev BehindFits : TextToken → Behind → Type 0
BehindFits t (an_item p) = in_program p ≡ in_token t
BehindFits t a_semicolon = in_token t ≡ []
BehindFits t an_else = in_token t ≡ []
BehindFits t Behind.an_end = in_token t ≡ []
BehindFits t a_then = in_token t ≡ []
BehindFits t an_assign = in_token t ≡ []
BehindFits t nothing = Unit {0}

item_fits : {P : Type 0} (d : Dec P) (p : TextProgram) (t : TextToken) → in_program p ≡ in_token t → BehindFits t (item_if d p)
item_fits (yes h) p t e = e
item_fits (no h) p t e = tt

next_word_fits : (w : Keyword) → BehindFits (word w) (next_word w)
next_word_fits CHAR = tt
next_word_fits ECHO = tt
next_word_fits ECHO-OFF = tt
next_word_fits REJECT = tt
next_word_fits PRINT = tt
next_word_fits IF = tt
next_word_fits THEN = refl
next_word_fits ELSE = refl
next_word_fits BEGIN = tt
next_word_fits END = refl
next_word_fits AND = tt
next_word_fits OR = tt
next_word_fits NOT = tt
next_word_fits EMPTY = tt

next_fits : (t : TextToken) → BehindFits t (behind_of t)
next_fits (nonterminal n) = tt
next_fits (value n) = tt
next_fits (attribute m a) = tt
next_fits (name n) = tt
next_fits (start_tag n) = item_fits (tag_name? n) _ (start_tag n) refl
next_fits (end_tag n) = item_fits (tag_name? n) _ (end_tag n) refl
next_fits (empty_tag n) = item_fits (tag_name? n) _ (empty_tag n) refl
next_fits (string cs) = item_fits (string? cs) _ (string cs) refl
next_fits (word w) = next_word_fits w
next_fits (sign DEFINED) = tt
next_fits (sign ASSIGNED) = refl
next_fits (sign OPEN) = tt
next_fits (sign CLOSE) = tt
next_fits (sign BRACE) = tt
next_fits (sign UNBRACE) = tt
next_fits (sign DOT) = tt
next_fits (sign BAR) = tt
next_fits (sign STAR) = tt
next_fits (sign SEMICOLON) = refl
next_fits (sign EQUALS) = tt

-- behind a token: tidy still, and grown by what it mentions
pub record ListGrown (x : Ms) (t : TextToken) (q : Listing) : Type 0 where
  pub tidy : TidyList q
  pub grown : in_listing q ≡ x ++ in_token t

-- a token that mentions nothing
silently : (x : Ms) (t : TextToken) (q q' : Listing) → some q ≡ some q' → in_token t ≡ [] → TidyList q → in_listing q ≡ x → ListGrown x t q'
silently x t q q' e s h k =
    let same : q ≡ q' = cc in
    subst (ListGrown x t) same (record { tidy = h; grown = k ∙ sym (append-nil x) ∙ ap (λ (z : Ms). x ++ z) (sym s) })

saying : (x y : Ms) (t : TextToken) (q q' : Listing) → some q ≡ some q' → y ≡ in_token t → TidyList q → in_listing q ≡ x ++ y → ListGrown x t q'
saying x y t q q' e s h k =
    let same : q ≡ q' = cc in
    subst (ListGrown x t) same (record { tidy = h; grown = k ∙ ap (λ (z : Ms). x ++ z) s })

with_nothing : (x y : Ms) → y ≡ [] → x ++ y ≡ x
with_nothing x y e = ap (λ (z : Ms). x ++ z) e ∙ append-nil x

module _ (l : ListLevel) (ls : List ListLevel) where
  abbrev now : Ms
  now = in_levels (l ∷ ls)

  unblocked_grown : (x : Ms) (t : TextToken) (p : TextProgram) (ms : List ListLevel) (q : Listing) → unblocked ms p ≡ some q → in_token t ≡ [] → in_levels ms ++ in_program p ≡ x → ListGrown x t q
  unblocked_grown x t p [] q e s k = absurd (none≢some refl e)
  unblocked_grown x t p (m ∷ ms) q e s k = silently x t (after false p m ms) q e s tt k

  started_grown : (w : Place) (t : TextToken) (k : Start) (q : Listing) → TidyList (wants w l ls) → (k ≡ no_start) ⊎ (in_token t ≡ []) → StartFits k → started_list w l ls k ≡ some q → ListGrown now t q
  started_grown w t k q d (inl h) f e = absurd (none≢some (ap (started_list w l ls) h) e)
  started_grown w t (simply u) q d (inr s) f e = silently now t (after false (only u) l ls) q e s tt (with_nothing now (in_statement u ++ []) (append-nil (in_statement u) ∙ f))
  started_grown w t (a_target a) q d (inr s) f e = silently now t (target a l ls) q e s tt refl
  started_grown w t a_print q d (inr s) f e = silently now t (printing l ls) q e s tt refl
  started_grown w t an_if q d (inr s) f e = silently now t (testing _ l ls) q e s tt refl
  started_grown opening t a_begin q d (inr s) f e = absurd (none≢some refl e)
  started_grown separated t a_begin q d (inr s) f e = absurd (none≢some refl e)
  started_grown branching t a_begin q d (inr s) f e = silently now t (wants opening (list_level done []) (l ∷ ls)) q e s refl (append-nil now)
  started_grown opening t an_end q d (inr s) f e = unblocked_grown now t done ls q e s (append-nil (in_levels ls) ∙ sym (with_nothing (in_levels ls) (in_level l) (ap in_level d)))
  started_grown separated t an_end q d (inr s) f e = absurd (none≢some refl e)
  started_grown branching t an_end q d (inr s) f e = absurd (none≢some refl e)
  started_grown w t no_start q d (inr s) f e = absurd (none≢some refl e)

  targeted_grown : (a : ℕ) (t : TextToken) (k : Behind) (q : Listing) → BehindFits t k → targeted a l ls k ≡ some q → ListGrown now t q
  targeted_grown a t (an_item p) q f e = absurd (none≢some refl e)
  targeted_grown a t a_semicolon q f e = absurd (none≢some refl e)
  targeted_grown a t an_else q f e = absurd (none≢some refl e)
  targeted_grown a t Behind.an_end q f e = absurd (none≢some refl e)
  targeted_grown a t a_then q f e = absurd (none≢some refl e)
  targeted_grown a t an_assign q f e = silently now t (assigning a l ls) q e f tt refl
  targeted_grown a t nothing q f e = absurd (none≢some refl e)

  assigned_none : (a : ℕ) (x : Operand) → in_program (only (assigned a x)) ≡ []
  assigned_none a (constant v) = refl
  assigned_none a (current b) = refl
  assigned_none a (recalled b) = refl

  assigned_grown : (a : ℕ) (t : TextToken) (k : ConditionPart) (q : Listing) → (k ≡ other) ⊎ (in_token t ≡ []) → assigned_by a l ls k ≡ some q → ListGrown now t q
  assigned_grown a t k q (inl h) e = absurd (none≢some (ap (assigned_by a l ls) h) e)
  assigned_grown a t (operand x) q (inr s) e = silently now t (after false (only (assigned a x)) l ls) q e s tt (with_nothing now _ (assigned_none a x))
  assigned_grown a t a_not q (inr s) e = absurd (none≢some refl e)
  assigned_grown a t an_and q (inr s) e = absurd (none≢some refl e)
  assigned_grown a t an_or q (inr s) e = absurd (none≢some refl e)
  assigned_grown a t an_open q (inr s) e = absurd (none≢some refl e)
  assigned_grown a t a_close q (inr s) e = absurd (none≢some refl e)
  assigned_grown a t an_equals q (inr s) e = absurd (none≢some refl e)
  assigned_grown a t other q (inr s) e = absurd (none≢some refl e)

  printed_grown : (t : TextToken) (k : Behind) (q : Listing) → BehindFits t k → printed l ls k ≡ some q → ListGrown now t q
  printed_grown t (an_item p) q f e = saying now (in_program p) t (after true p l ls) q e f tt refl
  printed_grown t a_semicolon q f e = absurd (none≢some refl e)
  printed_grown t an_else q f e = absurd (none≢some refl e)
  printed_grown t Behind.an_end q f e = absurd (none≢some refl e)
  printed_grown t a_then q f e = absurd (none≢some refl e)
  printed_grown t an_assign q f e = absurd (none≢some refl e)
  printed_grown t nothing q f e = absurd (none≢some refl e)

  thenned_grown : (o : Option Condition) (t : TextToken) (k : Behind) (q : Listing) → BehindFits t k → thenned o l ls k ≡ some q → ListGrown now t q
  thenned_grown none t k q f e = absurd (none≢some refl e)
  thenned_grown (some c) t (an_item p) q f e = absurd (none≢some refl e)
  thenned_grown (some c) t a_semicolon q f e = absurd (none≢some refl e)
  thenned_grown (some c) t an_else q f e = absurd (none≢some refl e)
  thenned_grown (some c) t Behind.an_end q f e = absurd (none≢some refl e)
  thenned_grown (some c) t a_then q f e =
      silently now t (wants branching (list_level l.before (in_then c ∷ l.ifs)) ls) q e f tt (ap (λ (z : Ms). in_levels ls ++ (in_program l.before ++ z)) (append-nil (in_ifs l.ifs)))
  thenned_grown (some c) t an_assign q f e = absurd (none≢some refl e)
  thenned_grown (some c) t nothing q f e = absurd (none≢some refl e)

  tested_grown : (r : Option Reading) (o : Option Condition) (t : TextToken) (q : Listing) → ((r' : Reading) → r ≡ some r' → in_token t ≡ []) → tested r o l ls (behind_of t) ≡ some q → ListGrown now t q
  tested_grown (some r) o t q s e = silently now t (testing r l ls) q e (s r refl) tt refl
  tested_grown none o t q s e = thenned_grown o t (behind_of t) q (next_fits t) e

  elsed_grown : (p : TextProgram) (t : TextToken) (o : Option (List Pending)) (q : Listing) → otherwise l.ifs p ≡ o → in_token t ≡ [] → elsed l ls o ≡ some q → ListGrown (now ++ in_program p) t q
  elsed_grown p t none q h s e = absurd (none≢some refl e)
  elsed_grown p t (some fs) q h s e =
      silently (now ++ in_program p) t (wants branching (list_level l.before fs) ls) q e s tt
      (ap (λ (z : Ms). in_levels ls ++ (in_program l.before ++ z)) (otherwise_mentions l.ifs fs p h)
      ∙ ap (λ (z : Ms). in_levels ls ++ z) (sym (append_assoc (in_program l.before) (in_ifs l.ifs) (in_program p)))
      ∙ sym (append_assoc (in_levels ls) (in_level l) (in_program p)))

  listed_behind : (p : TextProgram) → in_levels ls ++ in_program (listed l p) ≡ now ++ in_program p
  listed_behind p = ap (λ (z : Ms). in_levels ls ++ z) (listed_mentions l p) ∙ sym (append_assoc (in_levels ls) (in_level l) (in_program p))

  followed_grown : (b : Bool) (p : TextProgram) (t : TextToken) (k : Behind) (q : Listing) → BehindFits t k → followed b p l ls k ≡ some q → ListGrown (now ++ in_program p) t q
  followed_grown true p t (an_item u) q f e =
      saying (now ++ in_program p) (in_program u) t (after true (p then u) l ls) q e f tt
      (ap (λ (z : Ms). now ++ z) (then_mentions p u) ∙ sym (append_assoc now (in_program p) (in_program u)))
  followed_grown false p t (an_item u) q f e = absurd (none≢some refl e)
  followed_grown b p t a_semicolon q f e =
      silently (now ++ in_program p) t (wants separated (list_level (listed l p) []) ls) q e f tt (ap (λ (z : Ms). in_levels ls ++ z) (append-nil (in_program (listed l p))) ∙ listed_behind p)
  followed_grown b p t an_else q f e = elsed_grown p t (otherwise l.ifs p) q refl f e
  followed_grown b p t Behind.an_end q f e = unblocked_grown (now ++ in_program p) t (listed l p) ls q e f (listed_behind p)
  followed_grown b p t a_then q f e = absurd (none≢some refl e)
  followed_grown b p t an_assign q f e = absurd (none≢some refl e)
  followed_grown b p t nothing q f e = absurd (none≢some refl e)

pub list_grows : (v : Visit) (q q' : Listing) (t : TextToken) → TidyList q → step_statements v q t ≡ some q' → ListGrown (in_listing q) t q'
list_grows v (wants w l ls) q' t d e = started_grown l ls w t (start_of v t) q' d (start_silent v t) (start_fits v t) e
list_grows v (target a l ls) q' t d e = targeted_grown l ls a t (behind_of t) q' (next_fits t) e
list_grows v (assigning a l ls) q' t d e = assigned_grown l ls a t (part_of v t) q' (part_silent v t) e
list_grows v (printing l ls) q' t d e = printed_grown l ls t (behind_of t) q' (next_fits t) e
list_grows v (testing r l ls) q' t d e = tested_grown l ls (step_condition v parentheses r t) (value_of_condition r) t q' (λ r' h. condition_silent v parentheses r r' t h) e
list_grows v (after b p l ls) q' t d e = followed_grown l ls b p t (behind_of t) q' (next_fits t) e

-- a whole program mentions what was read of it
pub list_value : (q : Listing) (p : TextProgram) → TidyList q → value_of_list q ≡ some p → in_listing q ≡ in_program p
list_value (wants opening l []) p d e = let same : done ≡ p = cc in ap in_level d ∙ ap in_program same
list_value (wants opening l (m ∷ ls)) p d e = absurd (none≢some refl e)
list_value (wants separated l ls) p d e = absurd (none≢some refl e)
list_value (wants branching l ls) p d e = absurd (none≢some refl e)
list_value (target a l ls) p d e = absurd (none≢some refl e)
list_value (assigning a l ls) p d e = absurd (none≢some refl e)
list_value (printing l ls) p d e = absurd (none≢some refl e)
list_value (testing r l ls) p d e = absurd (none≢some refl e)
list_value (after b u l []) p d e = let same : listed l u ≡ p = cc in sym (listed_mentions l u) ∙ ap in_program same
list_value (after b u l (m ∷ ls)) p d e = absurd (none≢some refl e)

-- no list of statements goes on with a }
pub no_unbrace : (v : Visit) (q : Listing) → step_statements v q (sign UNBRACE) ≡ none
no_unbrace v (wants w l ls) = refl
no_unbrace v (target a l ls) = refl
no_unbrace v (assigning a l ls) = refl
no_unbrace v (printing l ls) = refl
no_unbrace v (testing r l ls) = ap (λ o. tested o (value_of_condition r) l ls nothing) (other_stops parentheses r) ∙ on (value_of_condition r)
  where
    on : (o : Option Condition) → thenned o l ls nothing ≡ none
    on none = refl
    on (some c) = refl
no_unbrace v (after b p l ls) = refl
