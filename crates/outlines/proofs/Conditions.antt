-- The outline of a condition goes on as the machine does. Assumes nothing.
use mathlib.Core.Path.{◌≡◌, refl, sym, ◌∙◌, ap, ap₂}
use mathlib.Core.Bool.{Bool, true, false, cond}
use mathlib.Core.Option.{Option, none, some}
use mathlib.Core.List.{List, [], ◌∷◌}
use Prim.Native.Nat.{ℕ, suc, ◌≤◌, ◌<◌}
use native.Mathlib.Omega.{arith}
use lib.Dec.{ltb}
use lib.ListN.{length}
use Rattle.programs.specs.Program.{Operand, constant, current, recalled, Condition, equal}
use Rattle.programs.specs.Limits.{Attribute, Value, Visit, first, second}
use Rattle.notation.specs.Statements.{parentheses}
use Rattle.notation.specs.Tokens.{Dollar, plain, left, right, TextToken, nonterminal, value, attribute, name, start_tag, end_tag, empty_tag, string, word, Keyword, CHAR, ECHO, ECHO-OFF, REJECT, PRINT, IF, THEN, ELSE, BEGIN, END, AND, OR, NOT, EMPTY, sign, Sign, DEFINED, ASSIGNED, OPEN, CLOSE, BRACE, UNBRACE, DOT, BAR, STAR, SEMICOLON, EQUALS}
use Rattle.reading.specs.Conditions as reading
use Rattle.reading.specs.Conditions.{ConditionPart, operand, a_not, an_and, an_or, an_open, a_close, an_equals, other, part_if, value?, attribute?, attribute_of, attribute_part, word_part, sign_part, part_of, ConditionLevel, Reading, wants, compares, wants_other, after, around_condition, disjoined, negated_by, step_part, step_condition, value_of_condition, finished_of}
use Rattle.lexemes.specs.Kinds.{token_kind, word_number, sign_number, mark_number, TokenFits}
use Rattle.outlines.specs.Extents.{Extent, condition_extent, comparison}
use Rattle.outlines.specs.Kinds.{is_word, is_sign, is_operand}
use Rattle.outlines.specs.Conditions.{Margin, margin, blank_margin, paired_with, up_to_and, whole_of, with_margins, Wanted, a_single, an_operand, ConditionOutline, wanting, behind, extent_if, margin_of, margins_of, condition_outline, got_at, not_at, open_at, step_wanting, step_behind, step_condition_outline, read_condition, finished_condition}
use Rattle.outlines.proofs.Measures.{equal_extent, nots_extent, or_extent, and_extent}

-- what is asked of a kind in a condition
pub record Asked : Type 0 where
  pub an_operand? : Bool
  pub not? : Bool
  pub and? : Bool
  pub or? : Bool
  pub open? : Bool
  pub close? : Bool
  pub equals? : Bool

abbrev asked : Bool → Bool → Bool → Bool → Bool → Bool → Bool → Asked
asked a b c d e f g = record { an_operand? = a; not? = b; and? = c; or? = d; open? = e; close? = f; equals? = g }

abbrev of_kind : Visit → ℕ → Asked
of_kind v k = asked (is_operand v k) (is_word NOT k) (is_word AND k) (is_word OR k) (is_sign OPEN k) (is_sign CLOSE k) (is_sign EQUALS k)

abbrev pub of_part : ConditionPart → Asked
of_part (operand x) = asked true false false false false false false
of_part a_not = asked false true false false false false false
of_part an_and = asked false false true false false false false
of_part an_or = asked false false false true false false false
of_part an_open = asked false false false false true false false
of_part a_close = asked false false false false false true false
of_part an_equals = asked false false false false false false true
of_part other = asked false false false false false false false

word_asked : (v : Visit) (w : Keyword) → of_kind v (word_number w) ≡ of_part (word_part w)
word_asked v CHAR = refl
word_asked v ECHO = refl
word_asked v ECHO-OFF = refl
word_asked v REJECT = refl
word_asked v PRINT = refl
word_asked v IF = refl
word_asked v THEN = refl
word_asked v ELSE = refl
word_asked v BEGIN = refl
word_asked v END = refl
word_asked v AND = refl
word_asked v OR = refl
word_asked v NOT = refl
word_asked v EMPTY = refl

sign_asked : (v : Visit) (s : Sign) → of_kind v (sign_number s) ≡ of_part (sign_part s)
sign_asked v DEFINED = refl
sign_asked v ASSIGNED = refl
sign_asked v OPEN = refl
sign_asked v CLOSE = refl
sign_asked v BRACE = refl
sign_asked v UNBRACE = refl
sign_asked v DOT = refl
sign_asked v BAR = refl
sign_asked v STAR = refl
sign_asked v SEMICOLON = refl
sign_asked v EQUALS = refl

value_asked : (v : Visit) (n : ℕ) (d : Dec (Value n)) → Value n → of_kind v 1 ≡ of_part (part_if d (constant n))
value_asked v n (yes h) g = refl
value_asked v n (no h) g = absurd (h g)

attribute_asked : (v : Visit) (m : Dollar) (a : ℕ) (d : Dec (Attribute a)) → Attribute a → of_kind v (mark_number m) ≡ of_part (attribute_part d (attribute_of v m a))
attribute_asked v m a (no h) g = absurd (h g)
attribute_asked v plain a (yes h) g = refl
attribute_asked first left a (yes h) g = refl
attribute_asked first right a (yes h) g = refl
attribute_asked second left a (yes h) g = refl
attribute_asked second right a (yes h) g = refl

token_asked : (v : Visit) (t : TextToken) → TokenFits t → of_kind v (token_kind t) ≡ of_part (part_of v t)
token_asked v (nonterminal n) h = refl
token_asked v (value n) h = value_asked v n (value? n) (omega arith)
token_asked v (attribute m a) h = attribute_asked v m a (attribute? a) (omega arith)
token_asked v (name n) h = refl
token_asked v (start_tag n) h = refl
token_asked v (end_tag n) h = refl
token_asked v (empty_tag n) h = refl
token_asked v (string cs) h = refl
token_asked v (word w) h = word_asked v w
token_asked v (sign s) h = sign_asked v s

-- the outline's step, by what is asked
abbrev step_asked : Asked → ConditionOutline → Option ConditionOutline
step_asked q (wanting a_single ms) = cond q.an_operand? (some (wanting Wanted.an_equals ms)) (cond q.not? (not_at ms) (cond q.open? (open_at ms) none))
step_asked q (wanting Wanted.an_equals ms) = cond q.equals? (some (wanting an_operand ms)) none
step_asked q (wanting an_operand ms) = cond q.an_operand? (got_at ms comparison) none
step_asked q (behind d o ms) =
    cond q.and? (some (wanting a_single (margin o (some d) 0 ∷ ms)))
    (cond q.or? (some (wanting a_single (margin (some (paired_with o d)) none 0 ∷ ms)))
    (cond q.close? (got_at ms (paired_with o d)) none))

by_asking : (v : Visit) (r : ConditionOutline) (k : ℕ) → step_condition_outline v r k ≡ step_asked (of_kind v k) r
by_asking v (wanting a_single ms) k = refl
by_asking v (wanting Wanted.an_equals ms) k = refl
by_asking v (wanting an_operand ms) k = refl
by_asking v (behind d o ms) k = refl

abbrev pub condition_if : Option Reading → Option ConditionOutline
condition_if none = none
condition_if (some r) = some (condition_outline r)

margins_long : (ls : List ConditionLevel) → length (margins_of ls) ≡ length ls
margins_long [] = refl
margins_long (l ∷ ls) = ap suc (margins_long ls)

up_extent : (l : ConditionLevel) (c : Condition) → condition_extent (reading.up_to_and l c) ≡ up_to_and (margin_of l) (condition_extent c)
up_extent l c = and_extent l.and_left (negated_by l.nots c) ∙ ap (paired_with (extent_if l.and_left)) (nots_extent l.nots c)

whole_extent : (l : ConditionLevel) (c : Condition) → condition_extent (reading.whole_condition l c) ≡ whole_of (margin_of l) (condition_extent c)
whole_extent l c = or_extent l.or_left (reading.up_to_and l c) ∙ ap (paired_with (extent_if l.or_left)) (up_extent l c)

around_extent : (ls : List ConditionLevel) (c : Condition) → condition_extent (around_condition ls c) ≡ with_margins (margins_of ls) (condition_extent c)
around_extent [] c = refl
around_extent (l ∷ ls) c = around_extent ls (reading.whole_condition l c) ∙ ap (with_margins (margins_of ls)) (whole_extent l c)

open_alike : (b : Bool) (l : ConditionLevel) (ls : List ConditionLevel) → cond b (some (wanting a_single (blank_margin ∷ margin_of l ∷ margins_of ls))) none ≡ condition_if (reading.condition_opened b l ls)
open_alike true l ls = refl
open_alike false l ls = refl

got_alike : (l : ConditionLevel) (ls : List ConditionLevel) (c : Condition) (e : Extent) → e ≡ condition_extent c → got_at (margins_of (l ∷ ls)) e ≡ condition_if (some (reading.got l ls c))
got_alike l ls c e h = ap (λ x. some (behind x (extent_if l.or_left) (margins_of ls))) (ap (up_to_and (margin_of l)) h ∙ sym (up_extent l c))

close_alike : (ls : List ConditionLevel) (c : Condition) (e : Extent) → e ≡ condition_extent c → got_at (margins_of ls) e ≡ condition_if (reading.condition_closed ls c)
close_alike [] c e h = refl
close_alike (l ∷ ls) c e h = got_alike l ls c e h

part_alike : (r : Reading) (p : ConditionPart) → step_asked (of_part p) (condition_outline r) ≡ condition_if (step_part parentheses r p)
part_alike (wants l ls) (operand x) = refl
part_alike (wants l ls) a_not = refl
part_alike (wants l ls) an_and = refl
part_alike (wants l ls) an_or = refl
part_alike (wants l ls) an_open = rw (margins_long ls) (open_alike (ltb (length ls) parentheses) l ls)
part_alike (wants l ls) a_close = refl
part_alike (wants l ls) ConditionPart.an_equals = refl
part_alike (wants l ls) other = refl
part_alike (compares x l ls) (operand y) = refl
part_alike (compares x l ls) a_not = refl
part_alike (compares x l ls) an_and = refl
part_alike (compares x l ls) an_or = refl
part_alike (compares x l ls) an_open = refl
part_alike (compares x l ls) a_close = refl
part_alike (compares x l ls) ConditionPart.an_equals = refl
part_alike (compares x l ls) other = refl
part_alike (wants_other x l ls) (operand y) = got_alike l ls (equal x y) comparison (sym (equal_extent x y))
part_alike (wants_other x l ls) a_not = refl
part_alike (wants_other x l ls) an_and = refl
part_alike (wants_other x l ls) an_or = refl
part_alike (wants_other x l ls) an_open = refl
part_alike (wants_other x l ls) a_close = refl
part_alike (wants_other x l ls) ConditionPart.an_equals = refl
part_alike (wants_other x l ls) other = refl
part_alike (after d o ls) (operand y) = refl
part_alike (after d o ls) a_not = refl
part_alike (after d o ls) an_and = refl
part_alike (after d o ls) an_or = ap (λ x. some (wanting a_single (margin (some x) none 0 ∷ margins_of ls))) (sym (or_extent o d))
part_alike (after d o ls) an_open = refl
part_alike (after d o ls) a_close = close_alike ls (disjoined o d) (paired_with (extent_if o) (condition_extent d)) (sym (or_extent o d))
part_alike (after d o ls) ConditionPart.an_equals = refl
part_alike (after d o ls) other = refl

pub condition_alike : (v : Visit) (r : Reading) (t : TextToken) → TokenFits t → step_condition_outline v (condition_outline r) (token_kind t) ≡ condition_if (step_condition v parentheses r t)
condition_alike v r t h =
    by_asking v (condition_outline r) (token_kind t)
    ∙ (ap (λ q. step_asked q (condition_outline r)) (token_asked v t h)
    ∙ part_alike r (part_of v t))

pub operand_asked : (v : Visit) (t : TextToken) → TokenFits t → is_operand v (token_kind t) ≡ (of_part (part_of v t)).an_operand?
operand_asked v t h = ap (λ q. q.an_operand?) (token_asked v t h)

pub read_alike : (r : Reading) → read_condition (condition_outline r) ≡ extent_if (value_of_condition r)
read_alike (wants l ls) = refl
read_alike (compares x l ls) = refl
read_alike (wants_other x l ls) = refl
read_alike (after d o []) = ap some (sym (or_extent o d))
read_alike (after d o (l ∷ ls)) = refl

pub finished_alike : (r : Reading) → finished_condition (condition_outline r) ≡ condition_extent (finished_of r)
finished_alike (wants l ls) = sym (around_extent (l ∷ ls) (equal (constant 0) (constant 0)))
finished_alike (compares x l ls) = ap (with_margins (margins_of (l ∷ ls))) (sym (equal_extent x (constant 0))) ∙ sym (around_extent (l ∷ ls) (equal x (constant 0)))
finished_alike (wants_other x l ls) = ap (with_margins (margins_of (l ∷ ls))) (sym (equal_extent x (constant 0))) ∙ sym (around_extent (l ∷ ls) (equal x (constant 0)))
finished_alike (after d o ls) = ap (with_margins (margins_of ls)) (sym (or_extent o d)) ∙ sym (around_extent ls (disjoined o d))
