-- The machine takes only tokens whose numbers, names and strings a text may have. Assumes nothing.
use mathlib.Core.Path.{◌≡◌, refl, sym, ◌∙◌, ap, subst}
use mathlib.Core.Bool.{Bool}
use mathlib.Core.Option.{Option, none, some}
use mathlib.Core.List.{List, [], ◌∷◌}
use Prim.Native.Nat.{ℕ, ◌≤◌, ◌<◌}
use native.Mathlib.Omega.{arith}
use Rattle.expressions.specs.Expr.{Atom}
use Rattle.programs.specs.Program.{Operand, constant, Condition}
use Rattle.programs.specs.Limits.{Visit, first, second}
use Rattle.text.specs.Characters.{utf8s}
use Rattle.notation.specs.Program.{TextProgram, step, print_start, print_end, print_text}
use Rattle.notation.specs.Statements.{parentheses, only}
use Rattle.notation.specs.Tokens.{Dollar, plain, left, right, TextToken, nonterminal, value, attribute, name, start_tag, end_tag, empty_tag, string, word, sign, UNBRACE}
use Rattle.reading.specs.Tests.{tag_name?, string?}
use Rattle.reading.specs.Conditions.{ConditionPart, part_if, value?, attribute?, attribute_of, attribute_part, part_of, Reading, step_part, step_condition, value_of_condition}
use Rattle.reading.specs.Statements.{Start, no_start, start_if, current?, target_if, start_of, Behind, nothing, item_if, behind_of, Listing, ListLevel, started_list, followed, printed, targeted, assigned_by, thenned, tested, step_statements}
use Rattle.reading.specs.Expressions.{ExpressionPart, other, piece_of, nonterminal?, atom_if, step_piece, value_of_content, wants, in_front, after, behind, over}
use Rattle.reading.specs.Rules.{Key, a_nonterminal, a_name, key_of, key_if, step_key, closes_content, parsing, Progress, beginning, first_word, named, defined, own_front, wants_tag, tagged, within, closed, own_back, complete, step_rules}
use Rattle.reading.proofs.Telling.{none≢some}
use Rattle.lexemes.specs.Kinds.{TokenFits}
use Rattle.sketches.specs.Sketched.{listing_of}

-- what is nothing in a program is not taken there
no_part : (v : Visit) (r : Reading) (t : TextToken) → part_of v t ≡ ConditionPart.other → step_condition v parentheses r t ≡ none
no_part v (Reading.wants l ls) t h = ap (step_part parentheses (Reading.wants l ls)) h
no_part v (Reading.compares x l ls) t h = ap (step_part parentheses (Reading.compares x l ls)) h
no_part v (Reading.wants_other x l ls) t h = ap (step_part parentheses (Reading.wants_other x l ls)) h
no_part v (Reading.after c o ls) t h = ap (step_part parentheses (Reading.after c o ls)) h

no_then : (o : Option Condition) (l : ListLevel) (ls : List ListLevel) → thenned o l ls nothing ≡ none
no_then none l ls = refl
no_then (some c) l ls = refl

nothing_listed : (v : Visit) (q : Listing) (t : TextToken) → start_of v t ≡ no_start → behind_of t ≡ nothing → part_of v t ≡ ConditionPart.other → step_statements v q t ≡ none
nothing_listed v (Listing.wants w l ls) t a b c = ap (started_list w l ls) a
nothing_listed v (Listing.target x l ls) t a b c = ap (targeted x l ls) b
nothing_listed v (Listing.assigning x l ls) t a b c = ap (assigned_by x l ls) c
nothing_listed v (Listing.printing l ls) t a b c = ap (printed l ls) b
nothing_listed v (Listing.testing r l ls) t a b c = ap (λ x. tested x (value_of_condition r) l ls (behind_of t)) (no_part v r t c) ∙ ap (thenned (value_of_condition r) l ls) b ∙ no_then (value_of_condition r) l ls
nothing_listed v (Listing.after x p l ls) t a b c = ap (followed x p l ls) b

pub no_unbrace : (v : Visit) (q : Listing) → step_statements v q (sign UNBRACE) ≡ none
no_unbrace v q = nothing_listed v q (sign UNBRACE) refl refl refl

part_fits : {P : Type 0} (d : Dec P) (x : Operand) → (part_if d x ≡ ConditionPart.other → ⊥) → P
part_fits (yes h) x k = h
part_fits (no h) x k = absurd (k refl)

attribute_fits : {P : Type 0} (d : Dec P) (b : Bool) (a : ℕ) (o : Option Operand) → (target_if d b a ≡ no_start → attribute_part d o ≡ ConditionPart.other → ⊥) → P
attribute_fits (yes h) b a o k = h
attribute_fits (no h) b a none k = absurd (k refl refl)
attribute_fits (no h) b a (some x) k = absurd (k refl refl)

item_fits : {P : Type 0} (d : Dec P) (p : TextProgram) → (item_if d p ≡ nothing → ⊥) → P
item_fits (yes h) p k = h
item_fits (no h) p k = absurd (k refl)

pub listed_fits : (v : Visit) (q r : Listing) (t : TextToken) → step_statements v q t ≡ some r → TokenFits t
listed_fits v q r (nonterminal n) e = absurd (none≢some (nothing_listed v q (nonterminal n) refl refl refl) e)
listed_fits v q r (value n) e = let h = part_fits (value? n) (constant n) (λ i. none≢some (nothing_listed v q (value n) refl refl i) e) in omega arith
listed_fits v q r (attribute m a) e =
    let h = attribute_fits (attribute? a) (current? v m) a (attribute_of v m a) (λ i j. none≢some (nothing_listed v q (attribute m a) i refl j) e) in omega arith
listed_fits v q r (name n) e = absurd (none≢some (nothing_listed v q (name n) refl refl refl) e)
listed_fits v q r (start_tag n) e = item_fits (tag_name? n) (only (print_start n)) (λ i. none≢some (nothing_listed v q (start_tag n) refl i refl) e)
listed_fits v q r (end_tag n) e = item_fits (tag_name? n) (only (print_end n)) (λ i. none≢some (nothing_listed v q (end_tag n) refl i refl) e)
listed_fits v q r (empty_tag n) e = item_fits (tag_name? n) (step (print_start n) (only (print_end n))) (λ i. none≢some (nothing_listed v q (empty_tag n) refl i refl) e)
listed_fits v q r (string cs) e = item_fits (string? cs) (only (print_text (utf8s cs))) (λ i. none≢some (nothing_listed v q (string cs) refl i refl) e)
listed_fits v q r (word w) e = tt
listed_fits v q r (sign s) e = tt

-- what is nothing outside programs is not taken there
nothing_taken : (s : Progress) (t : TextToken) → listing_of s ≡ none → key_of t ≡ Key.other → piece_of t ≡ ExpressionPart.other → step_rules s t ≡ none
nothing_taken beginning t z k p = ap (step_key beginning) k
nothing_taken (first_word n) t z k p = ap (step_key (first_word n)) k
nothing_taken (named h) t z k p = ap (step_key (named h)) k
nothing_taken (defined h) t z k p = ap (step_key (defined h)) k
nothing_taken (own_front q h) t z k p = absurd (none≢some z refl)
nothing_taken (wants_tag f h) t z k p = ap (step_key (wants_tag f h)) k
nothing_taken (tagged f u h) t z k p = ap (step_key (tagged f u h)) k
nothing_taken (within (wants b l ls) f u h) t z k p = ap (λ y. parsing (step_piece (wants b l ls) y) (closes_content (key_of t) (value_of_content (wants b l ls)) f u h) f u h) p ∙ ap (λ y. closes_content y (value_of_content (wants b l ls)) f u h) k
nothing_taken (within (in_front q ls) f u h) t z k p = absurd (none≢some z refl)
nothing_taken (within (after e l ls) f u h) t z k p = ap (λ y. parsing (step_piece (after e l ls) y) (closes_content (key_of t) (value_of_content (after e l ls)) f u h) f u h) p ∙ ap (λ y. closes_content y (value_of_content (after e l ls)) f u h) k
nothing_taken (within (behind q g j ls) f u h) t z k p = absurd (none≢some z refl)
nothing_taken (within (over e ls) f u h) t z k p = ap (λ y. parsing (step_piece (over e ls) y) (closes_content (key_of t) (value_of_content (over e ls)) f u h) f u h) p ∙ ap (λ y. closes_content y (value_of_content (over e ls)) f u h) k
nothing_taken (closed f u e h) t z k p = ap (step_key (closed f u e h)) k
nothing_taken (own_back q f u e h) t z k p = absurd (none≢some z refl)
nothing_taken (complete r h) t z k p = ap (step_key (complete r h)) k

key_fits : {P : Type 0} (d : Dec P) (k : Key) (x : Atom) → (key_if d k ≡ Key.other → atom_if d x ≡ ExpressionPart.other → ⊥) → P
key_fits (yes h) k x f = h
key_fits (no h) k x f = absurd (f refl refl)

pub plain_fits : (s s' : Progress) (t : TextToken) → listing_of s ≡ none → step_rules s t ≡ some s' → TokenFits t
plain_fits s s' (nonterminal n) z e = key_fits (nonterminal? n) (a_nonterminal n) (Atom.nonterminal n) (λ i j. none≢some (nothing_taken s (nonterminal n) z i j) e)
plain_fits s s' (name n) z e = key_fits (tag_name? n) (a_name n) (Atom.nonterminal 0) (λ i j. none≢some (nothing_taken s (name n) z i refl) e)
plain_fits s s' (value n) z e = absurd (none≢some (nothing_taken s (value n) z refl refl) e)
plain_fits s s' (attribute m a) z e = absurd (none≢some (nothing_taken s (attribute m a) z refl refl) e)
plain_fits s s' (start_tag n) z e = absurd (none≢some (nothing_taken s (start_tag n) z refl refl) e)
plain_fits s s' (end_tag n) z e = absurd (none≢some (nothing_taken s (end_tag n) z refl refl) e)
plain_fits s s' (empty_tag n) z e = absurd (none≢some (nothing_taken s (empty_tag n) z refl refl) e)
plain_fits s s' (string cs) z e = absurd (none≢some (nothing_taken s (string cs) z refl refl) e)
plain_fits s s' (word w) z e = tt
plain_fits s s' (sign g) z e = tt
