-- The shortest continuation of an expression only grows: in nodes, in depth, and in its programs. Assumes nothing.
use mathlib.Core.Path.{◌≡◌, refl, sym, ◌∙◌, ap, subst}
use mathlib.Core.Bool.{Bool, true, false}
use mathlib.Core.Option.{Option, none, some}
use mathlib.Core.List.{List, [], ◌∷◌, ◌++◌}
use Prim.Native.Nat.{ℕ, zero, suc, ◌+◌, ◌≤◌, max}
use native.Mathlib.Omega.{arith}
use lib.Dec.{ltb}
use lib.ListN.{length}
use Rattle.expressions.specs.Expr.{Atom, Exp, nodes, depth}
use Rattle.programs.specs.Limits.{Visit, first, second}
use Rattle.notation.specs.Program.{TextProgram, done}
use Rattle.notation.specs.Rules.{TextVisits, Tree, node, Form, atom, cat, alt, star, expression, visits}
use Rattle.notation.specs.Limits.{ProgramWithin, OptionWithin, VisitsWithin, AllWithin}
use Rattle.notation.specs.Statements.{parentheses}
use Rattle.notation.specs.Tokens.{TextToken}
use Rattle.reading.specs.Statements.{Listing, list_start, step_statements, value_of_list, finished_list}
use Rattle.reading.specs.Expressions.{ExpressionPart, a_leaf, a_star, a_dot, a_bar, an_open, a_close, a_brace, an_unbrace, other, piece_of, ExpressionLevel, expression_level, fresh_expression, joined_cat, joined_alt, whole_expression, one_of, fronted_with, fronted, sealed_with, sealed, around_expression, Parsing, wants, in_front, after, behind, over, expression_opened, expression_closed, braced, backed, leaf_form, step_piece, unbraces, listing, step_expression, placeholder, shortest_at, finished_content}
use Rattle.reading.proofs.Telling.{none≢some}
use Rattle.reading.proofs.StatementSize.{Under as ListUnder, Grown as ListGrown, step_grows as list_step_grows}
use Rattle.reading.proofs.Statements.{finished_value}

-- whether a node has a program for its first visit
abbrev pub firsts : Tree → ℕ
firsts (node none g k) = 0
firsts (node (some p) g k) = 1

-- no more nodes, no deeper, also where a star makes room for a program in front; and programs that keep the limits where the other's do
pub record Under (t u : Tree) : Type 0 where
  pub few : nodes (expression t) ≤ nodes (expression u)
  pub few_starred : nodes (expression t) + firsts t ≤ nodes (expression u) + firsts u
  pub low : depth (expression t) ≤ depth (expression u)
  pub low_starred : depth (expression t) + firsts t ≤ depth (expression u) + firsts u
  pub programs : AllWithin (visits u) → AllWithin (visits t)

pub under_refl : (t : Tree) → Under t t
under_refl t = record { few = omega arith; few_starred = omega arith; low = omega arith; low_starred = omega arith; programs = λ h. h }

under_same : {t u : Tree} → t ≡ u → Under t u
under_same {t} {u} e = subst (Under t) e (under_refl t)

pub within_append : (xs ys : List TextVisits) → AllWithin xs → AllWithin ys → AllWithin (xs ++ ys)
within_append [] ys h k = k
within_append (x ∷ xs) ys h k = (h.0, within_append xs ys h.1 k)

pub within_left : (xs ys : List TextVisits) → AllWithin (xs ++ ys) → AllWithin xs
within_left [] ys h = tt
within_left (x ∷ xs) ys h = (h.0, within_left xs ys h.1)

pub within_right : (xs ys : List TextVisits) → AllWithin (xs ++ ys) → AllWithin ys
within_right [] ys h = h
within_right (x ∷ xs) ys h = within_right xs ys h.1

one_node : (e : Exp) → (1 ≤ nodes e) × (1 ≤ depth e)
one_node (Exp.atom k) = (omega arith, omega arith)
one_node (Exp.cat l r) = (omega arith, omega arith)
one_node (Exp.alt l r) = (omega arith, omega arith)
one_node (Exp.star e) = (omega arith, omega arith)
one_node Exp.empty = (omega arith, omega arith)

atom_under : (k : Atom) (t : Tree) → Under (node none none (atom k)) t
atom_under k t =
    let n = one_node (expression t) in
    record { few = n.0; few_starred = omega (arith, n.0); low = n.1; low_starred = omega (arith, n.1); programs = λ h. ((tt, tt), tt) }

-- a program in front
pub front_within : (p : TextProgram) (t : Tree) → ProgramWithin p → AllWithin (visits t) → AllWithin (visits (sealed (some p) t))
front_within p (node none g k) w h = ((w, h.0.1), h.1)
front_within p (node (some q) g k) w h = ((w, tt), h)

pub front_was_within : (p : TextProgram) (t : Tree) → AllWithin (visits (sealed (some p) t)) → ProgramWithin p × AllWithin (visits t)
front_was_within p (node none g k) h = (h.0.0, ((tt, h.0.1), h.1))
front_was_within p (node (some q) g k) h = (h.0.0, h.1)

sealed_nodes : (p : TextProgram) (t : Tree) → (nodes (expression (sealed (some p) t)) ≡ nodes (expression t) + firsts t) × (depth (expression (sealed (some p) t)) ≡ depth (expression t) + firsts t) × (firsts (sealed (some p) t) ≡ 1)
sealed_nodes p (node none g k) = (omega arith, omega arith, refl)
sealed_nodes p (node (some q) g k) = (omega arith, omega arith, refl)

pub sealed_none : (t : Tree) → sealed none t ≡ t
sealed_none (node f g k) = refl

sealed_under : (b : Option TextProgram) {t u : Tree} → Under t u → Under (sealed b t) (sealed b u)
sealed_under none {t} {u} h = rw (sealed_none t, sealed_none u) h
sealed_under (some p) {t} {u} h =
    let a = sealed_nodes p t in
    let b = sealed_nodes p u in
    record {
      few = omega (arith, a.0, b.0, h.few_starred);
      few_starred = omega (arith, a.0, b.0, a.2, b.2, h.few_starred);
      low = omega (arith, a.1, b.1, h.low_starred);
      low_starred = omega (arith, a.1, b.1, a.2, b.2, h.low_starred);
      programs = λ w. let s = front_was_within p u w in front_within p t s.0 (h.programs s.1);
    }

-- where only the program in front differs
sealed_front : {p q : TextProgram} (t : Tree) → (ProgramWithin q → ProgramWithin p) → Under (sealed (some p) t) (sealed (some q) t)
sealed_front {p} {q} t f =
    let a = sealed_nodes p t in
    let b = sealed_nodes q t in
    record {
      few = omega (arith, a.0, b.0);
      few_starred = omega (arith, a.0, b.0, a.2, b.2);
      low = omega (arith, a.1, b.1);
      low_starred = omega (arith, a.1, b.1, a.2, b.2);
      programs = λ w. let s = front_was_within q t w in front_within p t (f s.0) s.1;
    }

cat_under : (c : Option Tree) {t u : Tree} → Under t u → Under (joined_cat c t) (joined_cat c u)
cat_under none h = h
cat_under (some c) {t} {u} h = record {
  few = omega arith;
  few_starred = omega arith;
  low = omega arith;
  low_starred = omega arith;
  programs = λ w. (w.0, within_append (visits c) (visits t) (within_left (visits c) (visits u) w.1) (h.programs (within_right (visits c) (visits u) w.1)));
}

alt_under : (a : Option Tree) {t u : Tree} → Under t u → Under (joined_alt a t) (joined_alt a u)
alt_under none h = h
alt_under (some a) {t} {u} h = record {
  few = omega arith;
  few_starred = omega arith;
  low = omega arith;
  low_starred = omega arith;
  programs = λ w. (w.0, within_append (visits a) (visits t) (within_left (visits a) (visits u) w.1) (h.programs (within_right (visits a) (visits u) w.1)));
}

around_under : (ls : List ExpressionLevel) {t u : Tree} → Under t u → Under (around_expression ls t) (around_expression ls u)
around_under [] h = h
around_under (l ∷ ls) h = around_under ls (sealed_under l.before (alt_under l.alt_left (cat_under l.cat_left h)))

one_first : (t : Tree) → firsts t ≤ 1
one_first (node none g k) = omega arith
one_first (node (some p) g k) = omega arith

in_star : (t : Tree) → Under t (node none none (star t))
in_star t = record { few = omega arith; few_starred = omega (arith, one_first t); low = omega arith; low_starred = omega (arith, one_first t); programs = λ w. w.1 }

left_of_cat : (t u : Tree) → Under t (node none none (cat t u))
left_of_cat t u = record {
  few = omega arith;
  few_starred = omega (arith, one_first t);
  low = omega arith;
  low_starred = omega (arith, one_first t);
  programs = λ w. within_left (visits t) (visits u) w.1;
}

left_of_alt : (t u : Tree) → Under t (node none none (alt t u))
left_of_alt t u = record {
  few = omega arith;
  few_starred = omega (arith, one_first t);
  low = omega arith;
  low_starred = omega (arith, one_first t);
  programs = λ w. within_left (visits t) (visits u) w.1;
}

behind_more : (f : Option TextProgram) (k : Form) (p : TextProgram) → Under (node f none k) (node f (some p) k)
behind_more none k p = record { few = omega arith; few_starred = omega arith; low = omega arith; low_starred = omega arith; programs = λ w. ((w.0.0, tt), w.1) }
behind_more (some q) k p = record { few = omega arith; few_starred = omega arith; low = omega arith; low_starred = omega arith; programs = λ w. ((w.0.0, tt), w.1) }

behind_under : (f : Option TextProgram) (k : Form) {p q : TextProgram} → (ProgramWithin q → ProgramWithin p) → Under (node f (some p) k) (node f (some q) k)
behind_under none k h = record { few = omega arith; few_starred = omega arith; low = omega arith; low_starred = omega arith; programs = λ w. ((w.0.0, h w.0.1), w.1) }
behind_under (some r) k h = record { few = omega arith; few_starred = omega arith; low = omega arith; low_starred = omega arith; programs = λ w. ((w.0.0, h w.0.1), w.1) }

pub fronted_sealed : (b : Option TextProgram) (t u : Tree) → fronted b t ≡ some u → sealed b t ≡ u
fronted_sealed b (node f g k) u e = on (one_of b f) e
  where
    on : (o : Option (Option TextProgram)) → fronted_with o g k ≡ some u → sealed_with o b f g k ≡ u
    on none i = absurd (none≢some refl i)
    on (some o) i = cc

abbrev pub UnderContent : Option Tree → Option Tree → Type 0
UnderContent none o = Unit {0}
UnderContent (some t) none = ⊥
UnderContent (some t) (some u) = Under t u

abbrev pub Grown : Parsing → Option Parsing → Type 0
Grown s none = Unit {0}
Grown s (some s') = UnderContent (finished_content s) (finished_content s')

place_grows : (b : Bool) (l : ExpressionLevel) (ls : List ExpressionLevel) (t : Tree) → UnderContent (shortest_at b l ls) (some (around_expression (l ∷ ls) t))
place_grows true l [] t = tt
place_grows true l (m ∷ ls) t = around_under (m ∷ ls) (atom_under (Atom.nonterminal 0) (sealed l.before (whole_expression l t)))
place_grows false l ls t = around_under (l ∷ ls) (atom_under (Atom.nonterminal 0) t)

open_grows : (x b : Bool) (l : ExpressionLevel) (ls : List ExpressionLevel) → Grown (wants b l ls) (expression_opened x l ls)
open_grows true b l ls = place_grows b l ls placeholder
open_grows false b l ls = tt

brace_grows : (b : Bool) (l : ExpressionLevel) (ls : List ExpressionLevel) → Grown (wants b l ls) (braced b ls)
brace_grows true l [] = tt
brace_grows true l (m ∷ ls) = around_under (m ∷ ls) (atom_under (Atom.nonterminal 0) (node (some done) none (atom (Atom.nonterminal 0))))
brace_grows false l ls = tt

close_grows : (s : Parsing) (ls : List ExpressionLevel) (o : Option Tree) → ((t : Tree) → o ≡ some t → finished_content s ≡ some (around_expression ls t)) → Grown s (expression_closed ls o)
close_grows s ls none h = tt
close_grows s [] (some t) h = tt
close_grows s (l ∷ ls) (some t) h = subst (λ x. UnderContent x (some (around_expression (l ∷ ls) t))) (sym (h t refl)) (under_refl (around_expression (l ∷ ls) t))

back_grows : (s : Parsing) (ls : List ExpressionLevel) (o : Option Tree) → ((t : Tree) → o ≡ some t → finished_content s ≡ some (around_expression ls t)) → Grown s (backed o ls)
back_grows s ls none h = tt
back_grows s ls (some (node f (some g) k)) h = tt
back_grows s ls (some (node f none k)) h =
    subst (λ x. UnderContent x (some (around_expression ls (node f (some done) k)))) (sym (h (node f none k) refl)) (around_under ls (behind_more f k done))

piece_grows : (s : Parsing) (k : ExpressionPart) → Grown s (step_piece s k)
piece_grows (wants b l ls) (a_leaf k) = place_grows b l ls (node none none (leaf_form k))
piece_grows (wants b l ls) a_star = tt
piece_grows (wants b l ls) a_dot = tt
piece_grows (wants b l ls) a_bar = tt
piece_grows (wants b l ls) an_open = open_grows (ltb (length ls) parentheses) b l ls
piece_grows (wants b l ls) a_close = tt
piece_grows (wants b l ls) a_brace = brace_grows b l ls
piece_grows (wants b l ls) an_unbrace = tt
piece_grows (wants b l ls) other = tt
piece_grows (in_front q ls) k = tt
piece_grows (after e l ls) (a_leaf k) = tt
piece_grows (after e l ls) a_star = around_under (l ∷ ls) (in_star e)
piece_grows (after e l ls) a_dot = around_under ls (sealed_under l.before (alt_under l.alt_left (left_of_cat (joined_cat l.cat_left e) placeholder)))
piece_grows (after e l ls) a_bar = around_under ls (sealed_under l.before (left_of_alt (whole_expression l e) placeholder))
piece_grows (after e l ls) an_open = tt
piece_grows (after e l ls) a_close = close_grows (after e l ls) ls (fronted l.before (whole_expression l e)) (λ t i. ap (λ x. some (around_expression ls x)) (fronted_sealed l.before (whole_expression l e) t i))
piece_grows (after e l ls) a_brace = back_grows (after e l ls) ls (fronted l.before (whole_expression l e)) (λ t i. ap (λ x. some (around_expression ls x)) (fronted_sealed l.before (whole_expression l e) t i))
piece_grows (after e l ls) an_unbrace = tt
piece_grows (after e l ls) other = tt
piece_grows (behind q f k ls) j = tt
piece_grows (over e ls) (a_leaf k) = tt
piece_grows (over e ls) a_star = tt
piece_grows (over e ls) a_dot = tt
piece_grows (over e ls) a_bar = tt
piece_grows (over e ls) an_open = tt
piece_grows (over e ls) a_close = close_grows (over e ls) ls (some e) (λ t i. let same : e ≡ t = cc in ap (λ x. some (around_expression ls x)) same)
piece_grows (over e ls) a_brace = tt
piece_grows (over e ls) an_unbrace = tt
piece_grows (over e ls) other = tt

-- inside a machine that holds a list
module _ {S : Type 0} (More : Option S → Type 0) (nothing_more : More none) (holds : Listing → S) (ended : TextProgram → S) where
  pub ends_grow : (q : Listing) (k : ExpressionPart) (o : Option TextProgram) → value_of_list q ≡ o → ((p : TextProgram) → finished_list q ≡ p → More (some (ended p))) → More (unbraces k o ended)
  ends_grow q (a_leaf k) o e h = nothing_more
  ends_grow q a_star o e h = nothing_more
  ends_grow q a_dot o e h = nothing_more
  ends_grow q a_bar o e h = nothing_more
  ends_grow q an_open o e h = nothing_more
  ends_grow q a_close o e h = nothing_more
  ends_grow q a_brace o e h = nothing_more
  ends_grow q an_unbrace none e h = nothing_more
  ends_grow q an_unbrace (some p) e h = h p (finished_value q p e)
  ends_grow q other o e h = nothing_more

  pub list_grows : (v : Visit) (q : Listing) (t : TextToken) → ((r : Listing) → (ProgramWithin (finished_list r) → ProgramWithin (finished_list q)) → More (some (holds r)))
      → ((p : TextProgram) → finished_list q ≡ p → More (some (ended p))) → More (listing (step_statements v q t) holds (unbraces (piece_of t) (value_of_list q) ended))
  list_grows v q t f g = on (step_statements v q t) (list_step_grows v q t)
    where
      on : (o : Option Listing) → ListGrown q o → More (listing o holds (unbraces (piece_of t) (value_of_list q) ended))
      on none h = ends_grow q (piece_of t) (value_of_list q) refl g
      on (some r) h = f r (λ w. record { short = omega arith; shallow = omega arith })

pub step_grows : (s : Parsing) (t : TextToken) → Grown s (step_expression s t)
step_grows (wants b l ls) t = piece_grows (wants b l ls) (piece_of t)
step_grows (in_front q ls) t =
    list_grows (Grown (in_front q ls)) tt (λ r. in_front r ls) (λ p. wants false (expression_level (some p) none none) ls) first q t
    (λ r h. around_under ls (sealed_front placeholder h))
    (λ p e. under_same (ap (λ x. around_expression (expression_level (some x) none none ∷ ls) placeholder) e))
step_grows (after e l ls) t = piece_grows (after e l ls) (piece_of t)
step_grows (behind q f k ls) t =
    list_grows (Grown (behind q f k ls)) tt (λ r. behind r f k ls) (λ p. over (node f (some p) k) ls) second q t
    (λ r h. around_under ls (behind_under f k h))
    (λ p e. under_same (ap (λ x. around_expression ls (node f (some x) k)) e))
step_grows (over e ls) t = piece_grows (over e ls) (piece_of t)
