-- The shortest continuation keeps the limits exactly where its programs do and its numbers do. Assumes nothing.
use mathlib.Core.Path.{◌≡◌, refl, sym, ◌∙◌, ap, subst}
use mathlib.Core.Bool.{true, false, ◌&&◌, and-eq-true_iff}
use mathlib.Core.Option.{Option, none, some}
use mathlib.Core.List.{List, [], ◌∷◌, ◌++◌}
use Prim.Native.Nat.{ℕ, suc, ◌+◌, ◌≤◌, ◌<◌}
use native.Mathlib.Omega.{arith}
use lib.Dec.{ltb}
use lib.ListN.{length, length-append}
use borrow.Author.Tests.{ltb-true, lt-ltb}
use Rattle.expressions.specs.Expr.{nodes, depth, nodes_of}
use Rattle.notation.specs.Program.{TextProgram}
use Rattle.notation.specs.Rules.{TextVisits, Tree, node, Form, expression, visits, visits_of, visits_inside, content_inside, TextRule, Rules}
use Rattle.notation.specs.Limits.{ProgramWithin, OptionWithin, VisitsWithin, AllWithin, content_depth, ContentWithin, RuleWithin, EachWithin, nodes_in_all, WithinLimits}
use Rattle.reading.specs.Statements.{Listing, finished_list}
use Rattle.reading.specs.Expressions.{ExpressionLevel, expression_level, joined_cat, joined_alt, whole_expression, sealed, around_expression, Parsing, wants, in_front, after, behind, over, placeholder, finished_content}
use Rattle.reading.specs.Rules.{Head, head, Progress, beginning, first_word, named, defined, own_front, wants_tag, tagged, within, closed, own_back, complete, rule_read, rules_read, plain_rule, finished_rules}
use Rattle.reading.proofs.ExpressionSize.{within_append, within_left, within_right, front_within, front_was_within}
use Rattle.reading.proofs.Expressions.{nothing_within}
use Rattle.reading.proofs.RuleSize.{nodes_append, each_front}
use Rattle.sketches.specs.Figures.{figure_of, surround_of, paren_of, parens_of}
use Rattle.sketches.specs.Moves.{nodes_there, depth_there, keeps, sketch_fits}
use Rattle.sketches.specs.Sketched.{point_of, levels_of, nodes_inside, sketch}
use Rattle.sketches.specs.Kept.{LevelKept, LevelsKept, KeptInside, KeptSoFar}
use Rattle.sketches.proofs.Figures.{inner_nodes, inner_depth, around_nodes, around_depth}

-- the numbers of what stands between a tag's parentheses
pub content_nodes : (x : Parsing) → nodes_inside (finished_content x) ≡ nodes_there (point_of x) (parens_of (levels_of x))
content_nodes (wants true l []) = refl
content_nodes (wants true l (m ∷ ls)) = around_nodes (m ∷ ls) placeholder
content_nodes (wants false l ls) = around_nodes (l ∷ ls) placeholder ∙ inner_nodes (paren_of l ls) (figure_of placeholder)
content_nodes (in_front q ls) = around_nodes ls (sealed (some (finished_list q)) placeholder)
content_nodes (after e l ls) = around_nodes (l ∷ ls) e ∙ inner_nodes (paren_of l ls) (figure_of e)
content_nodes (behind q f k ls) = around_nodes ls (node f (some (finished_list q)) k)
content_nodes (over e ls) = around_nodes ls e

pub content_depth_lem : (x : Parsing) → content_depth (content_inside (finished_content x)) ≡ depth_there (point_of x) (parens_of (levels_of x))
content_depth_lem (wants true l []) = refl
content_depth_lem (wants true l (m ∷ ls)) = around_depth (m ∷ ls) placeholder
content_depth_lem (wants false l ls) = around_depth (l ∷ ls) placeholder ∙ inner_depth (paren_of l ls) (figure_of placeholder)
content_depth_lem (in_front q ls) = around_depth ls (sealed (some (finished_list q)) placeholder)
content_depth_lem (after e l ls) = around_depth (l ∷ ls) e ∙ inner_depth (paren_of l ls) (figure_of e)
content_depth_lem (behind q f k ls) = around_depth ls (node f (some (finished_list q)) k)
content_depth_lem (over e ls) = around_depth ls e

-- programs, put together and taken apart
sealed_kept : (b : Option TextProgram) (t : Tree) → OptionWithin b → AllWithin (visits t) → AllWithin (visits (sealed b t))
sealed_kept none (node f g k) w h = h
sealed_kept (some p) t w h = front_within p t w h

sealed_was : (b : Option TextProgram) (t : Tree) → AllWithin (visits (sealed b t)) → OptionWithin b × AllWithin (visits t)
sealed_was none (node f g k) h = (tt, h)
sealed_was (some p) t h = front_was_within p t h

pub cat_kept : (c : Option Tree) (t : Tree) → AllWithin (visits_inside c) → AllWithin (visits t) → AllWithin (visits (joined_cat c t))
cat_kept none t w h = h
cat_kept (some c) t w h = ((tt, tt), within_append (visits c) (visits t) w h)

alt_kept : (a : Option Tree) (t : Tree) → AllWithin (visits_inside a) → AllWithin (visits t) → AllWithin (visits (joined_alt a t))
alt_kept none t w h = h
alt_kept (some a) t w h = ((tt, tt), within_append (visits a) (visits t) w h)

cat_was : (c : Option Tree) (t : Tree) → AllWithin (visits (joined_cat c t)) → AllWithin (visits_inside c) × AllWithin (visits t)
cat_was none t h = (tt, h)
cat_was (some c) t h = (within_left (visits c) (visits t) h.1, within_right (visits c) (visits t) h.1)

alt_was : (a : Option Tree) (t : Tree) → AllWithin (visits (joined_alt a t)) → AllWithin (visits_inside a) × AllWithin (visits t)
alt_was none t h = (tt, h)
alt_was (some a) t h = (within_left (visits a) (visits t) h.1, within_right (visits a) (visits t) h.1)

pub whole_kept : (l : ExpressionLevel) (t : Tree) → LevelKept l → AllWithin (visits t) → AllWithin (visits (whole_expression l t))
whole_kept l t w h = alt_kept l.alt_left (joined_cat l.cat_left t) w.1.0 (cat_kept l.cat_left t w.1.1 h)

around_kept : (ls : List ExpressionLevel) (t : Tree) → LevelsKept ls → AllWithin (visits t) → AllWithin (visits (around_expression ls t))
around_kept [] t w h = h
around_kept (l ∷ ls) t w h = around_kept ls (sealed l.before (whole_expression l t)) w.1 (sealed_kept l.before (whole_expression l t) w.0.0 (whole_kept l t w.0 h))

around_was : (ls : List ExpressionLevel) (t : Tree) → AllWithin (visits (around_expression ls t)) → LevelsKept ls × AllWithin (visits t)
around_was [] t h = (tt, h)
around_was (l ∷ ls) t h =
    let a = around_was ls (sealed l.before (whole_expression l t)) h in
    let b = sealed_was l.before (whole_expression l t) a.1 in
    let c = alt_was l.alt_left (joined_cat l.cat_left t) b.1 in
    let d = cat_was l.cat_left t c.1 in
    (((b.0, (c.0, d.0)), a.0), d.1)

placeholder_kept : AllWithin (visits placeholder)
placeholder_kept = ((tt, tt), tt)

content_kept : (x : Parsing) → KeptInside x → AllWithin (visits_inside (finished_content x))
content_kept (wants true l []) h = tt
content_kept (wants true l (m ∷ ls)) h = around_kept (m ∷ ls) placeholder h.1 placeholder_kept
content_kept (wants false l ls) h = around_kept (l ∷ ls) placeholder h placeholder_kept
content_kept (in_front q ls) h = around_kept ls (sealed (some (finished_list q)) placeholder) h.1 ((h.0, tt), tt)
content_kept (after e l ls) h = around_kept (l ∷ ls) e h.1 h.0
content_kept (behind q f k ls) h = around_kept ls (node f (some (finished_list q)) k) h.1.1.1 ((h.1.0, h.0), h.1.1.0)
content_kept (over e ls) h = around_kept ls e h.1 h.0

-- the program that is being read is one of those
abbrev pub ListKeptIn : Parsing → Type 0
ListKeptIn (wants b l ls) = Unit {0}
ListKeptIn (in_front q ls) = ProgramWithin (finished_list q)
ListKeptIn (after e l ls) = Unit {0}
ListKeptIn (behind q f k ls) = ProgramWithin (finished_list q)
ListKeptIn (over e ls) = Unit {0}

list_kept : (x : Parsing) → AllWithin (visits_inside (finished_content x)) → ListKeptIn x
list_kept (wants b l ls) h = tt
list_kept (in_front q ls) h = (around_was ls (sealed (some (finished_list q)) placeholder) h).1.0.0
list_kept (after e l ls) h = tt
list_kept (behind q f k ls) h = (around_was ls (node f (some (finished_list q)) k) h).1.0.1
list_kept (over e ls) h = tt

-- the last production, and those before
each_and_last : (rs : List TextRule) (r : TextRule) → EachWithin rs → RuleWithin r → EachWithin (rs ++ r ∷ [])
each_and_last [] r h w = (w, tt)
each_and_last (q ∷ rs) r h w = (h.0, each_and_last rs r h.1 w)

pub was_last : (rs : List TextRule) (r : TextRule) → EachWithin (rs ++ r ∷ []) → RuleWithin r
was_last [] r h = h.0
was_last (q ∷ rs) r h = was_last rs r h.1

-- the limits as numbers
pub record Numbers (productions earlier nodes depth : ℕ) : Type 0 where
  pub few_productions : productions < 64
  pub few_in_all : earlier + nodes < 257
  pub few_nodes : nodes < 33
  pub shallow : depth < 13

pub keeps_numbers : (q e n d : ℕ) → Numbers q e n d → keeps q e n d ≡ true
keeps_numbers q e n d h = rw (lt-ltb q 64 h.few_productions, lt-ltb (e + n) 257 h.few_in_all, lt-ltb n 33 h.few_nodes, lt-ltb d 13 h.shallow)

pub numbers_kept : (q e n d : ℕ) → keeps q e n d ≡ true → Numbers q e n d
numbers_kept q e n d h =
    let a = (and-eq-true_iff (ltb q 64) (ltb (e + n) 257 && (ltb n 33 && ltb d 13))).0 h in
    let b = (and-eq-true_iff (ltb (e + n) 257) (ltb n 33 && ltb d 13)).0 a.1 in
    let c = (and-eq-true_iff (ltb n 33) (ltb d 13)).0 b.1 in
    record { few_productions = ltb-true q 64 a.0; few_in_all = ltb-true (e + n) 257 b.0; few_nodes = ltb-true n 33 c.0; shallow = ltb-true d 13 c.1 }

-- of rules by their last production
rules_within : (s : ℕ) (rs : List TextRule) (r : TextRule) (n d : ℕ) → EachWithin rs → VisitsWithin r.own → AllWithin (visits_inside r.inside)
    → nodes_inside r.inside ≡ n → content_depth (content_inside r.inside) ≤ 12 → Numbers (length rs) (nodes_in_all rs) n d → WithinLimits (record { start = s; productions = rs ++ r ∷ [] })
rules_within s rs r n d h o v e w k = record {
  few_productions = simp length-append (omega (arith, k.few_productions));
  few_nodes = omega (arith, nodes_append rs (r ∷ []), k.few_in_all, e);
  each = each_and_last rs r h (record { own = o; inside = record { few_nodes = omega (arith, k.few_nodes, e); shallow = w; programs = v } });
}

numbers_of : (s : ℕ) (rs : List TextRule) (r : TextRule) (n d : ℕ) → nodes_inside r.inside ≡ n → d ≤ content_depth (content_inside r.inside) → WithinLimits (record { start = s; productions = rs ++ r ∷ [] }) → Numbers (length rs) (nodes_in_all rs) n d
numbers_of s rs r n d e f w =
    let l = (was_last rs r w.each).inside in
    record {
      few_productions = omega (arith, simp length-append at w.few_productions);
      few_in_all = omega (arith, nodes_append rs (r ∷ []), w.few_nodes, e);
      few_nodes = omega (arith, l.few_nodes, e);
      shallow = omega (arith, l.shallow, f);
    }

-- a rule with nothing between its parentheses
plain_within : (f : Option TextProgram) (h : Head) → OptionWithin f → EachWithin h.earlier → (r : TextRule) → r.own ≡ record { first_visit = f; second_visit = none } → r.inside ≡ none
    → Numbers (length h.earlier) (nodes_in_all h.earlier) 0 0 → WithinLimits (rules_read r h)
plain_within f h w e r o i k =
    rules_within h.start h.earlier r 0 0 e (subst VisitsWithin (sym o) (w, tt)) (subst (λ x. AllWithin (visits_inside x)) (sym i) tt) (ap nodes_inside i)
    (subst (λ x. content_depth (content_inside x) ≤ 12) (sym i) (omega arith)) k

pub kept_within : (s : Progress) → KeptSoFar s → sketch_fits (sketch s) ≡ true → WithinLimits (finished_rules s)
kept_within beginning h k = plain_within none (head 0 [] 0) tt tt (plain_rule none (head 0 [] 0)) refl refl (numbers_kept 0 0 0 0 k)
kept_within (first_word n) h k = plain_within none (head n [] n) tt tt (plain_rule none (head n [] n)) refl refl (numbers_kept 0 0 0 0 k)
kept_within (named g) h k = plain_within none g tt h (plain_rule none g) refl refl (numbers_kept (length g.earlier) (nodes_in_all g.earlier) 0 0 k)
kept_within (defined g) h k = plain_within none g tt h (plain_rule none g) refl refl (numbers_kept (length g.earlier) (nodes_in_all g.earlier) 0 0 k)
kept_within (own_front q g) h k =
    plain_within (some (finished_list q)) g h.0 h.1 (plain_rule (some (finished_list q)) g) refl refl (numbers_kept (length g.earlier) (nodes_in_all g.earlier) 0 0 k)
kept_within (wants_tag f g) h k = plain_within f g h.0 h.1 (plain_rule f g) refl refl (numbers_kept (length g.earlier) (nodes_in_all g.earlier) 0 0 k)
kept_within (tagged f u g) h k = plain_within f g h.0 h.1 (rule_read f none u none g) refl refl (numbers_kept (length g.earlier) (nodes_in_all g.earlier) 0 0 k)
kept_within (within x f u g) h k =
    let n = numbers_kept (length g.earlier) (nodes_in_all g.earlier) (nodes_there (point_of x) (parens_of (levels_of x))) (depth_there (point_of x) (parens_of (levels_of x))) k in
    rules_within g.start g.earlier (rule_read f none u (finished_content x) g) (nodes_there (point_of x) (parens_of (levels_of x))) (depth_there (point_of x) (parens_of (levels_of x)))
    h.1.1 (h.1.0, tt) (content_kept x h.0) (content_nodes x) (omega (arith, content_depth_lem x, n.shallow)) n
kept_within (closed f u e g) h k =
    rules_within g.start g.earlier (rule_read f none u e g) (nodes_inside e) 0 h.1.1 (h.1.0, tt) h.0.programs refl h.0.shallow
    (numbers_kept (length g.earlier) (nodes_in_all g.earlier) (nodes_inside e) 0 k)
kept_within (own_back q f u e g) h k =
    rules_within g.start g.earlier (rule_read f (some (finished_list q)) u e g) (nodes_inside e) 0 h.1.1.1 (h.1.1.0, h.0) h.1.0.programs refl h.1.0.shallow
    (numbers_kept (length g.earlier) (nodes_in_all g.earlier) (nodes_inside e) 0 k)
kept_within (complete r g) h k =
    rules_within g.start g.earlier r (nodes_inside r.inside) 0 h.1 h.0.own h.0.inside.programs refl h.0.inside.shallow
    (numbers_kept (length g.earlier) (nodes_in_all g.earlier) (nodes_inside r.inside) 0 k)

pub within_fits : (s : Progress) → WithinLimits (finished_rules s) → sketch_fits (sketch s) ≡ true
within_fits beginning w = refl
within_fits (first_word n) w = refl
within_fits (named g) w = keeps_numbers (length g.earlier) (nodes_in_all g.earlier) 0 0 (numbers_of g.start g.earlier (plain_rule none g) 0 0 refl (omega arith) w)
within_fits (defined g) w = keeps_numbers (length g.earlier) (nodes_in_all g.earlier) 0 0 (numbers_of g.start g.earlier (plain_rule none g) 0 0 refl (omega arith) w)
within_fits (own_front q g) w =
    keeps_numbers (length g.earlier) (nodes_in_all g.earlier) 0 0 (numbers_of g.start g.earlier (plain_rule (some (finished_list q)) g) 0 0 refl (omega arith) w)
within_fits (wants_tag f g) w = keeps_numbers (length g.earlier) (nodes_in_all g.earlier) 0 0 (numbers_of g.start g.earlier (plain_rule f g) 0 0 refl (omega arith) w)
within_fits (tagged f u g) w = keeps_numbers (length g.earlier) (nodes_in_all g.earlier) 0 0 (numbers_of g.start g.earlier (rule_read f none u none g) 0 0 refl (omega arith) w)
within_fits (within x f u g) w =
    let n = nodes_there (point_of x) (parens_of (levels_of x)) in
    let d = depth_there (point_of x) (parens_of (levels_of x)) in
    keeps_numbers (length g.earlier) (nodes_in_all g.earlier) n d
    (numbers_of g.start g.earlier (rule_read f none u (finished_content x) g) n d (content_nodes x) (omega (arith, content_depth_lem x)) w)
within_fits (closed f u e g) w =
    keeps_numbers (length g.earlier) (nodes_in_all g.earlier) (nodes_inside e) 0 (numbers_of g.start g.earlier (rule_read f none u e g) (nodes_inside e) 0 refl (omega arith) w)
within_fits (own_back q f u e g) w =
    keeps_numbers (length g.earlier) (nodes_in_all g.earlier) (nodes_inside e) 0 (numbers_of g.start g.earlier (rule_read f (some (finished_list q)) u e g) (nodes_inside e) 0 refl (omega arith) w)
within_fits (complete r g) w =
    keeps_numbers (length g.earlier) (nodes_in_all g.earlier) (nodes_inside r.inside) 0 (numbers_of g.start g.earlier r (nodes_inside r.inside) 0 refl (omega arith) w)

-- the program that is being read
abbrev pub ListKept : Progress → Type 0
ListKept beginning = Unit {0}
ListKept (first_word n) = Unit {0}
ListKept (named g) = Unit {0}
ListKept (defined g) = Unit {0}
ListKept (own_front q g) = ProgramWithin (finished_list q)
ListKept (wants_tag f g) = Unit {0}
ListKept (tagged f u g) = Unit {0}
ListKept (within x f u g) = ListKeptIn x
ListKept (closed f u e g) = Unit {0}
ListKept (own_back q f u e g) = ProgramWithin (finished_list q)
ListKept (complete r g) = Unit {0}

pub within_list : (s : Progress) → WithinLimits (finished_rules s) → ListKept s
within_list beginning w = tt
within_list (first_word n) w = tt
within_list (named g) w = tt
within_list (defined g) w = tt
within_list (own_front q g) w = (was_last g.earlier (plain_rule (some (finished_list q)) g) w.each).own.0
within_list (wants_tag f g) w = tt
within_list (tagged f u g) w = tt
within_list (within x f u g) w = list_kept x (was_last g.earlier (rule_read f none u (finished_content x) g) w.each).inside.programs
within_list (closed f u e g) w = tt
within_list (own_back q f u e g) w = (was_last g.earlier (rule_read f (some (finished_list q)) u e g) w.each).own.1
within_list (complete r g) w = tt
