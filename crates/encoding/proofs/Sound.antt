-- What the grammar gives of programs, trees and productions: attributes, values, names, strings and visits as they must be. Assumes nothing.
use mathlib.Core.Path.{◌≡◌, refl, sym, subst}
use mathlib.Core.Bool.{Bool, true, false, ◌&&◌}
use mathlib.Core.List.{List, [], ◌∷◌, ◌++◌}
use mathlib.Core.Option.{Option, none, some}
use Prim.Native.Nat.{ℕ, ◌≤◌, ◌<◌}
use native.Mathlib.Omega.{arith}
use lib.ListN.{length}
use Rattle.text.specs.Characters.{WholeCharacters, utf8s}
use Rattle.expressions.specs.Expr.{Atom, nonterminal, anychar}
use Rattle.expressions.specs.Grammar.{nonterminals}
use Rattle.programs.specs.Program.{Operand, constant, current, recalled, Condition, equal, negated, both, either}
use Rattle.programs.specs.Limits.{Attribute, Value, OperandFits, ConditionFits, Visit, first, second, is_first, is_second, operand_allowed, condition_allowed}
use Rattle.notation.specs.Program.{TextStatement, become, copy, recall, reject, print_start, print_end, print_text, echo, branch, TextProgram, done, step, ◌then◌}
use Rattle.notation.specs.Rules.{TextVisits, Tree, node, Form, atom, cat, alt, star, TextRule, Rules}
use Rattle.notation.specs.Tokens.{TextToken, TagName, StringOf}
use Rattle.notation.specs.Conditions.{CurrentIs, of_either, of_first, of_second, OperandIs, a_value, a_current, a_recalled, ConditionIs, no_or, or, BothIs, no_and, and, SingleIs, compared, not, parenthesised}
use Rattle.notation.specs.Statements.{only, assigned, ItemIs, a_start, an_end, both_tags, a_text, ItemsAre, StatementIs, echo_on, echo_off, rejects, prints, assigns, if_then, if_else, BranchIs, bare, block, ListIs, empty, SomeAre, BracesAre, absent, braces}
use Rattle.notation.specs.Expressions.{AtMostOne, inner, outer, UnionIs, no_bar, bar, CatIs, no_dot, dot, StarredIs, no_star, stars, PrimaryIs, a_nonterminal, a_character, an_empty, InsideIs, inside}
use Rattle.encoding.specs.Sound.{SoundStatement, Sound, SoundIf, SoundTree, SoundContent, SoundRule, AllSound, SoundRules}
use Rattle.notation.specs.Productions.{ContentIs, nothing, something, RuleIs, production, ProductionsAre, one, more, RulesAre, start_alone, start_first}

pub and_true : (a b : Bool) → a ≡ true → b ≡ true → a && b ≡ true
and_true true b p q = q
and_true false b p q = p

then_sound : (v : Visit) (p q : TextProgram) → Sound v p → Sound v q → Sound v (p then q)
then_sound v done q h k = k
then_sound v (step t p) q h k = (h.0, then_sound v p q h.1 k)

current_sound : {a : ℕ} {v : Visit} {t : TextToken} → CurrentIs a v t → Attribute a
current_sound (of_either h) = h
current_sound (of_first h) = h
current_sound (of_second h) = h

operand_sound : {v : Visit} {t : TextToken} {x : Operand} → OperandIs v t x → OperandFits x × (operand_allowed v x ≡ true)
operand_sound (a_value h) = (h, refl)
operand_sound (a_current c) = (current_sound c, refl)
operand_sound (a_recalled h) = (h, refl)

assign_sound : (v : Visit) (a : ℕ) (x : Operand) → Attribute a → OperandFits x → operand_allowed v x ≡ true → SoundStatement v (assigned a x)
assign_sound v a (constant n) h k e = (h, k)
assign_sound v a (current b) h k e = (h, k)
assign_sound v a (recalled b) h k e = ((h, k), e)

module _ (v : Visit) where
  mutual
    condition_sound : {p : ℕ} {ts : List TextToken} {c : Condition} → ConditionIs v p ts c → ConditionFits c × (condition_allowed v c ≡ true)
    condition_sound (no_or b) = both_sound b
    condition_sound (or {c = c} {d = d} x y e) = let a = condition_sound x in let b = both_sound y in ((a.0, b.0), and_true (condition_allowed v c) (condition_allowed v d) a.1 b.1)

    both_sound : {p : ℕ} {ts : List TextToken} {c : Condition} → BothIs v p ts c → ConditionFits c × (condition_allowed v c ≡ true)
    both_sound (no_and s) = single_sound s
    both_sound (and {c = c} {d = d} x y e) = let a = both_sound x in let b = single_sound y in ((a.0, b.0), and_true (condition_allowed v c) (condition_allowed v d) a.1 b.1)

    single_sound : {p : ℕ} {ts : List TextToken} {c : Condition} → SingleIs v p ts c → ConditionFits c × (condition_allowed v c ≡ true)
    single_sound (compared {x = x} {y = y} o q) = let a = operand_sound o in let b = operand_sound q in ((a.0, b.0), and_true (operand_allowed v x) (operand_allowed v y) a.1 b.1)
    single_sound (not s) = single_sound s
    single_sound (SingleIs.parenthesised c e) = condition_sound c

  item_sound : {t : TextToken} {p : TextProgram} → ItemIs t p → Sound v p
  item_sound (a_start h) = (h, tt)
  item_sound (an_end h) = (h, tt)
  item_sound (both_tags h) = (h, (h, tt))
  item_sound (a_text {cs = cs} h) = ((record { characters = cs; are_chars = h.characters; spelled = refl }, h.short), tt)

  items_sound : {ts : List TextToken} {p : TextProgram} → ItemsAre ts p → Sound v p
  items_sound (ItemsAre.one i) = item_sound i
  items_sound (ItemsAre.more {p = p} {q = q} i is) = then_sound v p q (item_sound i) (items_sound is)

  mutual
    statement_sound : {b : Bool} {ts : List TextToken} {p : TextProgram} → StatementIs v b ts p → Sound v p
    statement_sound (echo_on h) = (h, tt)
    statement_sound (echo_off h) = (h, tt)
    statement_sound rejects = (tt, tt)
    statement_sound (prints is) = items_sound is
    statement_sound (assigns {a = a} {x = x} c o e) = let k = operand_sound o in subst (Sound v) (sym e) (assign_sound v a x (current_sound c) k.0 k.1, tt)
    statement_sound (if_then c b e) = ((condition_sound c, (branch_sound b, tt)), tt)
    statement_sound (if_else c b d e) = ((condition_sound c, (branch_sound b, branch_sound d)), tt)

    branch_sound : {b : Bool} {ts : List TextToken} {p : TextProgram} → BranchIs v b ts p → Sound v p
    branch_sound (bare s) = statement_sound s
    branch_sound (block l e) = list_sound l

    list_sound : {ts : List TextToken} {p : TextProgram} → ListIs v ts p → Sound v p
    list_sound empty = tt
    list_sound (ListIs.some s) = some_sound s

    some_sound : {ts : List TextToken} {p : TextProgram} → SomeAre v ts p → Sound v p
    some_sound (SomeAre.one s) = statement_sound s
    some_sound (SomeAre.more {p = p} {q = q} s l e f) = subst (Sound v) (sym f) (then_sound v p q (statement_sound s) (some_sound l))

  braces_sound : {ts : List TextToken} {o : Option TextProgram} → BracesAre v ts o → SoundIf v o
  braces_sound absent = tt
  braces_sound (braces l) = list_sound l

one_sound : (v : Visit) {a b c : Option TextProgram} → AtMostOne a b c → SoundIf v a → SoundIf v b → SoundIf v c
one_sound v inner h k = k
one_sound v outer h k = h

mutual
  union_sound : {p : ℕ} {ts : List TextToken} {e : Tree} → UnionIs p ts e → SoundTree e
  union_sound (no_bar c) = cat_sound c
  union_sound (bar u c e) = (tt, (tt, (union_sound u, cat_sound c)))

  cat_sound : {p : ℕ} {ts : List TextToken} {e : Tree} → CatIs p ts e → SoundTree e
  cat_sound (no_dot s) = starred_sound s
  cat_sound (dot c s e) = (tt, (tt, (cat_sound c, starred_sound s)))

  starred_sound : {p : ℕ} {ts : List TextToken} {e : Tree} → StarredIs p ts e → SoundTree e
  starred_sound (no_star q) = primary_sound q
  starred_sound (stars s e) = (tt, (tt, starred_sound s))

  primary_sound : {p : ℕ} {ts : List TextToken} {e : Tree} → PrimaryIs p ts e → SoundTree e
  primary_sound (a_nonterminal h) = (tt, (tt, h))
  primary_sound a_character = (tt, (tt, tt))
  primary_sound an_empty = (tt, (tt, tt))
  primary_sound (PrimaryIs.parenthesised i e) = inside_sound i

  inside_sound : {p : ℕ} {ts : List TextToken} {e : Tree} → InsideIs p ts e → SoundTree e
  inside_sound (inside b u a x y e) = let t = union_sound u in (one_sound first x (braces_sound first b) t.0, (one_sound second y (braces_sound second a) t.1.0, t.1.1))

content_sound : {ts : List TextToken} {e : Option Tree} → ContentIs ts e → SoundContent e
content_sound nothing = tt
content_sound (something i) = inside_sound i

production_sound : {ts : List TextToken} {r : TextRule} → RuleIs ts r → SoundRule r
production_sound (production i b t c a) = record { numbered = i; named = t; before = braces_sound first b; after = braces_sound second a; content = content_sound c }

productions_sound : {ts : List TextToken} {rs : List TextRule} → ProductionsAre ts rs → AllSound rs
productions_sound (one p) = (production_sound p, tt)
productions_sound (more p ps) = (production_sound p, productions_sound ps)

pub rules_sound : {ts : List TextToken} {r : Rules} → RulesAre ts r → (r.start < nonterminals) × AllSound r.productions
rules_sound (start_alone i ps) = (i, productions_sound ps)
rules_sound (start_first ps) = let s = productions_sound ps in (s.0.numbered, s)

one_production : {ts : List TextToken} {rs : List TextRule} → ProductionsAre ts rs → 1 ≤ length rs
one_production (one p) = omega arith
one_production (more p ps) = omega arith

some_production : {ts : List TextToken} {r : Rules} → RulesAre ts r → 1 ≤ length r.productions
some_production (start_alone i ps) = one_production ps
some_production (start_first ps) = omega arith

pub sound : {ts : List TextToken} {r : Rules} → RulesAre ts r → SoundRules r
sound g = let s = rules_sound g in record { its_start = s.0; some_productions = some_production g; each = s.1 }
