-- The shortest continuation of a list of statements only grows, in bytes and in nesting. Assumes nothing.
use mathlib.Core.Path.{◌≡◌, refl, sym, ◌∙◌, ap, subst}
use mathlib.Core.Bool.{Bool, true, false}
use mathlib.Core.Option.{Option, none, some}
use mathlib.Core.List.{List, [], ◌∷◌, ◌++◌}
use Prim.Native.Nat.{ℕ, zero, suc, ◌+◌, ◌≤◌, max}
use native.Mathlib.Omega.{arith}
use lib.ListN.{length, length-append}
use Rattle.programs.specs.Program.{Operand, constant, current, recalled, Condition, equal, condition_bytes, statement_bytes, program_bytes}
use Rattle.programs.specs.Limits.{condition_nesting, statement_nesting, nesting, Visit}
use Rattle.notation.specs.Program.{TextStatement, become, copy, recall, reject, print_start, print_end, print_text, echo, branch, TextProgram, done, step, ◌then◌, statement_in, program_in}
use Rattle.notation.specs.Limits.{size_of, nesting_of}
use Rattle.notation.specs.Statements.{parentheses, only, assigned, ItemIs, a_start, both_tags, a_text}
use Rattle.notation.specs.Tokens.{TextToken}
use Rattle.reading.specs.Conditions.{ConditionPart, operand, a_not, an_and, an_or, an_open, a_close, an_equals, other, Reading, part_of, step_condition, value_of_condition, finished_of}
use Rattle.reading.specs.Statements.{Start, simply, a_target, a_print, an_if, a_begin, no_start, start_of, Behind, an_item, a_semicolon, an_else, a_then, an_assign, nothing, behind_of, Pending, in_then, in_else, ended_branch, ended_all, otherwise, ListLevel, list_level, listed, around_list, Place, opening, separated, branching, Listing, wants, target, assigning, printing, testing, after, unblocked, blocked, emptied, started_list, elsed, one_more, followed, printed, targeted, assigned_by, thenned, tested, step_statements, shortest_list, finished_list}
use Rattle.reading.proofs.ConditionSize.{Under as ConditionUnder, Grown as ConditionGrown, part_grows as condition_part_grows}
use Rattle.reading.proofs.Conditions.{finished_value}
use Rattle.reading.proofs.StatementHeld.{NextIs, next_is}

-- no more bytes, and nested no deeper
pub record Under (p q : TextProgram) : Type 0 where
  pub bytes : size_of p ≤ size_of q
  pub deep : nesting_of p ≤ nesting_of q

pub under_refl : (p : TextProgram) → Under p p
under_refl p = record { bytes = omega arith; deep = omega arith }

under_same : {p q : TextProgram} → p ≡ q → Under p q
under_same {p} {q} e = subst (Under p) e (under_refl p)

pub then_size : (p q : TextProgram) → suc (size_of (p then q)) ≡ size_of p + size_of q
then_size done q = omega arith
then_size (step t p) q = simp length-append (omega (arith, then_size p q))

pub then_nesting : (p q : TextProgram) → nesting_of (p then q) ≡ max (nesting_of p) (nesting_of q)
then_nesting done q = omega arith
then_nesting (step t p) q = omega (arith, then_nesting p q)

pub at_least_one : (p : TextProgram) → 1 ≤ size_of p
at_least_one done = omega arith
at_least_one (step t p) = simp length-append (omega (arith, at_least_one p))

then_under : (r : TextProgram) {p q : TextProgram} → Under p q → Under (r then p) (r then q)
then_under r {p} {q} h = record { bytes = omega (arith, then_size r p, then_size r q); deep = omega (arith, then_nesting r p, then_nesting r q) }

left_of_then : (p q : TextProgram) → Under p (p then q)
left_of_then p q = record { bytes = omega (arith, then_size p q, at_least_one q); deep = omega (arith, then_nesting p q) }

if_under : (f : Pending) {p q : TextProgram} → Under p q → Under (ended_branch f p) (ended_branch f q)
if_under (in_then c) h = record { bytes = simp length-append (omega arith); deep = omega arith }
if_under (in_else c r) h = record { bytes = simp length-append (omega arith); deep = omega arith }

ifs_under : (fs : List Pending) {p q : TextProgram} → Under p q → Under (ended_all fs p) (ended_all fs q)
ifs_under [] h = h
ifs_under (f ∷ fs) h = ifs_under fs (if_under f h)

around_under : (ls : List ListLevel) {p q : TextProgram} → Under p q → Under (around_list ls p) (around_list ls q)
around_under [] h = h
around_under (l ∷ ls) h = around_under ls (then_under l.before (ifs_under l.ifs h))

nothing_under : (p : TextProgram) → Under done p
nothing_under p = record { bytes = at_least_one p; deep = omega arith }

reject_under : (p : TextProgram) → 2 ≤ size_of p → Under (only reject) p
reject_under p h = record { bytes = h; deep = omega arith }

test_under : {c d : Condition} → ConditionUnder c d → Under (only (branch c done done)) (only (branch d done done))
test_under h = record { bytes = simp length-append (omega arith); deep = omega arith }

statement_size : (t : TextStatement) → 2 ≤ size_of (only t)
statement_size (become a v) = omega arith
statement_size (copy a b) = omega arith
statement_size (recall a b) = omega arith
statement_size reject = omega arith
statement_size (print_start n) = omega arith
statement_size (print_end n) = omega arith
statement_size (print_text s) = omega arith
statement_size (echo on) = omega arith
statement_size (branch c l m) = simp length-append (omega arith)

assign_under : (a : ℕ) (x : Operand) → Under (only (become a 0)) (only (assigned a x))
assign_under a (constant v) = record { bytes = omega arith; deep = omega arith }
assign_under a (current b) = record { bytes = omega arith; deep = omega arith }
assign_under a (recalled b) = record { bytes = omega arith; deep = omega arith }

item_under : {t : TextToken} {p : TextProgram} → ItemIs t p → Under (only (print_start (97 ∷ []))) p
item_under (a_start h) = record { bytes = omega arith; deep = omega arith }
item_under (ItemIs.an_end h) = record { bytes = omega arith; deep = omega arith }
item_under (both_tags h) = record { bytes = omega arith; deep = omega arith }
item_under (a_text h) = record { bytes = omega arith; deep = omega arith }

abbrev pub Grown : Listing → Option Listing → Type 0
Grown s none = Unit {0}
Grown s (some s') = Under (finished_list s) (finished_list s')

place_grows : (w : Place) (l : ListLevel) (ls : List ListLevel) (p : TextProgram) → 2 ≤ size_of p → Under (shortest_list w l ls) (around_list (l ∷ ls) p)
place_grows opening l ls p h = around_under ls (nothing_under (listed l p))
place_grows separated l ls p h = around_under (l ∷ ls) (reject_under p h)
place_grows branching l ls p h = around_under (l ∷ ls) (nothing_under p)

begin_grows : (w : Place) (l : ListLevel) (ls : List ListLevel) → Grown (wants w l ls) (blocked w l ls)
begin_grows opening l ls = tt
begin_grows separated l ls = tt
begin_grows branching l ls = under_refl (around_list (l ∷ ls) done)

unblock_grows : (s : Listing) (ls : List ListLevel) (p : TextProgram) → finished_list s ≡ around_list ls p → Grown s (unblocked ls p)
unblock_grows s [] p e = tt
unblock_grows s (l ∷ ls) p e = under_same e

end_grows : (w : Place) (l : ListLevel) (ls : List ListLevel) → Grown (wants w l ls) (emptied w l ls)
end_grows opening l ls = unblock_grows (wants opening l ls) ls done refl
end_grows separated l ls = tt
end_grows branching l ls = tt

start_grows : (w : Place) (l : ListLevel) (ls : List ListLevel) (k : Start) → Grown (wants w l ls) (started_list w l ls k)
start_grows w l ls (simply t) = place_grows w l ls (only t) (statement_size t)
start_grows w l ls (a_target a) = place_grows w l ls (only (become a 0)) (statement_size (become a 0))
start_grows w l ls a_print = place_grows w l ls (only (print_start (97 ∷ []))) (statement_size (print_start (97 ∷ [])))
start_grows w l ls an_if = place_grows w l ls (only (branch (equal (constant 0) (constant 0)) done done)) (statement_size (branch (equal (constant 0) (constant 0)) done done))
start_grows w l ls a_begin = begin_grows w l ls
start_grows w l ls Start.an_end = end_grows w l ls
start_grows w l ls no_start = tt

otherwise_same : (fs gs : List Pending) (p : TextProgram) → otherwise fs p ≡ some gs → ended_all fs p ≡ ended_all gs done
otherwise_same [] gs p e = absurd (let z : ◌≡◌ {A = ℕ} 0 1 = cc in omega arith)
otherwise_same (in_then c ∷ fs) gs p e = let same : in_else c p ∷ fs ≡ gs = cc in ap (λ x. ended_all x done) same
otherwise_same (in_else c q ∷ fs) gs p e = otherwise_same fs gs (ended_branch (in_else c q) p) e

else_grows : (b : Bool) (p : TextProgram) (l : ListLevel) (ls : List ListLevel) (o : Option (List Pending)) → otherwise l.ifs p ≡ o → Grown (after b p l ls) (elsed l ls o)
else_grows b p l ls none e = tt
else_grows b p l ls (some fs) e = under_same (ap (λ x. around_list ls (l.before then x)) (otherwise_same l.ifs fs p e))

item_grows : (b : Bool) (p q : TextProgram) (l : ListLevel) (ls : List ListLevel) → Grown (after b p l ls) (one_more b p q l ls)
item_grows true p q l ls = around_under (l ∷ ls) (left_of_then p q)
item_grows false p q l ls = tt

follow_grows : (b : Bool) (p : TextProgram) (l : ListLevel) (ls : List ListLevel) (k : Behind) → Grown (after b p l ls) (followed b p l ls k)
follow_grows b p l ls (an_item q) = item_grows b p q l ls
follow_grows b p l ls a_semicolon = around_under ls (left_of_then (listed l p) (only reject))
follow_grows b p l ls an_else = else_grows b p l ls (otherwise l.ifs p) refl
follow_grows b p l ls Behind.an_end = unblock_grows (after b p l ls) ls (listed l p) refl
follow_grows b p l ls a_then = tt
follow_grows b p l ls an_assign = tt
follow_grows b p l ls nothing = tt

print_grows : (l : ListLevel) (ls : List ListLevel) (k : Behind) (t : TextToken) → NextIs t k → Grown (printing l ls) (printed l ls k)
print_grows l ls (an_item q) t i = around_under (l ∷ ls) (item_under i)
print_grows l ls a_semicolon t i = tt
print_grows l ls an_else t i = tt
print_grows l ls Behind.an_end t i = tt
print_grows l ls a_then t i = tt
print_grows l ls an_assign t i = tt
print_grows l ls nothing t i = tt

target_grows : (a : ℕ) (l : ListLevel) (ls : List ListLevel) (k : Behind) → Grown (target a l ls) (targeted a l ls k)
target_grows a l ls (an_item q) = tt
target_grows a l ls a_semicolon = tt
target_grows a l ls an_else = tt
target_grows a l ls Behind.an_end = tt
target_grows a l ls a_then = tt
target_grows a l ls an_assign = under_refl (around_list (l ∷ ls) (only (become a 0)))
target_grows a l ls nothing = tt

assign_grows : (a : ℕ) (l : ListLevel) (ls : List ListLevel) (k : ConditionPart) → Grown (assigning a l ls) (assigned_by a l ls k)
assign_grows a l ls (operand x) = around_under (l ∷ ls) (assign_under a x)
assign_grows a l ls a_not = tt
assign_grows a l ls an_and = tt
assign_grows a l ls an_or = tt
assign_grows a l ls an_open = tt
assign_grows a l ls a_close = tt
assign_grows a l ls an_equals = tt
assign_grows a l ls other = tt

then_grows : (r : Reading) (o : Option Condition) (l : ListLevel) (ls : List ListLevel) (k : Behind) → ((c : Condition) → o ≡ some c → finished_of r ≡ c) → Grown (testing r l ls) (thenned o l ls k)
then_grows r none l ls k h = tt
then_grows r (some c) l ls (an_item q) h = tt
then_grows r (some c) l ls a_semicolon h = tt
then_grows r (some c) l ls an_else h = tt
then_grows r (some c) l ls Behind.an_end h = tt
then_grows r (some c) l ls a_then h = under_same (ap (λ x. around_list (l ∷ ls) (only (branch x done done))) (h c refl))
then_grows r (some c) l ls an_assign h = tt
then_grows r (some c) l ls nothing h = tt

test_grows : (r : Reading) (q : Option Reading) (o : Option Condition) (l : ListLevel) (ls : List ListLevel) (k : Behind) → ConditionGrown r q → ((c : Condition) → o ≡ some c → finished_of r ≡ c)
    → Grown (testing r l ls) (tested q o l ls k)
test_grows r none o l ls k g h = then_grows r o l ls k h
test_grows r (some s) o l ls k g h = around_under (l ∷ ls) (test_under g)

pub step_grows : (v : Visit) (s : Listing) (t : TextToken) → Grown s (step_statements v s t)
step_grows v (wants w l ls) t = start_grows w l ls (start_of v t)
step_grows v (target a l ls) t = target_grows a l ls (behind_of t)
step_grows v (assigning a l ls) t = assign_grows a l ls (part_of v t)
step_grows v (printing l ls) t = print_grows l ls (behind_of t) t (next_is t)
step_grows v (testing r l ls) t = test_grows r (step_condition v parentheses r t) (value_of_condition r) l ls (behind_of t) (condition_part_grows parentheses r (part_of v t)) (finished_value r)
step_grows v (after b p l ls) t = follow_grows b p l ls (behind_of t)
