-- The shortest continuation of a condition only grows, in bytes and in nesting. Assumes nothing.
use mathlib.Core.Path.{◌≡◌, refl}
use mathlib.Core.Bool.{Bool, true, false}
use mathlib.Core.Option.{Option, none, some}
use mathlib.Core.List.{List, [], ◌∷◌, ◌++◌}
use Prim.Native.Nat.{ℕ, zero, suc, ◌+◌, ◌≤◌, ◌<◌, max}
use native.Mathlib.Omega.{arith}
use lib.Dec.{ltb}
use lib.ListN.{length, length-append}
use Rattle.programs.specs.Program.{Operand, constant, current, recalled, operand_bytes, Condition, equal, negated, both, either, condition_bytes}
use Rattle.programs.specs.Limits.{condition_nesting}
use Rattle.reading.specs.Conditions.{ConditionPart, operand, a_not, an_and, an_or, an_open, a_close, an_equals, other, ConditionLevel, condition_level, fresh_condition, disjoined, conjoined, negated_by, up_to_and, whole_condition, around_condition, Reading, wants, compares, wants_other, after, got, condition_opened, condition_closed, step_part, finished_of}

-- no more bytes, and nested no deeper
pub record Under (c d : Condition) : Type 0 where
  pub bytes : length (condition_bytes c) ≤ length (condition_bytes d)
  pub deep : condition_nesting c ≤ condition_nesting d

pub under_refl : (c : Condition) → Under c c
under_refl c = record { bytes = omega arith; deep = omega arith }

operand_size : (x : Operand) → length (operand_bytes x) ≡ 2
operand_size (constant v) = refl
operand_size (current a) = refl
operand_size (recalled a) = refl

pub equal_size : (x y : Operand) → length (condition_bytes (equal x y)) ≡ 5
equal_size x y = simp length-append (omega (arith, operand_size x, operand_size y))

equal_under : (x y x' y' : Operand) → Under (equal x y) (equal x' y')
equal_under x y x' y' = record { bytes = omega (arith, equal_size x y, equal_size x' y'); deep = omega arith }

not_under : {c d : Condition} → Under c d → Under (negated c) (negated d)
not_under h = record { bytes = omega arith; deep = omega arith }

in_not : (c : Condition) → Under c (negated c)
in_not c = record { bytes = omega arith; deep = omega arith }

right_of_both : (e : Condition) {c d : Condition} → Under c d → Under (both e c) (both e d)
right_of_both e h = record { bytes = simp length-append (omega arith); deep = omega arith }

right_of_either : (e : Condition) {c d : Condition} → Under c d → Under (either e c) (either e d)
right_of_either e h = record { bytes = simp length-append (omega arith); deep = omega arith }

left_of_both : (c d : Condition) → Under c (both c d)
left_of_both c d = record { bytes = simp length-append (omega arith); deep = omega arith }

left_of_either : (c d : Condition) → Under c (either c d)
left_of_either c d = record { bytes = simp length-append (omega arith); deep = omega arith }

nots_under : (k : ℕ) {c d : Condition} → Under c d → Under (negated_by k c) (negated_by k d)
nots_under zero h = h
nots_under (suc k) h = nots_under k (not_under h)

and_under : (a : Option Condition) {c d : Condition} → Under c d → Under (conjoined a c) (conjoined a d)
and_under none h = h
and_under (some e) h = right_of_both e h

or_under : (o : Option Condition) {c d : Condition} → Under c d → Under (disjoined o c) (disjoined o d)
or_under none h = h
or_under (some e) h = right_of_either e h

whole_under : (l : ConditionLevel) {c d : Condition} → Under c d → Under (whole_condition l c) (whole_condition l d)
whole_under l h = or_under l.or_left (and_under l.and_left (nots_under l.nots h))

around_under : (ls : List ConditionLevel) {c d : Condition} → Under c d → Under (around_condition ls c) (around_condition ls d)
around_under [] h = h
around_under (l ∷ ls) h = around_under ls (whole_under l h)

abbrev pub Grown : Reading → Option Reading → Type 0
Grown s none = Unit {0}
Grown s (some s') = Under (finished_of s) (finished_of s')

open_grows : (b : Bool) (l : ConditionLevel) (ls : List ConditionLevel) → Grown (wants l ls) (condition_opened b l ls)
open_grows true l ls = under_refl (around_condition (l ∷ ls) (equal (constant 0) (constant 0)))
open_grows false l ls = tt

close_grows : (d : Condition) (o : Option Condition) (ls : List ConditionLevel) → Grown (after d o ls) (condition_closed ls (disjoined o d))
close_grows d o [] = tt
close_grows d o (l ∷ ls) = under_refl (around_condition (l ∷ ls) (disjoined o d))

pub part_grows : (p : ℕ) (s : Reading) (k : ConditionPart) → Grown s (step_part p s k)
part_grows p (wants l ls) (operand x) = around_under (l ∷ ls) (equal_under (constant 0) (constant 0) x (constant 0))
part_grows p (wants l ls) a_not = around_under ls (or_under l.or_left (and_under l.and_left (nots_under l.nots (in_not (equal (constant 0) (constant 0))))))
part_grows p (wants l ls) an_and = tt
part_grows p (wants l ls) an_or = tt
part_grows p (wants l ls) an_open = open_grows (ltb (length ls) p) l ls
part_grows p (wants l ls) a_close = tt
part_grows p (wants l ls) an_equals = tt
part_grows p (wants l ls) other = tt
part_grows p (compares x l ls) (operand y) = tt
part_grows p (compares x l ls) a_not = tt
part_grows p (compares x l ls) an_and = tt
part_grows p (compares x l ls) an_or = tt
part_grows p (compares x l ls) an_open = tt
part_grows p (compares x l ls) a_close = tt
part_grows p (compares x l ls) an_equals = under_refl (around_condition (l ∷ ls) (equal x (constant 0)))
part_grows p (compares x l ls) other = tt
part_grows p (wants_other x l ls) (operand y) = around_under (l ∷ ls) (equal_under x (constant 0) x y)
part_grows p (wants_other x l ls) a_not = tt
part_grows p (wants_other x l ls) an_and = tt
part_grows p (wants_other x l ls) an_or = tt
part_grows p (wants_other x l ls) an_open = tt
part_grows p (wants_other x l ls) a_close = tt
part_grows p (wants_other x l ls) an_equals = tt
part_grows p (wants_other x l ls) other = tt
part_grows p (after d o ls) (operand y) = tt
part_grows p (after d o ls) a_not = tt
part_grows p (after d o ls) an_and = around_under ls (or_under o (left_of_both d (equal (constant 0) (constant 0))))
part_grows p (after d o ls) an_or = around_under ls (left_of_either (disjoined o d) (equal (constant 0) (constant 0)))
part_grows p (after d o ls) an_open = tt
part_grows p (after d o ls) a_close = close_grows d o ls
part_grows p (after d o ls) an_equals = tt
part_grows p (after d o ls) other = tt
