-- The outline of a condition that is being read, and how it goes on by the kind of the next token. Assumes nothing.
use Rattle.std.specs.Prelude.{Bool, true, false, cond, List, [], ◌∷◌, ℕ, suc, ltb, length}
use Rattle.std.proofs.Math.Option.{Option, none, some}
use Rattle.programs.specs.Program.{Condition}
use Rattle.programs.specs.Limits.{Visit}
use Rattle.notation.specs.Statements.{parentheses}
use Rattle.notation.specs.Tokens.{AND, OR, NOT, OPEN, CLOSE, EQUALS}
use Rattle.reading.specs.Conditions.{ConditionLevel, Reading, wants, compares, wants_other, after}
use Rattle.outlines.specs.Extents.{Extent, condition_extent, comparison, paired, behind_nots}
use Rattle.outlines.specs.Kinds.{is_word, is_sign, is_operand}

-- what stands to the left within one pair of parentheses: of an or, of an and behind that, and how many nots behind that
pub record Margin : Type 0 where
  pub or_left : Option Extent
  pub and_left : Option Extent
  pub nots : ℕ

abbrev pub margin : Option Extent → Option Extent → ℕ → Margin
margin o a k = record { or_left = o; and_left = a; nots = k }

abbrev pub blank_margin : Margin
blank_margin = margin none none 0

abbrev pub paired_with : Option Extent → Extent → Extent
paired_with none d = d
paired_with (some c) d = paired c d

-- up to an and, with a single condition put behind the margin; and the whole
abbrev pub up_to_and : Margin → Extent → Extent
up_to_and m c = paired_with m.and_left (behind_nots m.nots c)

abbrev pub whole_of : Margin → Extent → Extent
whole_of m c = paired_with m.or_left (up_to_and m c)

-- innermost first
abbrev pub with_margins : List Margin → Extent → Extent
with_margins [] c = c
with_margins (m ∷ ms) c = with_margins ms (whole_of m c)

pub data Wanted : Type 0 where
  a_single an_equals an_operand : Wanted

pub data ConditionOutline : Type 0 where
  wanting : Wanted → List Margin → ConditionOutline  -- the first margin is that of the place
  behind : Extent → Option Extent → List Margin → ConditionOutline  -- read up to an and, with what stands left of an or

-- of the machine's states
abbrev pub extent_if : Option Condition → Option Extent
extent_if none = none
extent_if (some c) = some (condition_extent c)

abbrev pub margin_of : ConditionLevel → Margin
margin_of l = margin (extent_if l.or_left) (extent_if l.and_left) l.nots

abbrev pub margins_of : List ConditionLevel → List Margin
margins_of [] = []
margins_of (l ∷ ls) = margin_of l ∷ margins_of ls

abbrev pub condition_outline : Reading → ConditionOutline
condition_outline (wants l ls) = wanting a_single (margin_of l ∷ margins_of ls)
condition_outline (compares x l ls) = wanting an_equals (margin_of l ∷ margins_of ls)
condition_outline (wants_other x l ls) = wanting an_operand (margin_of l ∷ margins_of ls)
condition_outline (after d o ls) = behind (condition_extent d) (extent_if o) (margins_of ls)

-- a single condition is read
abbrev pub got_at : List Margin → Extent → Option ConditionOutline
got_at [] c = none
got_at (m ∷ ms) c = some (behind (up_to_and m c) m.or_left ms)

abbrev pub not_at : List Margin → Option ConditionOutline
not_at [] = none
not_at (m ∷ ms) = some (wanting a_single (margin m.or_left m.and_left (suc m.nots) ∷ ms))

abbrev pub open_at : List Margin → Option ConditionOutline
open_at [] = none
open_at (m ∷ ms) = cond (ltb (length ms) parentheses) (some (wanting a_single (blank_margin ∷ m ∷ ms))) none

abbrev pub step_wanting : Visit → Wanted → List Margin → ℕ → Option ConditionOutline
step_wanting v a_single ms k =
    cond (is_operand v k) (some (wanting an_equals ms))
    (cond (is_word NOT k) (not_at ms)
    (cond (is_sign OPEN k) (open_at ms) none))
step_wanting v an_equals ms k = cond (is_sign EQUALS k) (some (wanting an_operand ms)) none
step_wanting v an_operand ms k = cond (is_operand v k) (got_at ms comparison) none

abbrev pub step_behind : Extent → Option Extent → List Margin → ℕ → Option ConditionOutline
step_behind d o ms k =
    cond (is_word AND k) (some (wanting a_single (margin o (some d) 0 ∷ ms)))
    (cond (is_word OR k) (some (wanting a_single (margin (some (paired_with o d)) none 0 ∷ ms)))
    (cond (is_sign CLOSE k) (got_at ms (paired_with o d)) none))

abbrev pub step_condition_outline : Visit → ConditionOutline → ℕ → Option ConditionOutline
step_condition_outline v (wanting w ms) k = step_wanting v w ms k
step_condition_outline v (behind d o ms) k = step_behind d o ms k

-- the condition, where it may end here
abbrev pub read_condition : ConditionOutline → Option Extent
read_condition (wanting w ms) = none
read_condition (behind d o []) = some (paired_with o d)
read_condition (behind d o (m ∷ ms)) = none

-- of the shortest continuation
abbrev pub finished_condition : ConditionOutline → Extent
finished_condition (wanting w ms) = with_margins ms comparison
finished_condition (behind d o ms) = with_margins ms (paired_with o d)
