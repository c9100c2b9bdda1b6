-- Laws of outlines and scripts: one for each answer of the code. Assumes nothing.
use mathlib.Core.Path.{◌≡◌, refl, sym, ◌∙◌, ap, subst}
use mathlib.Core.Bool.{Bool, true, false, cond, ◌&&◌}
use mathlib.Core.Option.{Option, none, some}
use mathlib.Core.List.{List, [], ◌∷◌}
use Prim.Native.Nat.{ℕ, zero, suc, ◌+◌, ◌-◌, ◌≤◌, ◌<◌}
use native.Mathlib.Omega.{arith}
use lib.Dec.{eqb, eqb-suc-zero}
use lib.ListN.{length, get_or}
use borrow.Author.Tests.{eq-eqb, ne_eqb, lt-ltb, le-ltb}
use Rattle.programs.specs.Limits.{Visit}
use Rattle.notation.specs.Statements.{parentheses}
use Rattle.reading.specs.Statements as reading
use Rattle.outlines.specs.Extents as outlines
use Rattle.outlines.specs.Extents.{extent, comparison, vacant, unnested, in_turn, ExtentWithin}
use Rattle.outlines.specs.Kinds.{is_target, is_operand, is_plain, is_short_item, is_long_item}
use Rattle.outlines.specs.Conditions as conditions
use Rattle.outlines.specs.Conditions.{margin, blank_margin, paired_with, up_to_and, a_single, an_equals, an_operand, ConditionOutline, wanting, behind, got_at, not_at, open_at, step_wanting, step_behind, read_condition}
use Rattle.outlines.specs.Statements as statements
use Rattle.outlines.specs.Statements.{among, then_of, else_of_lem, wrapped, closed_list, else_of, at, at_assign, at_operand, at_item, in_condition, past, Outline, outlined, begun_at, ended_in, ended_at, step_at, elsed_at, step_past, step_item, then_at, step_tested, none_outside}
use Rattle.outlines.specs.Shape.{MarginUnder, MarginsUnder}
use Rattle.extents.specs.declared.Extent.{Extent}
use Rattle.extents.specs.declared.Margin.{Margin}
use Rattle.extents.specs.declared.Around.{Around}
use Rattle.extents.specs.Held.{ExtentIs, extent_of, side_of, margin_of, around_of, bare_around, bare_margin, layers_at, margins_at, most_margins}
use Rattle.extents.proofs.Stacks.{top}
use Rattle.extents.proofs.Parts.{extent_same}
use Rattle.scripts.specs.declared.Place.{Place}
use Rattle.scripts.specs.declared.Place.TheVariants.{Opening, Separated, Branching}
use Rattle.scripts.specs.Scripts.{reading_place, tested_of, separated_as, unblocked_as}

pub with_layers : (s : statements.Stage) {ls ls' : List statements.Layer} → ls ≡ ls' → ◌≡◌ {A = Option Outline} (some (outlined s ls)) (some (outlined s ls'))
with_layers s e = ap (λ x. some (outlined s x)) e

pub with_stage : (ls : List statements.Layer) {s s' : statements.Stage} → s ≡ s' → ◌≡◌ {A = Option Outline} (some (outlined s ls)) (some (outlined s' ls))
with_stage ls e = ap (λ x. some (outlined x ls)) e

-- lists that end
pub ended_none : (xs : List Around) (n : ℕ) (p : outlines.Extent) → n ≡ 0 → none ≡ ended_in (layers_at xs n) p
ended_none xs n p e = subst (λ x. none ≡ ended_in (layers_at xs x) p) (sym e) refl

pub ended_some : (xs : List Around) (n : ℕ) (p : outlines.Extent) → (n ≡ 0 → ⊥) → some (outlined (past false p) (layers_at xs n)) ≡ ended_in (layers_at xs n) p
ended_some xs zero p h = absurd (h refl)
ended_some xs (suc n) p h = refl

pub end_opening : (w : Place) (ls : List statements.Layer) (c : statements.Closed) → w ≡ Opening → closed_list ls vacant ≡ c → ended_in c.outside vacant ≡ ended_at (reading_place w) ls
end_opening w ls c e h = subst (λ x. ended_in c.outside vacant ≡ ended_at (reading_place x) ls) (sym e) (ap (λ x. ended_in x.outside vacant) (sym h))

pub end_separated : (w : Place) (ls : List statements.Layer) → w ≡ Separated → none ≡ ended_at (reading_place w) ls
end_separated w ls e = subst (λ x. none ≡ ended_at (reading_place x) ls) (sym e) refl

pub end_branching : (w : Place) (ls : List statements.Layer) → w ≡ Branching → none ≡ ended_at (reading_place w) ls
end_branching w ls e = subst (λ x. none ≡ ended_at (reading_place x) ls) (sym e) refl

pub begin_opening : (w : Place) (ls : List statements.Layer) → w ≡ Opening → none ≡ begun_at (reading_place w) ls
begin_opening w ls e = subst (λ x. none ≡ begun_at (reading_place x) ls) (sym e) refl

pub begin_separated : (w : Place) (ls : List statements.Layer) → w ≡ Separated → none ≡ begun_at (reading_place w) ls
begin_separated w ls e = subst (λ x. none ≡ begun_at (reading_place x) ls) (sym e) refl

pub begin_branching : (w : Place) (ls : List statements.Layer) → w ≡ Branching → some (outlined (at reading.opening) (among vacant ∷ ls)) ≡ begun_at (reading_place w) ls
begin_branching w ls e = subst (λ x. some (outlined (at reading.opening) (among vacant ∷ ls)) ≡ begun_at (reading_place x) ls) (sym e) refl

-- where a statement may begin
module _ (v : Visit) (w : reading.Place) (ls : List statements.Layer) (k : ℕ) where
  pub start_plain : is_plain v k ≡ true → some (outlined (past false (unnested 1)) ls) ≡ step_at v w ls k
  start_plain e = rw e

  pub start_target : is_plain v k ≡ false → is_target v k ≡ true → some (outlined at_assign ls) ≡ step_at v w ls k
  start_target e f = rw (e, f)

  pub start_print : is_plain v k ≡ false → is_target v k ≡ false → k ≡ 14 → some (outlined at_item ls) ≡ step_at v w ls k
  start_print e f g = rw (e, f, eq-eqb k 14 g)

  pub start_if_lem : is_plain v k ≡ false → is_target v k ≡ false → (k ≡ 14 → ⊥) → k ≡ 15 → some (outlined (in_condition (wanting a_single (blank_margin ∷ []))) ls) ≡ step_at v w ls k
  start_if_lem e f g h = rw (e, f, ne_eqb k 14 g, eq-eqb k 15 h)

  pub start_begin : is_plain v k ≡ false → is_target v k ≡ false → (k ≡ 14 → ⊥) → (k ≡ 15 → ⊥) → k ≡ 18 → begun_at w ls ≡ step_at v w ls k
  start_begin e f g h i = rw (e, f, ne_eqb k 14 g, ne_eqb k 15 h, eq-eqb k 18 i)

  pub start_end : is_plain v k ≡ false → is_target v k ≡ false → (k ≡ 14 → ⊥) → (k ≡ 15 → ⊥) → (k ≡ 18 → ⊥) → k ≡ 19 → ended_at w ls ≡ step_at v w ls k
  start_end e f g h i j = rw (e, f, ne_eqb k 14 g, ne_eqb k 15 h, ne_eqb k 18 i, eq-eqb k 19 j)

  pub start_none : is_plain v k ≡ false → is_target v k ≡ false → (k ≡ 14 → ⊥) → (k ≡ 15 → ⊥) → (k ≡ 18 → ⊥) → (k ≡ 19 → ⊥) → none ≡ step_at v w ls k
  start_none e f g h i j = rw (e, f, ne_eqb k 14 g, ne_eqb k 15 h, ne_eqb k 18 i, ne_eqb k 19 j)

-- where an item is wanted
module _ (ls : List statements.Layer) (k : ℕ) where
  pub item_short : is_short_item k ≡ true → some (outlined (past true (unnested 2)) ls) ≡ step_item ls k
  item_short e = rw e

  pub item_long : is_short_item k ≡ false → is_long_item k ≡ true → some (outlined (past true (unnested 4)) ls) ≡ step_item ls k
  item_long e f = rw (e, f)

  pub item_none : is_short_item k ≡ false → is_long_item k ≡ false → none ≡ step_item ls k
  item_none e f = rw (e, f)

-- behind a statement
module _ (b : Bool) (p : outlines.Extent) (c : statements.Closed) (ls : List statements.Layer) (k : ℕ) where
  pub past_short : (b && is_short_item k) ≡ true → some (outlined (past true (in_turn p (unnested 2))) ls) ≡ step_past b p c ls k
  past_short e = rw e

  pub past_long : (b && is_short_item k) ≡ false → (b && is_long_item k) ≡ true → some (outlined (past true (in_turn p (unnested 4))) ls) ≡ step_past b p c ls k
  past_long e f = rw (e, f)

  pub past_semicolon : (b && is_short_item k) ≡ false → (b && is_long_item k) ≡ false → k ≡ 32 → separated_as c ≡ step_past b p c ls k
  past_semicolon e f g = rw (e, f, eq-eqb k 32 g)

  pub past_else : (b && is_short_item k) ≡ false → (b && is_long_item k) ≡ false → (k ≡ 32 → ⊥) → k ≡ 17 → elsed_at (else_of ls p) ≡ step_past b p c ls k
  past_else e f g h = rw (e, f, ne_eqb k 32 g, eq-eqb k 17 h)

  pub past_end : (b && is_short_item k) ≡ false → (b && is_long_item k) ≡ false → (k ≡ 32 → ⊥) → (k ≡ 17 → ⊥) → k ≡ 19 → unblocked_as c ≡ step_past b p c ls k
  past_end e f g h i = rw (e, f, ne_eqb k 32 g, ne_eqb k 17 h, eq-eqb k 19 i)

  pub past_none : (b && is_short_item k) ≡ false → (b && is_long_item k) ≡ false → (k ≡ 32 → ⊥) → (k ≡ 17 → ⊥) → (k ≡ 19 → ⊥) → none ≡ step_past b p c ls k
  past_none e f g h i = rw (e, f, ne_eqb k 32 g, ne_eqb k 17 h, ne_eqb k 19 i)

-- one of two
pub taken_if : (b : Bool) (x : Option Outline) → b ≡ true → x ≡ cond b x none
taken_if b x e = rw e

pub none_if : (b : Bool) (x : Option Outline) → b ≡ false → none ≡ cond b x none
none_if b x e = rw e

-- in a condition
margin_cut : (xs : List Margin) (i : ℕ) → 0 < i → i ≤ length xs → margins_at xs i ≡ margin_of (get_or xs (i - 1) bare_margin) ∷ margins_at xs (i - 1)
margin_cut xs i h g = top margin_of bare_margin xs i bare_margin h g

pub margin_top : (xs : List Margin) (i : ℕ) → 0 < i → i ≤ length xs → MarginsUnder 1000 (margins_at xs i) → MarginUnder 1000 (margin_of (get_or xs (i - 1) bare_margin))
margin_top xs i h g m = (subst (MarginsUnder 1000) (margin_cut xs i h g) m).0

module _ (ls : List statements.Layer) (xs : List Margin) (i : ℕ) where
  pub no_got : (c : outlines.Extent) → i ≡ 0 → none ≡ tested_of ls (got_at (margins_at xs i) c)
  no_got c e = subst (λ x. none ≡ tested_of ls (got_at (margins_at xs x) c)) (sym e) refl

  pub got_some : (c e : Extent) → 0 < i → i ≤ length xs → ExtentIs e (up_to_and (margin_of (get_or xs (i - 1) bare_margin)) (extent_of c))
      → some (outlined (in_condition (behind (extent_of e) (side_of (get_or xs (i - 1) bare_margin).or_left) (margins_at xs (i - 1)))) ls) ≡ tested_of ls (got_at (margins_at xs i) (extent_of c))
  got_some c e h g q =
      ap (λ x. some (outlined (in_condition (behind x (side_of (get_or xs (i - 1) bare_margin).or_left) (margins_at xs (i - 1)))) ls)) (extent_same q)
      ∙ ap (λ ms. tested_of ls (got_at ms (extent_of c))) (sym (margin_cut xs i h g))

  pub no_not : i ≡ 0 → none ≡ tested_of ls (not_at (margins_at xs i))
  no_not e = subst (λ x. none ≡ tested_of ls (not_at (margins_at xs x))) (sym e) refl

  pub not_some : 0 < i → i ≤ length xs
      → some (outlined (in_condition (wanting a_single (margin (side_of (get_or xs (i - 1) bare_margin).or_left) (side_of (get_or xs (i - 1) bare_margin).and_left) ((get_or xs (i - 1) bare_margin).nots + 1) ∷ margins_at xs (i - 1)))) ls)
      ≡ tested_of ls (not_at (margins_at xs i))
  not_some h g =
      let m = get_or xs (i - 1) bare_margin in
      let e : m.nots + 1 ≡ suc m.nots = omega arith in
      ap (λ n. some (outlined (in_condition (wanting a_single (margin (side_of m.or_left) (side_of m.and_left) n ∷ margins_at xs (i - 1)))) ls)) e
      ∙ ap (λ ms. tested_of ls (not_at ms)) (sym (margin_cut xs i h g))

margins_long : (xs : List Margin) (n : ℕ) → length (margins_at xs n) ≡ n
margins_long xs zero = refl
margins_long xs (suc n) = ap suc (margins_long xs n)

module _ (ls : List statements.Layer) (xs : List Margin) where
  pub no_open : (i : ℕ) → i ≡ 0 → none ≡ tested_of ls (open_at (margins_at xs i))
  no_open i e = subst (λ x. none ≡ tested_of ls (open_at (margins_at xs x))) (sym e) refl

  pub full_open : (i : ℕ) → most_margins ≤ i → none ≡ tested_of ls (open_at (margins_at xs i))
  full_open zero h = absurd (omega arith)
  full_open (suc i) h = rw (le-ltb (length (margins_at xs i)) parentheses (omega (arith, margins_long xs i)))

  pub open_some : (i : ℕ) → (i ≡ 0 → ⊥) → i < most_margins → some (outlined (in_condition (wanting a_single (blank_margin ∷ margins_at xs i))) ls) ≡ tested_of ls (open_at (margins_at xs i))
  open_some zero h g = absurd (h refl)
  open_some (suc i) h g = rw (lt-ltb (length (margins_at xs i)) parentheses (omega (arith, margins_long xs i)))

module _ (v : Visit) (ls : List statements.Layer) (ms : List conditions.Margin) (k : ℕ) where
  pub single_operand : is_operand v k ≡ true → some (outlined (in_condition (wanting an_equals ms)) ls) ≡ tested_of ls (step_wanting v a_single ms k)
  single_operand e = rw e

  pub single_not : is_operand v k ≡ false → k ≡ 22 → tested_of ls (not_at ms) ≡ tested_of ls (step_wanting v a_single ms k)
  single_not e f = rw (e, eq-eqb k 22 f)

  pub single_open : is_operand v k ≡ false → (k ≡ 22 → ⊥) → k ≡ 25 → tested_of ls (open_at ms) ≡ tested_of ls (step_wanting v a_single ms k)
  single_open e f g = rw (e, ne_eqb k 22 f, eq-eqb k 25 g)

  pub single_none : is_operand v k ≡ false → (k ≡ 22 → ⊥) → (k ≡ 25 → ⊥) → none ≡ tested_of ls (step_wanting v a_single ms k)
  single_none e f g = rw (e, ne_eqb k 22 f, ne_eqb k 25 g)

  pub equals_sign : k ≡ 33 → some (outlined (in_condition (wanting an_operand ms)) ls) ≡ tested_of ls (step_wanting v an_equals ms k)
  equals_sign e = rw (eq-eqb k 33 e)

  pub equals_none : (k ≡ 33 → ⊥) → none ≡ tested_of ls (step_wanting v an_equals ms k)
  equals_none e = rw (ne_eqb k 33 e)

  pub other_operand : is_operand v k ≡ true → tested_of ls (got_at ms comparison) ≡ tested_of ls (step_wanting v an_operand ms k)
  other_operand e = rw e

  pub other_none : is_operand v k ≡ false → none ≡ tested_of ls (step_wanting v an_operand ms k)
  other_none e = rw e

-- a condition that does not end here
no_then_at : (c : Option outlines.Extent) (ls : List statements.Layer) (k : ℕ) → (k ≡ 16 → ⊥) → none ≡ then_at c ls k
no_then_at none ls k h = refl
no_then_at (some c) ls k h = rw (ne_eqb k 16 h)

not_then : (r : Option ConditionOutline) (c : Option outlines.Extent) (ls : List statements.Layer) (k : ℕ) → (k ≡ 16 → ⊥) → tested_of ls r ≡ step_tested r c ls k
not_then none c ls k h = no_then_at c ls k h
not_then (some r) c ls k h = refl

module _ (d : outlines.Extent) (o : Option outlines.Extent) (ms : List conditions.Margin) (ls : List statements.Layer) (k : ℕ) where
  pub behind_and : k ≡ 20 → some (outlined (in_condition (wanting a_single (margin o (some d) 0 ∷ ms))) ls) ≡ step_tested (step_behind d o ms k) (read_condition (behind d o ms)) ls k
  behind_and e = rw (eq-eqb k 20 e)

  pub behind_or : (k ≡ 20 → ⊥) → k ≡ 21 → some (outlined (in_condition (wanting a_single (margin (some (paired_with o d)) none 0 ∷ ms))) ls) ≡ step_tested (step_behind d o ms k) (read_condition (behind d o ms)) ls k
  behind_or e f = rw (ne_eqb k 20 e, eq-eqb k 21 f)

  pub behind_close : (k ≡ 20 → ⊥) → (k ≡ 21 → ⊥) → k ≡ 26 → tested_of ls (got_at ms (paired_with o d)) ≡ step_tested (step_behind d o ms k) (read_condition (behind d o ms)) ls k
  behind_close e f g = rw (ne_eqb k 20 e, ne_eqb k 21 f, eq-eqb k 26 g) (not_then (got_at ms (paired_with o d)) (read_condition (behind d o ms)) ls k (λ h. omega arith))

  none_behind : (k ≡ 20 → ⊥) → (k ≡ 21 → ⊥) → (k ≡ 26 → ⊥) → none ≡ step_behind d o ms k
  none_behind e f g = rw (ne_eqb k 20 e, ne_eqb k 21 f, ne_eqb k 26 g)

  pub behind_none : (k ≡ 20 → ⊥) → (k ≡ 21 → ⊥) → (k ≡ 26 → ⊥) → (k ≡ 16 → ⊥) → none ≡ step_tested (step_behind d o ms k) (read_condition (behind d o ms)) ls k
  behind_none e f g h = no_then_at (read_condition (behind d o ms)) ls k h ∙ ap (λ r. step_tested r (read_condition (behind d o ms)) ls k) (none_behind e f g)

  pub behind_then : (k ≡ 20 → ⊥) → (k ≡ 21 → ⊥) → (k ≡ 26 → ⊥) → then_at (read_condition (behind d o ms)) ls k ≡ step_tested (step_behind d o ms k) (read_condition (behind d o ms)) ls k
  behind_then e f g = ap (λ r. step_tested r (read_condition (behind d o ms)) ls k) (none_behind e f g)

pub then_open : (d : outlines.Extent) (o : Option outlines.Extent) (xs : List Margin) (i : ℕ) (ls : List statements.Layer) (k : ℕ) → (i ≡ 0 → ⊥) → none ≡ then_at (read_condition (behind d o (margins_at xs i))) ls k
then_open d o xs zero ls k h = absurd (h refl)
then_open d o xs (suc i) ls k h = refl

pub then_closed : (d : outlines.Extent) (o : Option outlines.Extent) (xs : List Margin) (i : ℕ) (ls : List statements.Layer) (k : ℕ) → i ≡ 0 → k ≡ 16
    → some (outlined (at reading.branching) (then_of (paired_with o d) ∷ ls)) ≡ then_at (read_condition (behind d o (margins_at xs i))) ls k
then_closed d o xs zero ls k h e = rw (eq-eqb k 16 e)
then_closed d o xs (suc i) ls k h e = absurd (omega arith)

-- an else
layer_cut : (xs : List Around) (i : ℕ) → 0 < i → i ≤ length xs → layers_at xs i ≡ around_of (get_or xs (i - 1) bare_around) ∷ layers_at xs (i - 1)
layer_cut xs i h g = top around_of bare_around xs i bare_around h g

none_left : (xs : List Around) (i : ℕ) → i ≤ 0 → layers_at xs i ≡ []
none_left xs zero h = refl
none_left xs (suc i) h = absurd (omega arith)

module _ (xs : List Around) (i : ℕ) (e : outlines.Extent) (x : Option (List statements.Layer)) (same : else_of (layers_at xs i) e ≡ x) where
  pub else_over : i ≤ 0 → none ≡ elsed_at x
  else_over h = ap elsed_at (ap (λ ls. else_of ls e) (sym (none_left xs i h)) ∙ same)

  module _ (h : 0 < i) (g : i ≤ length xs) where
    at_top : (l : statements.Layer) → around_of (get_or xs (i - 1) bare_around) ≡ l → else_of (l ∷ layers_at xs (i - 1)) e ≡ x
    at_top l q = ap (λ y. else_of (y ∷ layers_at xs (i - 1)) e) (sym q) ∙ (ap (λ ls. else_of ls e) (sym (layer_cut xs i h g)) ∙ same)

    pub else_list : (b : outlines.Extent) → around_of (get_or xs (i - 1) bare_around) ≡ among b → none ≡ elsed_at x
    else_list b q = ap elsed_at (at_top (among b) q)

    pub else_found : (c : outlines.Extent) → around_of (get_or xs (i - 1) bare_around) ≡ then_of c → some (outlined (at reading.branching) (else_of_lem c e ∷ layers_at xs (i - 1))) ≡ elsed_at x
    else_found c q = ap elsed_at (at_top (then_of c) q)

    pub else_on : (c d r : outlines.Extent) → around_of (get_or xs (i - 1) bare_around) ≡ else_of_lem c d → r ≡ outlines.branching c d e → else_of (layers_at xs (i - 1)) r ≡ x
    else_on c d r q f = ap (else_of (layers_at xs (i - 1))) f ∙ at_top (else_of_lem c d) q

pub none_outside_lem : (xs : List Around) (n : ℕ) (c : statements.Closed) (w : outlines.Extent) → c ≡ record { whole = w; outside = layers_at xs n } → eqb n 0 ≡ none_outside c.outside
none_outside_lem xs n c w e = count xs n ∙ ap (λ x. none_outside x.outside) (sym e)
  where
    count : (ys : List Around) (m : ℕ) → eqb m 0 ≡ none_outside (layers_at ys m)
    count ys zero = refl
    count ys (suc m) = eqb-suc-zero m
