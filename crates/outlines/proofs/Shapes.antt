-- The shape stays, the layers are few and the parts small. Assumes nothing.
use mathlib.Core.Path.{◌≡◌, refl, sym, ◌∙◌, ap, subst}
use mathlib.Core.Bool.{Bool, true, false, cond, ◌&&◌}
use mathlib.Core.Option.{Option, none, some}
use mathlib.Core.List.{List, [], ◌∷◌}
use Prim.Native.Nat.{ℕ, suc, ◌+◌, ◌*◌, ◌≤◌, ◌<◌, max}
use native.Mathlib.Omega.{arith}
use borrow.Author.Tests.{ltb-true}
use lib.Dec.{ltb}
use lib.ListN.{length}
use Rattle.programs.specs.Limits.{Visit}
use Rattle.notation.specs.Statements.{parentheses}
use Rattle.notation.specs.Tokens.{PRINT, IF, THEN, ELSE, BEGIN, END, ASSIGNED, SEMICOLON, AND, OR, NOT, OPEN, CLOSE, EQUALS}
use Rattle.reading.specs.Statements.{Place, opening, separated, branching}
use Rattle.outlines.specs.Extents as extents
use Rattle.outlines.specs.Extents.{Extent, extent, vacant, unnested, comparison, in_turn, ExtentWithin}
use Rattle.outlines.specs.Kinds.{is_word, is_sign, is_target, is_operand, is_plain, is_short_item, is_long_item}
use Rattle.outlines.specs.Conditions.{Margin, margin, blank_margin, paired_with, up_to_and, whole_of, with_margins, a_single, an_equals, an_operand, ConditionOutline, wanting, behind, got_at, not_at, open_at, step_condition_outline, read_condition, finished_condition}
use Rattle.outlines.specs.Statements.{Layer, among, then_of, else_of_lem, wrapped, wrapped_in, Closed, closed_list, else_of, Stage, at, at_assign, at_operand, at_item, in_condition, past, Outline, outlined, begun_at, ended_in, ended_at, elsed_at, then_at, step_tested, step_stage, step_outline, finished, finished_at, kernel}
use Rattle.outlines.specs.Shape.{InBranch, FirmLayers, PlaceFirm, ConditionFirm, StageFirm, SoundOutline, ExtentUnder, LayerUnder, LayersUnder, SideUnder, MarginUnder, MarginsUnder, ConditionUnder, StageUnder, PartsUnder, StartsSound, StaysSound, FewLayers, SmallParts, PartsStaySmall, OneLayerMore}

pub starts_sound : StartsSound
starts_sound = record { firm = (tt, tt); stage_firm = refl }

-- what holds of an outline, where there is one
abbrev SoundIf : Option Outline → Type 0
SoundIf none = Unit {0}
SoundIf (some o) = SoundOutline o

abbrev FirmIf : Option ConditionOutline → Type 0
FirmIf none = Unit {0}
FirmIf (some r) = ConditionFirm r

one_of_lem : (b : Bool) (x y : Option Outline) → SoundIf x → SoundIf y → SoundIf (cond b x y)
one_of_lem true x y h g = h
one_of_lem false x y h g = g

firm_of : (b : Bool) (x y : Option ConditionOutline) → (b ≡ true → FirmIf x) → FirmIf y → FirmIf (cond b x y)
firm_of true x y h g = h refl
firm_of false x y h g = g

-- conditions
got_firm : (ms : List Margin) (c : Extent) → length ms ≤ suc parentheses → FirmIf (got_at ms c)
got_firm [] c h = tt
got_firm (m ∷ ms) c h = omega arith

open_firm : (m : Margin) (ms : List Margin) → FirmIf (open_at (m ∷ ms))
open_firm m ms = firm_of (ltb (length ms) parentheses) (some (wanting a_single (blank_margin ∷ m ∷ ms))) none (λ e. omega (arith, ltb-true (length ms) parentheses e)) tt

condition_firm : (v : Visit) (r : ConditionOutline) (k : ℕ) → ConditionFirm r → FirmIf (step_condition_outline v r k)
condition_firm v (wanting w []) k h = absurd h
condition_firm v (wanting a_single (m ∷ ms)) k h =
    firm_of (is_operand v k) (some (wanting an_equals (m ∷ ms))) _ (λ e. h)
    (firm_of (is_word NOT k) (not_at (m ∷ ms)) _ (λ e. h)
    (firm_of (is_sign OPEN k) (open_at (m ∷ ms)) none (λ e. open_firm m ms) tt))
condition_firm v (wanting an_equals (m ∷ ms)) k h = firm_of (is_sign EQUALS k) (some (wanting an_operand (m ∷ ms))) none (λ e. h) tt
condition_firm v (wanting an_operand (m ∷ ms)) k h = firm_of (is_operand v k) (got_at (m ∷ ms) comparison) none (λ e. got_firm (m ∷ ms) comparison (omega arith)) tt
condition_firm v (behind d o ms) k h =
    firm_of (is_word AND k) (some (wanting a_single (margin o (some d) 0 ∷ ms))) _ (λ e. h)
    (firm_of (is_word OR k) (some (wanting a_single (margin (some (paired_with o d)) none 0 ∷ ms))) _ (λ e. h)
    (firm_of (is_sign CLOSE k) (got_at ms (paired_with o d)) none (λ e. got_firm ms (paired_with o d) (omega arith)) tt))

-- layers
closed_firm : (ls : List Layer) (p : Extent) → FirmLayers ls → InBranch (closed_list ls p).outside × FirmLayers (closed_list ls p).outside
closed_firm [] p h = (tt, tt)
closed_firm (among b ∷ ls) p h = h
closed_firm (then_of c ∷ ls) p h = closed_firm ls (wrapped (then_of c) p) h
closed_firm (else_of_lem c q ∷ ls) p h = closed_firm ls (wrapped (else_of_lem c q) p) h

plain_sound : (s : Stage) (ls : List Layer) → StageFirm s ls → FirmLayers ls → SoundIf (some (outlined s ls))
plain_sound s ls g h = record { firm = h; stage_firm = g }

ended_sound : (ls : List Layer) (p : Extent) → FirmLayers ls → SoundIf (ended_in ls p)
ended_sound [] p h = tt
ended_sound (l ∷ ls) p h = record { firm = h; stage_firm = tt }

end_sound : (w : Place) (ls : List Layer) → FirmLayers ls → SoundIf (ended_at w ls)
end_sound opening ls h = ended_sound (closed_list ls vacant).outside vacant (closed_firm ls vacant h).1
end_sound separated ls h = tt
end_sound branching ls h = tt

begin_sound : (w : Place) (ls : List Layer) → FirmLayers ls → PlaceFirm w ls → SoundIf (begun_at w ls)
begin_sound opening ls h g = tt
begin_sound separated ls h g = tt
begin_sound branching [] h g = absurd g
begin_sound branching (among b ∷ ls) h g = absurd g
begin_sound branching (then_of c ∷ ls) h g = record { firm = (tt, h); stage_firm = refl }
begin_sound branching (else_of_lem c q ∷ ls) h g = record { firm = (tt, h); stage_firm = refl }

else_sound : (ls : List Layer) (p : Extent) → FirmLayers ls → SoundIf (elsed_at (else_of ls p))
else_sound [] p h = tt
else_sound (among b ∷ ls) p h = tt
else_sound (then_of c ∷ ls) p h = record { firm = h; stage_firm = tt }
else_sound (else_of_lem c q ∷ ls) p h = else_sound ls (wrapped (else_of_lem c q) p) h

then_sound : (c : Option Extent) (ls : List Layer) (k : ℕ) → FirmLayers ls → SoundIf (then_at c ls k)
then_sound none ls k h = tt
then_sound (some c) ls k h = one_of_lem (is_word THEN k) _ none (plain_sound (at branching) (then_of c ∷ ls) tt h) tt

tested_sound : (r : Option ConditionOutline) (c : Option Extent) (ls : List Layer) (k : ℕ) → FirmIf r → FirmLayers ls → SoundIf (step_tested r c ls k)
tested_sound none c ls k g h = then_sound c ls k h
tested_sound (some r) c ls k g h = record { firm = h; stage_firm = g }

stage_sound : (v : Visit) (s : Stage) (ls : List Layer) (k : ℕ) → StageFirm s ls → FirmLayers ls → SoundIf (step_stage v s ls k)
stage_sound v (at w) ls k g h =
    one_of_lem (is_plain v k) _ _ (plain_sound (past false (unnested 1)) ls tt h)
    (one_of_lem (is_target v k) _ _ (plain_sound at_assign ls tt h)
    (one_of_lem (is_word PRINT k) _ _ (plain_sound at_item ls tt h)
    (one_of_lem (is_word IF k) _ _ (plain_sound (in_condition (wanting a_single (blank_margin ∷ []))) ls (omega arith) h)
    (one_of_lem (is_word BEGIN k) _ _ (begin_sound w ls h g)
    (one_of_lem (is_word END k) _ none (end_sound w ls h) tt)))))
stage_sound v at_assign ls k g h = one_of_lem (is_sign ASSIGNED k) _ none (plain_sound at_operand ls tt h) tt
stage_sound v at_operand ls k g h = one_of_lem (is_operand v k) _ none (plain_sound (past false (unnested 3)) ls tt h) tt
stage_sound v at_item ls k g h = one_of_lem (is_short_item k) _ _ (plain_sound (past true (unnested 2)) ls tt h) (one_of_lem (is_long_item k) _ none (plain_sound (past true (unnested 4)) ls tt h) tt)
stage_sound v (in_condition r) ls k g h = tested_sound (step_condition_outline v r k) (read_condition r) ls k (condition_firm v r k g) h
stage_sound v (past b p) ls k g h =
    one_of_lem (b && is_short_item k) _ _ (plain_sound (past true (in_turn p (unnested 2))) ls tt h)
    (one_of_lem (b && is_long_item k) _ _ (plain_sound (past true (in_turn p (unnested 4))) ls tt h)
    (one_of_lem (is_sign SEMICOLON k) _ _ (plain_sound (at separated) (among (closed_list ls p).whole ∷ (closed_list ls p).outside) tt (closed_firm ls p h))
    (one_of_lem (is_word ELSE k) _ _ (else_sound ls p h)
    (one_of_lem (is_word END k) _ none (ended_sound (closed_list ls p).outside (closed_list ls p).whole (closed_firm ls p h).1) tt))))

pub stays_sound : StaysSound
stays_sound v o o' k h e = subst SoundIf e (stage_sound v o.stage o.layers k h.stage_firm h.firm)

-- how many ifs
abbrev ifs_in : List Layer → ℕ
ifs_in [] = 0
ifs_in (among b ∷ ls) = ifs_in ls
ifs_in (then_of c ∷ ls) = suc (ifs_in ls)
ifs_in (else_of_lem c q ∷ ls) = suc (ifs_in ls)

ifs_nest : (ls : List Layer) (p : Extent) → ifs_in ls + p.nested ≤ (wrapped_in ls p).nested
ifs_nest [] p = omega arith
ifs_nest (among b ∷ ls) p = omega (arith, ifs_nest ls (wrapped (among b) p))
ifs_nest (then_of c ∷ ls) p = omega (arith, ifs_nest ls (wrapped (then_of c) p))
ifs_nest (else_of_lem c q ∷ ls) p = omega (arith, ifs_nest ls (wrapped (else_of_lem c q) p))

mutual
  few : (ls : List Layer) → FirmLayers ls → length ls ≤ suc (2 * ifs_in ls)
  few [] h = omega arith
  few (among b ∷ ls) h = omega (arith, few_in_branch ls h.0 h.1)
  few (then_of c ∷ ls) h = omega (arith, few ls h)
  few (else_of_lem c q ∷ ls) h = omega (arith, few ls h)

  few_in_branch : (ls : List Layer) → InBranch ls → FirmLayers ls → length ls ≤ 2 * ifs_in ls
  few_in_branch [] g h = omega arith
  few_in_branch (among b ∷ ls) g h = absurd g
  few_in_branch (then_of c ∷ ls) g h = omega (arith, few ls h)
  few_in_branch (else_of_lem c q ∷ ls) g h = omega (arith, few ls h)

opening_finished : (ls : List Layer) → PlaceFirm opening ls → wrapped_in (closed_list ls vacant).outside vacant ≡ wrapped_in ls vacant
opening_finished [] h = absurd h
opening_finished (among b ∷ ls) h = ap (λ x. wrapped_in ls (in_turn x vacant)) (sym h)
opening_finished (then_of c ∷ ls) h = absurd h
opening_finished (else_of_lem c q ∷ ls) h = absurd h

finished_stage : (s : Stage) (ls : List Layer) → StageFirm s ls → finished_at s ls ≡ wrapped_in ls (kernel s)
finished_stage (at opening) ls h = opening_finished ls h
finished_stage (at separated) ls h = refl
finished_stage (at branching) ls h = refl
finished_stage at_assign ls h = refl
finished_stage at_operand ls h = refl
finished_stage at_item ls h = refl
finished_stage (in_condition r) ls h = refl
finished_stage (past b p) ls h = refl

pub finished_kernel : (o : Outline) → SoundOutline o → finished o ≡ wrapped_in o.layers (kernel o.stage)
finished_kernel o h = finished_stage o.stage o.layers h.stage_firm

pub few_layers : FewLayers
few_layers o h w =
    let n : ifs_in o.layers ≤ 8 = omega (arith, ifs_nest o.layers (kernel o.stage), ap (λ e. e.nested) (finished_kernel o h), w.shallow) in
    omega (arith, n, few o.layers h.firm)

-- a part is under what the whole is under
wrapped_under : (n : ℕ) (l : Layer) (p : Extent) → ExtentUnder n (wrapped l p) → LayerUnder n l × ExtentUnder n p
wrapped_under n (among b) p h = (record { few_bytes = omega arith; few_deep = omega arith }, record { few_bytes = omega arith; few_deep = omega arith })
wrapped_under n (then_of c) p h = (record { few_bytes = omega arith; few_deep = omega arith }, record { few_bytes = omega arith; few_deep = omega arith })
wrapped_under n (else_of_lem c q) p h = ((record { few_bytes = omega arith; few_deep = omega arith }, record { few_bytes = omega arith; few_deep = omega arith }), record { few_bytes = omega arith; few_deep = omega arith })

pub layers_under : (n : ℕ) (ls : List Layer) (p : Extent) → ExtentUnder n (wrapped_in ls p) → LayersUnder n ls × ExtentUnder n p
layers_under n [] p h = (tt, h)
layers_under n (l ∷ ls) p h = let g = layers_under n ls (wrapped l p) h in let f = wrapped_under n l p g.1 in ((f.0, g.0), f.1)

side_under : (n : ℕ) (o : Option Extent) (c : Extent) → ExtentUnder n (paired_with o c) → SideUnder n o × ExtentUnder n c
side_under n none c h = (tt, h)
side_under n (some d) c h = (record { few_bytes = omega arith; few_deep = omega arith }, record { few_bytes = omega arith; few_deep = omega arith })

margin_under : (n : ℕ) (m : Margin) (c : Extent) → ExtentUnder n (whole_of m c) → MarginUnder n m × ExtentUnder n (up_to_and m c) × ExtentUnder n c
margin_under n m c h =
    let f = side_under n m.or_left (up_to_and m c) h in
    let g = side_under n m.and_left (extents.behind_nots m.nots c) f.1 in
    let k = g.1 in
    (record { few_nots = omega (arith, k.few_deep); or_side = f.0; and_side = g.0 }, f.1, record { few_bytes = omega (arith, k.few_bytes); few_deep = omega (arith, k.few_deep) })

pub margins_under : (n : ℕ) (ms : List Margin) (c : Extent) → ExtentUnder n (with_margins ms c) → MarginsUnder n ms × ExtentUnder n c
margins_under n [] c h = (tt, h)
margins_under n (m ∷ ms) c h = let g = margins_under n ms (whole_of m c) h in let f = margin_under n m c g.1 in ((f.0, g.0), f.2)

condition_under : (n : ℕ) (r : ConditionOutline) → ExtentUnder n (finished_condition r) → ConditionUnder n r
condition_under n (wanting w ms) h = (margins_under n ms comparison h).0
condition_under n (behind d o ms) h = let g = margins_under n ms (paired_with o d) h in let f = side_under n o d g.1 in (f.1, f.0, g.0)

test_under : (n : ℕ) (c : Extent) → ExtentUnder n (extents.branching c vacant vacant) → ExtentUnder n c
test_under n c h = record { few_bytes = omega (arith, h.few_bytes); few_deep = omega (arith, h.few_deep) }

stage_under : (n : ℕ) (s : Stage) → ExtentUnder n (kernel s) → StageUnder n s
stage_under n (at w) h = tt
stage_under n at_assign h = tt
stage_under n at_operand h = tt
stage_under n at_item h = tt
stage_under n (in_condition r) h = condition_under n r (test_under n (finished_condition r) h)
stage_under n (past b p) h = h

kernel_under : (o : Outline) → SoundOutline o → ExtentWithin (finished o) → ExtentUnder 255 (wrapped_in o.layers (kernel o.stage))
kernel_under o h w = subst (ExtentUnder 255) (finished_kernel o h) (record { few_bytes = omega (arith, w.short); few_deep = omega (arith, w.shallow) })

pub small_parts : SmallParts
small_parts o h w = let g = layers_under 255 o.layers (kernel o.stage) (kernel_under o h w) in record { around = g.0; inner = stage_under 255 o.stage g.1 }

-- what is under 255 is under 1000
pub extent_more : {e : Extent} → ExtentUnder 255 e → ExtentUnder 1000 e
extent_more h = record { few_bytes = omega arith; few_deep = omega arith }

pub side_more : (o : Option Extent) → SideUnder 255 o → SideUnder 1000 o
side_more none h = tt
side_more (some c) h = extent_more h

layer_more : (l : Layer) → LayerUnder 255 l → LayerUnder 1000 l
layer_more (among b) h = extent_more h
layer_more (then_of c) h = extent_more h
layer_more (else_of_lem c q) h = (extent_more h.0, extent_more h.1)

pub layers_more : (ls : List Layer) → LayersUnder 255 ls → LayersUnder 1000 ls
layers_more [] h = tt
layers_more (l ∷ ls) h = (layer_more l h.0, layers_more ls h.1)

margin_more : (m : Margin) → MarginUnder 255 m → MarginUnder 1000 m
margin_more m h = record { few_nots = omega (arith, h.few_nots); or_side = side_more m.or_left h.or_side; and_side = side_more m.and_left h.and_side }

pub margins_more : (ms : List Margin) → MarginsUnder 255 ms → MarginsUnder 1000 ms
margins_more [] h = tt
margins_more (m ∷ ms) h = (margin_more m h.0, margins_more ms h.1)

-- what a step makes of the parts
abbrev UnderIf : Option Outline → Type 0
UnderIf none = Unit {0}
UnderIf (some o) = PartsUnder 1000 o

abbrev TestUnderIf : Option ConditionOutline → Type 0
TestUnderIf none = Unit {0}
TestUnderIf (some r) = ConditionUnder 1000 r

either_under : (b : Bool) (x y : Option Outline) → UnderIf x → UnderIf y → UnderIf (cond b x y)
either_under true x y h g = h
either_under false x y h g = g

either_test : (b : Bool) (x y : Option ConditionOutline) → TestUnderIf x → TestUnderIf y → TestUnderIf (cond b x y)
either_test true x y h g = h
either_test false x y h g = g

got_under : (ms : List Margin) (c : Extent) → ExtentUnder 255 (with_margins ms c) → TestUnderIf (got_at ms c)
got_under [] c h = tt
got_under (m ∷ ms) c h =
    let g = margins_under 255 ms (whole_of m c) h in
    let f = margin_under 255 m c g.1 in
    (extent_more f.1, side_more m.or_left f.0.or_side, margins_more ms g.0)

blank_under : MarginUnder 1000 blank_margin
blank_under = record { few_nots = omega arith; or_side = tt; and_side = tt }

not_under : (ms : List Margin) → MarginsUnder 255 ms → TestUnderIf (not_at ms)
not_under [] h = tt
not_under (m ∷ ms) h =
    let g = h.0 in
    (record { few_nots = omega (arith, g.few_nots); or_side = side_more m.or_left g.or_side; and_side = side_more m.and_left g.and_side }, margins_more ms h.1)

open_under : (ms : List Margin) → MarginsUnder 255 ms → TestUnderIf (open_at ms)
open_under [] h = tt
open_under (m ∷ ms) h = either_test (ltb (length ms) parentheses) (some (wanting a_single (blank_margin ∷ m ∷ ms))) none (blank_under, margins_more (m ∷ ms) h) tt

test_stays : (v : Visit) (r : ConditionOutline) (k : ℕ) → ExtentUnder 255 (finished_condition r) → TestUnderIf (step_condition_outline v r k)
test_stays v (wanting a_single ms) k h =
    let g = (margins_under 255 ms comparison h).0 in
    either_test (is_operand v k) (some (wanting an_equals ms)) _ (margins_more ms g)
    (either_test (is_word NOT k) (not_at ms) _ (not_under ms g)
    (either_test (is_sign OPEN k) (open_at ms) none (open_under ms g) tt))
test_stays v (wanting an_equals ms) k h = either_test (is_sign EQUALS k) (some (wanting an_operand ms)) none (margins_more ms (margins_under 255 ms comparison h).0) tt
test_stays v (wanting an_operand ms) k h = either_test (is_operand v k) (got_at ms comparison) none (got_under ms comparison h) tt
test_stays v (behind d o ms) k h =
    let g = margins_under 255 ms (paired_with o d) h in
    let f = side_under 255 o d g.1 in
    either_test (is_word AND k) (some (wanting a_single (margin o (some d) 0 ∷ ms))) _ (record { few_nots = omega arith; or_side = side_more o f.0; and_side = extent_more f.1 }, margins_more ms g.0)
    (either_test (is_word OR k) (some (wanting a_single (margin (some (paired_with o d)) none 0 ∷ ms))) _ (record { few_nots = omega arith; or_side = extent_more g.1; and_side = tt }, margins_more ms g.0)
    (either_test (is_sign CLOSE k) (got_at ms (paired_with o d)) none (got_under ms (paired_with o d) h) tt))

closed_under : (ls : List Layer) (p : Extent) → ExtentUnder 255 (wrapped_in ls p) → LayersUnder 255 (closed_list ls p).outside × ExtentUnder 255 (closed_list ls p).whole
closed_under [] p h = (tt, h)
closed_under (among b ∷ ls) p h = layers_under 255 ls (in_turn b p) h
closed_under (then_of c ∷ ls) p h = closed_under ls (wrapped (then_of c) p) h
closed_under (else_of_lem c q ∷ ls) p h = closed_under ls (wrapped (else_of_lem c q) p) h

stays_under : (s : Stage) (ls : List Layer) → StageUnder 1000 s → LayersUnder 255 ls → UnderIf (some (outlined s ls))
stays_under s ls g h = record { around = layers_more ls h; inner = g }

short_under : (n : ℕ) → n ≤ 1000 → ExtentUnder 1000 (unnested n)
short_under n h = record { few_bytes = h; few_deep = omega arith }

ended_under : (ls : List Layer) (p : Extent) → LayersUnder 255 ls → ExtentUnder 255 p → UnderIf (ended_in ls p)
ended_under [] p h g = tt
ended_under (l ∷ ls) p h g = stays_under (past false p) (l ∷ ls) (extent_more g) h

vacant_under : ExtentUnder 255 vacant
vacant_under = record { few_bytes = omega arith; few_deep = omega arith }

outside_under : (ls : List Layer) (p : Extent) → LayersUnder 255 ls → LayersUnder 255 (closed_list ls p).outside
outside_under [] p h = tt
outside_under (among b ∷ ls) p h = h.1
outside_under (then_of c ∷ ls) p h = outside_under ls (wrapped (then_of c) p) h.1
outside_under (else_of_lem c q ∷ ls) p h = outside_under ls (wrapped (else_of_lem c q) p) h.1

begin_under : (w : Place) (ls : List Layer) → LayersUnder 255 ls → UnderIf (begun_at w ls)
begin_under opening ls h = tt
begin_under separated ls h = tt
begin_under branching ls h = stays_under (at opening) (among vacant ∷ ls) tt (vacant_under, h)

end_under : (w : Place) (ls : List Layer) → LayersUnder 255 ls → UnderIf (ended_at w ls)
end_under opening ls h = ended_under (closed_list ls vacant).outside vacant (outside_under ls vacant h) vacant_under
end_under separated ls h = tt
end_under branching ls h = tt

else_under : (ls : List Layer) (p : Extent) → ExtentUnder 255 (wrapped_in ls p) → UnderIf (elsed_at (else_of ls p))
else_under [] p h = tt
else_under (among b ∷ ls) p h = tt
else_under (then_of c ∷ ls) p h =
    let g = layers_under 255 (then_of c ∷ ls) p h in stays_under (at branching) (else_of_lem c p ∷ ls) tt ((g.0.0, g.1), g.0.1)
else_under (else_of_lem c q ∷ ls) p h = else_under ls (wrapped (else_of_lem c q) p) h

read_under : (r : ConditionOutline) → ExtentUnder 255 (finished_condition r) → SideUnder 255 (read_condition r)
read_under (wanting w ms) h = tt
read_under (behind d o []) h = h
read_under (behind d o (m ∷ ms)) h = tt

then_under : (c : Option Extent) (ls : List Layer) (k : ℕ) → SideUnder 255 c → LayersUnder 255 ls → UnderIf (then_at c ls k)
then_under none ls k g h = tt
then_under (some c) ls k g h = either_under (is_word THEN k) _ none (stays_under (at branching) (then_of c ∷ ls) tt (g, h)) tt

tested_under : (r : Option ConditionOutline) (c : Option Extent) (ls : List Layer) (k : ℕ) → TestUnderIf r → SideUnder 255 c → LayersUnder 255 ls → UnderIf (step_tested r c ls k)
tested_under none c ls k f g h = then_under c ls k g h
tested_under (some r) c ls k f g h = stays_under (in_condition r) ls f h

more_under : (n : ℕ) (p : Extent) → n ≤ 4 → ExtentUnder 255 p → ExtentUnder 1000 (in_turn p (unnested n))
more_under n p e h = record { few_bytes = omega arith; few_deep = omega arith }

stage_stays : (v : Visit) (s : Stage) (ls : List Layer) (k : ℕ) → ExtentUnder 255 (wrapped_in ls (kernel s)) → UnderIf (step_stage v s ls k)
stage_stays v (at w) ls k h =
    let g = (layers_under 255 ls (kernel (at w)) h).0 in
    either_under (is_plain v k) _ _ (stays_under (past false (unnested 1)) ls (short_under 1 (omega arith)) g)
    (either_under (is_target v k) _ _ (stays_under at_assign ls tt g)
    (either_under (is_word PRINT k) _ _ (stays_under at_item ls tt g)
    (either_under (is_word IF k) _ _ (stays_under (in_condition (wanting a_single (blank_margin ∷ []))) ls (blank_under, tt) g)
    (either_under (is_word BEGIN k) _ _ (begin_under w ls g)
    (either_under (is_word END k) _ none (end_under w ls g) tt)))))
stage_stays v at_assign ls k h = either_under (is_sign ASSIGNED k) _ none (stays_under at_operand ls tt (layers_under 255 ls (unnested 3) h).0) tt
stage_stays v at_operand ls k h = either_under (is_operand v k) _ none (stays_under (past false (unnested 3)) ls (short_under 3 (omega arith)) (layers_under 255 ls (unnested 3) h).0) tt
stage_stays v at_item ls k h =
    let g = (layers_under 255 ls (unnested 2) h).0 in
    either_under (is_short_item k) _ _ (stays_under (past true (unnested 2)) ls (short_under 2 (omega arith)) g)
    (either_under (is_long_item k) _ none (stays_under (past true (unnested 4)) ls (short_under 4 (omega arith)) g) tt)
stage_stays v (in_condition r) ls k h =
    let g = layers_under 255 ls (kernel (in_condition r)) h in
    let f = test_under 255 (finished_condition r) g.1 in
    tested_under (step_condition_outline v r k) (read_condition r) ls k (test_stays v r k f) (read_under r f) g.0
stage_stays v (past b p) ls k h =
    let g = layers_under 255 ls p h in
    let f = closed_under ls p h in
    either_under (b && is_short_item k) _ _ (stays_under (past true (in_turn p (unnested 2))) ls (more_under 2 p (omega arith) g.1) g.0)
    (either_under (b && is_long_item k) _ _ (stays_under (past true (in_turn p (unnested 4))) ls (more_under 4 p (omega arith) g.1) g.0)
    (either_under (is_sign SEMICOLON k) _ _ (stays_under (at separated) (among (closed_list ls p).whole ∷ (closed_list ls p).outside) tt (f.1, f.0))
    (either_under (is_word ELSE k) _ _ (else_under ls p h)
    (either_under (is_word END k) _ none (ended_under (closed_list ls p).outside (closed_list ls p).whole f.0 f.1) tt))))

pub parts_stay_small : PartsStaySmall
parts_stay_small v o o' k h w e = subst UnderIf e (stage_stays v o.stage o.layers k (kernel_under o h w))

-- one layer more at most
abbrev FewIf : ℕ → Option Outline → Type 0
FewIf n none = Unit {0}
FewIf n (some o) = length o.layers ≤ suc n

either_few : (n : ℕ) (b : Bool) (x y : Option Outline) → FewIf n x → FewIf n y → FewIf n (cond b x y)
either_few n true x y h g = h
either_few n false x y h g = g

closed_few : (ls : List Layer) (p : Extent) → length (closed_list ls p).outside ≤ length ls
closed_few [] p = omega arith
closed_few (among b ∷ ls) p = omega arith
closed_few (then_of c ∷ ls) p = omega (arith, closed_few ls (wrapped (then_of c) p))
closed_few (else_of_lem c q ∷ ls) p = omega (arith, closed_few ls (wrapped (else_of_lem c q) p))

ended_few : (n : ℕ) (ls : List Layer) (p : Extent) → length ls ≤ n → FewIf n (ended_in ls p)
ended_few n [] p h = tt
ended_few n (l ∷ ls) p h = omega arith

begin_few : (w : Place) (ls : List Layer) → FewIf (length ls) (begun_at w ls)
begin_few opening ls = tt
begin_few separated ls = tt
begin_few branching ls = omega arith

end_few : (w : Place) (ls : List Layer) → FewIf (length ls) (ended_at w ls)
end_few opening ls = ended_few (length ls) (closed_list ls vacant).outside vacant (closed_few ls vacant)
end_few separated ls = tt
end_few branching ls = tt

else_few : (n : ℕ) (ls : List Layer) (p : Extent) → length ls ≤ n → FewIf n (elsed_at (else_of ls p))
else_few n [] p h = tt
else_few n (among b ∷ ls) p h = tt
else_few n (then_of c ∷ ls) p h = omega arith
else_few n (else_of_lem c q ∷ ls) p h = else_few n ls (wrapped (else_of_lem c q) p) (omega arith)

then_few : (c : Option Extent) (ls : List Layer) (k : ℕ) → FewIf (length ls) (then_at c ls k)
then_few none ls k = tt
then_few (some c) ls k = either_few (length ls) (is_word THEN k) (some (outlined (at branching) (then_of c ∷ ls))) none (omega arith) tt

tested_few : (r : Option ConditionOutline) (c : Option Extent) (ls : List Layer) (k : ℕ) → FewIf (length ls) (step_tested r c ls k)
tested_few none c ls k = then_few c ls k
tested_few (some r) c ls k = omega arith

same_few : (s : Stage) (ls : List Layer) → FewIf (length ls) (some (outlined s ls))
same_few s ls = omega arith

stage_few : (v : Visit) (s : Stage) (ls : List Layer) (k : ℕ) → FewIf (length ls) (step_stage v s ls k)
stage_few v (at w) ls k =
    either_few (length ls) (is_plain v k) _ _ (same_few (past false (unnested 1)) ls)
    (either_few (length ls) (is_target v k) _ _ (same_few at_assign ls)
    (either_few (length ls) (is_word PRINT k) _ _ (same_few at_item ls)
    (either_few (length ls) (is_word IF k) _ _ (same_few (in_condition (wanting a_single (blank_margin ∷ []))) ls)
    (either_few (length ls) (is_word BEGIN k) _ _ (begin_few w ls)
    (either_few (length ls) (is_word END k) _ none (end_few w ls) tt)))))
stage_few v at_assign ls k = either_few (length ls) (is_sign ASSIGNED k) _ none (same_few at_operand ls) tt
stage_few v at_operand ls k = either_few (length ls) (is_operand v k) _ none (same_few (past false (unnested 3)) ls) tt
stage_few v at_item ls k = either_few (length ls) (is_short_item k) _ _ (same_few (past true (unnested 2)) ls) (either_few (length ls) (is_long_item k) _ none (same_few (past true (unnested 4)) ls) tt)
stage_few v (in_condition r) ls k = tested_few (step_condition_outline v r k) (read_condition r) ls k
stage_few v (past b p) ls k =
    either_few (length ls) (b && is_short_item k) _ _ (same_few (past true (in_turn p (unnested 2))) ls)
    (either_few (length ls) (b && is_long_item k) _ _ (same_few (past true (in_turn p (unnested 4))) ls)
    (either_few (length ls) (is_sign SEMICOLON k) (some (outlined (at separated) (among (closed_list ls p).whole ∷ (closed_list ls p).outside))) _ (omega (arith, closed_few ls p))
    (either_few (length ls) (is_word ELSE k) _ _ (else_few (length ls) ls p (omega arith))
    (either_few (length ls) (is_word END k) _ none (ended_few (length ls) (closed_list ls p).outside (closed_list ls p).whole (closed_few ls p)) tt))))

pub one_layer_more : OneLayerMore
one_layer_more v o o' k e = subst (FewIf (length o.layers)) e (stage_few v o.stage o.layers k)
