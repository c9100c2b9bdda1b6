-- What a script that stands is known to hold, and what is known of the next one. Assumes nothing.
use mathlib.Core.Path.{◌≡◌, refl, sym, ◌∙◌, ap, subst}
use mathlib.Core.Bool.{Bool}
use mathlib.Core.Option.{Option, none, some}
use mathlib.Core.List.{List}
use Prim.Native.Nat.{ℕ, zero, suc, ◌≤◌, ◌<◌}
use native.Mathlib.Omega.{arith}
use lib.ListN.{length}
use Rattle.programs.specs.Limits.{Visit}
use Rattle.outlines.specs.Extents as outlines
use Rattle.outlines.specs.Extents.{vacant, unnested, ExtentWithin}
use Rattle.outlines.specs.Conditions as conditions
use Rattle.outlines.specs.Conditions.{wanting, behind, with_margins}
use Rattle.outlines.specs.Statements as statements
use Rattle.outlines.specs.Statements.{wrapped_in, Outline, step_outline, step_stage, step_tested, ends_at, ends_here, finished, kernel}
use Rattle.outlines.specs.Promises.{OutlineKeeps}
use Rattle.outlines.specs.Shape.{ConditionFirm, StageFirm, SoundOutline, ExtentUnder, SideUnder, StageUnder}
use Rattle.outlines.proofs.Shapes.{stays_sound, few_layers, small_parts, parts_stay_small, one_layer_more, finished_kernel, extent_more, side_more, layers_more, margins_more}
use Rattle.extents.specs.declared.Extent.{Extent}
use Rattle.extents.specs.declared.Margin.{Margin}
use Rattle.extents.specs.Held.{extent_of, side_of, margin_of, around_of, bare_around, bare_margin, margins_at, most_margins}
use Rattle.extents.proofs.Stacks.{long}
use Rattle.scripts.specs.declared.Stage.{Stage}
use Rattle.scripts.specs.declared.Stage.TheVariants.{At, Assign, Operand, Item, Single, Equals, Other, Behind, Past}
use Rattle.scripts.specs.declared.Script.{Script}
use Rattle.std.specs.Prelude.{Option as Side, Some, None}
use Rattle.scripts.specs.Scripts.{stage_of, layers_in, margins_in, outline_of, Standing, LayerRoom, MarginRoom, MarginsHeld, ScriptFirm, answer_of, tested_of, Stepped, taken, refused}

pub extent_under : {m n : ℕ} {e : outlines.Extent} → m ≤ n → ExtentUnder m e → ExtentUnder n e
extent_under g h = record { few_bytes = omega arith; few_deep = omega arith }

pub small_extent : (n m : ℕ) (e : outlines.Extent) → e ≡ unnested m → m ≤ n → ExtentUnder n e
small_extent n m e q h = subst (ExtentUnder n) (sym q) (record { few_bytes = h; few_deep = omega arith })

-- layers and margins
depth_is : (s : Script) → length (layers_in s) ≡ s.depth
depth_is s = long around_of bare_around s.layers s.depth

deep_is : (xs : List Margin) (n : ℕ) → length (margins_at xs n) ≡ n
deep_is xs n = long margin_of bare_margin xs n

held_wanting : (w : conditions.Wanted) (xs : List Margin) (n : ℕ) → ConditionFirm (wanting w (margins_at xs n)) → n ≤ most_margins
held_wanting w xs zero h = absurd h
held_wanting w xs (suc n) h = omega (arith, h, deep_is xs n)

margins_held : (g : Stage) (xs : List Margin) (n : ℕ) (ls : List statements.Layer) → StageFirm (stage_of g (margins_at xs n)) ls → MarginsHeld g n
margins_held (At w) xs n ls h = tt
margins_held Assign xs n ls h = tt
margins_held Operand xs n ls h = tt
margins_held Item xs n ls h = tt
margins_held Single xs n ls h = held_wanting conditions.a_single xs n h
margins_held Equals xs n ls h = held_wanting conditions.an_equals xs n h
margins_held Other xs n ls h = held_wanting conditions.an_operand xs n h
margins_held (Behind d o) xs n ls h = omega (arith, h, deep_is xs n)
margins_held (Past b p) xs n ls h = tt

stage_more : (s : statements.Stage) → StageUnder 255 s → StageUnder 1000 s
stage_more (statements.at w) h = tt
stage_more statements.at_assign h = tt
stage_more statements.at_operand h = tt
stage_more statements.at_item h = tt
stage_more (statements.in_condition (wanting w ms)) h = margins_more ms h
stage_more (statements.in_condition (behind d o ms)) h = (extent_more h.0, side_more o h.1, margins_more ms h.2)
stage_more (statements.past b p) h = extent_more h

pub steady : (s : Script) → Standing s → LayerRoom s
steady s h =
    record {
      room = omega (arith, few_layers (outline_of s) h.sound h.within, depth_is s);
      small = layers_more (layers_in s) (small_parts (outline_of s) h.sound h.within).around;
    }

pub firmly : (s : Script) → Standing s → ScriptFirm s
firmly s h =
    let p = small_parts (outline_of s) h.sound h.within in
    record {
      low = omega (arith, few_layers (outline_of s) h.sound h.within, depth_is s);
      margins_held = margins_held s.stage s.margins s.deep (layers_in s) h.sound.stage_firm;
      small = record { around = layers_more (layers_in s) p.around; inner = stage_more (stage_of s.stage (margins_in s)) p.inner };
    }

-- by the stage
module _ (s : Script) (h : ScriptFirm s) where
  held_as : (g : Stage) → s.stage ≡ g → MarginsHeld g s.deep
  held_as g e = subst (λ x. MarginsHeld x s.deep) e h.margins_held

  inner_as : (g : Stage) → s.stage ≡ g → StageUnder 1000 (stage_of g (margins_in s))
  inner_as g e = subst (λ x. StageUnder 1000 (stage_of x (margins_in s))) e h.small.inner

  pub level_single : s.stage ≡ Single → MarginRoom s
  level_single e = record { room = held_as Single e; small = inner_as Single e }

  pub level_equals : s.stage ≡ Equals → MarginRoom s
  level_equals e = record { room = held_as Equals e; small = inner_as Equals e }

  pub level_other : s.stage ≡ Other → MarginRoom s
  level_other e = record { room = held_as Other e; small = inner_as Other e }

  pub room_behind : (d : Extent) (o : Side Extent) → s.stage ≡ Behind d o → s.deep < most_margins
  room_behind d o e = held_as (Behind d o) e

  pub level_behind : (d : Extent) (o : Side Extent) → s.stage ≡ Behind d o → MarginRoom s
  level_behind d o e = record { room = omega (arith, room_behind d o e); small = (inner_as (Behind d o) e).2 }

  pub behind_extent : (d : Extent) (o : Side Extent) → s.stage ≡ Behind d o → ExtentUnder 1000 (extent_of d)
  behind_extent d o e = (inner_as (Behind d o) e).0

  pub behind_side : (d : Extent) (o : Side Extent) → s.stage ≡ Behind d o → SideUnder 1000 (side_of o)
  behind_side d o e = (inner_as (Behind d o) e).1

  pub past_extent : (b : Bool) (p : Extent) → s.stage ≡ Past b p → ExtentUnder 1000 (extent_of p)
  past_extent b p e = inner_as (Past b p) e

pub kernel_as : (s : Script) (g : Stage) → s.stage ≡ g → kernel (stage_of g (margins_in s)) ≡ kernel (stage_of s.stage (margins_in s))
kernel_as s g e = ap (λ x. kernel (stage_of x (margins_in s))) (sym e)

pub step_as : (v : Visit) (k : ℕ) (s : Script) (g : Stage) → s.stage ≡ g → step_stage v (stage_of g (margins_in s)) (layers_in s) k ≡ step_outline v (outline_of s) k
step_as v k s g e = ap (λ x. step_stage v (stage_of x (margins_in s)) (layers_in s) k) (sym e)

pub ends_as : (s : Script) (g : Stage) → s.stage ≡ g → ends_at (stage_of g (margins_in s)) (layers_in s) ≡ ends_here (outline_of s)
ends_as s g e = ap (λ x. ends_at (stage_of x (margins_in s)) (layers_in s)) (sym e)

pub none_tested : (r : Option conditions.ConditionOutline) (ls : List statements.Layer) (k : ℕ) → tested_of ls r ≡ step_tested r none ls k
none_tested none ls k = refl
none_tested (some r) ls k = refl

pub test_kernel : (ms : List conditions.Margin) (r c d : outlines.Extent) → r ≡ outlines.branching (with_margins ms c) vacant vacant → c ≡ d → r ≡ outlines.branching (with_margins ms d) vacant vacant
test_kernel ms r c d e q = e ∙ ap (λ x. outlines.branching (with_margins ms x) vacant vacant) q

-- sizes
pub bytes_measured : (s : Script) (e : Extent) → Standing s → extent_of e ≡ wrapped_in (layers_in s) (kernel (stage_of s.stage (margins_in s))) → e.bytes ≡ (finished (outline_of s)).bytes
bytes_measured s e h q = ap (λ x. x.bytes) (q ∙ sym (finished_kernel (outline_of s) h.sound))

pub few_measured : (s : Script) (e : Extent) → Standing s → extent_of e ≡ wrapped_in (layers_in s) (kernel (stage_of s.stage (margins_in s))) → e.bytes ≤ 255
few_measured s e h q = omega (arith, bytes_measured s e h q, h.within.short)

-- the next script
-- an answer under another name is what the step tells of it
pub went : (v : Visit) (s : Script) (k : ℕ) (a b : Side Script) → a ≡ b → answer_of a ≡ step_outline v (outline_of s) k → answer_of b ≡ step_outline v (outline_of s) k
went v s k a b e h = subst (λ x. answer_of x ≡ step_outline v (outline_of s) k) e h

pub step_refused : (v : Visit) (s : Script) (k : ℕ) → none ≡ step_outline v (outline_of s) k → Stepped v s k None
step_refused v s k q = refused (λ o h. none_some (q ∙ h.taken))
  where
    none_some : {o : Outline} → ◌≡◌ {A = Option Outline} none (some o) → ⊥
    none_some p = let z : ◌≡◌ {A = ℕ} 0 1 = cc in omega arith

module _ (v : Visit) (s n : Script) (k : ℕ) (h : Standing s) (p : some (outline_of n) ≡ step_outline v (outline_of s) k) where
  q : step_outline v (outline_of s) k ≡ some (outline_of n)
  q = sym p

  next_sound : SoundOutline (outline_of n)
  next_sound = stays_sound v (outline_of s) (outline_of n) k h.sound q

  pub next_firmly : ScriptFirm n
  next_firmly =
      record {
        low = omega (arith, one_layer_more v (outline_of s) (outline_of n) k q, few_layers (outline_of s) h.sound h.within, depth_is n, depth_is s);
        margins_held = margins_held n.stage n.margins n.deep (layers_in n) next_sound.stage_firm;
        small = parts_stay_small v (outline_of s) (outline_of n) k h.sound h.within q;
      }

  module _ (e : Extent) (m : extent_of e ≡ wrapped_in (layers_in n) (kernel (stage_of n.stage (margins_in n)))) where
    measured : extent_of e ≡ finished (outline_of n)
    measured = m ∙ sym (finished_kernel (outline_of n) next_sound)

    only_next : (o : Outline) → OutlineKeeps v (outline_of s) k o → ExtentWithin (extent_of e)
    only_next o w = let same : o ≡ outline_of n = cc (q, w.taken) in subst ExtentWithin (sym measured) (subst (λ x. ExtentWithin (finished x)) same w.within)

    pub too_long : 255 < e.bytes → Stepped v s k None
    too_long g = refused (λ o w. omega (arith, g, (only_next o w).short))

    pub too_deep : 8 < e.nested → Stepped v s k None
    too_deep g = refused (λ o w. omega (arith, g, (only_next o w).shallow))

    pub stepped : e.bytes ≤ 255 → e.nested ≤ 8 → Stepped v s k (Some n)
    stepped f g =
        let w : ExtentWithin (finished (outline_of n)) = subst ExtentWithin measured (record { short = omega arith; shallow = g }) in
        taken (record { taken = q; within = w }) (record { sound = next_sound; within = w })
