-- A state is handed back in one form, and the area is cleared where bytes waited that do not any more.
-- Assumes nothing.
use mathlib.Core.Path.{◌≡◌, refl, sym, ap, ap₂, subst, ◌∙◌}
use mathlib.Core.Bool.{Bool, true, false, cond}
use mathlib.Core.List.{List, [], ◌∷◌, ◌++◌, append_assoc}
use mathlib.Core.Option.{Option, none, some}
use Prim.Native.Nat.{ℕ, zero, suc, ◌+◌, ◌-◌, ◌≤◌}
use native.Mathlib.Omega.{arith}
use lib.ListN.{length, take, drop, replicate, length-replicate}
use lib.Seq.{length-take-le}
use Rattle.lent.specs.Put.{put}
use Rattle.lent.proofs.Laws.{put_all}
use Rattle.sheet.specs.Sheet.{Sheet}
use Rattle.runs.specs.Machine.{Configuration}
use Rattle.calls.specs.Held.{leaves_open, closing_of}
use Rattle.state.specs.Bounds.{frame_width, rooted_at, head_width, state_width}
use Rattle.state.specs.Bytes.{bytes_of}
use Rattle.state.specs.Canonical.{state_for}
use Rattle.state.specs.Changes.{not_closed, tidied}
use Rattle.state.specs.Meaning.{meaning_of, Shaped}
use Rattle.state.specs.declared.State.{State}
use Rattle.state.proofs.Tidy.{tidied_for}
use Rattle.live.specs.declared.Live.{Live}
use Rattle.live.specs.Live.{full}
use Rattle.converter.specs.Answered.{closing_byte}
use Rattle.converter.specs.Inner.{closed_live, left_live}
use Rattle.rescue.specs.Held.{Mode, between, inside, skipping, waiting_in}
use Rattle.rescued.specs.Bytes.{return_bytes, tail_bytes, no_return, mode_bytes, area_after}
use Rattle.turns.specs.declared.Stand.{Stand}
use Rattle.turns.specs.Stands.{mode_by, mode_of, RunStands, HoldsIn, holds_between, holds_inside, holds_skipping}
use Rattle.resting.specs.Laid.{run_bytes, own_bytes, returns_of, StandPut, put_between_lem, put_inside_lem, put_skipping}
use Rattle.strides.proofs.Basics.{alone, stands_alone}
use Rattle.handback.specs.Left.{StateLeft, AreaLeft}

-- ---- the live part that is left with a number
same_run : (n : ℕ) (h : Live) (b : List ℕ) → meaning_of (full (left_live n h) b) ≡ meaning_of (full h b)
unfolding meaning_of
same_run n h b = by (leaves_open n)
  where
    by : (k : Bool) → meaning_of (full (cond k h (closed_live h n)) b) ≡ meaning_of (full h b)
    by true = refl
    by false = refl

same_shape : (n : ℕ) (h : Live) (b : List ℕ) → Shaped (full h b) → Shaped (full (left_live n h) b)
same_shape n h b s = by (leaves_open n)
  where
    by : (k : Bool) → Shaped (full (cond k h (closed_live h n)) b)
    by true = s
    by false = record { deep = s.deep; frames = s.frames; fits = s.fits }

same_closing : (n : ℕ) (h : Live) → h.closed ≡ not_closed → (left_live n h).closed ≡ closing_byte (closing_of (leaves_open n) n)
same_closing n h e = by (leaves_open n)
  where
    by : (k : Bool) → (cond k h (closed_live h n)).closed ≡ closing_byte (closing_of k n)
    by true = e
    by false = refl

-- ---- the run's own bytes, and what returns
run_is : {a : Sheet} (n : ℕ) (h : Live) (b : List ℕ) → RunStands a h (drop head_width (take state_width b)) →
    run_bytes (left_live n h) b ≡ bytes_of (state_for (meaning_of (full h (drop head_width (take state_width b)))) (closing_byte (closing_of (leaves_open n) n)))
run_is n h b S =
    let st : List ℕ = drop head_width (take state_width b) in
    ap bytes_of (tidied_for (full (left_live n h) st) (same_shape n h st S.shaped) ∙ ap₂ state_for (same_run n h st) (same_closing n h S.is_open))

returns_is : {a : Sheet} (z : Live) → z.depth ≡ 1 → RunStands a z [] → returns_of z ≡ return_bytes (meaning_of (full z []))
unfolding return_bytes
returns_is {a} z one S =
    let st : List ℕ = drop head_width (replicate state_width 0) in
    let S' : RunStands a z st = stands_alone z [] st (omega arith) S in
    let e : tidied (full z st) ≡ state_for (meaning_of (full z [])) not_closed =
    tidied_for (full z st) S'.shaped ∙ ap₂ state_for (ap meaning_of (alone z [] st (omega arith))) S.is_open in
    ap (λ (y : State). take rooted_at (bytes_of y) ++ take frame_width (drop head_width (bytes_of y))) e

-- ---- all of it
pub state_left : StateLeft
unfolding mode_bytes
state_left a past t n passed b b' area S H w P = by t.mode refl H P
  where
    by : (m : ℕ) → m ≡ t.mode → HoldsIn a past t m → StandPut t (left_live n t.live) passed b b' → b' ≡ mode_bytes (closing_of (leaves_open n) n) passed (mode_by m t (drop head_width (take state_width b)) area)
    by m q (holds_between x) (put_between_lem e r) = r ∙ ap (λ (y : List ℕ). y ++ tail_bytes 0 passed 0 0 0 no_return) (run_is n t.live b S)
    by m q (holds_between x) (put_inside_lem e r) = absurd (omega arith)
    by m q (holds_between x) (put_skipping d e r) = absurd (d (sym q))
    by m q (holds_inside x o z) (put_between_lem e r) = absurd (omega arith)
    by m q (holds_inside x o z) (put_inside_lem e r) =
        let l : length (take t.waits area) ≡ t.waits = length-take-le t.waits area w in
        r ∙ ap₂ (λ (y v : List ℕ). y ++ tail_bytes 1 passed t.first 0 t.waits v) (run_is n t.live b S) (returns_is t.before o z)
        ∙ ap (λ (i : ℕ). bytes_of (state_for (meaning_of (full t.live (drop head_width (take state_width b)))) (closing_byte (closing_of (leaves_open n) n))) ++ tail_bytes 1 passed t.first 0 i (return_bytes (meaning_of (full t.before [])))) (sym l)
    by m q (holds_inside x o z) (put_skipping d e r) = absurd (e (sym q))
    by m q (holds_skipping x z) (put_between_lem e r) = absurd (omega arith)
    by m q (holds_skipping x z) (put_inside_lem e r) = absurd (omega arith)
    by m q (holds_skipping x z) (put_skipping d e r) = r ∙ ap (λ (y : List ℕ). y ++ tail_bytes 2 passed t.first t.number 0 no_return) (run_is n t.live b S)

-- ---- the area
cleared : (lent d d' : List ℕ) (w k : ℕ) → length d ≡ length lent → w ≤ k → k ≤ length lent → drop k d ≡ drop k lent → d' ≡ put true d w (replicate (k - w) 0) → d' ≡ take w d ++ (replicate (k - w) 0 ++ drop k lent)
cleared lent d d' w k l h j e f =
    let z : List ℕ = replicate (k - w) 0 in
    let lz : length z ≡ k - w = length-replicate {A = ℕ} (k - w) 0 in
    let i : w + length z ≡ k = omega arith in
    f ∙ put_all d w z (omega arith) ∙ append_assoc (take w d) z (drop (w + length z) d) ∙ ap (λ (y : List ℕ). take w d ++ (z ++ y)) (ap (λ (n : ℕ). drop n d) i ∙ e)

as_left : (lent d d' v : List ℕ) (w k : ℕ) → length v ≡ w → v ≡ take w d → d' ≡ take w d ++ (replicate (k - w) 0 ++ drop k lent) → d' ≡ v ++ (replicate (k - length v) 0 ++ drop k lent)
as_left lent d d' v w k l e f = f ∙ ap₂ (λ (y : List ℕ) (n : ℕ). y ++ (replicate (k - n) 0 ++ drop k lent)) (sym e) (sym l)

pub area_left : AreaLeft
area_left a past t stack lent d d' k H l h j e f = by t.mode H (cleared lent d d' t.waits k l h j e f)
  where
    by : (m : ℕ) → HoldsIn a past t m → d' ≡ take t.waits d ++ (replicate (k - t.waits) 0 ++ drop k lent) → d' ≡ area_after lent k (mode_by m t stack d)
    by m (holds_between w) q = as_left lent d d' [] t.waits k (sym w) (ap (λ (i : ℕ). take i d) (sym w)) q
    by m (holds_inside u v w) q = as_left lent d d' (take t.waits d) t.waits k (length-take-le t.waits d (omega arith)) refl q
    by m (holds_skipping u w) q = as_left lent d d' [] t.waits k (sym w) (ap (λ (i : ℕ). take i d) (sym w)) q
