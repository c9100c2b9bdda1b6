-- The checker's count is small, since the list of a sheet's faults fits 65,536 bytes, so it and the number go into one answer and can be had back
-- from it. A fresh state's bytes fit where the area is long enough. And any two allowed answers are equal.
-- Assumes nothing.
use mathlib.Core.Path.{◌≡◌, refl, ap, sym, ◌∙◌}
use mathlib.Core.List.{List, ◌++◌}
use Prim.Native.Nat.{ℕ, ◌+◌, ◌*◌, ◌/◌, ◌%◌, ◌≤◌}
use native.Mathlib.Omega.{arith}
use native.Mathlib.Nat.{zero-add}
use Rattle.expressions.proofs.Room.{any_suffices}
use Rattle.layout.specs.Layout.{tag_count}
use Rattle.sheet.specs.Sheet.{grammar_of}
use Rattle.sheet.proofs.SheetLaws.{numbered_productions, few_productions, few_nodes, sheet_grammar}
use Rattle.faults.specs.Checked.{CheckedAs, malformed, well_formed_lem}
use Rattle.faults.specs.declared.Checked.{Checked}
use Rattle.faults.proofs.Theorems.{one_answer, numbers}
use lib.ListN.{length, drop}
use Rattle.lent.proofs.Laws.{put_all}
use Rattle.state.specs.Bounds.{state_width}
use Rattle.state.specs.Bytes.{Wrote, bytes_of}
use Rattle.state.specs.Changes.{fresh_state}
use Rattle.state.specs.declared.State.{State}
use Rattle.capi.specs.Packed.{PackedAs}
use Rattle.capi.specs.Started.{StartedAs, too_short, fresh}

pub few_faults : {s lent after : List ℕ} {r : Checked} → CheckedAs s lent after r → r.count ≤ 16384
few_faults (malformed h d c e) = omega (arith, c)
few_faults {s} (well_formed_lem a i l is c z) =
    let g = grammar_of a.rules in
    let w = i.well_formed_lem in
    let o = sheet_grammar i in
    omega (arith, c, any_suffices (tag_count s) g l (numbered_productions w g o) (few_productions w g o) (few_nodes w g o) is)

-- the number and the count can be had back
pub unpacked : {s lent after : List ℕ} {w : ℕ} (p : PackedAs s lent after w) → (p.answer.number ≡ w % 256) × (p.answer.count ≡ w / 256)
unpacked p = let n = numbers p.as_checked in let e = p.packed in (omega (arith, n, e), omega (arith, n, e))

pub one_packed : {s lent x y : List ℕ} {v w : ℕ} → PackedAs s lent x v → PackedAs s lent y w → (x ≡ y) × (v ≡ w)
one_packed p q =
    let o = one_answer p.as_checked q.as_checked in
    (o.0, p.packed ∙ ap (λ (r : Checked). 256 * r.count + r.number) o.1 ∙ sym q.packed)

pub started : {lent after : List ℕ} {z : State} {r : ℕ} → state_width ≤ length lent → z ≡ fresh_state → Wrote state_width lent 0 (bytes_of z) after r →
    StartedAs lent after r
started {lent} {after} {z} h e w =
    fresh h
    (w.left ∙ put_all lent 0 (bytes_of z) (omega (arith, w.wide, h)) ∙ ap (λ (k : ℕ). bytes_of z ++ drop k lent) (zero-add _ ∙ w.wide) ∙
    ap (λ (y : State). bytes_of y ++ drop state_width lent) e)
    w.next

pub one_start : {lent x y : List ℕ} {v w : ℕ} → StartedAs lent x v → StartedAs lent y w → (x ≡ y) × (v ≡ w)
one_start (too_short h e) (too_short i f) = (e ∙ sym f, refl)
one_start (too_short h e) (fresh i f n) = absurd (omega (arith, h, i))
one_start (fresh h e m) (too_short i f) = absurd (omega (arith, h, i))
one_start (fresh h e m) (fresh i f n) = (e ∙ sym f, m ∙ sym n)
