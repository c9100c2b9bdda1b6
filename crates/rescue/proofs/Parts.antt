-- How a stream is cut into parts, and how much room and how many entries are lent at a time, changes nothing but what a cut reference by number does: a call on a part goes as the call on
-- the whole up to where it stops (`resume`), and from there on the bytes that are left do as well as the whole (`shift`).
-- Assumes nothing.
use mathlib.Core.Path.{◌≡◌, refl, sym, ap, ◌∙◌, subst}
use mathlib.Core.Bool.{Bool}
use mathlib.Core.List.{List, ◌++◌}
use mathlib.Core.Option.{Option, none, some}
use Prim.Native.Nat.{ℕ, ◌+◌, ◌-◌, ◌≤◌}
use native.Mathlib.Omega.{arith}
use lib.ListN.{length, drop, length-append}
use Rattle.sheet.specs.Sheet.{Sheet}
use Rattle.calls.specs.Parts.{EndTold}
use Rattle.salvage.specs.Shape.{RecordTags}
use Rattle.rescue.specs.Held.{Mode, HeldSalvage, Rescued}
use Rattle.rescue.specs.Call.{larger, Rescues, setting, RescuedBy}
use Rattle.rescue.specs.Parts.{CutIn, SameReport, SameMode, same_mode, cut_mode, SameNumber, SameRescue, Began, RescueContinued, RescueInParts}
use Rattle.rescue.proofs.Onward.{GoesOnward, Onward, resume, reports_both}
use Rattle.rescue.proofs.Renumbered.{same_rescue, renumber}
use Rattle.rescue.proofs.Shifted.{moved_rescue, shift}

module _ (a : Sheet) (x : RecordTags) (s later : List ℕ) (b more : Bool) (told : EndTold b later more) (base area room extra spare entries : ℕ) where
  -- from where the part's call has stopped, in its own mode
  in_its_mode : (at room' spare' p : ℕ) (m M : Mode) (r : Rescued) → at ≤ length s → p ≡ base + at → SameMode (s ++ later) base p m M →
      Rescues (setting a x (s ++ later) more base area) at room' spare' M r →
      (r' : Rescued) × Rescues (setting a x (s ++ later) more base area) at room' spare' m r' × SameRescue (s ++ later) base r' r
  in_its_mode at room' spare' p m M r l e (same_mode k) d = (r, d, same_rescue (s ++ later) base r)
  in_its_mode at room' spare' p m M r l e (cut_mode z f c) d =
      renumber (setting a x (s ++ later) more base area) at room' spare' z f (subst (CutIn (s ++ later) base f) e c) (omega (arith, l, length-append s later)) r d

  -- as a call of its own
  as_call : (r₁ r : Rescued) → r₁.held.closing ≡ none → GoesOnward a x s later b more told base area extra entries room spare r₁ r →
      RescueContinued a x (s ++ later) more area (room + extra) (spare + entries) base r₁ r none
  as_call r₁ r h o =
      let (r₃, d₃, q) = in_its_mode r₁.taken (room + extra - length r₁.output) (spare + entries - length r₁.report) r₁.held.passed r₁.held.mode o.mode o.rest
      o.within o.stands o.modes o.runs in
      let (r₂, d₂, e) = shift a x (s ++ later) more base area r₁.taken (let l = o.within in omega (arith, l, length-append s later)) d₃ 0 (omega arith) in
      let q₂ : SameRescue (s ++ later) base (moved_rescue r₁.taken r₂) o.rest = subst (λ (y : Rescued). SameRescue (s ++ later) base y o.rest) e q in
      let left : Rescues (setting a x (drop r₁.taken (s ++ later)) more r₁.held.passed area) 0 (room + extra - length r₁.output) (spare + entries - length r₁.report) r₁.held.mode r₂ =
      subst (λ (p : ℕ). Rescues (setting a x (drop r₁.taken (s ++ later)) more p area) 0 (room + extra - length r₁.output) (spare + entries - length r₁.report) r₁.held.mode r₂)
      (sym o.stands) d₂ in
      let i = ap (λ (y : HeldSalvage). y.closing) o.held in (
        r₂,
        subst (λ (c : Option ℕ). RescuedBy a x (drop r₁.taken (s ++ later)) more area (room + extra - length r₁.output) (spare + entries - length r₁.report) r₁.held c r₂) (sym h) left,
        record {
          number = subst (λ (n : ℕ). SameNumber (s ++ later) (r₁.taken + r₂.taken) r₂.number r₂.held.closing n r.held.closing) (sym o.number)
              (subst (SameNumber (s ++ later) (r₁.taken + r₂.taken) r₂.number r₂.held.closing o.rest.number) (sym i) q₂.number);
          taken = o.taken ∙ q₂.taken;
          output = o.output ∙ ap (λ (l : List ℕ). r₁.output ++ l) q₂.output;
          report = subst (SameReport (s ++ later) base (r₁.report ++ r₂.report)) (sym o.report) (reports_both o.reports q₂.report);
          waited = o.waited ∙ ap (larger r₁.waited) q₂.waited;
          mode = subst (SameMode (s ++ later) base r₂.held.passed r₂.held.mode) (sym (ap (λ (y : HeldSalvage). y.mode) o.held)) q₂.mode;
          passed = ap (λ (y : HeldSalvage). y.passed) o.held ∙ q₂.passed;
        },
      )

  continued : (r₁ r : Rescued) (c : Option ℕ) → r₁.held.closing ≡ c → Onward a x s later b more told base area extra entries room spare r₁ r c →
      RescueContinued a x (s ++ later) more area (room + extra) (spare + entries) base r₁ r c
  continued r₁ r none h o = as_call r₁ r h o
  continued r₁ r (some n) h o = o

pub rescue_in_parts : (a : Sheet) (x : RecordTags) → RescueInParts a x
rescue_in_parts a x s later b more told area room extra spare entries h r₁ r g d d' = by h.closing refl d d'
  where
    by : (c : Option ℕ) → h.closing ≡ c → RescuedBy a x s b area room spare h c r₁ → RescuedBy a x (s ++ later) more area (room + extra) (spare + entries) h c r →
        RescueContinued a x (s ++ later) more area (room + extra) (spare + entries) h.passed r₁ r r₁.held.closing
    by none e d d' =
        continued a x s later b more told h.passed area room extra spare entries r₁ r r₁.held.closing refl
        (resume a x s later b more told h.passed area extra entries d h.mode r (omega arith) (subst (λ (p : ℕ). Began p h.mode) (omega arith) g) (same_mode h.mode) d')
    by (some n) e d d' =
        subst (RescueContinued a x (s ++ later) more area (room + extra) (spare + entries) h.passed r₁ r) (sym (ap (λ (y : Rescued). y.held.closing) d ∙ e))
        (subst (SameRescue (s ++ later) h.passed r₁) (d ∙ sym d') (same_rescue (s ++ later) h.passed r₁))
