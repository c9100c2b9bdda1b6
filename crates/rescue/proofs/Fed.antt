-- So any calls that feed a stream answer together what one call on all of it does.
-- Assumes nothing.
use mathlib.Core.Path.{◌≡◌, refl, sym, ap, ◌∙◌, subst}
use mathlib.Core.Bool.{false}
use mathlib.Core.List.{List, ◌++◌}
use mathlib.Core.Option.{Option, some}
use Prim.Native.Nat.{ℕ, ◌+◌, ◌-◌}
use native.Mathlib.Omega.{arith}
use lib.ListN.{length, drop}
use lib.Seq.{drop-drop}
use Rattle.text.specs.Chars.{Starts}
use Rattle.sheet.specs.Sheet.{Sheet}
use Rattle.salvage.specs.Shape.{RecordTags}
use Rattle.salvage.specs.Salvage.{LostStretch, lost}
use Rattle.rescue.specs.Held.{Mode, between, inside, skipping, fresh_salvage, Rescued}
use Rattle.rescue.specs.Call.{larger}
use Rattle.rescue.specs.Parts.{CutIn, SameStretch, same_stretch, cut_stretch, SameReport, no_more, and_then, SameMode, same_mode, cut_mode, SameNumber, same_number, cut_off, SameRescue, both_rescues, RescueContinued, at_once, closes, goes_on, FedAsOne, FedSalvages}
use Rattle.rescue.proofs.One.{one_rescue}
use Rattle.rescue.proofs.Lift.{same_report}
use Rattle.rescue.proofs.Onward.{reports_both}
use Rattle.rescue.proofs.Renumbered.{same_rescue}
use Rattle.rescue.proofs.Parts.{rescue_in_parts}
use Rattle.rescue.proofs.Some.{some_rescue, rescue_within}
use Rattle.rescue.proofs.Whole.{call_salvages}

-- the number that a mode passes over with
abbrev number_in : Mode → ℕ
number_in (between z) = 0
number_in (inside z y f v) = 0
number_in (skipping z f n) = n

-- a number is changed once: 21 may be 20, and 20 stays
number_stays : {whole : List ℕ} (t n : ℕ) (c : Option ℕ) (n' : ℕ) (c' : Option ℕ) → SameNumber whole t n c n' c' → n ≡ 20 → (n ≡ n') × (c ≡ c')
number_stays t n c n' c' (same_number k o) q = (refl, refl)
number_stays t n c n' c' (cut_off had i j) q = absurd (omega (arith, q))

number_then : {whole : List ℕ} (t n : ℕ) (c : Option ℕ) (n₁ : ℕ) (c₁ : Option ℕ) (n₂ : ℕ) (c₂ : Option ℕ) → SameNumber whole t n c n₁ c₁ → SameNumber whole t n₁ c₁ n₂ c₂ → SameNumber whole t n c n₂ c₂
number_then t n c n₁ c₁ n₂ c₂ (same_number k o) j = j
number_then {whole} t n c n₁ c₁ n₂ c₂ (cut_off had i k) j =
    let (e, f) = number_stays t 20 (some 20) n₂ c₂ j refl in
    subst (λ (o : Option ℕ). SameNumber whole t 21 (some 21) n₂ o) f (subst (λ (m : ℕ). SameNumber whole t 21 (some 21) m (some 20)) e (cut_off had i k))

module _ {whole : List ℕ} {base : ℕ} where
  stretch_stays : (d e : LostStretch) → SameStretch whole base d e → d.number ≡ 20 → d ≡ e
  stretch_stays d e (same_stretch k) q = refl
  stretch_stays d e (cut_stretch f l c) q = absurd (omega (arith, q))

  stretch_then : (d e g : LostStretch) → SameStretch whole base d e → SameStretch whole base e g → SameStretch whole base d g
  stretch_then d e g (same_stretch k) j = j
  stretch_then d e g (cut_stretch f l c) j = subst (SameStretch whole base (lost f l 21)) (stretch_stays (lost f l 20) g j refl) (cut_stretch f l c)

  report_then : {ds es gs : List LostStretch} → SameReport whole base ds es → SameReport whole base es gs → SameReport whole base ds gs
  report_then no_more no_more = no_more
  report_then (and_then {d} {d' = e} i r) (and_then {d' = g} k q) = and_then (stretch_then d e g i k) (report_then r q)

  mode_stays : (p : ℕ) (m k : Mode) → SameMode whole base p m k → number_in m ≡ 20 → m ≡ k
  mode_stays p m k (same_mode j) q = refl
  mode_stays p m k (cut_mode z f c) q = absurd (omega (arith, q))

  mode_then : (p : ℕ) (m k l : Mode) → SameMode whole base p m k → SameMode whole base p k l → SameMode whole base p m l
  mode_then p m k l (same_mode j) i = i
  mode_then p m k l (cut_mode z f c) i = subst (SameMode whole base p (skipping z f 21)) (mode_stays p (skipping z f 20) l i refl) (cut_mode z f c)

  pub same_then : (r q p : Rescued) → SameRescue whole base r q → SameRescue whole base q p → SameRescue whole base r p
  same_then r q p i j =
      record {
        number = number_then r.taken r.number r.held.closing q.number q.held.closing p.number p.held.closing i.number
            (subst (λ (t : ℕ). SameNumber whole t q.number q.held.closing p.number p.held.closing) i.taken j.number);
        taken = j.taken ∙ i.taken;
        output = j.output ∙ i.output;
        report = report_then i.report j.report;
        waited = j.waited ∙ i.waited;
        mode = mode_then r.held.passed r.held.mode q.held.mode p.held.mode i.mode (subst (λ (t : ℕ). SameMode whole base t q.held.mode p.held.mode) i.passed j.mode);
        passed = j.passed ∙ i.passed;
      }

-- what stands in the bytes that are left stands in the whole
module _ (whole : List ℕ) (base n : ℕ) where
  cut_in_whole : (f to : ℕ) → CutIn (drop n whole) (base + n) f to → CutIn whole base f to
  cut_in_whole f to c =
      record {
        place = n + c.place;
        had = c.had;
        cut = c.cut;
        stands = subst (λ (l : List ℕ). Starts l c.had) (drop-drop c.place n whole) c.stands;
        behind = omega (arith, c.behind);
        not_past = omega (arith, c.not_past);
      }

  stretch_in_whole : (d e : LostStretch) → SameStretch (drop n whole) (base + n) d e → SameStretch whole base d e
  stretch_in_whole d e (same_stretch k) = same_stretch k
  stretch_in_whole d e (cut_stretch f l c) = cut_stretch f l (cut_in_whole f _ c)

  report_in_whole : {ds es : List LostStretch} → SameReport (drop n whole) (base + n) ds es → SameReport whole base ds es
  report_in_whole no_more = no_more
  report_in_whole (and_then {d} {d' = e} i r) = and_then (stretch_in_whole d e i) (report_in_whole r)

  mode_in_whole : (p : ℕ) (m k : Mode) → SameMode (drop n whole) (base + n) p m k → SameMode whole base p m k
  mode_in_whole p m k (same_mode j) = same_mode j
  mode_in_whole p m k (cut_mode z f c) = cut_mode z f (cut_in_whole f p c)

  number_in_whole : (t j : ℕ) (c : Option ℕ) (j' : ℕ) (c' : Option ℕ) → SameNumber (drop n whole) t j c j' c' → SameNumber whole (n + t) j c j' c'
  number_in_whole t j c j' c' (same_number k o) = same_number k o
  number_in_whole t j c j' c' (cut_off had i s) = cut_off had i (subst (λ (l : List ℕ). Starts l had) (drop-drop t n whole) s)

  -- a second answer, behind a first that has taken n bytes
  behind_first : (r₁ r₂ q : Rescued) → r₁.taken ≡ n → SameRescue (drop n whole) (base + n) r₂ q → SameRescue whole base (both_rescues r₁ r₂) (both_rescues r₁ q)
  behind_first r₁ r₂ q e i =
      record {
        number = subst (λ (k : ℕ). SameNumber whole (k + r₂.taken) r₂.number r₂.held.closing q.number q.held.closing) (sym e)
            (number_in_whole r₂.taken r₂.number r₂.held.closing q.number q.held.closing i.number);
        taken = ap (λ (k : ℕ). r₁.taken + k) i.taken;
        output = ap (λ (l : List ℕ). r₁.output ++ l) i.output;
        report = reports_both (same_report whole base r₁.report) (report_in_whole i.report);
        waited = ap (larger r₁.waited) i.waited;
        mode = mode_in_whole r₂.held.passed r₂.held.mode q.held.mode i.mode;
        passed = i.passed;
      }

pub fed_as_one : (a : Sheet) (x : RecordTags) → FedAsOne a x
fed_as_one a x more area whole room spare h r r' g (at_once d) e =
    subst (SameRescue whole h.passed r) (one_rescue a x whole more area room spare h r r' d e) (same_rescue whole h.passed r)
fed_as_one a x more area whole room spare h r r' g (closes room₁ extra spare₁ entries s later b r₁ n told d c) e =
    subst (RescueContinued a x (s ++ later) more area (room₁ + extra) (spare₁ + entries) h.passed r₁ r') c
    (rescue_in_parts a x s later b more told area room₁ extra spare₁ entries h r₁ r' g d e)
fed_as_one a x more area whole room spare h r r' g (goes_on {r₂ = r₂} room₁ extra spare₁ entries s later b r₁ told d c f) e =
    let (q, k, i) = subst (RescueContinued a x (s ++ later) more area (room₁ + extra) (spare₁ + entries) h.passed r₁ r') c
    (rescue_in_parts a x s later b more told area room₁ extra spare₁ entries h r₁ r' g d e) in
    let (l, o, p) = rescue_within a x s b area room₁ spare₁ h r₁ g d in
    let j = fed_as_one a x more area (drop r₁.taken (s ++ later)) (room₁ + extra - length r₁.output) (spare₁ + entries - length r₁.report) r₁.held r₂ q o f k in
    same_then (both_rescues r₁ r₂) (both_rescues r₁ q) r'
    (behind_first (s ++ later) h.passed r₁.taken r₁ r₂ q refl (subst (λ (m : ℕ). SameRescue (drop r₁.taken (s ++ later)) m r₂ q) p j)) i

pub fed_salvages : (a : Sheet) (x : RecordTags) → FedSalvages a x
fed_salvages a x fit area whole room spare r d l =
    let (r', e) = some_rescue a x whole false area room spare fresh_salvage tt in
    (r', fed_as_one a x false area whole room spare fresh_salvage r r' tt d e, call_salvages a x fit whole area room spare r' e l)
