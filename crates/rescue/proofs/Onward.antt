-- How a call on the whole goes on where a call on a part of it stops: step by step the two are the same.
-- Assumes nothing.
use mathlib.Core.Path.{◌≡◌, refl, sym, ap, ◌∙◌, subst}
use mathlib.Core.Bool.{Bool}
use mathlib.Core.List.{List, [], ◌++◌, append_assoc}
use mathlib.Core.Option.{Option, none, some}
use Prim.Native.Nat.{ℕ, ◌+◌, ◌-◌, ◌≤◌}
use native.Mathlib.Omega.{arith}
use lib.ListN.{length, length-append}
use Rattle.sheet.specs.Sheet.{Sheet}
use Rattle.calls.specs.Held.{leaves_open, closing_of}
use Rattle.calls.specs.Call.{room_left}
use Rattle.calls.specs.Parts.{EndTold}
use Rattle.salvage.specs.Shape.{RecordTags}
use Rattle.salvage.specs.Salvage.{LostStretch}
use Rattle.rescue.specs.Held.{Mode, Rescued}
use Rattle.rescue.specs.Step.{Setting, on, stop}
use Rattle.rescue.specs.Call.{halted, larger, after_step, spare_left, Rescues, goes, halts}
use Rattle.rescue.specs.Parts.{SameReport, no_more, and_then, SameRescue, Began}
use Rattle.rescue.proofs.One.{goes_by}
use Rattle.rescue.proofs.Lift.{part_call, whole_call, Modes, Reports, Lifted, goes_on, ends_so, waits, same_length, lift_step}

pub reports_both : {whole : List ℕ} {base : ℕ} {ds ds' es es' : List LostStretch} → SameReport whole base ds ds' → SameReport whole base es es' → SameReport whole base (ds ++ es) (ds' ++ es')
reports_both no_more j = j
reports_both (and_then d i) j = and_then d (reports_both i j)

module _ (a : Sheet) (x : RecordTags) (s later : List ℕ) (b more : Bool) (told : EndTold b later more) (base area extra entries : ℕ) where
  abbrev pub on_part : Setting
  on_part = part_call a x s later b more told base area extra entries

  abbrev pub on_whole : Setting
  on_whole = whole_call a x s later b more told base area extra entries

  -- the call on the whole, from where the part's has stopped open
  pub record GoesOnward (room spare : ℕ) (r₁ r : Rescued) : Type 0 where
    pub within : r₁.taken ≤ length s
    pub mode : Mode
    pub modes : Modes a x s later b more told base area extra entries r₁.held.passed r₁.held.mode mode
    pub stands : r₁.held.passed ≡ base + r₁.taken
    pub rest : Rescued
    pub runs : Rescues on_whole r₁.taken (room + extra - length r₁.output) (spare + entries - length r₁.report) mode rest
    pub number : r.number ≡ rest.number
    pub taken : r.taken ≡ rest.taken
    pub output : r.output ≡ r₁.output ++ rest.output
    pub first_report : List LostStretch
    pub reports : Reports a x s later b more told base area extra entries r₁.report first_report
    pub report : r.report ≡ first_report ++ rest.report
    pub waited : r.waited ≡ larger r₁.waited rest.waited
    pub held : r.held ≡ rest.held

  -- by what closed the state
  abbrev pub Onward : (room spare : ℕ) → Rescued → Rescued → Option ℕ → Type 0
  Onward room spare r₁ r none = GoesOnward room spare r₁ r
  Onward room spare r₁ r (some n) = SameRescue (s ++ later) base r₁ r

  -- behind a step that is the same
  behind : (room spare : ℕ) (w : List ℕ) (ds ds' : List LostStretch) (k : ℕ) (r₁ r r' : Rescued) (c : Option ℕ) → length w ≤ room → length ds ≤ spare →
      Reports a x s later b more told base area extra entries ds ds' → r ≡ after_step w ds' k r' → Onward (room_left room w) (spare_left spare ds) r₁ r' c →
      Onward room spare (after_step w ds k r₁) r c
  behind room spare w ds ds' k r₁ r r' none f g h e o =
      record {
        within = o.within;
        mode = o.mode;
        modes = o.modes;
        stands = o.stands;
        rest = o.rest;
        runs = subst (λ (j : ℕ). Rescues on_whole r₁.taken (room + extra - length (w ++ r₁.output)) j o.mode o.rest) (omega (arith, length-append ds r₁.report, g))
            (subst (λ (j : ℕ). Rescues on_whole r₁.taken j (spare_left spare ds + entries - length r₁.report) o.mode o.rest) (omega (arith, length-append w r₁.output, f)) o.runs);
        number = ap (λ (q : Rescued). q.number) e ∙ o.number;
        taken = ap (λ (q : Rescued). q.taken) e ∙ o.taken;
        output = ap (λ (q : Rescued). q.output) e ∙ ap (λ (l : List ℕ). w ++ l) o.output ∙ sym (append_assoc w r₁.output o.rest.output);
        first_report = ds' ++ o.first_report;
        reports = reports_both h o.reports;
        report = ap (λ (q : Rescued). q.report) e ∙ ap (λ (l : List LostStretch). ds' ++ l) o.report ∙ sym (append_assoc ds' o.first_report o.rest.report);
        waited = ap (λ (q : Rescued). q.waited) e ∙ ap (larger k) o.waited ∙ omega arith;
        held = ap (λ (q : Rescued). q.held) e ∙ o.held;
      }
  behind room spare w ds ds' k r₁ r r' (some n) f g h e o =
      subst (SameRescue (s ++ later) base (after_step w ds k r₁)) (sym e)
      (record { number = o.number; taken = o.taken; output = ap (λ (l : List ℕ). w ++ l) o.output; report = reports_both h o.report; waited = ap (larger k) o.waited; mode = o.mode; passed = o.passed })

  pub resume : {at room spare : ℕ} {m : Mode} {r₁ : Rescued} → Rescues on_part at room spare m r₁ → (M : Mode) (r : Rescued) → at ≤ length s → Began (base + at) m →
      Modes a x s later b more told base area extra entries (base + at) m M → Rescues on_whole at (room + extra) (spare + entries) M r → Onward room spare r₁ r r₁.held.closing
  resume (goes {at} {room} {spare} {m} {r = r₁} next m' w ds k i d) M r l g j d' =
      by (lift_step a x s later b more told base area extra entries at room spare m M (on next m' w ds k) i l g j) (λ M' r' c h q e. resume d M' r' c h q e)
    where
      by : Lifted a x s later b more told base area extra entries at room spare m M (on next m' w ds k) →
          ((M' : Mode) (r' : Rescued) → next ≤ length s → Began (base + next) m' → Modes a x s later b more told base area extra entries (base + next) m' M' →
          Rescues on_whole next (room_left room w + extra) (spare_left spare ds + entries) M' r' → Onward (room_left room w) (spare_left spare ds) r₁ r' r₁.held.closing) →
          Onward room spare (after_step w ds k r₁) r r₁.held.closing
      by (goes_on M' ds' c f n h q p st) rec =
          let (r', e, z) = goes_by on_whole d' (on next M' w ds' k) st in
          behind room spare w ds ds' k r₁ r r' r₁.held.closing f n p z
          (rec M' r' c h q
          (subst (λ (j : ℕ). Rescues on_whole next (room_left room w + extra) j M' r') (omega (arith, n, same_length p))
          (subst (λ (j : ℕ). Rescues on_whole next j (spare_left (spare + entries) ds') M' r') (omega (arith, f)) e)))
  resume (halts {at} {room} {spare} {m} n to m' ds k i) M r l g j d' = by n to m' ds k (lift_step a x s later b more told base area extra entries at room spare m M (stop n to m' ds k) i l g j)
    where
      by : (n to : ℕ) (m' : Mode) (ds : List LostStretch) (k : ℕ) → Lifted a x s later b more told base area extra entries at room spare m M (stop n to m' ds k) →
          Onward room spare (halted on_part n to m' ds k) r (closing_of (leaves_open n) n)
      by n to m' ds k (ends_so N M' ds' o q h p st) =
          let e = goes_by on_whole d' (stop N to M' ds' k) st in
          subst (λ (c : Bool). Onward room spare (halted on_part n to m' ds k) r (closing_of c n)) (sym o)
          (subst (SameRescue (s ++ later) base (halted on_part n to m' ds k)) (sym e)
          (record { number = q; taken = refl; output = refl; report = p; waited = refl; mode = h; passed = refl }))
      by n to m' ds k (waits o c h up v) =
          subst (λ (c : Bool). Onward room spare (halted on_part n to m [] k) r (closing_of c n)) (sym o)
          (record {
            within = c;
            mode = M;
            modes = h;
            stands = refl;
            rest = r;
            runs = subst (λ (j : ℕ). Rescues on_whole to (room + extra - 0) j M r) (omega arith) (subst (λ (j : ℕ). Rescues on_whole to j (spare + entries) M r) (omega arith) (up r d'));
            number = refl;
            taken = refl;
            output = refl;
            first_report = [];
            reports = no_more;
            report = refl;
            waited = let l = v r d' in omega arith;
            held = refl;
          })
