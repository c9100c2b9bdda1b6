-- Modes that read the same bytes are the same; what waits; and a step that leaves the run where it stands, or sets it between two records.
-- Assumes nothing.
use mathlib.Core.Path.{◌≡◌, refl, sym, ap, ap₂, subst, ◌∙◌}
use mathlib.Core.Bool.{Bool, true, false, not}
use mathlib.Core.List.{List, [], ◌∷◌, ◌++◌, append-nil}
use Prim.Native.Nat.{ℕ, zero, suc, ◌+◌, ◌-◌, ◌*◌, ◌/◌, ◌≤◌, ◌<◌}
use native.Mathlib.Omega.{arith}
use lib.ListN.{length, take, drop, length-take, take-append-drop}
use Rattle.lent.specs.Put.{put}
use Rattle.lent.proofs.Laws.{put_none, put_length}
use Rattle.sheet.specs.Sheet.{Sheet}
use Rattle.salvage.specs.Shape.{RecordTags}
use Rattle.salvage.specs.Salvage.{LostStretch, lost}
use Rattle.state.specs.Meaning.{meaning_of, Shaped}
use Rattle.state.specs.declared.State.{State}
use Rattle.fit.specs.RunFits.{RunFits}
use Rattle.live.specs.declared.Live.{Live}
use Rattle.live.specs.Live.{full, SameBelow}
use Rattle.live.proofs.Stacks.{full_same}
use Rattle.rescue.specs.Held.{Mode, between, inside, skipping, waiting_in}
use Rattle.rescue.specs.Step.{Setting, Step, on, stop, StepIs}
use Rattle.rescue.specs.Call.{setting}
use Rattle.rescued.specs.Bytes.{entry_width, entry_bytes, report_bytes}
use Rattle.turns.specs.declared.Stand.{Stand}
use Rattle.turns.specs.declared.Place.{Place}
use Rattle.turns.specs.declared.Given.{Given}
use Rattle.turns.specs.declared.Turn.{Turn}
use Rattle.turns.specs.Stands.{between_in, going, stopping, mode_by, mode_of, RunStands, HoldsIn, holds_between, holds_inside, holds_skipping, ReadyOn}
use Rattle.strides.specs.Strides.{step_goes_on, number_in, place_in, mode_in, written_in, told_in, depth_in, Shown, mode_rank, left_to_do, Strode}

-- a run in which the root alone is open, or none, reads nothing of the stack
pub alone : (h : Live) (b b' : List ℕ) → h.depth ≤ 1 → full h b' ≡ full h b
alone h b b' d = full_same h b b' (λ i l. absurd (omega arith))

pub stands_alone : {a : Sheet} (h : Live) (b b' : List ℕ) → h.depth ≤ 1 → RunStands a h b → RunStands a h b'
stands_alone {a} h b b' d S =
    let e = alone h b b' d in
    record { count = S.count; is_open = S.is_open; shaped = subst Shaped (sym e) S.shaped; fits = subst (λ (z : State). RunFits a (meaning_of z)) (sym e) S.fits }

pub stands_same : {a : Sheet} (h : Live) (b b' : List ℕ) → full h b' ≡ full h b → RunStands a h b → RunStands a h b'
stands_same {a} h b b' e S =
    record { count = S.count; is_open = S.is_open; shaped = subst Shaped (sym e) S.shaped; fits = subst (λ (z : State). RunFits a (meaning_of z)) (sym e) S.fits }

pub mode_same : (m : ℕ) (t : Stand) (b b' d d' : List ℕ) → full t.live b' ≡ full t.live b → take t.waits d' ≡ take t.waits d → mode_by m t b' d' ≡ mode_by m t b d
mode_same zero t b b' d d' e f = ap (λ (z : State). between (meaning_of z)) e
mode_same (suc zero) t b b' d d' e f = ap₂ (λ (z : State) (v : List ℕ). inside (meaning_of (full t.before [])) (meaning_of z) t.first v) e f
mode_same (suc (suc m)) t b b' d d' e f = ap (λ (z : State). skipping (meaning_of z) t.first t.number) e

pub waiting_long : {a : Sheet} {past m : ℕ} (t : Stand) → HoldsIn a past t m → (b d : List ℕ) → t.waits ≤ length d → length (waiting_in (mode_by m t b d)) ≡ t.waits
waiting_long t (holds_between e) b d h = sym e
waiting_long t (holds_inside f o S) b d h = omega (arith, length-take t.waits d)
waiting_long t (holds_skipping e f) b d h = sym f

pub holds_later : {a : Sheet} {past m : ℕ} (past' : ℕ) (t : Stand) → past ≤ past' → HoldsIn a past t m → HoldsIn a past' t m
holds_later past' t l (holds_between e) = holds_between e
holds_later past' t l (holds_inside f o S) = holds_inside (omega arith) o S
holds_later past' t l (holds_skipping e f) = holds_skipping e f

-- nothing written, nothing reported, one entry reported
pub none_written : (n : ℕ) (out : List ℕ) → out ≡ take n out ++ ([] ++ drop (n + 0) out)
none_written n out =
    let e : n ≡ n + 0 = omega arith in
    sym (take-append-drop n out) ∙ ap (λ (i : ℕ). take n out ++ drop i out) e

pub none_reported : (rep : List ℕ) (at : ℕ) → rep ≡ put true rep at (report_bytes [])
unfolding report_bytes
none_reported rep at = sym (put_none true rep at)

pub one_reported : (d : LostStretch) → entry_bytes d ≡ report_bytes (d ∷ [])
unfolding report_bytes
one_reported d = sym (append-nil (entry_bytes d))

module _ {a : Sheet} (x : RecordTags) {g : Given} {part : List ℕ} {p : Place} {t : Stand} {b out area : List ℕ} (rep : List ℕ) (R : ReadyOn a g part p t b out area)
    (T : p.told ≤ length rep / entry_width) where
  abbrev pub here : Setting
  here = setting a x part (not g.ended) g.base (length area)

  abbrev pub room : ℕ
  room = length out - p.put

  abbrev pub spare : ℕ
  spare = length rep / entry_width - p.told

  abbrev pub mode_here : Mode
  mode_here = mode_of t b area

  -- the run stops with n at `to` and stands as it stood; k bytes waited
  pub stays_so : (n to k : ℕ) (b' out' area' rep' : List ℕ) (r : Turn) → p.at ≤ to → to ≤ length part → length b' ≡ length b → full t.live b' ≡ full t.live b → out' ≡ out →
      take t.waits area' ≡ take t.waits area → length area' ≡ length area → drop k area' ≡ drop k area → k ≤ length area → t.waits ≤ k → rep' ≡ rep →
      StepIs here p.at room spare mode_here (stop n to mode_here [] k) → r ≡ stopping t n to p.put p.told k → Strode a x g part p t b b' out out' area area' rep rep' r
  stays_so n to k b' out' area' rep' r l w bl e o v al past ki wk q st re =
      subst (λ (r : Turn). Strode a x g part p t b b' out out' area area' rep rep' r) (sym re)
      (record {
        step = stop n to mode_here [] k;
        is = st;
        shown =
            record {
              goes = refl;
              number = refl;
              at = refl;
              written = omega arith;
              told = omega arith;
              deep = refl;
              mode = mode_same t.mode t b b' area area' e v;
              output = o ∙ none_written p.put out;
              report = q ∙ none_reported rep (entry_width * p.told);
            };
        again =
            record {
              within = w;
              far = R.far;
              room = omega (arith, R.room, ap length o);
              waits = omega (arith, R.waits);
              long = omega (arith, R.long);
              stands = stands_same t.live b b' e R.stands;
              holds = holds_later (g.base + to) t (omega arith) R.holds;
            };
        out_long = ap length o;
        area_long = al;
        report_long = ap length q;
        past = past;
        deep_in = ki;
        waits_in = wk;
        told_in_lem = T;
        less = λ z. absurd (let u : ◌≡◌ {A = ℕ} 0 1 = cc in omega arith);
      })

  -- the run goes on at `next` in t', after w was written and ds were reported; k bytes waited
  pub goes_so : (next put' told' k : ℕ) (m' : Mode) (w : List ℕ) (ds : List LostStretch) (t' : Stand) (b' out' area' rep' : List ℕ) (r : Turn) →
      StepIs here p.at room spare mode_here (on next m' w ds k) → r ≡ going t' next put' told' k → put' ≡ p.put + length w → told' ≡ p.told + length ds → told' ≤ length rep / entry_width →
      mode_of t' b' area' ≡ m' → out' ≡ take p.put out ++ (w ++ drop (p.put + length w) out) → length out' ≡ length out →
      rep' ≡ put true rep (entry_width * p.told) (report_bytes ds) → length area' ≡ length area → drop k area' ≡ drop k area → k ≤ length area → t'.waits ≤ k →
      ReadyOn a g part (record { at = next; put = put'; told = told' }) t' b' out' area' →
      3 * (length part - next) + mode_rank t'.mode < 3 * (length part - p.at) + mode_rank t.mode → Strode a x g part p t b b' out out' area area' rep rep' r
  goes_so next put' told' k m' w ds t' b' out' area' rep' r st re pe te ti me oe ol qe al past ki wk R' l =
      subst (λ (r : Turn). Strode a x g part p t b b' out out' area area' rep rep' r) (sym re)
      (record {
        step = on next m' w ds k;
        is = st;
        shown = record { goes = refl; number = refl; at = refl; written = pe; told = te; deep = refl; mode = me; output = oe; report = qe };
        again = R';
        out_long = ol;
        area_long = al;
        report_long = ap length qe ∙ put_length true rep (entry_width * p.told) (report_bytes ds);
        past = past;
        deep_in = ki;
        waits_in = wk;
        told_in_lem = ti;
        less = λ z. l;
      })

  -- it stops between two records, in z, after ds were reported; nothing was written
  pub ends_so : (n to told' k : ℕ) (z : Live) (ds : List LostStretch) (b' out' area' rep' : List ℕ) (r : Turn) →
      StepIs here p.at room spare mode_here (stop n to (between (meaning_of (full z b'))) ds k) → r ≡ stopping (between_in z) n to p.put told' k → to ≤ length part →
      told' ≡ p.told + length ds → told' ≤ length rep / entry_width → out' ≡ out → rep' ≡ put true rep (entry_width * p.told) (report_bytes ds) → area' ≡ area → length b' ≡ length b → k ≤ length area →
      RunStands a z b' → Strode a x g part p t b b' out out' area area' rep rep' r
  ends_so n to told' k z ds b' out' area' rep' r st re w te ti o qe ae bl ki S =
      subst (λ (r : Turn). Strode a x g part p t b b' out out' area area' rep rep' r) (sym re)
      (record {
        step = stop n to (between (meaning_of (full z b'))) ds k;
        is = st;
        shown = record { goes = refl; number = refl; at = refl; written = omega arith; told = te; deep = refl; mode = refl; output = o ∙ none_written p.put out; report = qe };
        again =
            record {
              within = w;
              far = R.far;
              room = omega (arith, R.room, ap length o);
              waits = omega arith;
              long = omega (arith, R.long);
              stands = S;
              holds = holds_between refl;
            };
        out_long = ap length o;
        area_long = ap length ae;
        report_long = ap length qe ∙ put_length true rep (entry_width * p.told) (report_bytes ds);
        past = ap (drop k) ae;
        deep_in = ki;
        waits_in = omega arith;
        told_in_lem = ti;
        less = λ z. absurd (let u : ◌≡◌ {A = ℕ} 0 1 = cc in omega arith);
      })
