-- The salvage run is 01's run on the cut stream. Outside records and in whole ones both take the same tokens; a dropped record is not in the cut, and the run is again where it was; and
-- both stop alike. The stretches rise, since each begins where the run stands and ends before where it resumes.
-- Assumes nothing.
use mathlib.Core.Path.{◌≡◌, refl, sym, ap, ap₂, ◌∙◌, subst}
use mathlib.Core.Logic.{inl, inr}
use mathlib.Core.Bool.{Bool, true, false, ◌||◌, true≢false}
use mathlib.Core.List.{List, [], ◌∷◌, ◌++◌}
use Prim.Native.Nat.{ℕ, suc, ◌+◌, ◌-◌, ◌≤◌, ◌<◌}
use native.Mathlib.Omega.{arith}
use lib.Dec.{ltb}
use lib.ListN.{length, take, drop, length-drop, drop_of_length-le}
use borrow.Author.Tests.{ltb-true, ltb-false, eqb-true}
use Rattle.expressions.specs.Grammar.{only_if}
use Rattle.text.specs.Chars.{pick}
use Rattle.sheet.specs.Sheet.{Sheet}
use Rattle.runs.specs.Machine.{Configuration}
use Rattle.runs.proofs.Execute.{both_true}
use Rattle.calls.specs.Names.{token_of}
use Rattle.calls.specs.Limits.{one_token}
use Rattle.calls.specs.Call.{Result, stopped_at, after_writing, room_left, Stop, Runs, takes, halts}
use Rattle.calls.proofs.Read.{read_moves}
use Rattle.salvage.specs.Shape.{RecordTags}
use Rattle.salvage.specs.Resumption.{MayResume}
use Rattle.salvage.specs.Salvage.{root_only, starts_with, RecordAt, whole, broken, InRecord, goes_on, ends, breaks, LostStretch, lost, Salvage, without_report, reporting, ends_lost, over_stretch, damaged, Salvages, passes, stands, keeps, full, waits, drops, loses, cut_off, over}
use Rattle.salvage.specs.Cut.{ends_reading, cut_from, cut_stream, over_inside, RisesIn}
use Rattle.salvage.specs.Promises.{ReportRises, OverEndsAt, OverEnds, number_on_cut, SalvageIsCut}
use Rattle.salvage.proofs.One.{damage}
use Rattle.salvage.proofs.Follows.{stop_in, stop_there, ends_open, NoLF, Clear, clear_sooner, token_in_cut, EndOf, record_moves, record_in_cut}

module _ (a : Sheet) (x : RecordTags) (s : List ℕ) where
  -- a record begins before the stream's end
  pub record_begins : (at : ℕ) (z : Configuration) → RecordAt a x s at z → at ≤ length s → at < length s
  record_begins at z h l = let i = read_moves false s at h.event h.next h.reads l in omega (arith, i.0, i.1)

  pub root_open : (at : ℕ) (z : Configuration) → RecordAt a x s at z → root_only z.control ≡ true
  root_open at z h = (both_true (root_only z.control) (starts_with x.record_tag (token_of a s h.event)) h.begins).0

  -- where reading resumes there is a byte, and it is <
  pub resumes_in : (i : ℕ) → MayResume a x s i → NoLF (drop i s) × (i < length s)
  resumes_in i (inl (v, e)) = (subst NoLF (sym e) (λ q. omega (arith, q)), omega (arith, length-drop i s, ap length e))
  resumes_in i (inr (v, e)) = (subst NoLF (sym e) (λ q. omega (arith, q)), omega (arith, length-drop i s, ap length e))

  not_thirty : (n : ℕ) → damaged n ≡ true → ends_reading n ≡ false
  not_thirty n b = by (ends_reading n) refl
    where
      by : (c : Bool) → ends_reading n ≡ c → ends_reading n ≡ false
      by true h = absurd (let e = eqb-true n 30 h in omega (arith, (damage n b).1, e))
      by false h = h

  nothing_behind : (i n : ℕ) → i ≡ length s → NoLF (pick (ends_reading n) [] (drop i s))
  nothing_behind i n h = subst (λ (l : List ℕ). NoLF (pick (ends_reading n) [] l)) (sym (drop_of_length-le s {i = i} (omega (arith, h)))) (by (ends_reading n))
    where
      by : (b : Bool) → NoLF (pick b [] [])
      by true = tt
      by false = tt

  module _ (area : ℕ) where
    pub clear : {at room : ℕ} {z : Configuration} {r : Salvage} → Salvages a x s area at room z r → at ≤ length s → Clear s at r.report
    clear (passes {at} {r = r} e next z' w m h t d) l =
        let i = read_moves false s at e next m l in
        clear_sooner s next at r.report (omega (arith, i.0)) (clear d i.1)
    clear (stands n h q) l = tt
    clear (keeps {at} {r = r} to next y z' w h i f d) l =
        let j = record_moves a s area i l in
        clear_sooner s next at r.report (omega (arith, j.1)) (clear d j.2)
    clear (full to next y z' w h i f) l = tt
    clear (waits to y h i) l = tt
    clear (drops {at} n to last y h i b q d) l =
        let j = resumes_in (suc last) q.stands in (
          omega arith,
          omega (arith, q.past_start),
          omega (arith, j.1),
          subst (λ (c : Bool). NoLF (pick c [] (drop (suc last) s))) (sym (not_thirty n b)) j.0,
          clear d (omega (arith, j.1)),
        )
    clear (loses {at} {z = z} n to last y h i b q e) l = let j = record_begins at z h l in (omega arith, omega (arith, e, j), omega (arith, e), nothing_behind (suc last) n e, tt)
    clear (cut_off {at} {z = z} to last y h i e) l = let j = record_begins at z h l in (omega arith, omega (arith, e, j), omega (arith, e), nothing_behind (suc last) 27 e, tt)
    clear (over {at} to y h i) l = by (ltb at to) refl
      where
        j : EndOf at (length s) (broken 30 to y)
        j = record_moves a s area i l

        by : (b : Bool) → ltb at to ≡ b → Clear s at (only_if b (over_stretch at to))
        by true e = let u = ltb-true at to e in (omega arith, omega arith, omega (arith, j.1), tt, tt)
        by false e = tt

    -- a record that stops with its own first token stops there
    stays : {at : ℕ} {y : Configuration} {v : List ℕ} (n to : ℕ) (y₁ : Configuration) → InRecord a s area at y v (broken n to y₁) → at ≤ length s → to ≤ at →
        Stop a s false at (room_left area v) y n × (to ≡ at)
    stays {at} n to y₁ (goes_on e next y' w m t h d) l k =
        let i = read_moves false s at e next m l in
        absurd (omega (arith, i.0, (record_moves a s area d i.1).0, k))
    stays n to y₁ (breaks k q) l h = (q, refl)

    -- the same run on the cut
    record Alike (c : List ℕ) (at' room : ℕ) (z : Configuration) (r : Salvage) : Type 0 where
      pub answer : Result
      pub runs : Runs a c false at' room z answer
      pub is_number : answer.number ≡ number_on_cut (over_inside r.report) r.answer.number
      pub is_output : answer.output ≡ r.answer.output
      pub is_run : answer.held.run ≡ r.answer.held.run

    -- a dropped record is not there
    skipped : (at last n : ℕ) (ds : List LostStretch) → ends_reading n ≡ false → cut_from s at (lost at last n ∷ ds) ≡ cut_from s (suc last) ds
    skipped at last n ds h =
        let e : at - at ≡ 0 = omega arith in
        ap₂ (λ (i : ℕ) (b : Bool). take i (drop at s) ++ pick b [] (cut_from s (suc last) ds)) e h

    -- where the rest of the stream is dropped
    ends_there : (c : List ℕ) (at' at room : ℕ) (z : Configuration) (r : Salvage) → RecordAt a x s at z → drop at' c ≡ [] → number_on_cut (over_inside r.report) r.answer.number ≡ 27 →
        r.answer.output ≡ [] → r.answer.held.run ≡ z → Alike c at' room z r
    ends_there c at' at room z r h e n o k =
        record { answer = stopped_at 27 at' z; runs = halts (ends_open a c at' room z e (root_open at z h)); is_number = sym n; is_output = sym o; is_run = sym k }

    follows : {at room : ℕ} {z : Configuration} {r : Salvage} → Salvages a x s area at room z r → (r.answer.number ≡ 17 → ⊥) → at ≤ length s → (c : List ℕ) (at' : ℕ) →
        drop at' c ≡ cut_from s at r.report → Alike c at' room z r
    follows (passes {at} {room} {z} {r} e next z' w m h t d) k l c at' p =
        let i = read_moves false s at e next m l in
        let j = token_in_cut a s c at at' e next r.report m (clear d i.1) p in
        let f = follows d k i.1 c j.to j.left in
        record {
          answer = after_writing w f.answer;
          runs = takes j.event j.to z' w j.reads (ap (one_token a z room) j.same ∙ t) f.runs;
          is_number = f.is_number;
          is_output = ap (λ (o : List ℕ). w ++ o) f.is_output;
          is_run = f.is_run;
        }
    follows (stands {at} {room} {z} n h q) k l c at' p =
        record { answer = stopped_at n at' z; runs = halts (stop_there a s c false at at' room z n (sym p) q); is_number = refl; is_output = refl; is_run = refl }
    follows (keeps {at} {room} {z} {r} to next y z' w h i fits d) k l c at' p =
        let j = record_moves a s area i l in
        let g = record_in_cut a s area to y next z' w r.report i l (clear d j.2) c at' p in
        let f = follows d k j.2 c g.to g.left in
        let runs' = subst (λ (u : List ℕ). Runs a c false g.to (room_left room u) z' f.answer) g.all f.runs in
        record {
          answer = after_writing g.writes f.answer;
          runs = g.runs room f.answer (omega (arith, ap length g.all, fits)) runs';
          is_number = f.is_number;
          is_output = ap₂ (λ (u o : List ℕ). u ++ o) (sym g.all) f.is_output;
          is_run = f.is_run;
        }
    follows (full to next y z' w h i f) k l c at' p = absurd (k refl)
    follows (waits to y h i) k l c at' p = absurd (k refl)
    follows (drops {at} {room} {z} {r} n to last y h i b q d) k l c at' p =
        let e = not_thirty n b in
        let j = resumes_in (suc last) q.stands in
        let f = follows d k (omega (arith, j.1)) c at' (p ∙ skipped at last n r.report e) in
        record {
          answer = f.answer;
          runs = f.runs;
          is_number = f.is_number ∙ ap (λ (c : Bool). number_on_cut (c || over_inside r.report) r.answer.number) (sym e);
          is_output = f.is_output;
          is_run = f.is_run;
        }
    follows (loses {at} {room} {z} n to last y h i b q e) k l c at' p =
        let g = not_thirty n b in
        ends_there c at' at room z (ends_lost s at last n z) h
        (p ∙ skipped at last n [] g ∙ drop_of_length-le s {i = suc last} (omega (arith, e))) (ap (λ (c : Bool). number_on_cut (c || false) 27) g) refl refl
    follows (cut_off {at} {room} {z} to last y h i e) k l c at' p =
        ends_there c at' at room z (reporting (lost at last 27) (without_report (stopped_at 27 to z))) h
        (p ∙ skipped at last 27 [] refl ∙ drop_of_length-le s {i = suc last} (omega (arith, e))) refl refl refl
    follows (over {at} {room} {z} to y h i) k l c at' p = by (ltb at to) refl p
      where
        by : (b : Bool) → ltb at to ≡ b → drop at' c ≡ cut_from s at (only_if b (over_stretch at to)) →
            Alike c at' room z (record { answer = stopped_at 30 to z; report = only_if b (over_stretch at to) })
        by true e p =
            let n : at - at ≡ 0 = omega arith in
            ends_there c at' at room z (record { answer = stopped_at 30 to z; report = over_stretch at to ∷ [] }) h (p ∙ ap (λ (j : ℕ). take j (drop at s) ++ []) n) refl refl refl
        by false e p =
            let u = ltb-false at to e in
            let q = stays 30 to y i l u in
            record {
              answer = stopped_at 30 at' z;
              runs = halts (stop_there a s c false at at' room z 30 (sym p) (stop_in a s false at (room_left area []) room z 30 (λ e. omega (arith, e)) q.0));
              is_number = refl;
              is_output = refl;
              is_run = refl;
            }

-- the stretches rise
clear_rises : (s : List ℕ) (lo : ℕ) (ds : List LostStretch) → Clear s lo ds → RisesIn lo (length s) ds
clear_rises s lo [] k = tt
clear_rises s lo (d ∷ ds) (f, l, e, n, k) = (f, l, e, clear_rises s (suc d.last) ds k)

pub report_rises : (a : Sheet) (x : RecordTags) → ReportRises a x
report_rises a x s area room r d = clear_rises s 0 r.report (clear a x s area d (omega arith))

-- with 30 a stretch ends where the run stops
over_ends_at : (a : Sheet) (x : RecordTags) (s : List ℕ) (area : ℕ) {at room : ℕ} {z : Configuration} {r : Salvage} → Salvages a x s area at room z r → OverEndsAt r.answer.taken r.report
over_ends_at a x s area (passes e next z' w m h t d) = over_ends_at a x s area d
over_ends_at a x s area (stands n h q) = tt
over_ends_at a x s area (keeps to next y z' w h i f d) = over_ends_at a x s area d
over_ends_at a x s area (full to next y z' w h i f) = tt
over_ends_at a x s area (waits to y h i) = tt
over_ends_at a x s area (drops n to last y h i b q d) = ((λ e. absurd (true≢false (sym e ∙ not_thirty a x s n b))), over_ends_at a x s area d)
over_ends_at a x s area (loses n to last y h i b q e) = ((λ u. absurd (true≢false (sym u ∙ not_thirty a x s n b))), tt)
over_ends_at a x s area (cut_off to last y h i e) = ((λ u. absurd (true≢false (sym u))), tt)
over_ends_at a x s area (over {at} to y h i) = by (ltb at to) refl
  where
    by : (b : Bool) → ltb at to ≡ b → OverEndsAt to (only_if b (over_stretch at to))
    by true e = let l = ltb-true at to e in ((λ u. omega (arith, l)), tt)
    by false e = tt

pub over_ends : (a : Sheet) (x : RecordTags) → OverEnds a x
over_ends a x s area room r d = over_ends_at a x s area d

-- the salvage run is 01's run on the cut stream
pub salvage_is_cut : (a : Sheet) (x : RecordTags) → SalvageIsCut a x
salvage_is_cut a x s area room r d k =
    let f = follows a x s area d k (omega arith) (cut_stream s r.report) 0 refl in
    record { answer = f.answer; called = f.runs; is_number = f.is_number; is_output = f.is_output; is_run = f.is_run }
