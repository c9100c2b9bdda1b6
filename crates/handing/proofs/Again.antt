-- The bytes that a call of the salvage run leaves read back as what it hands back.
-- Assumes nothing.
use mathlib.Core.Path.{◌≡◌, refl, sym, ap, ap₂, ◌∙◌, subst}
use mathlib.Core.Bool.{Bool, true, false, cond, not}
use mathlib.Core.List.{List, [], ◌∷◌, ◌++◌, reverse}
use mathlib.Core.Option.{Option, none, some}
use Prim.Native.Nat.{ℕ, zero, suc, ◌+◌, ◌-◌, ◌/◌, ◌^◌, ◌≤◌, ◌<◌}
use native.Mathlib.Omega.{arith}
use lib.ListN.{length, take, drop, replicate, length-take, length-map, length-reverse}
use lib.Seq.{take-append_seam}
use borrow.Author.Tests.{ne_eqb}
use Rattle.layout.specs.Layout.{byte_at}
use Rattle.sheet.specs.Sheet.{Sheet, IsSheet}
use Rattle.runs.specs.Machine.{most, Configuration}
use Rattle.salvage.specs.Shape.{RecordTags}
use Rattle.salvage.specs.Salvage.{root_only}
use Rattle.rescue.specs.Held.{Mode, between, inside, skipping, HeldSalvage}
use Rattle.rescue.specs.Step.{Setting}
use Rattle.rescue.specs.Call.{setting, RescuedBy}
use Rattle.rescue.proofs.Some.{run_within}
use Rattle.fit.proofs.RunsFit.{fit_run}
use Rattle.fit.proofs.Frames.{frames_in}
use Rattle.state.specs.Bounds.{state_width}
use Rattle.state.specs.Bytes.{bytes_of, long_at, state_from}
use Rattle.state.specs.Changes.{not_closed}
use Rattle.state.specs.Canonical.{state_for}
use Rattle.state.specs.Meaning.{open_of, elements, standing, opens_of, meaning_of}
use Rattle.state.specs.declared.Frame.{Frame}
use Rattle.state.specs.declared.State.{State}
use Rattle.state.proofs.Meant.{standing_opens}
use Rattle.state.proofs.Widths.{read_sized}
use Rattle.converter.specs.Answered.{FitsSheet, closing_in, closing_byte}
use Rattle.rescued.specs.Bytes.{mode_at, passed_at, first_at, refused_at, waiting_at, returning_bytes, returning_in, mode_from, salvage_in, return_bytes, tail_bytes, no_return, mode_bytes, area_after}
use Rattle.rescued.specs.Fits.{ModeFits, SalvageFits}
use Rattle.rescued.proofs.Alone.{root_alone}
use Rattle.handing.specs.Promises.{StateReadsBack}
use Rattle.handing.proofs.Canonical.{Good, state_for_lem}
use Rattle.handing.proofs.Bytes.{wide_of, state_again}
use Rattle.handing.proofs.Tail.{mode_back, passed_back, first_back, refused_back, waiting_back, returns_back}
use Rattle.handing.proofs.Returned.{returning_back}
use Rattle.handing.proofs.Modes.{HoldsAt, holds_began, SmallClosing, run_kept}

-- how many are open in a state, and which
pub opens_few : (z : State) → length (opens_of (meaning_of z).control) ≤ z.depth
unfolding meaning_of
opens_few z =
    let e = ap length (standing_opens z.rooted (elements z)) in
    omega (arith, e, length-map (elements z) open_of, length-reverse (take z.depth z.frames), length-take z.depth z.frames)

one_open : (z : State) → z.depth ≡ 1 → length z.frames ≡ most → root_only (meaning_of z).control ≡ true
unfolding meaning_of
one_open z d l = by z.rooted z.depth z.frames d l
  where
    by : (r : Bool) (d : ℕ) (fs : List Frame) → d ≡ 1 → length fs ≡ most → root_only (standing r (reverse (take d fs))) ≡ true
    by r d fs e l = subst (λ (k : ℕ). root_only (standing r (reverse (take k fs))) ≡ true) (sym e) (one r fs l)
      where
        one : (r : Bool) (fs : List Frame) → length fs ≡ most → root_only (standing r (reverse (take 1 fs))) ≡ true
        one r [] l = absurd (omega (arith, l))
        one true (f ∷ fs) l = refl
        one false (f ∷ fs) l = refl

closing_back : (x : Option ℕ) → (c : Setting) {s : List ℕ} (i : IsSheet s c.sheet) → SmallClosing c i x → closing_in (closing_byte x) ≡ x
closing_back none c i h = refl
closing_back (some n) c i h = ap (λ (b : Bool). cond b none (some n)) (ne_eqb n not_closed (λ e. omega (arith, e, h)))

module _ {s : List ℕ} {a : Sheet} (i : IsSheet s a) where
  pub state_good : (b : List ℕ) → FitsSheet a (state_from b) → Good i (meaning_of (state_from b))
  unfolding meaning_of
  state_good b f =
      let z = read_sized b (let k = f.count in omega (arith, k)) (let k = f.few in omega (arith, k)) in
      record {
        fits = fit_run i (state_from b) z f;
        few = let k = opens_few (state_from b) in let d = f.few in omega (arith, k, d);
        silent = refl;
        count = f.count;
      }

  module _ (x : RecordTags) (part : List ℕ) (more : Bool) (area : List ℕ) (b : List ℕ) where
    abbrev c : Setting
    c = setting a x part more (long_at b passed_at) (length area)

    -- what holds of bytes that fit
    pub from_fits : (k : ℕ) → SalvageFits a b (length area) k → HoldsAt c i (long_at b passed_at) (mode_from b area (byte_at b mode_at))
    from_fits k f = by (byte_at b mode_at) f.mode
      where
        good : Good i (meaning_of (state_from b))
        good = state_good b f.run

        by : (m : ℕ) → ModeFits a b (length area) m → HoldsAt c i (long_at b passed_at) (mode_from b area m)
        by zero h = good
        by (suc zero) h = (
          state_good (returning_bytes b) h.returns,
          one_open (returning_in b) (root_alone b f.wide).one (frames_in (returning_bytes b)),
          good,
          omega (arith, length-take (long_at b waiting_at) area),
          h.began,
        )
        by (suc (suc zero)) h = (good, one_open (state_from b) h.one_open (frames_in b), h.was_damaged, h.began)
        by (suc (suc (suc m))) h = absurd h

  -- the state's first bytes, and its closing number
  pub record Front (z : Configuration) (o : Option ℕ) (t : List ℕ) : Type 0 where
    pub wide : length (bytes_of (state_for z (closing_byte o))) ≡ state_width
    pub means : meaning_of (state_from (bytes_of (state_for z (closing_byte o)) ++ t)) ≡ z
    pub closes : (state_from (bytes_of (state_for z (closing_byte o)) ++ t)).closed ≡ closing_byte o

  pub front : (z : Configuration) (o : Option ℕ) (t : List ℕ) → Good i z → Front z o t
  unfolding state_for
  front z o t h =
      let q = state_for_lem i z h (closing_byte o) in
      let e = state_again (state_for z (closing_byte o)) q.sized t in
      record { wide = wide_of (state_for z (closing_byte o)) q.sized; means = ap meaning_of e ∙ q.means; closes = ap (λ (y : State). y.closed) e }

  module _ (x : RecordTags) (part : List ℕ) (more : Bool) (base : ℕ) (lent : List ℕ) (short : length lent < 2 ^ 64) (k : ℕ) where
    abbrev call : Setting
    call = setting a x part more base (length lent)

    same_held : {m m' : Mode} {p p' : ℕ} {o o' : Option ℕ} → m ≡ m' → p ≡ p' → o ≡ o' →
        ◌≡◌ {A = HeldSalvage} (record { mode = m; passed = p; closing = o }) (record { mode = m'; passed = p'; closing = o' })
    same_held e f g = λ j. record { mode = e j; passed = f j; closing = g j }

    pub held_back : (m : Mode) (p : ℕ) (o : Option ℕ) → HoldsAt call i p m → SmallClosing call i o → p < 2 ^ 64 →
        salvage_in (mode_bytes o p m) (area_after lent k m) ≡ record { mode = m; passed = p; closing = o }
    unfolding mode_bytes
    held_back (between z) p o h g l =
        let f = front z o (tail_bytes 0 p 0 0 0 no_return) h in
        let b : List ℕ = bytes_of (state_for z (closing_byte o)) ++ tail_bytes 0 p 0 0 0 no_return in
        same_held (ap (mode_from b (area_after lent k (between z))) (mode_back (bytes_of (state_for z (closing_byte o))) f.wide 0 p 0 0 0 no_return) ∙ ap between f.means)
        (passed_back (bytes_of (state_for z (closing_byte o))) f.wide 0 p 0 0 0 no_return l) (ap closing_in f.closes ∙ closing_back o call i g)
    held_back (skipping z q n) p o (h, r, d, t) g l =
        let f = front z o (tail_bytes 2 p q n 0 no_return) h in
        let y : List ℕ = bytes_of (state_for z (closing_byte o)) in
        let b : List ℕ = y ++ tail_bytes 2 p q n 0 no_return in
        let em : meaning_of (state_from b) ≡ z = f.means in
        let ef : long_at b first_at ≡ q = first_back y f.wide 2 p q n 0 no_return (omega (arith, t, l)) in
        let en : byte_at b refused_at ≡ n = refused_back y f.wide 2 p q n 0 no_return in
        same_held (ap (mode_from b (area_after lent k (skipping z q n))) (mode_back y f.wide 2 p q n 0 no_return) ∙ (λ j. skipping (em j) (ef j) (en j)))
        (passed_back y f.wide 2 p q n 0 no_return l) (ap closing_in f.closes ∙ closing_back o call i g)
    held_back (inside z u q v) p o (hz, r, hu, w, t) g l =
        let f = front u o (tail_bytes 1 p q 0 (length v) (return_bytes z)) hu in
        let y : List ℕ = bytes_of (state_for u (closing_byte o)) in
        let b : List ℕ = y ++ tail_bytes 1 p q 0 (length v) (return_bytes z) in
        let d : returning_in b ≡ state_for z not_closed = returning_back i b z hz r (returns_back y f.wide 1 p q 0 (length v) (return_bytes z)) in
        let ez : meaning_of (returning_in b) ≡ z = ap meaning_of d ∙ (state_for_lem i z hz not_closed).means in
        let eu : meaning_of (state_from b) ≡ u = f.means in
        let ef : long_at b first_at ≡ q = first_back y f.wide 1 p q 0 (length v) (return_bytes z) (omega (arith, t, l)) in
        let ev : take (long_at b waiting_at) (area_after lent k (inside z u q v)) ≡ v =
        ap (λ (n : ℕ). take n (area_after lent k (inside z u q v))) (waiting_back y f.wide 1 p q 0 (length v) (return_bytes z) (omega (arith, w, short)))
        ∙ take-append_seam v (replicate (k - length v) 0 ++ drop k lent) in
        same_held (ap (mode_from b (area_after lent k (inside z u q v))) (mode_back y f.wide 1 p q 0 (length v) (return_bytes z)) ∙ (λ j. inside (ez j) (eu j) (ef j) (ev j)))
        (passed_back y f.wide 1 p q 0 (length v) (return_bytes z) l) (ap closing_in f.closes ∙ closing_back o call i g)

-- so it is of every call that runs
pub reads_back : StateReadsBack
reads_back s part ended l l' r w short =
    let i = w.is_sheet in
    let b = l.state in
    let d = subst (λ (o : Option ℕ). RescuedBy w.sheet w.tags part (not ended) (length l.area) (length l.output) (length l.report / 24) (salvage_in b l.area) o w.answer) w.is_open w.called in
    let c : Setting = setting w.sheet w.tags part (not ended) (long_at b passed_at) (length l.area) in
    let h₀ = from_fits i w.tags part (not ended) l.area b (length part) w.fits in
    let h = subst (λ (p : ℕ). HoldsAt c i p (mode_from b l.area (byte_at b mode_at))) (add_none (long_at b passed_at)) h₀ in
    let k = run_kept c i d (omega arith) h in
    let g = run_within c d (omega arith) (holds_began c i (long_at b passed_at + 0) (mode_from b l.area (byte_at b mode_at)) h) in
    let few : w.answer.held.passed < 2 ^ 64 = let n = w.fits.few in let e = g.2 in let t = g.0 in omega (arith, n, e, t) in
    ap₂ salvage_in w.state w.area
    ∙ held_back i w.tags part (not ended) (long_at b passed_at) l.area short w.answer.waited w.answer.held.mode w.answer.held.passed w.answer.held.closing k.0 k.1 few
  where
    add_none : (n : ℕ) → n ≡ n + 0
    add_none n = omega arith
