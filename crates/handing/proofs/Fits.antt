-- What a call of the salvage run hands back fits the sheet again.
-- Assumes nothing.
use mathlib.Core.Path.{◌≡◌, refl, sym, ap, ◌∙◌, subst}
use mathlib.Core.Logic.{inl, inr}
use mathlib.Core.Bool.{Bool, true, not, true≢false}
use mathlib.Core.List.{List, [], ◌∷◌, ◌++◌}
use mathlib.Core.Option.{Option, none, some}
use Prim.Native.Nat.{ℕ, zero, suc, ◌+◌, ◌-◌, ◌/◌, ◌^◌, ◌≤◌, ◌<◌}
use native.Mathlib.Omega.{arith}
use lib.ListN.{length, take, drop, length-append, length-take, length-drop, length-map, length-reverse, length-replicate}
use Rattle.layout.specs.Layout.{byte_at}
use Rattle.sheet.specs.Sheet.{Sheet, IsSheet}
use Rattle.runs.specs.Machine.{Control, before, after, Configuration, fresh_configuration}
use Rattle.runs.specs.Machine as machine
use Rattle.salvage.specs.Shape.{RecordTags}
use Rattle.salvage.specs.Salvage.{root_only, damaged}
use Rattle.salvage.proofs.Depths.{open_in}
use Rattle.salvage.proofs.Shaped.{shape_decided}
use Rattle.rescue.specs.Held.{Mode, between, inside, skipping}
use Rattle.rescue.specs.Step.{Setting}
use Rattle.rescue.specs.Call.{setting, RescuedBy}
use Rattle.fit.specs.Fit.{ClosingFits}
use Rattle.fit.specs.RunFits.{RunFits}
use Rattle.fit.proofs.RunsFit.{run_fit}
use Rattle.fit.proofs.Frames.{frames_in}
use Rattle.state.specs.Bounds.{frame_width, rooted_at, head_width, state_width}
use Rattle.state.specs.Bytes.{number_bytes, bytes_of, long_at, state_from}
use Rattle.state.specs.Changes.{not_closed}
use Rattle.state.specs.Canonical.{state_for}
use Rattle.state.specs.Meaning.{open_of, elements, standing, opens_of, meaning_of}
use Rattle.state.specs.declared.State.{State}
use Rattle.state.proofs.Meant.{standing_opens}
use Rattle.state.proofs.Written.{number_wide}
use Rattle.converter.specs.Answered.{FitsSheet, closing_byte}
use Rattle.rescued.specs.Bytes.{mode_at, passed_at, returns_width, salvage_width, mode_from, salvage_in, return_bytes, tail_bytes, no_return, mode_bytes}
use Rattle.rescued.specs.Fits.{most_bytes, ModeFits, SalvageFits}
use Rattle.handing.specs.Promises.{FitsAgain, FreshFits}
use Rattle.handing.proofs.Canonical.{Good, fresh_good, state_for_lem}
use Rattle.handing.proofs.Bytes.{wide_of, state_again}
use Rattle.handing.proofs.Tail.{mode_back, passed_back, first_back, refused_back, waiting_back, returns_back}
use Rattle.handing.proofs.Returned.{returning_back}
use Rattle.handing.proofs.Modes.{HoldsAt, run_kept}
use Rattle.handing.proofs.Deep.{DeepAt, KnownClosing, run_deep}
use Rattle.handing.proofs.Again.{from_fits}

opens_in : (c : Control) → length (opens_of c) ≡ open_in c
opens_in before = refl
opens_in (machine.inside o os) = refl
opens_in after = refl

root_opens : (c : Control) → root_only c ≡ true → open_in c ≡ 1
root_opens before e = absurd (true≢false (sym e))
root_opens (machine.inside o []) e = refl
root_opens (machine.inside o (p ∷ os)) e = absurd (true≢false (sym e))
root_opens after e = absurd (true≢false (sym e))

-- as many are open as a state says
depth_opens : (z : State) → z.depth ≤ length z.frames → open_in (meaning_of z).control ≡ z.depth
unfolding meaning_of
depth_opens z l =
    let e = ap length (standing_opens z.rooted (elements z)) in
    let o = opens_in (standing z.rooted (elements z)) in
    omega (arith, e, o, length-map (elements z) open_of, length-reverse (take z.depth z.frames), length-take z.depth z.frames, l)

closing_byte_lem : (o : Option ℕ) → KnownClosing o → ClosingFits (closing_byte o)
closing_byte_lem none k = inl refl
closing_byte_lem (some n) k = inr k

tail_wide : (m p f n k : ℕ) (ret : List ℕ) → length ret ≡ returns_width → length (tail_bytes m p f n k ret) ≡ salvage_width - state_width
unfolding tail_bytes
tail_wide m p f n k ret h =
    omega (
      arith,
      h,
      length-append (number_bytes 8 p) (number_bytes 8 f ++ n ∷ (number_bytes 8 k ++ ret)),
      length-append (number_bytes 8 f) (n ∷ (number_bytes 8 k ++ ret)),
      length-append (number_bytes 8 k) ret,
      number_wide 8 p,
      number_wide 8 f,
      number_wide 8 k,
    )

none_wide : length no_return ≡ returns_width
none_wide = let zero_byte : ℕ = 0 in length-replicate returns_width zero_byte

module _ {s : List ℕ} {a : Sheet} (i : IsSheet s a) where
  depth_for : (m : Configuration) (k : ℕ) → (state_for m k).depth ≡ open_in m.control
  unfolding state_for
  depth_for m k = opens_in m.control

  -- a run that is handed back fits, with a number that closes or none
  state_fit : (m : Configuration) (k : ℕ) → Good i m → ClosingFits k → FitsSheet a (state_for m k)
  unfolding state_for
  state_fit m k h c = let q = state_for_lem i m h k in run_fit a (state_for m k) q.shaped (subst (RunFits a) (sym q.means) h.fits) h.count c

  returns_wide : (z : Configuration) → Good i z → length (return_bytes z) ≡ returns_width
  unfolding return_bytes
  returns_wide z h =
      let b : List ℕ = bytes_of (state_for z not_closed) in
      let w : length b ≡ state_width = wide_of (state_for z not_closed) (state_for_lem i z h not_closed).sized in
      omega (arith, w, length-append (take rooted_at b) (take frame_width (drop head_width b)), length-take rooted_at b, length-take frame_width (drop head_width b), length-drop head_width b)

  -- what stands in front of the tail
  record Stands (z : Configuration) (o : Option ℕ) (t : List ℕ) : Type 0 where
    wide : length (bytes_of (state_for z (closing_byte o))) ≡ state_width
    fits : FitsSheet a (state_from (bytes_of (state_for z (closing_byte o)) ++ t))
    depth : (state_from (bytes_of (state_for z (closing_byte o)) ++ t)).depth ≡ open_in z.control

  stands : (z : Configuration) (o : Option ℕ) (t : List ℕ) → Good i z → KnownClosing o → Stands z o t
  stands z o t h k =
      let q = state_for_lem i z h (closing_byte o) in
      let e = state_again (state_for z (closing_byte o)) q.sized t in
      record {
        wide = wide_of (state_for z (closing_byte o)) q.sized;
        fits = subst (FitsSheet a) (sym e) (state_fit z (closing_byte o) h (closing_byte_lem o k));
        depth = ap (λ (y : State). y.depth) e ∙ depth_for z (closing_byte o);
      }

  module _ (x : RecordTags) (part : List ℕ) (more : Bool) (base : ℕ) (area : List ℕ) (short : length area < 2 ^ 64) where
    abbrev call : Setting
    call = setting a x part more base (length area)

    all_wide : (y t : List ℕ) → length y ≡ state_width → length t ≡ salvage_width - state_width → length (y ++ t) ≡ salvage_width
    all_wide y t e f = omega (arith, length-append y t, e, f)

    pub bytes_fit : (m : Mode) (p : ℕ) (o : Option ℕ) (next : ℕ) → HoldsAt call i p m → DeepAt m → KnownClosing o → p + next ≤ most_bytes → SalvageFits a (mode_bytes o p m) (length area) next
    unfolding mode_bytes
    bytes_fit (between z) p o next h d k l =
        let t : List ℕ = tail_bytes 0 p 0 0 0 no_return in
        let y : List ℕ = bytes_of (state_for z (closing_byte o)) in
        let f = stands z o t h k in
        let e = passed_back y f.wide 0 p 0 0 0 no_return (omega (arith, l)) in
        record {
          wide = all_wide y t f.wide (tail_wide 0 p 0 0 0 no_return none_wide);
          run = f.fits;
          mode = subst (ModeFits a (y ++ t) (length area)) (sym (mode_back y f.wide 0 p 0 0 0 no_return)) (let q = f.depth in omega (arith, q, d));
          few = omega (arith, e, l);
        }
    bytes_fit (skipping z q n) p o next (h, r, b, g) d k l =
        let t : List ℕ = tail_bytes 2 p q n 0 no_return in
        let y : List ℕ = bytes_of (state_for z (closing_byte o)) in
        let f = stands z o t h k in
        let e = passed_back y f.wide 2 p q n 0 no_return (omega (arith, l)) in
        let ef = first_back y f.wide 2 p q n 0 no_return (omega (arith, l, g)) in
        let en = refused_back y f.wide 2 p q n 0 no_return in
        record {
          wide = all_wide y t f.wide (tail_wide 2 p q n 0 no_return none_wide);
          run = f.fits;
          mode = subst (ModeFits a (y ++ t) (length area)) (sym (mode_back y f.wide 2 p q n 0 no_return))
              (record { one_open = f.depth ∙ root_opens z.control r; began = omega (arith, e, ef, g); was_damaged = ap damaged en ∙ b });
          few = omega (arith, e, l);
        }
    bytes_fit (inside z u q v) p o next (h, r, hu, w, g) d k l =
        let t : List ℕ = tail_bytes 1 p q 0 (length v) (return_bytes z) in
        let y : List ℕ = bytes_of (state_for u (closing_byte o)) in
        let f = stands u o t hu k in
        let e = passed_back y f.wide 1 p q 0 (length v) (return_bytes z) (omega (arith, l)) in
        let ef = first_back y f.wide 1 p q 0 (length v) (return_bytes z) (omega (arith, l, g)) in
        let ev = waiting_back y f.wide 1 p q 0 (length v) (return_bytes z) (omega (arith, w, short)) in
        let er = returning_back i (y ++ t) z h r (returns_back y f.wide 1 p q 0 (length v) (return_bytes z)) in
        record {
          wide = all_wide y t f.wide (tail_wide 1 p q 0 (length v) (return_bytes z) (returns_wide z h));
          run = f.fits;
          mode = subst (ModeFits a (y ++ t) (length area)) (sym (mode_back y f.wide 1 p q 0 (length v) (return_bytes z)))
              (record {
                two_open = let j = f.depth in omega (arith, j, d);
                began = omega (arith, e, ef, g);
                waits = omega (arith, ev, w);
                returns = subst (FitsSheet a) (sym er) (state_fit z not_closed h (inl refl));
              });
          few = omega (arith, e, l);
        }

  module _ (area : List ℕ) where
    -- what holds at the start of a call
    pub from_fits_deep : (b : List ℕ) (k : ℕ) → SalvageFits a b (length area) k → DeepAt (mode_from b area (byte_at b mode_at))
    from_fits_deep b k f = by (byte_at b mode_at) f.mode
      where
        opened : open_in (meaning_of (state_from b)).control ≡ (state_from b).depth
        opened = depth_opens (state_from b) (let n = f.run.few in omega (arith, n, frames_in b))

        by : (m : ℕ) → ModeFits a b (length area) m → DeepAt (mode_from b area m)
        by zero h = omega (arith, opened, h)
        by (suc zero) h = let n = h.two_open in omega (arith, opened, n)
        by (suc (suc zero)) h = tt
        by (suc (suc (suc m))) h = absurd h

pub fits_again : FitsAgain
fits_again s part ended l l' r w short next few =
    let i = w.is_sheet in
    let b = l.state in
    let d = subst (λ (o : Option ℕ). RescuedBy w.sheet w.tags part (not ended) (length l.area) (length l.output) (length l.report / 24) (salvage_in b l.area) o w.answer) w.is_open w.called in
    let c : Setting = setting w.sheet w.tags part (not ended) (long_at b passed_at) (length l.area) in
    let (n, shape) = (shape_decided w.sheet).gives w.tags w.of_shape in
    let h = subst (λ (p : ℕ). HoldsAt c i p (mode_from b l.area (byte_at b mode_at))) (add_none (long_at b passed_at))
    (from_fits i w.tags part (not ended) l.area b (length part) w.fits) in
    let k = run_kept c i d (omega arith) h in
    let g = run_deep c i n shape d (omega arith) h (from_fits_deep i l.area b (length part) w.fits) in
    subst (λ (y : List ℕ). SalvageFits w.sheet y (length l.area) next) (sym w.state)
    (bytes_fit i w.tags part (not ended) (long_at b passed_at) l.area short w.answer.held.mode w.answer.held.passed w.answer.held.closing next k.0 g.0 g.1 few)
  where
    add_none : (n : ℕ) → n ≡ n + 0
    add_none n = omega arith

pub fresh_fits : FreshFits
fresh_fits s a i area short next l =
    bytes_fit i (record { root_tag = 0; record_tag = 0 }) [] true 0 area short (between fresh_configuration) 0 none next (fresh_good i) (omega arith) tt (omega (arith, l))
