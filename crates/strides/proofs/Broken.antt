-- A record that stops with a number: the code's answer is the step of the meaning.
-- Assumes nothing.
use mathlib.Core.Path.{◌≡◌, refl, sym, ap, ap₂, subst, ◌∙◌}
use mathlib.Core.Bool.{Bool, true, false, not, cond}
use mathlib.Core.List.{List, [], ◌∷◌, ◌++◌}
use Prim.Native.Nat.{ℕ, zero, suc, ◌+◌, ◌-◌, ◌*◌, ◌/◌, ◌≤◌, ◌<◌}
use native.Mathlib.Omega.{arith}
use lib.Dec.{eqb, leb, ltb}
use lib.ListN.{length, take, drop}
use borrow.Author.Tests.{eq-eqb, ne_eqb, eqb-true, eqb-false, lt-ltb, le-ltb, le-leb, lt-leb}
use Rattle.lent.specs.Put.{put}
use Rattle.expressions.specs.Grammar.{only_if}
use Rattle.runs.specs.Machine.{Configuration}
use Rattle.sheet.specs.Sheet.{Sheet}
use Rattle.calls.specs.Held.{leaves_open}
use Rattle.salvage.specs.Shape.{RecordTags}
use Rattle.salvage.specs.Salvage.{LostStretch, lost, damaged}
use Rattle.state.specs.Meaning.{meaning_of}
use Rattle.state.specs.declared.State.{State}
use Rattle.live.specs.declared.Live.{Live}
use Rattle.live.specs.Live.{full}
use Rattle.rescue.specs.Held.{Mode, between, inside, skipping, waiting_in}
use Rattle.rescue.specs.Step.{Setting, Step, on, stop, stay, in_stream, byte_before, last_byte, past_first, drops_at, closes_at, breaks_at, reported, StepIs}
use Rattle.rescue.specs.Call.{setting}
use Rattle.rescue.proofs.Whole.{comes_on, comes_to}
use Rattle.rescued.specs.Bytes.{entry_width, entry_bytes, report_bytes}
use Rattle.turns.specs.declared.Stand.{Stand}
use Rattle.turns.specs.declared.Place.{Place}
use Rattle.turns.specs.declared.Given.{Given}
use Rattle.turns.specs.declared.Turn.{Turn}
use Rattle.turns.specs.Stands.{between_in, skipping_in, going, stopping, mode_of, RunStands, holds_skipping, ReadyOn}
use Rattle.turns.specs.Turned.{dropped_end, BrokenAs, stays, drops, drops_first, nothing_lost, no_space, closes}
use Rattle.strides.specs.Strides.{mode_rank, Strode}
use Rattle.strides.proofs.Basics.{alone, stands_alone, waiting_long, none_written, none_reported, one_reported, stays_so, goes_so, ends_so}

-- where no entry is left the step is 17 and leaves all as it is
pub full_report : (c : Setting) (at room spare : ℕ) (m : Mode) (p : ℕ) (st : Step) (n to : ℕ) (m' : Mode) (d : LostStretch) (k : ℕ) → spare ≡ 0 → st ≡ stop n to m' (d ∷ []) k →
    StepIs c at room spare m (reported spare p m st) → StepIs c at room spare m (stay 17 p m)
full_report c at room spare m p st n to m' d k z e i =
    subst (StepIs c at room spare m) (ap (reported spare p m) e ∙ ap (λ (b : Bool). cond b (stop n to m' (d ∷ []) k) (stay 17 p m)) (lt-leb 1 spare (omega arith))) i

pub full_report_on : (c : Setting) (at room spare : ℕ) (m : Mode) (p : ℕ) (st : Step) (next : ℕ) (m' : Mode) (d : LostStretch) (k : ℕ) → spare ≡ 0 → st ≡ on next m' [] (d ∷ []) k →
    StepIs c at room spare m (reported spare p m st) → StepIs c at room spare m (stay 17 p m)
full_report_on c at room spare m p st next m' d k z e i =
    subst (StepIs c at room spare m) (ap (reported spare p m) e ∙ ap (λ (b : Bool). cond b (on next m' [] (d ∷ []) k) (stay 17 p m)) (lt-leb 1 spare (omega arith))) i

-- the entry of a record that is dropped for good
the_entry : (f n end token : ℕ) → ((n ≡ 27 → ⊥) → f < token) →
    cond (eqb n 27) (lost f (end - 1) n ∷ []) (only_if (ltb f token) (lost f (token - 1) n)) ≡ lost f (dropped_end n end token) n ∷ []
the_entry f n end token h = by (eqb n 27) refl
  where
    by : (b : Bool) → eqb n 27 ≡ b → cond b (lost f (end - 1) n ∷ []) (only_if (ltb f token) (lost f (token - 1) n)) ≡ lost f (cond b end token - 1) n ∷ []
    by true e = refl
    by false e = ap (λ (b : Bool). only_if b (lost f (token - 1) n)) (lt-ltb f token (h (eqb-false n 27 e)))

module _ {a : Sheet} (x : RecordTags) {g : Given} {part : List ℕ} {p : Place} {t : Stand} {b out area : List ℕ} (rep : List ℕ) (R : ReadyOn a g part p t b out area)
    (T : p.told ≤ length rep / entry_width) (z : Live) (one : z.depth ≡ 1) (S : RunStands a z []) (f n : ℕ) (in_it : f < g.base + p.at → t.mode ≡ 1)
    (its_first : g.base + p.at ≤ f → p.at < length part) where
  abbrev c : Setting
  c = setting a x part (not g.ended) g.base (length area)

  abbrev room : ℕ
  room = length out - p.put

  abbrev spare : ℕ
  spare = length rep / entry_width - p.told

  abbrev m : Mode
  m = mode_of t b area

  abbrev Z : Configuration
  Z = meaning_of (full z [])

  abbrev before_it : Step
  before_it = breaks_at c p.at m Z f n

  back : (b' : List ℕ) → meaning_of (full z b') ≡ Z
  back b' = ap meaning_of (alone z [] b' (omega arith))

  waits : length (waiting_in m) ≡ t.waits
  waits = waiting_long t R.holds b area R.waits

  as_open : leaves_open n ≡ true → before_it ≡ stay n p.at m
  as_open e = ap (λ (k : Bool). cond k (stay n p.at m) (cond (damaged n) (drops_at c p.at m Z f n) (closes_at c p.at m Z f n))) e

  as_damaged : leaves_open n ≡ false → damaged n ≡ true → before_it ≡ drops_at c p.at m Z f n
  as_damaged e d =
      ap (λ (k : Bool). cond k (stay n p.at m) (cond (damaged n) (drops_at c p.at m Z f n) (closes_at c p.at m Z f n))) e
      ∙ ap (λ (k : Bool). cond k (drops_at c p.at m Z f n) (closes_at c p.at m Z f n)) d

  as_closed : leaves_open n ≡ false → damaged n ≡ false → before_it ≡ closes_at c p.at m Z f n
  as_closed e d =
      ap (λ (k : Bool). cond k (stay n p.at m) (cond (damaged n) (drops_at c p.at m Z f n) (closes_at c p.at m Z f n))) e
      ∙ ap (λ (k : Bool). cond k (drops_at c p.at m Z f n) (closes_at c p.at m Z f n)) d

  with_entry : leaves_open n ≡ false → damaged n ≡ false → ((n ≡ 27 → ⊥) → f < g.base + p.at) →
      before_it ≡ stop n p.at (between Z) (lost f (dropped_end n (g.base + length part) (g.base + p.at)) n ∷ []) (length (waiting_in m))
  with_entry e d h = as_closed e d ∙ ap (λ (ds : List LostStretch). stop n p.at (between Z) ds (length (waiting_in m))) (the_entry f n (g.base + length part) (g.base + p.at) h)

  module _ (I : StepIs c p.at room spare m (reported spare p.at m before_it)) (b' out' area' : List ℕ) (bl : length b' ≡ length b) (e : full t.live b' ≡ full t.live b)
      (o : out' ≡ out) (ae : area' ≡ area) where
    stays_here : (k : ℕ) (rep' : List ℕ) (r : Turn) → StepIs c p.at room spare m (stay k p.at m) → rep' ≡ rep → r ≡ stopping t k p.at p.put p.told t.waits →
        Strode a x g part p t b b' out out' area area' rep rep' r
    stays_here k rep' r st q re =
        stays_so x rep R T k p.at t.waits b' out' area' rep' r (omega arith) R.within bl e o (ap (take t.waits) ae) (ap length ae) (ap (drop t.waits) ae) R.waits (omega arith) q
        (subst (λ (i : ℕ). StepIs c p.at room spare m (stop k p.at m [] i)) waits st) re

    skips_here : (next : ℕ) (rep' : List ℕ) (r : Turn) → past_first c f p.at ≡ next → next ≤ length part → p.at ≤ next → leaves_open n ≡ false → damaged n ≡ true →
        r ≡ going (skipping_in z f n) next p.put p.told t.waits → rep' ≡ rep → 3 * (length part - next) + 1 < 3 * (length part - p.at) + mode_rank t.mode →
        Strode a x g part p t b b' out out' area area' rep rep' r
    skips_here next rep' r pe w l lo da re q less =
        let s₀ = comes_on c p.at room spare m p.at before_it (past_first c f p.at) (skipping Z f n) [] [] (length (waiting_in m)) (omega arith) (as_damaged lo da) I in
        let s₁ = subst (λ (i : ℕ). StepIs c p.at room spare m (on i (skipping Z f n) [] [] (length (waiting_in m)))) pe s₀ in
        let s₂ = subst (λ (i : ℕ). StepIs c p.at room spare m (on next (skipping Z f n) [] [] i)) waits s₁ in
        goes_so x rep R T next p.put p.told t.waits (skipping Z f n) [] [] (skipping_in z f n) b' out' area' rep' r s₂ re (omega arith) (omega arith) T
        (ap (λ (y : Configuration). skipping y f n) (back b')) (o ∙ none_written p.put out) (ap length o) (q ∙ none_reported rep (entry_width * p.told)) (ap length ae) (ap (drop t.waits) ae)
        R.waits (omega arith)
        (record {
          within = w;
          far = R.far;
          room = omega (arith, R.room, ap length o);
          waits = omega arith;
          long = omega (arith, R.long);
          stands = stands_alone z [] b' (omega arith) S;
          holds = holds_skipping da refl;
        })
        less

    ends_here : (told' : ℕ) (ds : List LostStretch) (rep' : List ℕ) (r : Turn) → StepIs c p.at room spare m (stop n p.at (between Z) ds (length (waiting_in m))) →
        r ≡ stopping (between_in z) n p.at p.put told' t.waits → told' ≡ p.told + length ds → told' ≤ length rep / entry_width →
        rep' ≡ put true rep (entry_width * p.told) (report_bytes ds) → Strode a x g part p t b b' out out' area area' rep rep' r
    ends_here told' ds rep' r st re te ti qe =
        let s₁ = subst (λ (y : Configuration). StepIs c p.at room spare m (stop n p.at (between y) ds (length (waiting_in m)))) (sym (back b')) st in
        let s₂ = subst (λ (i : ℕ). StepIs c p.at room spare m (stop n p.at (between (meaning_of (full z b'))) ds i)) waits s₁ in
        ends_so x rep R T n p.at told' t.waits z ds b' out' area' rep' r s₂ re R.within te ti o qe ae bl R.waits (stands_alone z [] b' (omega arith) S)

    pub broken : (rep' : List ℕ) (r : Turn) → BrokenAs t z f n g.base (length part) p rep rep' r → Strode a x g part p t b b' out out' area area' rep rep' r
    broken rep' r (stays lo re q) =
        stays_here n rep' r (comes_to c p.at room spare m p.at before_it n p.at m [] (length (waiting_in m)) (omega arith) (as_open lo) I) q re
    broken rep' r (drops lo da lt re q) =
        let k : mode_rank t.mode ≡ 2 = ap mode_rank (in_it lt) in
        skips_here p.at rep' r (ap (λ (y : Bool). cond y p.at (suc p.at)) (lt-ltb f (g.base + p.at) lt)) R.within (omega arith) lo da re q (omega (arith, k))
    broken rep' r (drops_first lo da le re q) =
        let w = its_first le in
        let e₁ : suc p.at ≡ p.at + 1 = omega arith in
        skips_here (p.at + 1) rep' r (ap (λ (y : Bool). cond y p.at (suc p.at)) (le-ltb f (g.base + p.at) le) ∙ e₁) (omega arith) (omega arith) lo da re q (omega arith)
    broken rep' r (nothing_lost lo da d le re q) =
        let e₁ : before_it ≡ stop n p.at (between Z) [] (length (waiting_in m)) =
        as_closed lo da
        ∙ ap₂ (λ (u v : Bool). stop n p.at (between Z) (cond u (lost f (last_byte c) n ∷ []) (only_if v (lost f (byte_before c p.at) n))) (length (waiting_in m))) (ne_eqb n 27 d) (le-ltb f (g.base + p.at) le) in
        ends_here p.told [] rep' r (comes_to c p.at room spare m p.at before_it n p.at (between Z) [] (length (waiting_in m)) (omega arith) e₁ I) re (omega arith) T
        (q ∙ none_reported rep (entry_width * p.told))
    broken rep' r (no_space lo da h ge re q) =
        stays_here 17 rep' r
        (full_report c p.at room spare m p.at before_it n p.at (between Z) (lost f (dropped_end n (g.base + length part) (g.base + p.at)) n) (length (waiting_in m)) (omega arith) (with_entry lo da h) I) q re
    broken rep' r (closes lo da h lt re q) =
        let d : LostStretch = lost f (dropped_end n (g.base + length part) (g.base + p.at)) n in
        ends_here (p.told + 1) (d ∷ []) rep' r (comes_to c p.at room spare m p.at before_it n p.at (between Z) (d ∷ []) (length (waiting_in m)) (omega arith) (with_entry lo da h) I) re (omega arith) (omega arith)
        (q ∙ ap (put true rep (entry_width * p.told)) (one_reported d))
