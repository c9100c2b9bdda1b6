-- A token outside a record, bytes that are passed over, and the end of the part.
-- Assumes nothing.
use mathlib.Core.Path.{◌≡◌, refl, sym, ap, ap₂, subst, ◌∙◌}
use mathlib.Core.Bool.{Bool, true, false, not, cond}
use mathlib.Core.List.{List, [], ◌∷◌, ◌++◌}
use mathlib.Core.Option.{Option, some}
use Prim.Native.Nat.{ℕ, zero, suc, ◌+◌, ◌-◌, ◌*◌, ◌/◌, ◌≤◌, ◌<◌}
use native.Mathlib.Omega.{arith}
use lib.Dec.{eqb, leb}
use lib.ListN.{length, take, drop, length-append, length-drop, length-take}
use lib.Seq.{length-take-le}
use Rattle.lent.specs.Put.{put}
use Rattle.tokens.specs.declared.Event.{Event}
use Rattle.tokens.specs.declared.Answer.{Answer}
use Rattle.tokens.specs.declared.Answer.TheVariants.{Token as Read, Waiting, Begun, Bad, Long}
use Rattle.tokens.specs.declared.Cursor.{Cursor}
use Rattle.tokens.specs.Stream.{ReadAs}
use Rattle.sheet.specs.Sheet.{Sheet, IsSheet}
use Rattle.runs.specs.Machine.{Control, Configuration}
use Rattle.calls.specs.Names.{token_of}
use Rattle.calls.specs.Limits.{Taking, taken, refuses, no_room, one_token}
use Rattle.calls.specs.Call.{number_at}
use Rattle.calls.proofs.Read.{read_moves, never_waits}
use Rattle.calls.proofs.Steps.{refuses_over}
use Rattle.salvage.specs.Shape.{RecordTags}
use Rattle.salvage.specs.Salvage.{LostStretch, lost}
use Rattle.salvaging.specs.declared.Resumed.{Resumed}
use Rattle.salvaging.specs.declared.Resumed.TheVariants.{Here, Waits, Nowhere}
use Rattle.salvaging.specs.Resumed.{ResumedIs}
use Rattle.state.specs.Meaning.{meaning_of}
use Rattle.live.specs.Live.{full}
use Rattle.live.proofs.Stacks.{full_same}
use Rattle.steps.specs.declared.Stepped.{Stepped}
use Rattle.steps.specs.Seen.{whole}
use Rattle.steps.specs.Taken.{Taken, TakingIs}
use Rattle.converter.specs.Inner.{NumberedAs}
use Rattle.rescue.specs.Held.{Mode, between, skipping, waiting_in}
use Rattle.rescue.specs.Step.{Setting, Step, on, stop, stay, last_byte, byte_before, other_token, ran_out, skip_step, skip_to, reported, StepIs}
use Rattle.rescue.specs.Call.{setting}
use Rattle.rescue.proofs.Whole.{comes_on, comes_to}
use Rattle.rescued.specs.Bytes.{entry_width, report_bytes}
use Rattle.turns.specs.declared.Stand.{Stand}
use Rattle.turns.specs.declared.Place.{Place}
use Rattle.turns.specs.declared.Given.{Given}
use Rattle.turns.specs.declared.Turn.{Turn}
use Rattle.turns.specs.Stands.{between_in, going, stopping, mode_by, mode_of, RunStands, holds_between, ReadyOn}
use Rattle.turns.specs.Turned.{OtherEnds, refused, passes, OtherTokenAs, ResumesAs, no_entry_left, resumed, RanOutAs, more_comes, no_entry_at_end, lost_at_end, SkipEnds}
use Rattle.strides.specs.Strides.{mode_rank, Strode}
use Rattle.strides.proofs.Basics.{waiting_long, none_written, none_reported, one_reported, stays_so, goes_so, ends_so}
use Rattle.strides.proofs.Broken.{full_report, full_report_on}
use Rattle.strides.proofs.Records.{stands_taken}

-- the number where no whole token comes next
pub numbered : (more : Bool) (part : List ℕ) (at left : ℕ) (c : Control) (x : Answer) (n : ℕ) → ReadAs more part at x → ((e : Event) (next : Cursor) → x ≡ Read e next → ⊥) → NumberedAs more left c x n →
    number_at more left c x ≡ some n
numbered more part at left c (Read e next) n r w h = absurd (w e next refl)
numbered more part at left c (Waiting e next) n r w h = absurd (never_waits more part at e next r)
numbered more part at left c Begun n r w h = h
numbered more part at left c Bad n r w h = h
numbered more part at left c Long n r w h = h

module _ {s : List ℕ} {a : Sheet} (G : IsSheet s a) (x : RecordTags) {g : Given} {part : List ℕ} {p : Place} {t : Stand} {b out area : List ℕ} (rep : List ℕ) (R : ReadyOn a g part p t b out area)
    (T : p.told ≤ length rep / entry_width) where
  abbrev c : Setting
  c = setting a x part (not g.ended) g.base (length area)

  abbrev room : ℕ
  room = length out - p.put

  abbrev spare : ℕ
  spare = length rep / entry_width - p.told

  abbrev m : Mode
  m = mode_of t b area

  abbrev Y : Configuration
  Y = meaning_of (full t.live b)

  waits : length (waiting_in m) ≡ t.waits
  waits = waiting_long t R.holds b area R.waits

  -- all is left as it is
  pub stays_at : (n to : ℕ) (b' out' area' rep' : List ℕ) (r : Turn) → p.at ≤ to → to ≤ length part → length b' ≡ length b → full t.live b' ≡ full t.live b → out' ≡ out → area' ≡ area → rep' ≡ rep →
      StepIs c p.at room spare m (stay n to m) → r ≡ stopping t n to p.put p.told t.waits → Strode a x g part p t b b' out out' area area' rep rep' r
  stays_at n to b' out' area' rep' r l w bl e oe ae qe st re =
      stays_so x rep R T n to t.waits b' out' area' rep' r l w bl e oe (ap (take t.waits) ae) (ap length ae) (ap (drop t.waits) ae) R.waits (omega arith) qe
      (subst (λ (i : ℕ). StepIs c p.at room spare m (stop n to m [] i)) waits st) re

  -- ---- a token outside a record
  module _ (e : Event) (next : ℕ) (means : ReadAs (not g.ended) part p.at (Read e (record { at = next })))
      (I : StepIs c p.at room spare m (reported spare p.at m (other_token p.at m next (one_token a Y room (token_of a part e))))) (b' out' area' rep' : List ℕ) (ae : area' ≡ area) (qe : rep' ≡ rep)
      (r : Turn) (K : OtherTokenAs s part e next p t b b' out out' r) where
    abbrev q : Stepped
    q = K.taking

    abbrev goal : Type 0
    goal = Strode a x g part p t b b' out out' area area' rep rep' r

    moves : (p.at < next) × (next ≤ length part)
    moves = read_moves (not g.ended) part p.at e next means R.within

    refused_so : (n : ℕ) → (q.number ≡ 0 → ⊥) → q.number ≡ n → out' ≡ out → StepIs c p.at room spare m (stay n p.at m) → OtherEnds q next p t r → goal
    refused_so n d ne oe st (refused d' re) =
        stays_at n p.at b' out' area' rep' r (omega arith) R.within K.takes.long (full_same t.live b b' K.takes.below) oe ae qe st
        (re ∙ ap (λ (i : ℕ). stopping t i p.at p.put p.told t.waits) ne)
    refused_so n d ne oe st (passes z re) = absurd (d z)

    passed_so : (y : Configuration) (w : List ℕ) → one_token a Y room (token_of a part e) ≡ taken y w → Taken y w (full t.live b) out p.put (whole q b') out' → OtherEnds q next p t r → goal
    passed_so y w o k (refused d re) = absurd (d k.number)
    passed_so y w o k (passes z re) =
        let I' = subst (λ (i : Taking). StepIs c p.at room spare m (reported spare p.at m (other_token p.at m next i))) o I in
        let st = comes_on c p.at room spare m p.at (other_token p.at m next (taken y w)) next (between y) w [] 0 (omega arith) refl I' in
        let h : p.put + length w ≤ length out = omega (arith, k.next, K.takes.stepped.inside) in
        let ol : length out' ≡ length out =
        ap length k.left ∙ omega (arith, length-append (take p.put out) (w ++ drop (p.put + length w) out), length-append w (drop (p.put + length w) out), length-take p.put out, length-drop (p.put + length w) out, h, R.room) in
        goes_so x rep R T next q.at p.told 0 (between y) w [] (between_in q.live) b' out' area' rep' r st re k.next (omega arith) T (ap (λ (i : Configuration). between i) k.means) k.left ol
        (qe ∙ none_reported rep (entry_width * p.told)) (ap length ae) ae (omega arith) (omega arith)
        (record {
          within = moves.1;
          far = R.far;
          room = omega (arith, K.takes.stepped.inside, ol);
          waits = omega arith;
          long = omega (arith, R.long, K.takes.long);
          stands = stands_taken G t.live b b' out out' p.put room part e q y w R.stands (not g.ended) p.at next means K.takes.stepped o k;
          holds = holds_between refl;
        })
        (omega (arith, moves.0, moves.1))

    pub other_token_lem : goal
    other_token_lem = by (one_token a Y room (token_of a part e)) refl (K.takes.stepped.right a G R.stands.shaped R.stands.fits)
      where
        stopped : (k : Taking) (n : ℕ) → one_token a Y room (token_of a part e) ≡ k → other_token p.at m next k ≡ stay n p.at m → StepIs c p.at room spare m (stay n p.at m)
        stopped k n o z =
            comes_to c p.at room spare m p.at (other_token p.at m next k) n p.at m [] (length (waiting_in m)) (omega arith) z
            (subst (λ (i : Taking). StepIs c p.at room spare m (reported spare p.at m (other_token p.at m next i))) o I)

        by : (k : Taking) → one_token a Y room (token_of a part e) ≡ k → TakingIs k (full t.live b) out p.put (whole q b') out' → goal
        by (taken y w) o k = passed_so y w o k K.ends
        by (refuses n) o k =
            refused_so n (λ d. omega (arith, d, k.number, refuses_over a Y room (token_of a part e) n o)) k.number k.left (stopped (refuses n) n o refl) K.ends
        by no_room o k = refused_so 17 (λ d. omega (arith, d, k.number)) k.number k.left (stopped no_room 17 o refl) K.ends

  -- ---- bytes that are passed over
  module _ (two : t.mode ≡ 2) (rep' : List ℕ) (r : Turn) where
    abbrev skips : Mode
    skips = skipping Y t.first t.number

    is_mode : m ≡ skips
    is_mode = ap (λ (i : ℕ). mode_by i t b area) two

    abbrev end : Type 0
    end = Strode a x g part p t b b out out area area rep rep' r

    resumes_so : (to : ℕ) → p.at ≤ to → to ≤ length part → StepIs c p.at room spare m (reported spare to m (skip_step c Y t.first t.number (Here to))) → ResumesAs t to g.base p rep rep' r → end
    resumes_so to l w I (no_entry_left ge re qe) =
        stays_at 17 to b out area rep' r l w refl refl refl refl qe
        (full_report_on c p.at room spare m to (skip_step c Y t.first t.number (Here to)) to (between Y) (lost t.first (byte_before c to) t.number) 0 (omega arith) refl I) re
    resumes_so to l w I (resumed lt re qe) =
        let d : LostStretch = lost t.first (g.base + to - 1) t.number in
        let k : mode_rank t.mode ≡ 1 = ap mode_rank two in
        goes_so x rep R T to p.put (p.told + 1) 0 (between Y) [] (d ∷ []) (between_in t.live) b out area rep' r
        (comes_on c p.at room spare m to (skip_step c Y t.first t.number (Here to)) to (between Y) [] (d ∷ []) 0 (omega arith) refl I) re (omega arith) (omega arith) (omega arith) refl
        (none_written p.put out) refl (qe ∙ ap (put true rep (entry_width * p.told)) (one_reported d)) refl refl (omega arith) (omega arith)
        (record { within = w; far = R.far; room = R.room; waits = omega arith; long = R.long; stands = R.stands; holds = holds_between refl })
        (omega (arith, k))

    ran_so : (to : ℕ) → p.at ≤ to → to ≤ length part → StepIs c p.at room spare m (reported spare (length part) m (ran_out c to Y t.first t.number)) →
        RanOutAs t to (length part) g p rep rep' r → end
    ran_so to l w I (more_comes e re qe) =
        let e₁ : ran_out c to Y t.first t.number ≡ stay 16 to m =
        ap (λ (i : Bool). cond (not i) (stay 16 to skips) (stop 27 (length part) (between Y) (lost t.first (last_byte c) t.number ∷ []) 0)) e ∙ ap (stay 16 to) (sym is_mode) in
        stays_at 16 to b out area rep' r l w refl refl refl refl qe (comes_to c p.at room spare m (length part) (ran_out c to Y t.first t.number) 16 to m [] (length (waiting_in m)) (omega arith) e₁ I) re
    ran_so to l w I (no_entry_at_end e ge re qe) =
        let d : LostStretch = lost t.first (g.base + length part - 1) t.number in
        let e₁ : ran_out c to Y t.first t.number ≡ stop 27 (length part) (between Y) (d ∷ []) 0 =
        ap (λ (i : Bool). cond (not i) (stay 16 to skips) (stop 27 (length part) (between Y) (d ∷ []) 0)) e in
        stays_at 17 (length part) b out area rep' r R.within (omega arith) refl refl refl refl qe
        (full_report c p.at room spare m (length part) (ran_out c to Y t.first t.number) 27 (length part) (between Y) d 0 (omega arith) e₁ I) re
    ran_so to l w I (lost_at_end e lt re qe) =
        let d : LostStretch = lost t.first (g.base + length part - 1) t.number in
        let e₁ : ran_out c to Y t.first t.number ≡ stop 27 (length part) (between Y) (d ∷ []) 0 =
        ap (λ (i : Bool). cond (not i) (stay 16 to skips) (stop 27 (length part) (between Y) (d ∷ []) 0)) e in
        ends_so x rep R T 27 (length part) (p.told + 1) 0 t.live (d ∷ []) b out area rep' r
        (comes_to c p.at room spare m (length part) (ran_out c to Y t.first t.number) 27 (length part) (between Y) (d ∷ []) 0 (omega arith) e₁ I) re (omega arith) (omega arith) (omega arith) refl
        (qe ∙ ap (put true rep (entry_width * p.told)) (one_reported d)) refl refl (omega arith) R.stands

    pub skipped : (w w' : List ℕ) (found : Resumed) → ResumedIs w w' part p.at found → StepIs c p.at room spare m (reported spare (skip_to c found) m (skip_step c Y t.first t.number found)) →
        SkipEnds t g (length part) p rep rep' r found → end
    skipped w w' (Here to) h I k = resumes_so to h.0 (omega (arith, h.1)) I k
    skipped w w' (Waits to) h I k = ran_so to h.0 (omega (arith, h.1)) I k
    skipped w w' Nowhere h I k = ran_so (length part) R.within (omega arith) I k
