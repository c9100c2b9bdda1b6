-- A token of a record: taken, and the record goes on or is whole; refused; or without room.
-- Assumes nothing.
use mathlib.Core.Path.{◌≡◌, refl, sym, ap, ap₂, subst, ◌∙◌}
use mathlib.Core.Bool.{Bool, true, false, not, cond}
use mathlib.Core.List.{List, [], ◌∷◌, ◌++◌, append_assoc}
use Prim.Native.Nat.{ℕ, zero, suc, ◌+◌, ◌-◌, ◌*◌, ◌/◌, ◌≤◌, ◌<◌}
use native.Mathlib.Omega.{arith}
use lib.Dec.{eqb, leb}
use lib.ListN.{length, take, drop, length-append, length-drop, length-reverse}
use lib.Seq.{take_at, drop_at, length-take-le}
use borrow.Author.Tests.{eq-eqb, ne_eqb, le-leb, lt-leb}
use Rattle.lent.specs.Put.{put}
use Rattle.lent.proofs.Laws.{put_all, put_length}
use Rattle.tokens.specs.declared.Event.{Event}
use Rattle.tokens.specs.declared.Answer.TheVariants.{Token as Read}
use Rattle.tokens.specs.Stream.{ReadAs}
use Rattle.sheet.specs.Sheet.{Sheet, IsSheet}
use Rattle.runs.specs.Machine.{Configuration, before, inside, after}
use Rattle.runs.proofs.SheetFits.{sheet_fits}
use Rattle.fit.specs.RunFits.{RunFits}
use Rattle.calls.specs.Names.{token_of}
use Rattle.calls.specs.Limits.{Taking, taken, refuses, no_room, one_token}
use Rattle.calls.specs.Call.{room_left}
use Rattle.calls.proofs.Read.{read_moves}
use Rattle.calls.proofs.Steps.{refuses_over}
use Rattle.salvage.specs.Shape.{RecordTags}
use Rattle.salvage.specs.Salvage.{root_only}
use Rattle.state.specs.Meaning.{standing, elements, meaning_of, Shaped}
use Rattle.state.specs.declared.State.{State}
use Rattle.state.specs.declared.Frame.{Frame}
use Rattle.live.specs.declared.Live.{Live}
use Rattle.live.specs.Live.{full}
use Rattle.live.proofs.Stacks.{full_same}
use Rattle.steps.specs.declared.Stepped.{Stepped}
use Rattle.steps.specs.Seen.{whole}
use Rattle.steps.specs.Taken.{Taken, Left, TakingIs, TakenAs}
use Rattle.steps.proofs.Onward.{event_fits, taken_fits}
use Rattle.converter.proofs.Going.{event_in}
use Rattle.rescue.specs.Held.{Mode, between, skipping, waiting_in}
use Rattle.rescue.specs.Held as modes
use Rattle.rescue.specs.Step.{Setting, Step, on, stop, stay, whole_at, record_token, reported, StepIs}
use Rattle.rescue.specs.Call.{setting}
use Rattle.rescue.proofs.Whole.{comes_on, comes_to}
use Rattle.rescued.specs.Bytes.{entry_width}
use Rattle.turns.specs.declared.Stand.{Stand}
use Rattle.turns.specs.declared.Place.{Place}
use Rattle.turns.specs.declared.Given.{Given}
use Rattle.turns.specs.declared.Turn.{Turn}
use Rattle.turns.specs.Stands.{between_in, inside_in, going, stopping, mode_of, RunStands, holds_between, holds_inside, ReadyOn}
use Rattle.turns.specs.Turned.{BrokenAs, RecordEnds, breaks_off, goes_on, no_output, is_whole, RecordTokenAs}
use Rattle.strides.specs.Strides.{mode_rank, Strode}
use Rattle.strides.proofs.Basics.{none_written, none_reported, stays_so, goes_so}
use Rattle.strides.proofs.Broken.{broken}

-- only the root is open where one is
root_by : (rooted : Bool) (fs : List Frame) → root_only (standing rooted fs) ≡ eqb (length fs) 1
root_by false [] = refl
root_by true [] = refl
root_by false (f ∷ []) = refl
root_by true (f ∷ []) = refl
root_by false (f ∷ f' ∷ fs) = sym (ne_eqb (suc (suc (length fs))) 1 (λ e. omega arith))
root_by true (f ∷ f' ∷ fs) = sym (ne_eqb (suc (suc (length fs))) 1 (λ e. omega arith))

pub root_only_lem : (z : State) → Shaped z → root_only (meaning_of z).control ≡ eqb z.depth 1
unfolding meaning_of
root_only_lem z h =
    let e : length (elements z) ≡ z.depth = length-reverse (take z.depth z.frames) ∙ length-take-le z.depth z.frames (omega (arith, h.deep, h.frames)) in
    root_by z.rooted (elements z) ∙ ap (λ (n : ℕ). eqb n 1) e

-- what a token that was taken leaves of the run
pub stands_taken : {a : Sheet} {s : List ℕ} (G : IsSheet s a) (h : Live) (b b' lent d : List ℕ) (at room : ℕ) (part : List ℕ) (e : Event) (q : Stepped) (y : Configuration) (w : List ℕ) → RunStands a h b →
    (more : Bool) (here next : ℕ) → ReadAs more part here (Read e (record { at = next })) → TakenAs s part e (full h b) lent at (whole q b') d →
    one_token a (meaning_of (full h b)) room (token_of a part e) ≡ taken y w → Taken y w (full h b) lent at (whole q b') d → RunStands a q.live b'
stands_taken {a} G h b b' lent d at room part e q y w S more here next means T o k =
    record {
      count = T.count;
      is_open = k.closed ∙ S.is_open;
      shaped = k.shaped;
      fits = subst (RunFits a) (sym k.means) (taken_fits a (sheet_fits G) (meaning_of (full h b)) room (token_of a part e) y w (event_fits a part e (event_in more part here e next means)) S.fits o);
    }

module _ {s : List ℕ} {a : Sheet} (G : IsSheet s a) (x : RecordTags) {g : Given} {part : List ℕ} {p : Place} {t : Stand} {b out area : List ℕ} (rep : List ℕ) (R : ReadyOn a g part p t b out area)
    (T : p.told ≤ length rep / entry_width) (z : Live) (one : z.depth ≡ 1) (S : RunStands a z []) (f : ℕ) (in_it : f < g.base + p.at → t.mode ≡ 1) (not_later : f ≤ g.base + p.at)
    (e : Event) (next : ℕ) (means : ReadAs (not g.ended) part p.at (Read e (record { at = next }))) (v : List ℕ) (what_waits : v ≡ take t.waits area) where
  abbrev c : Setting
  c = setting a x part (not g.ended) g.base (length area)

  abbrev room : ℕ
  room = length out - p.put

  abbrev spare : ℕ
  spare = length rep / entry_width - p.told

  abbrev m : Mode
  m = mode_of t b area

  abbrev Z : Configuration
  Z = meaning_of (full z [])

  abbrev Y : Configuration
  Y = meaning_of (full t.live b)

  abbrev came_to : Taking → Step
  came_to k = record_token c p.at room m Z f v next k

  moves : (p.at < next) × (next ≤ length part)
  moves = read_moves (not g.ended) part p.at e next means R.within

  v_long : length v ≡ t.waits
  v_long = ap length what_waits ∙ length-take-le t.waits area R.waits

  module _ (I : StepIs c p.at room spare m (reported spare p.at m (came_to (one_token a Y (room_left (length area) v) (token_of a part e))))) (b' out' area' rep' : List ℕ) (r : Turn)
      (K : RecordTokenAs s g.base z f part e next p t b b' out out' area area' rep rep' r) where
    abbrev q : Stepped
    q = K.taking

    abbrev goal : Type 0
    goal = Strode a x g part p t b b' out out' area area' rep rep' r

    module _ (y : Configuration) (w : List ℕ) (o : one_token a Y (room_left (length area) v) (token_of a part e) ≡ taken y w) (k : Taken y w (full t.live b) area t.waits (whole q b') area') where
      I' : StepIs c p.at room spare m (reported spare p.at m (came_to (taken y w)))
      I' = subst (λ (i : Taking). StepIs c p.at room spare m (reported spare p.at m (came_to i))) o I

      far : q.at ≡ length (v ++ w)
      far = omega (arith, k.next, length-append v w, v_long)

      fits_in : q.at ≤ length area
      fits_in = K.takes.stepped.inside

      abbrev rest : List ℕ
      rest = drop (t.waits + length w) area

      area_is : area' ≡ (v ++ w) ++ rest
      area_is = k.left ∙ ap (λ (l : List ℕ). l ++ (w ++ drop (t.waits + length w) area)) (sym what_waits) ∙ sym (append_assoc v w (drop (t.waits + length w) area))

      first : take q.at area' ≡ v ++ w
      first = ap (take q.at) area_is ∙ take_at (v ++ w) rest q.at (sym far)

      still : take t.waits area' ≡ take t.waits area
      still = ap (take t.waits) (area_is ∙ append_assoc v w rest) ∙ take_at v (w ++ rest) t.waits v_long ∙ what_waits

      past : drop q.at area' ≡ drop q.at area
      past = ap (drop q.at) area_is ∙ drop_at (v ++ w) rest q.at (sym far) ∙ ap (λ (i : ℕ). drop i area) (sym k.next)

      area_long : length area' ≡ length area
      area_long = ap length area_is ∙ length-append (v ++ w) rest ∙ omega (arith, far, fits_in, k.next, length-drop (t.waits + length w) area)

      root_told : (d : Bool) → eqb q.live.depth 1 ≡ d → root_only y.control ≡ d
      root_told d u = ap (λ (i : Configuration). root_only i.control) (sym k.means) ∙ root_only_lem (full q.live b') k.shaped ∙ u

      new_stands : RunStands a q.live b'
      new_stands = stands_taken G t.live b b' area area' t.waits (room_left (length area) v) part e q y w R.stands (not g.ended) p.at next means K.takes.stepped o k

      on_inside : (q.live.depth ≡ 1 → ⊥) → r ≡ going (inside_in z q.live f q.at) next p.put p.told q.at → out' ≡ out → rep' ≡ rep → goal
      on_inside d re oe qe =
          let step : Step = on next (modes.inside Z y f (v ++ w)) [] [] (length (v ++ w)) in
          let e₁ : came_to (taken y w) ≡ step = ap (λ (i : Bool). cond i (whole_at p.at room m next y (v ++ w)) step) (root_told false (ne_eqb q.live.depth 1 d)) in
          let st = comes_on c p.at room spare m p.at (came_to (taken y w)) next (modes.inside Z y f (v ++ w)) [] [] (length (v ++ w)) (omega arith) e₁ I' in
          goes_so x rep R T next p.put p.told q.at (modes.inside Z y f (v ++ w)) [] [] (inside_in z q.live f q.at) b' out' area' rep' r
          (subst (λ (i : ℕ). StepIs c p.at room spare m (on next (modes.inside Z y f (v ++ w)) [] [] i)) (sym far) st) re (omega arith) (omega arith) T
          (ap₂ (λ (i : Configuration) (l : List ℕ). modes.inside Z i f l) k.means first) (oe ∙ none_written p.put out) (ap length oe) (qe ∙ none_reported rep (entry_width * p.told)) area_long past fits_in
          (omega arith)
          (record {
            within = moves.1;
            far = R.far;
            room = omega (arith, R.room, ap length oe);
            waits = omega (arith, fits_in, area_long);
            long = omega (arith, R.long, K.takes.long);
            stands = new_stands;
            holds = holds_inside (omega (arith, moves.0)) one S;
          })
          (omega (arith, moves.0, moves.1))

      as_whole : q.live.depth ≡ 1 → came_to (taken y w) ≡ whole_at p.at room m next y (v ++ w)
      as_whole d =
          ap (λ (i : Bool). cond i (whole_at p.at room m next y (v ++ w)) (on next (modes.inside Z y f (v ++ w)) [] [] (length (v ++ w)))) (root_told true (eq-eqb q.live.depth 1 d))

      full_output : q.live.depth ≡ 1 → room < q.at → r ≡ stopping t 17 p.at p.put p.told q.at → out' ≡ out → rep' ≡ rep → goal
      full_output d l re oe qe =
          let e₁ = as_whole d ∙ ap (λ (i : Bool). cond i (on next (between y) (v ++ w) [] (length (v ++ w))) (stop 17 p.at m [] (length (v ++ w)))) (lt-leb (length (v ++ w)) room (omega (arith, far))) in
          let st = comes_to c p.at room spare m p.at (came_to (taken y w)) 17 p.at m [] (length (v ++ w)) (omega arith) e₁ I' in
          stays_so x rep R T 17 p.at q.at b' out' area' rep' r (omega arith) R.within K.takes.long (full_same t.live b b' K.takes.below) oe still area_long past fits_in
          (omega (arith, k.next)) qe (subst (λ (i : ℕ). StepIs c p.at room spare m (stop 17 p.at m [] i)) (sym far) st) re

      is_written : q.live.depth ≡ 1 → q.at ≤ room → r ≡ going (between_in q.live) next (p.put + q.at) p.told q.at → out' ≡ put true out p.put (take q.at area') → rep' ≡ rep → goal
      is_written d l re oe qe =
          let e₁ = as_whole d ∙ ap (λ (i : Bool). cond i (on next (between y) (v ++ w) [] (length (v ++ w))) (stop 17 p.at m [] (length (v ++ w)))) (le-leb (length (v ++ w)) room (omega (arith, far))) in
          let st = comes_on c p.at room spare m p.at (came_to (taken y w)) next (between y) (v ++ w) [] (length (v ++ w)) (omega arith) e₁ I' in
          let e₂ : out' ≡ put true out p.put (v ++ w) = oe ∙ ap (put true out p.put) first in
          let ol : length out' ≡ length out = ap length e₂ ∙ put_length true out p.put (v ++ w) in
          goes_so x rep R T next (p.put + q.at) p.told q.at (between y) (v ++ w) [] (between_in q.live) b' out' area' rep' r
          (subst (λ (i : ℕ). StepIs c p.at room spare m (on next (between y) (v ++ w) [] i)) (sym far) st) re (omega (arith, far)) (omega arith) T
          (ap (λ (i : Configuration). between i) k.means) (e₂ ∙ put_all out p.put (v ++ w) (omega (arith, far, R.room)) ∙ append_assoc (take p.put out) (v ++ w) (drop (p.put + length (v ++ w)) out)) ol (qe ∙ none_reported rep (entry_width * p.told)) area_long past fits_in
          (omega arith)
          (record {
            within = moves.1;
            far = R.far;
            room = omega (arith, R.room, ol);
            waits = omega arith;
            long = omega (arith, R.long, K.takes.long);
            stands = new_stands;
            holds = holds_between refl;
          })
          (omega (arith, moves.0, moves.1))

      by_ends : RecordEnds q g.base z f (length part) next p t out out' area' rep rep' r → goal
      by_ends (breaks_off d B oe) = absurd (d k.number)
      by_ends (goes_on n d re oe qe) = on_inside d re oe qe
      by_ends (no_output n d l re oe qe) = full_output d l re oe qe
      by_ends (is_whole n d l re oe qe) = is_written d l re oe qe

    -- the token is not taken, and has the number n
    not_taken : (n : ℕ) → (q.number ≡ 0 → ⊥) → q.number ≡ n → area' ≡ area →
        StepIs c p.at room spare m (reported spare p.at m (record_token c p.at room m Z f v next (refuses n))) → RecordEnds q g.base z f (length part) next p t out out' area' rep rep' r → goal
    not_taken n d ne ae i (breaks_off d' B oe) =
        broken x rep R T z one S f n in_it (λ l. omega (arith, moves.0, moves.1)) i b' out' area' K.takes.long (full_same t.live b b' K.takes.below) oe ae rep' r
        (subst (λ (j : ℕ). BrokenAs t z f j g.base (length part) p rep rep' r) ne B)
    not_taken n d ne ae i (goes_on z d' re oe qe) = absurd (d z)
    not_taken n d ne ae i (no_output z d' l re oe qe) = absurd (d z)
    not_taken n d ne ae i (is_whole z d' l re oe qe) = absurd (d z)

    pub record_token_lem : goal
    record_token_lem = by (one_token a Y (room_left (length area) v) (token_of a part e)) refl
        (subst (λ (i : ℕ). TakingIs (one_token a Y i (token_of a part e)) (full t.live b) area t.waits (whole q b') area') (ap (λ (i : ℕ). length area - i) (sym v_long))
        (K.takes.stepped.right a G R.stands.shaped R.stands.fits))
      where
        by : (k : Taking) → one_token a Y (room_left (length area) v) (token_of a part e) ≡ k → TakingIs k (full t.live b) area t.waits (whole q b') area' → goal
        by (taken y w) o k = by_ends y w o k K.ends
        by (refuses n) o k =
            not_taken n (λ d. omega (arith, d, k.number, refuses_over a Y (room_left (length area) v) (token_of a part e) n o)) k.number k.left
            (subst (λ (j : Taking). StepIs c p.at room spare m (reported spare p.at m (came_to j))) o I) K.ends
        by no_room o k =
            not_taken 17 (λ d. omega (arith, d, k.number)) k.number k.left (subst (λ (j : Taking). StepIs c p.at room spare m (reported spare p.at m (came_to j))) o I) K.ends
