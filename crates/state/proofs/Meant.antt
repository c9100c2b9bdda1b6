-- What each change of a state means: the change that the machine makes (runs, Acts and Machine). Every follows from one law on lists: the first
-- n with the last put apart, with another last, with one more, all turned round.
use mathlib.Core.Bool.{Bool, true, false, cond}
use mathlib.Core.Path.{◌≡◌, refl, ap, subst, ◌∙◌}
use mathlib.Core.List.{List, [], ◌∷◌, map, reverse}
use Prim.Native.Nat.{ℕ, zero, suc, ◌+◌, ◌-◌, ◌<◌, ◌≤◌}
use native.Mathlib.Omega.{arith}
use native.Mathlib.Numerals.{sub-one}
use borrow.Author.Tests.{lt-ltb, ltb-true, ne_eqb}
use lib.Dec.{eqb, ltb}
use lib.ListN.{length, take, set, length-set, length-replicate}
use Rattle.runs.specs.Acts.{without_element, without_node, innermost, with_node}
use Rattle.runs.specs.Machine.{Open, inside, most, Configuration as Run, outer, fresh_configuration, at_start, at_place_lem}
use Rattle.state.specs.declared.Saved.{Saved}
use Rattle.state.specs.declared.Frame.{Frame}
use Rattle.state.specs.declared.State.{State}
use Rattle.state.specs.Bounds.{most_sets}
use Rattle.state.specs.Changes.{bare_saved, bare_frame, fresh_state, started, keeping, last_set, without_last, at_place}
use Rattle.state.specs.Changes.{pushed, popped, top_of, with_top, saving, restored, placed, with_env, closed_with}
use Rattle.state.specs.Meaning.{kept_of, sets_of, open_of, elements, standing, opens_of, meaning_of, Every, none, Fits, Shaped}
use Rattle.state.proofs.Laws.{take_last, take_put, take_push, first_last, first_put, first_push, length_put, all_snoc, all_front, all_last}

pub meaning_fresh : meaning_of fresh_state ≡ fresh_configuration
unfolding meaning_of fresh_state
meaning_fresh = refl

-- the innermost element and those around it; another innermost one; one more
elements_top : (s : State) → Shaped s → 0 < s.depth → elements s ≡ top_of s ∷ reverse (take (s.depth - 1) s.frames)
elements_top s h p = first_last bare_frame s.frames s.depth p (omega arith)

elements_put : (s : State) (f : Frame) → Shaped s → 0 < s.depth → elements (with_top s f) ≡ f ∷ reverse (take (s.depth - 1) s.frames)
elements_put s f h p = first_put s.frames s.depth f p (omega arith)

pub standing_opens : (rooted : Bool) (fs : List Frame) → opens_of (standing rooted fs) ≡ map open_of fs
standing_opens true [] = refl
standing_opens false [] = refl
standing_opens rooted (f ∷ fs) = refl

-- inside an element one is open
open_where : (o : Open) (os : List Open) (rooted : Bool) (frames : List Frame) (d : ℕ) → standing rooted (reverse (take d frames)) ≡ inside o os → 0 < d
open_where o os true frames zero e = let z : ◌≡◌ {A = ℕ} 0 1 = cc in omega arith
open_where o os false frames zero e = let z : ◌≡◌ {A = ℕ} 0 1 = cc in omega arith
open_where o os rooted frames (suc d) e = omega arith

pub inside_open : (s : State) (o : Open) (os : List Open) → (meaning_of s).control ≡ inside o os → 0 < s.depth
unfolding meaning_of
inside_open s o os e = open_where o os s.rooted s.frames s.depth e

-- a push opens an element: any one, and one at the start with its production's set
pub meaning_put_on : (s : State) (f : Frame) → Shaped s → s.depth < most →
    meaning_of (pushed s f).state ≡
    record {
      control = inside (open_of f) (opens_of (meaning_of s).control);
      store = record { kept = sets_of f ∷ (meaning_of s).store.kept; env = (meaning_of s).store.env };
    }
unfolding meaning_of pushed
meaning_put_on s f h p =
    let e : reverse (take (s.depth + 1) (set s.frames s.depth f)) ≡ f ∷ elements s = first_push s.frames s.depth f (omega arith) in
    rw (lt-ltb s.depth most p, e, standing_opens s.rooted (elements s))

pub meaning_pushed : (s : State) (q : ℕ) (k : Saved) → Shaped s → s.depth < most →
    meaning_of (pushed s (started q k)).state ≡
    record {
      control = inside (at_start q) (opens_of (meaning_of s).control);
      store = record { kept = (kept_of k ∷ []) ∷ (meaning_of s).store.kept; env = (meaning_of s).store.env };
    }
unfolding started
meaning_pushed s q k h p = meaning_put_on s (started q k) h p

-- a pop ends the innermost element
standing_popped : (rooted : Bool) (frames : List Frame) (d : ℕ) → 0 < d → d ≤ length frames →
    standing (cond (eqb d 1) true rooted) (reverse (take (d - 1) frames)) ≡ outer (map open_of (reverse (take (d - 1) frames)))
standing_popped rooted frames zero p h = absurd (omega arith)
standing_popped rooted frames (suc zero) p h = refl
standing_popped rooted frames (suc (suc d)) p h =
    rw (sub-one, first_last bare_frame frames (suc d) (omega arith) (omega arith))

pub meaning_popped : (s : State) → Shaped s → (o : Open) (os : List Open) → (meaning_of s).control ≡ inside o os →
    meaning_of (popped s) ≡
    record {
      control = outer os;
      store = record { kept = without_element (meaning_of s).store.kept; env = (meaning_of s).store.env };
    }
unfolding meaning_of popped
meaning_popped s h o os e =
    let p = inside_open s o os e in
    let f : opens_of (standing s.rooted (elements s)) ≡ o ∷ os = ap opens_of e in
    let g : map open_of (reverse (take (s.depth - 1) s.frames)) ≡ os = cc (standing_opens s.rooted (elements s), ap (map open_of) (elements_top s h p)) in
    rw (ne_eqb s.depth 0 (λ z. omega arith), standing_popped s.rooted s.frames s.depth p (omega arith), elements_top s h p, g)

-- the innermost element fits, and with one that fits in its place so does the state
pub fits_top : (s : State) → Shaped s → 0 < s.depth → Fits (top_of s)
fits_top s h p =
    all_last (take (s.depth - 1) s.frames) (top_of s) (subst (Every Fits) (take_last bare_frame s.frames s.depth p (omega arith)) h.fits)

fits_below : (s : State) → Shaped s → 0 < s.depth → Every Fits (take (s.depth - 1) s.frames)
fits_below s h p =
    all_front (take (s.depth - 1) s.frames) (top_of s) (subst (Every Fits) (take_last bare_frame s.frames s.depth p (omega arith)) h.fits)

pub shaped_put : (s : State) (f : Frame) → Shaped s → 0 < s.depth → Fits f → Shaped (with_top s f)
shaped_put s f h p g =
    record {
      deep = h.deep;
      frames = length_put s.frames s.depth f ∙ h.frames;
      fits = rw (take_put s.frames s.depth f p (omega arith)) (all_snoc (fits_below s h p) g);
    }

-- a state inside an element, taken apart at the innermost one
around : State → List Frame
around s = reverse (take (s.depth - 1) s.frames)

at_top : State → Frame → Run
at_top s f =
    record {
      control = inside (open_of f) (map open_of (around s));
      store = record { kept = sets_of f ∷ map sets_of (around s); env = (meaning_of s).store.env };
    }

meaning_top : (s : State) → Shaped s → 0 < s.depth → meaning_of s ≡ at_top s (top_of s)
unfolding meaning_of at_top around
meaning_top s h p = rw (elements_top s h p)

meaning_put : (s : State) (f : Frame) → Shaped s → 0 < s.depth → meaning_of (with_top s f) ≡ at_top s f
unfolding meaning_of at_top around
meaning_put s f h p = rw (elements_put s f h p)

-- another innermost element of the same meaning
pub meaning_same : (s : State) (f : Frame) → Shaped s → 0 < s.depth → open_of f ≡ open_of (top_of s) → sets_of f ≡ sets_of (top_of s) → meaning_of (with_top s f) ≡ meaning_of s
unfolding at_top
meaning_same s f h p o k = meaning_put s f h p ∙ rw (meaning_top s h p, o, k)

-- one more set, for a node that has been opened
sets_kept : (f : Frame) (k : Saved) → Fits f → f.«open» < most_sets → sets_of (keeping f k) ≡ kept_of k ∷ sets_of f
unfolding keeping
sets_kept f k h p = rw (lt-ltb f.«open» most_sets p, first_push f.saved f.«open» k (omega arith))

open_kept : (f : Frame) (k : Saved) → f.«open» < most_sets → open_of (keeping f k) ≡ open_of f
unfolding keeping
open_kept f k p = rw (lt-ltb f.«open» most_sets p)

pub meaning_saved : (s : State) (k : Saved) → Shaped s → 0 < s.depth → (top_of s).«open» < most_sets →
    meaning_of (saving s k) ≡
    record {
      control = (meaning_of s).control;
      store = record { kept = with_node (kept_of k) (meaning_of s).store.kept; env = (meaning_of s).store.env };
    }
unfolding at_top
meaning_saved s k h p r =
    meaning_put s (keeping (top_of s) k) h p ∙
    rw (meaning_top s h p, sets_kept (top_of s) k (fits_top s h p) r, open_kept (top_of s) k r)

-- one set less, and that set: for a node that is to be closed
sets_restored : (f : Frame) → Fits f → 0 < f.«open» → sets_of f ≡ kept_of (last_set f) ∷ sets_of (without_last f)
sets_restored f h p = rw (first_last bare_saved f.saved f.«open» p (omega arith))

pub meaning_restored : (s : State) → Shaped s → 0 < s.depth → 0 < (top_of s).«open» →
    (meaning_of (restored s).state ≡
    record {
      control = (meaning_of s).control;
      store = record { kept = without_node (meaning_of s).store.kept; env = (meaning_of s).store.env };
    }) × (kept_of (restored s).saved ≡ innermost (meaning_of s).store.kept)
unfolding at_top
meaning_restored s h p r = (
  meaning_put s (without_last (top_of s)) h p ∙ rw (meaning_top s h p, sets_restored (top_of s) (fits_top s h p) r),
  rw (meaning_top s h p, sets_restored (top_of s) (fits_top s h p) r),
)

-- another place of the innermost element
pub meaning_placed : (s : State) (p : ℕ) → Shaped s → (o : Open) (os : List Open) → (meaning_of s).control ≡ inside o os →
    meaning_of (placed s p) ≡ record { control = inside (at_place_lem o p) os; store = (meaning_of s).store }
unfolding at_top
meaning_placed s p h o os e =
    let d = inside_open s o os e in
    let g : inside (open_of (top_of s)) (map open_of (around s)) ≡ inside o os = cc (meaning_top s h d) in
    let a : open_of (top_of s) ≡ o = cc in
    let b : map open_of (around s) ≡ os = cc in
    meaning_put s (at_place (top_of s) p) h d ∙ rw (meaning_top s h d, ← a, ← b)

pub meaning_env : (s : State) (values : List ℕ) (echo : Bool) (count : ℕ) →
    meaning_of (with_env s values echo count) ≡
    record {
      control = (meaning_of s).control;
      store = record { kept = (meaning_of s).store.kept; env = record { values = values; echo = echo; out = []; count = count } };
    }
unfolding meaning_of
meaning_env s values echo count = refl

pub meaning_closed : (s : State) (number : ℕ) → meaning_of (closed_with s number) ≡ meaning_of s
unfolding meaning_of
meaning_closed s number = refl

-- the changes keep the shape
pub shaped_fresh : Shaped fresh_state
unfolding fresh_state
shaped_fresh = record { deep = omega arith; frames = length-replicate most bare_frame; fits = none }

pub shaped_pushed : (s : State) (f : Frame) → Shaped s → Fits f → Shaped (pushed s f).state
unfolding pushed
shaped_pushed s f h g = by_room (ltb s.depth most) refl
  where
    by_room : (b : Bool) → ltb s.depth most ≡ b → Shaped (pushed s f).state
    by_room true e =
        rw e
        (record {
          deep = omega (arith, ltb-true);
          frames = length-set s.frames s.depth f ∙ h.frames;
          fits = rw (take_push s.frames s.depth f (omega (arith, ltb-true))) (all_snoc h.fits g);
        })
    by_room false e = rw e h

pub fits_started : (q : ℕ) (k : Saved) → Fits (started q k)
unfolding started
fits_started q k = record { room = omega arith; sets = refl }

pub fits_kept : (f : Frame) (k : Saved) → Fits f → Fits (keeping f k)
unfolding keeping
fits_kept f k h = by_room (ltb f.«open» most_sets) refl
  where
    by_room : (b : Bool) → ltb f.«open» most_sets ≡ b → Fits (keeping f k)
    by_room true e = rw e (record { room = omega (arith, ltb-true); sets = length-set f.saved f.«open» k ∙ h.sets })
    by_room false e = rw e h

pub shaped_popped : (s : State) → Shaped s → 0 < s.depth → Shaped (popped s)
unfolding popped
shaped_popped s h p = rw (ne_eqb s.depth 0 (λ z. omega arith)) (record { deep = omega arith; frames = h.frames; fits = fits_below s h p })

pub shaped_saved : (s : State) (k : Saved) → Shaped s → 0 < s.depth → Shaped (saving s k)
shaped_saved s k h p = shaped_put s (keeping (top_of s) k) h p (fits_kept (top_of s) k (fits_top s h p))

pub shaped_restored : (s : State) → Shaped s → 0 < s.depth → Shaped (restored s).state
shaped_restored s h p =
    let f = fits_top s h p in
    shaped_put s (without_last (top_of s)) h p (record { room = omega arith; sets = f.sets })

pub shaped_placed : (s : State) (place : ℕ) → Shaped s → 0 < s.depth → Shaped (placed s place)
shaped_placed s place h p =
    let f = fits_top s h p in
    shaped_put s (at_place (top_of s) place) h p (record { room = f.room; sets = f.sets })

pub shaped_env : (s : State) (values : List ℕ) (echo : Bool) (count : ℕ) → Shaped s → Shaped (with_env s values echo count)
shaped_env s values echo count h = record { deep = h.deep; frames = h.frames; fits = h.fits }

pub shaped_closed : (s : State) (number : ℕ) → Shaped s → Shaped (closed_with s number)
shaped_closed s number h = record { deep = h.deep; frames = h.frames; fits = h.fits }
