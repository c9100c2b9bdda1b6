-- A state with nothing left in what is not in use stands for the same run (`meaning_tidied`), and is the one state that this run is handed back in
-- (`tidied_for`).
-- Assumes nothing.
use mathlib.Core.Path.{◌≡◌, refl, sym, ap, ap₂, subst, ◌∙◌}
use mathlib.Core.Bool.{Bool, true, false, cond}
use mathlib.Core.List.{List, [], ◌∷◌, ◌++◌, map, reverse, reverse_aux, reverse-reverse}
use Prim.Native.Nat.{ℕ, zero, suc, ◌-◌, ◌≤◌, ◌<◌}
use native.Mathlib.Omega.{arith}
use lib.Dec.{eqb}
use lib.ListN.{length, take, get_or, set, replicate, length-map, length-reverse, length-replicate}
use lib.Seq.{length-take-le}
use borrow.Author.Tests.{ne_eqb}
use Rattle.runs.specs.Visits.{Saved as Kept}
use Rattle.runs.specs.Machine.{Open, most, Configuration as Run, fresh_configuration}
use Rattle.state.specs.declared.Saved.{Saved}
use Rattle.state.specs.declared.Frame.{Frame}
use Rattle.state.specs.declared.State.{State}
use Rattle.state.specs.Bounds.{most_sets}
use Rattle.state.specs.Changes.{bare_saved, bare_frame, not_closed, fresh_state, put_last, top_of, with_top, closed_with, bare_from, tidy_frame, tidied}
use Rattle.state.specs.Meaning.{kept_of, sets_of, open_of, elements, standing, opens_of, meaning_of, Every, none, more, Fits, Shaped}
use Rattle.state.specs.Bytes.{SizedFrame, Sized}
use Rattle.state.specs.Canonical.{saved_for, frame_for, frames_for, root_closed, state_for}
use Rattle.state.proofs.Laws.{first_last}
use Rattle.state.proofs.Meant.{standing_opens, meaning_same, shaped_put, fits_top}

-- the first n of a list, the others bare: one more of them made bare; none left to make bare
pub bare_more : {X : Type 0} (bare : X) (i : ℕ) (l : List X) → bare_from bare (suc i) (set l i bare) ≡ bare_from bare i l
unfolding bare_from
bare_more bare i [] = refl
bare_more bare zero (x ∷ l) = refl
bare_more {X} bare (suc i) (x ∷ l) = ap (λ (r : List X). x ∷ r) (bare_more bare i l)

pub bare_none : {X : Type 0} (bare : X) (i : ℕ) (l : List X) → length l ≤ i → bare_from bare i l ≡ l
unfolding bare_from
bare_none bare i [] h = refl
bare_none bare zero (x ∷ l) h = absurd (omega arith)
bare_none {X} bare (suc i) (x ∷ l) h = ap (λ (r : List X). x ∷ r) (bare_none bare i l (omega arith))

pub length_bare : {X : Type 0} (bare : X) (n : ℕ) (l : List X) → length (bare_from bare n l) ≡ length l
unfolding bare_from
length_bare bare n [] = refl
length_bare bare zero (x ∷ l) = ap suc (length_bare bare zero l)
length_bare bare (suc n) (x ∷ l) = ap suc (length_bare bare n l)

take_bare : {X : Type 0} (bare : X) (n : ℕ) (l : List X) → take n (bare_from bare n l) ≡ take n l
unfolding bare_from
take_bare bare zero l = refl
take_bare bare (suc n) [] = refl
take_bare {X} bare (suc n) (x ∷ l) = ap (λ (r : List X). x ∷ r) (take_bare bare n l)

pub bare_is : {X : Type 0} (bare : X) (n : ℕ) (l : List X) → bare_from bare n l ≡ take n l ++ replicate (length l - n) bare
unfolding bare_from
bare_is bare zero [] = refl
bare_is {X} bare (suc n) [] =
    let e : length {A = X} [] - suc n ≡ 0 = omega arith in
    rw e
bare_is {X} bare zero (x ∷ l) =
    let e : length (x ∷ l) - 0 ≡ suc (length l - 0) = omega arith in
    rw e (ap (λ (r : List X). bare ∷ r) (bare_is bare zero l))
bare_is {X} bare (suc n) (x ∷ l) =
    let e : length (x ∷ l) - suc n ≡ length l - n = omega arith in
    rw e (ap (λ (r : List X). x ∷ r) (bare_is bare n l))

-- one more of them in its place; made bare again
pub bare_next : {X : Type 0} (bare z : X) (i : ℕ) (l : List X) → i < length l → set (bare_from bare i l) i (get_or l i z) ≡ bare_from bare (suc i) l
unfolding bare_from
bare_next bare z i [] h = absurd (omega arith)
bare_next bare z zero (x ∷ l) h = refl
bare_next {X} bare z (suc i) (x ∷ l) h = ap (λ (r : List X). x ∷ r) (bare_next bare z i l (omega arith))

pub bare_twice : {X : Type 0} (bare : X) (n : ℕ) (l : List X) → bare_from bare n (bare_from bare n l) ≡ bare_from bare n l
unfolding bare_from
bare_twice bare n [] = refl
bare_twice {X} bare zero (x ∷ l) = ap (λ (r : List X). bare ∷ r) (bare_twice bare zero l)
bare_twice {X} bare (suc n) (x ∷ l) = ap (λ (r : List X). x ∷ r) (bare_twice bare n l)

-- a list's elements changed one by one
take_map : {X Y : Type 0} (f : X → Y) (n : ℕ) (l : List X) → take n (map f l) ≡ map f (take n l)
take_map f zero l = refl
take_map f (suc n) [] = refl
take_map {Y = Y} f (suc n) (x ∷ l) = ap (λ (r : List Y). f x ∷ r) (take_map f n l)

map_aux : {X Y : Type 0} (f : X → Y) (l r : List X) → map f (reverse_aux l r) ≡ reverse_aux (map f l) (map f r)
map_aux f [] r = refl
map_aux f (x ∷ l) r = map_aux f l (x ∷ r)

all_aux : {X : Type 0} {P : X → Type 0} (l r : List X) → Every P l → Every P r → Every P (reverse_aux l r)
all_aux [] r a b = b
all_aux (x ∷ l) r (more p a) b = all_aux l (x ∷ r) a (more p b)

-- a frame
saved_for_lem : (l : List Saved) → map saved_for (map kept_of l) ≡ l
saved_for_lem [] = refl
saved_for_lem (k ∷ l) = ap (λ (r : List Saved). k ∷ r) (saved_for_lem l)

frame_for_lem : (f : Frame) → Fits f → frame_for (open_of f) (sets_of f) ≡ tidy_frame f
unfolding frame_for
frame_for_lem f h =
    let l : List Saved = take f.«open» f.saved in
    let n : length (map kept_of (reverse l)) ≡ f.«open» =
    length-map (reverse l) kept_of ∙ length-reverse l ∙ length-take-le f.«open» f.saved (omega (arith, h.room, h.sets)) in
    let s : reverse (map saved_for (map kept_of (reverse l))) ≡ l = ap reverse (saved_for_lem (reverse l)) ∙ reverse-reverse l in
    let b : bare_from bare_saved f.«open» f.saved ≡ l ++ replicate (most_sets - f.«open») bare_saved =
    bare_is bare_saved f.«open» f.saved ∙ ap (λ (m : ℕ). l ++ replicate (m - f.«open») bare_saved) h.sets in
    rw (b, s, n)

frames_for_lem : (fs : List Frame) → Every Fits fs → frames_for (map open_of fs) (map sets_of fs) ≡ map tidy_frame fs
frames_for_lem [] a = refl
frames_for_lem (f ∷ fs) (more h a) = ap₂ (λ (x : Frame) (xs : List Frame). x ∷ xs) (frame_for_lem f h) (frames_for_lem fs a)

opens_tidied : (fs : List Frame) → map open_of (map tidy_frame fs) ≡ map open_of fs
opens_tidied [] = refl
opens_tidied (f ∷ fs) = ap (λ (os : List Open). open_of f ∷ os) (opens_tidied fs)

sets_tidied : (fs : List Frame) → map sets_of (map tidy_frame fs) ≡ map sets_of fs
sets_tidied [] = refl
sets_tidied (f ∷ fs) =
    ap₂ (λ (l : List Saved) (kss : List (List Kept)). map kept_of (reverse l) ∷ kss) (take_bare bare_saved f.«open» f.saved) (sets_tidied fs)

pub fits_tidy : (f : Frame) → Fits f → Fits (tidy_frame f)
fits_tidy f h = record { room = h.room; sets = length_bare bare_saved f.«open» f.saved ∙ h.sets }

fits_tidied : {fs : List Frame} → Every Fits fs → Every Fits (map tidy_frame fs)
fits_tidied none = none
fits_tidied (more {x = f} h a) = more (fits_tidy f h) (fits_tidied a)

-- a state with the innermost element tidied
abbrev pub tidy_top : State → State
tidy_top s = with_top s (tidy_frame (top_of s))

no_top : (s : State) (f : Frame) → s.depth ≡ 0 → with_top s f ≡ s
no_top s f e = ap (λ (d : ℕ). record { values = s.values; echo = s.echo; count = s.count; rooted = s.rooted; closed = s.closed; depth = s.depth; frames = put_last s.frames d f }) e

pub meaning_tidy_top : (s : State) → Shaped s → meaning_of (tidy_top s) ≡ meaning_of s
meaning_tidy_top s h = by s.depth refl
  where
    by : (d : ℕ) → s.depth ≡ d → meaning_of (tidy_top s) ≡ meaning_of s
    by zero e = ap meaning_of (no_top s (tidy_frame (top_of s)) e)
    by (suc n) e =
        meaning_same s (tidy_frame (top_of s)) h (omega arith) refl
        (ap (λ (l : List Saved). map kept_of (reverse l)) (take_bare bare_saved (top_of s).«open» (top_of s).saved))

pub shaped_tidy_top : (s : State) → Shaped s → Shaped (tidy_top s)
shaped_tidy_top s h = by s.depth refl
  where
    by : (d : ℕ) → s.depth ≡ d → Shaped (tidy_top s)
    by zero e = subst Shaped (sym (no_top s (tidy_frame (top_of s)) e)) h
    by (suc n) e = shaped_put s (tidy_frame (top_of s)) h (omega arith) (fits_tidy (top_of s) (fits_top s h (omega arith)))

-- whether the root has been closed
closed_for : (rooted : Bool) (frames : List Frame) (d : ℕ) → d ≤ length frames →
    root_closed (standing rooted (reverse (take d frames))) ≡ cond (eqb d 0) rooted false
closed_for true frames zero h = refl
closed_for false frames zero h = refl
closed_for rooted frames (suc n) h = rw (first_last bare_frame frames (suc n) (omega arith) h, ne_eqb (suc n) 0 (λ e. omega arith))

standing_tidied : (rooted : Bool) (frames : List Frame) (d : ℕ) → d ≤ length frames →
    standing (cond (eqb d 0) rooted false) (map tidy_frame (reverse (take d frames))) ≡ standing rooted (reverse (take d frames))
standing_tidied rooted frames zero h = refl
standing_tidied rooted frames (suc n) h =
    rw (first_last bare_frame frames (suc n) (omega arith) h, opens_tidied (reverse (take (suc n - 1) frames)))

module _ (z : State) (h : Shaped z) where
  few : z.depth ≤ length z.frames
  few = omega (arith, h.deep, h.frames)

  take_tidied : take z.depth (bare_from bare_frame z.depth (map tidy_frame z.frames)) ≡ map tidy_frame (take z.depth z.frames)
  take_tidied = take_bare bare_frame z.depth (map tidy_frame z.frames) ∙ take_map tidy_frame z.depth z.frames

  elements_tidied : elements (tidied z) ≡ map tidy_frame (elements z)
  elements_tidied = ap reverse take_tidied ∙ sym (map_aux tidy_frame (take z.depth z.frames) [])

  pub meaning_tidied : meaning_of (tidied z) ≡ meaning_of z
  unfolding meaning_of
  meaning_tidied = rw (elements_tidied, standing_tidied z.rooted z.frames z.depth few, sets_tidied (elements z))

  pub shaped_tidied : Shaped (tidied z)
  shaped_tidied =
      record {
        deep = h.deep;
        frames = length_bare bare_frame z.depth (map tidy_frame z.frames) ∙ length-map z.frames tidy_frame ∙ h.frames;
        fits = rw take_tidied (fits_tidied h.fits);
      }

  pub tidied_for : tidied z ≡ state_for (meaning_of z) z.closed
  unfolding state_for meaning_of
  tidied_for =
      let fs : List Frame = take z.depth z.frames in
      let o : opens_of (standing z.rooted (reverse fs)) ≡ map open_of (reverse fs) = standing_opens z.rooted (reverse fs) in
      let n : length (map open_of (reverse fs)) ≡ z.depth =
      length-map (reverse fs) open_of ∙ length-reverse fs ∙ length-take-le z.depth z.frames few in
      let r = closed_for z.rooted z.frames z.depth few in
      let g = frames_for_lem (reverse fs) (all_aux fs [] h.fits none) in
      let v : reverse (map tidy_frame (reverse fs)) ≡ map tidy_frame fs = ap reverse (map_aux tidy_frame fs []) ∙ reverse-reverse (map tidy_frame fs) in
      let b : bare_from bare_frame z.depth (map tidy_frame z.frames) ≡ map tidy_frame fs ++ replicate (most - z.depth) bare_frame =
      bare_is bare_frame z.depth (map tidy_frame z.frames)
      ∙ ap₂ (λ (l : List Frame) (m : ℕ). l ++ replicate (m - z.depth) bare_frame) (take_map tidy_frame z.depth z.frames) (length-map z.frames tidy_frame ∙ h.frames) in
      rw (o, n, r, g, v, b)

-- a fresh state is one that is handed back, and a number that closes changes nothing else
pub fresh_for : fresh_state ≡ state_for fresh_configuration not_closed
unfolding fresh_state state_for
fresh_for = refl

pub closing_for : (m : Run) (c n : ℕ) → state_for m n ≡ closed_with (state_for m c) n
unfolding state_for
closing_for m c n = refl

-- a fresh state's arrays are as long as their types say
pub all_alike : {X : Type 0} {P : X → Type 0} (n : ℕ) (x : X) → P x → Every P (replicate n x)
all_alike zero x p = none
all_alike (suc n) x p = more p (all_alike n x p)

pub bare_sized : SizedFrame bare_frame
unfolding bare_frame
bare_sized = record { saved = length-replicate most_sets bare_saved; sets = all_alike most_sets bare_saved (record { values = refl }) }

every_bare : {X : Type 0} {P : X → Type 0} (bare : X) (n : ℕ) (l : List X) → P bare → Every P l → Every P (bare_from bare n l)
unfolding bare_from
every_bare bare n [] p a = none
every_bare bare zero (x ∷ l) p (more q a) = more p (every_bare bare zero l p a)
every_bare bare (suc n) (x ∷ l) p (more q a) = more q (every_bare bare n l p a)

pub tidy_sized : (f : Frame) → SizedFrame f → SizedFrame (tidy_frame f)
tidy_sized f h =
    record {
      saved = length_bare bare_saved f.«open» f.saved ∙ h.saved;
      sets = every_bare bare_saved f.«open» f.saved (record { values = refl }) h.sets;
    }

pub fresh_sized : Sized fresh_state
unfolding fresh_state
fresh_sized =
    record {
      values = refl;
      count = omega arith;
      depth = omega arith;
      frames = length-replicate most bare_frame;
      each = all_alike most bare_frame bare_sized;
    }
