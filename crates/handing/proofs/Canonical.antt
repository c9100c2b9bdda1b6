-- The one state in which a run is handed back stands for that run, and is as wide as a state is.
-- Assumes nothing.
use mathlib.Core.Path.{◌≡◌, refl, sym, ap, ap₂, ◌∙◌, subst}
use mathlib.Core.List.{List, [], ◌∷◌, ◌++◌, map, reverse, reverse_aux, reverse-reverse, head-eq_of_cons-eq, tail-eq_of_cons-eq}
use Prim.Native.Nat.{ℕ, suc, ◌+◌, ◌-◌, ◌≤◌}
use native.Mathlib.Omega.{arith}
use lib.ListN.{length, take, replicate, length-append, length-map, length-reverse, length-replicate}
use lib.Seq.{take-append_seam}
use Rattle.expressions.specs.Grammar.{Production, content_of}
use Rattle.trees.proofs.Grammars.{content_at}
use Rattle.sheet.specs.Sheet.{Sheet, IsSheet}
use Rattle.sheet.proofs.SheetLaws.{sheet_grammar}
use Rattle.runs.specs.Visits.{grammar, most_visits, Saved as Kept}
use Rattle.runs.specs.Nodes.{KeptOf, KeptOfAll, KeptAt}
use Rattle.runs.proofs.Nodes.{open_few}
use Rattle.runs.specs.Fits.{KeptFit, AllKeptFit}
use Rattle.runs.specs.Machine.{Open, Control, before, inside, after, most, Configuration, fresh_configuration}
use Rattle.fit.specs.RunFits.{Chain, ChainAt, RunFits}
use Rattle.fit.proofs.Steps.{fresh_run_fits}
use Rattle.fit.proofs.Balanced.{of_nonterminal}
use Rattle.fit.proofs.Frames.{deep, produces_inv}
use Rattle.state.specs.Bounds.{most_sets}
use Rattle.state.specs.Changes.{bare_saved, bare_frame}
use Rattle.state.specs.Canonical.{saved_for, frame_for, frames_for, root_closed, state_for}
use Rattle.state.specs.Meaning.{Every, none, more, kept_of, sets_of, open_of, standing, opens_of, meaning_of, Fits, Shaped}
use Rattle.state.specs.Bytes.{SizedSet, SizedFrame, Sized}
use Rattle.state.specs.declared.Saved.{Saved}
use Rattle.state.specs.declared.Frame.{Frame}
use Rattle.state.proofs.Tidy.{all_alike, bare_sized}

-- of all elements of a list, turned or put behind another
every_both : {X : Type 0} {P : X → Type 0} {l r : List X} → Every P l → Every P r → Every P (l ++ r)
every_both none b = b
every_both (more p a) b = more p (every_both a b)

every_turned : {X : Type 0} {P : X → Type 0} (l r : List X) → Every P l → Every P r → Every P (reverse_aux l r)
every_turned [] r a b = b
every_turned (x ∷ l) r (more p a) b = every_turned l (x ∷ r) a (more p b)

kept_again : (ks : List Kept) → map kept_of (map saved_for ks) ≡ ks
kept_again [] = refl
kept_again (k ∷ ks) = ap (λ (l : List Kept). k ∷ l) (kept_again ks)

sets_sized : (ks : List Kept) → KeptFit ks → Every SizedSet (map saved_for ks)
sets_sized [] h = none
sets_sized (k ∷ ks) (v, h) = more (record { values = v.0 }) (sets_sized ks h)

-- one frame
record FrameBack (o : Open) (ks : List Kept) : Type 0 where
  is_open : open_of (frame_for o ks) ≡ o
  sets : sets_of (frame_for o ks) ≡ ks
  fits : Fits (frame_for o ks)
  sized : SizedFrame (frame_for o ks)

frame_back : (o : Open) (ks : List Kept) → length ks ≤ most_sets → KeptFit ks → FrameBack o ks
unfolding frame_for
frame_back o ks l h =
    let a : List Saved = reverse (map saved_for ks) in
    let b : List Saved = replicate (most_sets - length ks) bare_saved in
    let n : length a ≡ length ks = length-reverse (map saved_for ks) ∙ length-map ks saved_for in
    let t : take (length ks) (a ++ b) ≡ a = ap (λ (m : ℕ). take m (a ++ b)) (sym n) ∙ take-append_seam a b in
    let w : length (a ++ b) ≡ most_sets = omega (arith, length-append a b, n, length-replicate (most_sets - length ks) bare_saved, l) in
    record {
      is_open = refl;
      sets = ap (λ (r : List Saved). map kept_of (reverse r)) t ∙ ap (map kept_of) (reverse-reverse (map saved_for ks)) ∙ kept_again ks;
      fits = record { room = l; sets = w };
      sized = record { saved = w; sets = every_both (every_turned (map saved_for ks) [] (sets_sized ks h) none) (all_alike (most_sets - length ks) bare_saved (record { values = refl })) };
    }

-- the frames of open elements
record FramesBack (os : List Open) (kss : List (List Kept)) : Type 0 where
  are_open : map open_of (frames_for os kss) ≡ os
  sets : map sets_of (frames_for os kss) ≡ kss
  long : length (frames_for os kss) ≡ length os
  fits : Every Fits (frames_for os kss)
  sized : Every SizedFrame (frames_for os kss)

module _ {s : List ℕ} {a : Sheet} (i : IsSheet s a) where
  abbrev g : List Production
  g = grammar a

  abbrev n : ℕ
  n = a.start_nonterminal

  few_sets : (o : Open) (os : List Open) → Chain g n o os → (ks : List Kept) → KeptOf g o ks → length ks ≤ most_sets
  few_sets o os c ks (ns, e, k) =
      let (m, p) = of_nonterminal g n o os c in
      let q = produces_inv s g (sheet_grammar i) o.production m p in
      omega (arith, k, open_few (content_of g o.production) o.place ns e, deep s o.production (content_of g o.production) (content_at s g (sheet_grammar i) o.production q.0))

  one_more : (o : Open) (os : List Open) (ks : List Kept) (kss : List (List Kept)) → FrameBack o ks → FramesBack os kss → FramesBack (o ∷ os) (ks ∷ kss)
  one_more o os ks kss f r =
      record {
        are_open = ap₂ (λ (x : Open) (xs : List Open). x ∷ xs) f.is_open r.are_open;
        sets = ap₂ (λ (x : List Kept) (xs : List (List Kept)). x ∷ xs) f.sets r.sets;
        long = ap suc r.long;
        fits = more f.fits r.fits;
        sized = more f.sized r.sized;
      }

  frames_back : (o : Open) (os : List Open) (kss : List (List Kept)) → Chain g n o os → KeptOfAll g (o ∷ os) kss → AllKeptFit kss → FramesBack (o ∷ os) kss
  frames_back o os [] c k h = absurd k
  frames_back o [] (ks ∷ []) c k h =
      one_more o [] ks [] (frame_back o ks (few_sets o [] c ks k.0) h.0) (record { are_open = refl; sets = refl; long = refl; fits = none; sized = none })
  frames_back o [] (ks ∷ ls ∷ kss) c k h = absurd k.1
  frames_back o (p ∷ os) (ks ∷ kss) c k h =
      one_more o (p ∷ os) ks kss (frame_back o ks (few_sets o (p ∷ os) c ks k.0) h.0) (frames_back p os kss c.3 k.1 h.1)

  -- a run between two tokens that fits the sheet, with no more open than may be, and a count within the limit
  pub record Good (m : Configuration) : Type 0 where
    pub fits : RunFits a m
    pub few : length (opens_of m.control) ≤ most
    pub silent : m.store.env.out ≡ []
    pub count : m.store.env.count ≤ most_visits

  control_back : (c : Control) (kss : List (List Kept)) → ChainAt g n c → KeptAt g c kss → AllKeptFit kss → FramesBack (opens_of c) kss
  control_back before kss c k h =
      subst (FramesBack []) (sym k) (record { are_open = refl; sets = refl; long = refl; fits = none; sized = none })
  control_back (inside o os) kss c k h = frames_back o os kss c k h
  control_back after kss c k h =
      subst (FramesBack []) (sym k) (record { are_open = refl; sets = refl; long = refl; fits = none; sized = none })

  stands_so : (c : Control) (fs : List Frame) → map open_of fs ≡ opens_of c → standing (root_closed c) fs ≡ c
  stands_so before [] e = refl
  stands_so before (f ∷ fs) e = absurd (omega (arith, ap length e))
  stands_so (inside o os) [] e = absurd (omega (arith, ap length e))
  stands_so (inside o os) (f ∷ fs) e = ap₂ inside (head-eq_of_cons-eq e) (tail-eq_of_cons-eq e)
  stands_so after [] e = refl
  stands_so after (f ∷ fs) e = absurd (omega (arith, ap length e))

  -- what is handed back of such a run
  pub record StateBack (m : Configuration) (c : ℕ) : Type 0 where
    pub means : meaning_of (state_for m c) ≡ m
    pub shaped : Shaped (state_for m c)
    pub sized : Sized (state_for m c)

  module _ (m : Configuration) (h : Good m) (c : ℕ) where
    abbrev fs : List Frame
    fs = frames_for (opens_of m.control) m.store.kept

    abbrev rest : List Frame
    rest = replicate (most - length (opens_of m.control)) bare_frame

    back : FramesBack (opens_of m.control) m.store.kept
    back = control_back m.control m.store.kept h.fits.chain h.fits.kept h.fits.store.kept_fit

    in_use : take (length (opens_of m.control)) (reverse fs ++ rest) ≡ reverse fs
    in_use = ap (λ (k : ℕ). take k (reverse fs ++ rest)) (sym (length-reverse fs ∙ back.long)) ∙ take-append_seam (reverse fs) rest

    all_frames : length (reverse fs ++ rest) ≡ most
    all_frames = omega (arith, length-append (reverse fs) rest, length-reverse fs, back.long, length-replicate (most - length (opens_of m.control)) bare_frame, h.few)

    pub state_for_lem : StateBack m c
    unfolding state_for meaning_of
    state_for_lem =
        let e : reverse (take (length (opens_of m.control)) (reverse fs ++ rest)) ≡ fs = ap reverse in_use ∙ reverse-reverse fs in
        let k : standing (root_closed m.control) (reverse (take (length (opens_of m.control)) (reverse fs ++ rest))) ≡ m.control =
        ap (standing (root_closed m.control)) e ∙ stands_so m.control fs back.are_open in
        let q : map sets_of (reverse (take (length (opens_of m.control)) (reverse fs ++ rest))) ≡ m.store.kept = ap (map sets_of) e ∙ back.sets in
        let o : [] ≡ m.store.env.out = sym h.silent in
        record {
          means = λ i. record { control = k i; store = record { kept = q i; env = record { values = m.store.env.values; echo = m.store.env.echo; out = o i; count = m.store.env.count } } };
          shaped = record { deep = h.few; frames = all_frames; fits = subst (Every Fits) (sym in_use) (every_turned fs [] back.fits none) };
          sized = record {
            values = h.fits.store.values_fit.0;
            count = omega (arith, h.count);
            depth = omega (arith, h.few);
            frames = all_frames;
            each = every_both (every_turned fs [] back.sized none) (all_alike (most - length (opens_of m.control)) bare_frame bare_sized);
          };
        }

-- the run that has read nothing
pub fresh_good : {s : List ℕ} {a : Sheet} (i : IsSheet s a) → Good i fresh_configuration
fresh_good {s} {a} i = record { fits = fresh_run_fits a; few = omega arith; silent = refl; count = omega arith }
