-- A state fits exactly if the run that it stands for does: the frames, the root first, are the machine's open elements turned round, each with as
-- many sets as its place has open nodes. So a state that stands for one that a run came to fits.
-- Assumes nothing.
use mathlib.Core.Path.{◌≡◌, refl, sym, ap, subst, ◌∙◌}
use mathlib.Core.Bool.{Bool, true, false}
use mathlib.Core.List.{List, [], ◌∷◌, ◌++◌, append_assoc, append-nil, map, reverse, reverse-cons, reverse-reverse}
use mathlib.Core.Option.{Option, some}
use Prim.Native.Nat.{ℕ, ◌≤◌}
use native.Mathlib.Omega.{arith}
use lib.Dec.{T}
use lib.ListN.{length, length-map, length-reverse, get_or, take}
use Rattle.expressions.specs.Grammar.{Production, content_of}
use Rattle.programs.specs.Limits.{Value}
use Rattle.sheet.specs.Sheet.{Sheet, IsSheet}
use Rattle.sheet.proofs.SheetLaws.{sheet_grammar}
use Rattle.runs.specs.Lookup.{produces}
use Rattle.runs.specs.Visits.{grammar, most_visits}
use Rattle.runs.specs.Events.{Event}
use Rattle.runs.specs.Nodes.{KeptOf, KeptOfAll, KeptAt}
use Rattle.runs.specs.Fits.{SheetFits, EventsFit, AllValues, ValuesFit, KeptFit, AllKeptFit}
use Rattle.runs.specs.Machine.{Open, Control, inside, Configuration as Run, finished, run, fresh_configuration}
use Rattle.state.specs.Meaning.{kept_of, sets_of, open_of, elements, standing, meaning_of, Every, none, more, Fits, Shaped}
use Rattle.state.specs.Bytes.{SizedSet, SizedFrame, Sized}
use Rattle.state.specs.declared.Saved.{Saved}
use Rattle.state.specs.declared.Frame.{Frame}
use Rattle.state.specs.declared.State.{State}
use Rattle.state.specs.Changes.{bare_frame, top_of}
use Rattle.state.proofs.Laws.{all_snoc, first_last}
use Rattle.state.proofs.Meant.{inside_open, fits_top}
use Rattle.fit.specs.Fit.{child_at, SetFits, FrameFits, FramesFit, ClosingFits, Fit}
use Rattle.fit.specs.RunFits.{Chain, ChainAt, RunFits}
use Rattle.fit.proofs.Lists.{length_first, all_take}
use Rattle.fit.proofs.Theorems.{fit_shaped}
use Rattle.fit.proofs.Steps.{fresh_run_fits, events_fit}

all_turned : {X : Type 0} {P : X → Type 0} (l : List X) → Every P l → Every P (reverse l)
all_turned [] a = none
all_turned {P = P} (x ∷ l) (more p a) = subst (Every P) (sym (reverse-cons x l)) (all_snoc (all_turned l a) p)

-- values and sets
all_values : (vs : List ℕ) → AllValues vs → Every Value vs
all_values [] h = none
all_values (v ∷ vs) h = more h.0 (all_values vs h.1)

sets_fit : (l : List Saved) → KeptFit (map kept_of l) → Every SetFits l
sets_fit [] h = none
sets_fit (k ∷ l) h = more (all_values k.values h.0.1) (sets_fit l h.1)

-- and back, where each set is whole
values_all : (vs : List ℕ) → Every Value vs → AllValues vs
values_all [] a = tt
values_all (v ∷ vs) (more h a) = (h, values_all vs a)

fit_sets : (l : List Saved) → Every SetFits l → Every SizedSet l → KeptFit (map kept_of l)
fit_sets [] a b = tt
fit_sets (k ∷ l) (more h a) (more w b) = ((w.values, values_all k.values h), fit_sets l a b)

-- as many sets as are in use
sets_length : (f : Frame) → Fits f → length (sets_of f) ≡ f.«open»
sets_length f r =
    let used : List Saved = take f.«open» f.saved in
    length-map (reverse used) kept_of ∙ length-reverse used ∙ length_first f.«open» f.saved (omega (arith, r.room, r.sets))

module _ (g : List Production) where
  frame_of : (may : Option ℕ) (m : ℕ) (f : Frame) → may ≡ some m → T (produces g m f.production) → KeptOf g (open_of f) (sets_of f) → KeptFit (sets_of f) → Fits f → FrameFits g may f
  frame_of may m f e p k v r =
      let used : List Saved = take f.«open» f.saved in
      record {
        nonterm = m;
        allowed = e;
        production = p;
        nodes = k.0;
        place = k.1;
        sets = sym (sets_length f r) ∙ k.2;
        values = subst (Every SetFits) (reverse-reverse used) (all_turned (reverse used) (sets_fit (reverse used) v));
      }

  -- what the last of some frames lets be inside it
  abbrev inmost : Option ℕ → List Frame → Option ℕ
  inmost may [] = may
  inmost may (f ∷ fs) = inmost (child_at (content_of g f.production) f.place) fs

  one_more : (may : Option ℕ) (fs : List Frame) (f : Frame) → FramesFit g may fs → FrameFits g (inmost may fs) f → FramesFit g may (fs ++ f ∷ [])
  one_more may [] f h k = (k, tt)
  one_more may (e ∷ fs) f h k = (h.0, one_more (child_at (content_of g e.production) e.place) fs f h.1 k)

  inmost_more : (may : Option ℕ) (fs : List Frame) (f : Frame) → inmost may (fs ++ f ∷ []) ≡ child_at (content_of g f.production) f.place
  inmost_more may [] f = refl
  inmost_more may (e ∷ fs) f = inmost_more (child_at (content_of g e.production) e.place) fs f

  module _ (n : ℕ) where
    turned : (f : Frame) (fs : List Frame) → Chain g n (open_of f) (map open_of fs) → KeptOfAll g (open_of f ∷ map open_of fs) (map sets_of (f ∷ fs)) → AllKeptFit (map sets_of (f ∷ fs)) →
        Every Fits (f ∷ fs) → FramesFit g (some n) (reverse (f ∷ fs))
    turned f [] c k v (more r a) = (frame_of (some n) n f refl c k.0 v.0 r, tt)
    turned f (p ∷ ps) c k v (more r a) =
        let e : inmost (some n) (reverse (p ∷ ps)) ≡ some c.0 =
        ap (inmost (some n)) (reverse-cons p ps) ∙ inmost_more (some n) (reverse ps) p ∙ c.1 in
        subst (FramesFit g (some n)) (sym (reverse-cons f (p ∷ ps)))
        (one_more (some n) (reverse (p ∷ ps)) f (turned p ps c.3 k.1 v.1 a) (frame_of (inmost (some n) (reverse (p ∷ ps))) c.0 f e c.2 k.0 v.0 r))

    stack_fits : (rooted : Bool) (fs : List Frame) → ChainAt g n (standing rooted fs) → KeptAt g (standing rooted fs) (map sets_of fs) → AllKeptFit (map sets_of fs) → Every Fits fs →
        FramesFit g (some n) (reverse fs)
    stack_fits true [] c k v a = tt
    stack_fits false [] c k v a = tt
    stack_fits rooted (f ∷ fs) c k v a = turned f fs c k v a

    -- and back: frames of a stack, innermost first, each where the next lets it be
    abbrev around : List Frame → Option ℕ
    around [] = some n
    around (f ∷ fs) = child_at (content_of g f.production) f.place

    abbrev Stack : List Frame → Type 0
    Stack [] = Unit {0}
    Stack (f ∷ fs) = (m : ℕ) × (around fs ≡ some m) × T (produces g m f.production) × KeptOf g (open_of f) (sets_of f) × KeptFit (sets_of f) × Stack fs

    stacked : (outer fs : List Frame) → Stack outer → FramesFit g (around outer) fs → Every Fits fs → Every SizedFrame fs → Stack (reverse fs ++ outer)
    stacked outer [] h k a b = h
    stacked outer (f ∷ fs) h k (more r a) (more w b) =
        let used : List Saved = take f.«open» f.saved in
        let fit : FrameFits g (around outer) f = k.0 in
        let sets : KeptFit (sets_of f) = fit_sets (reverse used) (all_turned used fit.values) (all_turned used (all_take f.«open» f.saved w.sets)) in
        subst Stack (sym (ap (λ (l : List Frame). l ++ outer) (reverse-cons f fs) ∙ append_assoc (reverse fs) (f ∷ []) outer))
        (stacked (f ∷ outer) fs (fit.nonterm, fit.allowed, fit.production, (fit.nodes, fit.place, sets_length f r ∙ fit.sets), sets, h) k.1 a b)

    chain_of : (f : Frame) (fs : List Frame) → Stack (f ∷ fs) → Chain g n (open_of f) (map open_of fs)
    chain_of f [] (m, e, p, k, v, h) = let i : n ≡ m = cc in subst (λ (y : ℕ). T (produces g y f.production)) (sym i) p
    chain_of f (p ∷ ps) (m, e, q, k, v, h) = (m, e, q, chain_of p ps h)

    kept_of_lem : (fs : List Frame) → Stack fs → KeptOfAll g (map open_of fs) (map sets_of fs)
    kept_of_lem [] h = tt
    kept_of_lem (f ∷ fs) (m, e, p, k, v, h) = (k, kept_of_lem fs h)

    sets_of_lem : (fs : List Frame) → Stack fs → AllKeptFit (map sets_of fs)
    sets_of_lem [] h = tt
    sets_of_lem (f ∷ fs) (m, e, p, k, v, h) = (v, sets_of_lem fs h)

    stack_stands : (rooted : Bool) (fs : List Frame) → Stack fs → ChainAt g n (standing rooted fs) × KeptAt g (standing rooted fs) (map sets_of fs)
    stack_stands true [] h = (tt, refl)
    stack_stands false [] h = (tt, refl)
    stack_stands rooted (f ∷ fs) h = (chain_of f fs h, kept_of_lem (f ∷ fs) h)

-- a state stands for a run that fits exactly if it fits, but for the count and the closing number
pub run_fit : (a : Sheet) (z : State) → Shaped z → RunFits a (meaning_of z) → z.count ≤ most_visits → ClosingFits z.closed → Fit (grammar a) a.start_nonterminal z
unfolding meaning_of
run_fit a z r f n c =
    let used : List Frame = take z.depth z.frames in
    record {
      few = r.deep;
      closing = c;
      count = n;
      values = all_values z.values f.store.values_fit.1;
      frames = subst (FramesFit (grammar a) (some a.start_nonterminal)) (reverse-reverse used)
          (stack_fits (grammar a) a.start_nonterminal z.rooted (elements z) f.chain f.kept f.store.kept_fit (all_turned used r.fits));
    }

pub fit_run : {s : List ℕ} {a : Sheet} → IsSheet s a → (z : State) → Sized z → Fit (grammar a) a.start_nonterminal z → RunFits a (meaning_of z)
unfolding meaning_of
fit_run {s} {a} i z w k =
    let g = grammar a in
    let n = a.start_nonterminal in
    let used : List Frame = take z.depth z.frames in
    let h : Stack g n (elements z) =
    subst (Stack g n) (append-nil (reverse used)) (stacked g n [] used tt k.frames (fit_shaped s g (sheet_grammar i) n z w k).fits (all_take z.depth z.frames w.each)) in
    let t = stack_stands g n z.rooted (elements z) h in
    record {
      chain = t.0;
      kept = t.1;
      store = record { values_fit = (w.values, values_all z.values k.values); kept_fit = sets_of_lem g n (elements z) h; output_fits = tt };
    }

-- of the innermost open element as many sets are kept as its frame has in use
pub top_kept : (z : State) → Shaped z → (o : Open) (os : List Open) → (meaning_of z).control ≡ inside o os → length (get_or (meaning_of z).store.kept 0 []) ≡ (top_of z).«open»
unfolding meaning_of
top_kept z h o os e =
    let p = inside_open z o os e in
    ap (λ (fs : List Frame). length (get_or (map sets_of fs) 0 [])) (first_last bare_frame z.frames z.depth p (omega (arith, h.deep, h.frames)))
    ∙ sets_length (top_of z) (fits_top z h p)

-- a state that stands for one that a run came to fits, if its count and its closing number do
pub reached_fit : (a : Sheet) → SheetFits a → (xs : List Event) → EventsFit xs → (m : Run) → run a fresh_configuration xs ≡ finished m → (z : State) → Shaped z → (meaning_of z).control ≡ m.control →
    (meaning_of z).store.kept ≡ m.store.kept → z.values ≡ m.store.env.values → z.count ≤ most_visits → ClosingFits z.closed → Fit (grammar a) a.start_nonterminal z
unfolding meaning_of
reached_fit a ok xs h m e z r s k w n c =
    let g = grammar a in
    let f = events_fit a ok fresh_configuration xs m h (fresh_run_fits a) e in
    run_fit a z r
    (record {
      chain = subst (ChainAt g a.start_nonterminal) (sym s) f.chain;
      kept = subst (λ (y : Control). KeptAt g y (map sets_of (elements z))) (sym s) (subst (KeptAt g m.control) (sym k) f.kept);
      store = record { values_fit = subst ValuesFit (sym w) f.store.values_fit; kept_fit = subst AllKeptFit (sym k) f.store.kept_fit; output_fits = tt };
    })
    n c
