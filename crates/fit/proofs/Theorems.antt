-- What fitness gives and what it depends on: one answer, of the sheet; a fit state keeps inside its arrays; the fresh state fits every sheet; only
-- what is in use counts.
-- Assumes nothing.
use mathlib.Core.Path.{◌≡◌, refl, sym, ap, subst, ◌∙◌}
use mathlib.Core.Bool.{Bool}
use mathlib.Core.List.{List, [], ◌∷◌}
use mathlib.Core.Logic.{inl}
use mathlib.Core.Option.{Option, some}
use Prim.Native.Nat.{ℕ, ◌≤◌}
use native.Mathlib.Omega.{arith}
use lib.Dec.{T}
use lib.ListN.{length, take}
use Rattle.expressions.specs.Grammar.{Production, content_of}
use Rattle.tells.specs.Tells.{Tells}
use Rattle.tells.proofs.Laws.{one_telling}
use Rattle.trees.specs.Trees.{Trees}
use Rattle.trees.specs.GrammarAt.{GrammarIs}
use Rattle.trees.proofs.Grammars.{grammar_is, content_at}
use Rattle.sheet.specs.Sheet.{Sheet, IsSheet, grammar_of}
use Rattle.sheet.proofs.SheetLaws.{sheet_grammar}
use Rattle.runs.specs.Lookup.{produces}
use Rattle.runs.specs.Nodes.{open_nodes}
use Rattle.runs.proofs.Nodes.{open_few}
use Rattle.runs.specs.Machine.{most}
use Rattle.runs.specs.Visits.{attributes}
use Rattle.state.specs.Bounds.{most_sets, frame_width, head_width}
use Rattle.state.specs.Changes.{fresh_state}
use Rattle.state.specs.Meaning.{Every, none, more, Fits, Shaped}
use Rattle.state.specs.Bytes.{frame_at, state_from, SizedFrame, Sized}
use Rattle.state.proofs.Gathered.{length_gathered}
use Rattle.state.proofs.Tidy.{all_alike}
use Rattle.state.proofs.Widths.{all_read, frame_read}
use Rattle.state.specs.declared.Frame.{Frame}
use Rattle.state.specs.declared.State.{State}
use Rattle.fit.specs.Fit.{child_at, SetFits, FrameFits, FramesFit, Fit}
use Rattle.fit.specs.Tests.{FitTold}
use Rattle.fit.specs.InUse.{FrameInUse, FramesInUse, neither, both, SameUse}
use Rattle.fit.proofs.Lists.{all_take}
use Rattle.fit.proofs.Frames.{deep, produces_inv}

-- there is one answer
pub one_fitting : (s : List ℕ) → Trees s → (z : State) (a b : Bool) → FitTold s z a → FitTold s z b → a ≡ b
one_fitting s w z a b h k = let g = grammar_is s w in one_telling (h.tells g.0 g.1) (k.tells g.0 g.1)

-- it is the sheet's
pub fits_sheet : {s : List ℕ} {a : Sheet} → IsSheet s a → (z : State) (r : Bool) → FitTold s z r → Tells (Fit (grammar_of a.rules) a.start_nonterminal z) r
fits_sheet {s} {a} i z r h = subst (λ (n : ℕ). Tells (Fit (grammar_of a.rules) n z) r) (sym i.start_is) (h.tells (grammar_of a.rules) (sheet_grammar i))

-- no state that fits has more in use than its arrays hold
module _ (s : List ℕ) (g : List Production) (γ : GrammarIs s g) where
  frame_room : (may : Option ℕ) (f : Frame) → FrameFits g may f → f.«open» ≤ most_sets
  frame_room may f k =
      let i = produces_inv s g γ f.production k.nonterm k.production in
      omega (arith, k.sets, open_few (content_of g f.production) f.place k.nodes k.place, deep s f.production (content_of g f.production) (content_at s g γ f.production i.0))

  frames_room : (may : Option ℕ) (fs : List Frame) → FramesFit g may fs → Every SizedFrame fs → Every Fits fs
  frames_room may [] k a = none
  frames_room may (f ∷ fs) k (more z a) =
      more (record { room = frame_room may f k.0; sets = z.saved }) (frames_room (child_at (content_of g f.production) f.place) fs k.1 a)

  shaped_by : (n : ℕ) (z : State) → length z.frames ≡ most → Every SizedFrame z.frames → Fit g n z → Shaped z
  shaped_by n z l a k = record { deep = k.few; frames = l; fits = frames_room (some n) (take z.depth z.frames) k.frames (all_take z.depth z.frames a) }

  pub fit_shaped : (n : ℕ) (z : State) → Sized z → Fit g n z → Shaped z
  fit_shaped n z h k = shaped_by n z h.frames h.each k

  -- so it is of every state read from bytes
  pub fit_read_shaped : (n : ℕ) (b : List ℕ) → Fit g n (state_from b) → Shaped (state_from b)
  unfolding state_from
  fit_read_shaped n b k = shaped_by n (state_from b) (length_gathered (frame_at b) frame_width head_width most) (all_read SizedFrame (frame_at b) frame_width (frame_read b) head_width most) k

-- the fresh state fits whatever the sheet
pub fresh_fit : (g : List Production) (n : ℕ) → Fit g n fresh_state
unfolding fresh_state
fresh_fit g n =
    record {
      few = omega arith;
      closing = inl refl;
      count = omega arith;
      values = all_alike attributes 0 (omega arith);
      frames = tt;
    }

module _ (g : List Production) where
  same_frame_lem : (may : Option ℕ) (f h : Frame) → FrameInUse f h → FrameFits g may f → FrameFits g may h
  same_frame_lem may f h e k =
      record {
        nonterm = k.nonterm;
        allowed = k.allowed;
        production = subst (λ (q : ℕ). T (produces g k.nonterm q)) e.production k.production;
        nodes = k.nodes;
        place = ap (λ (q : ℕ). open_nodes (content_of g q) h.place) (sym e.production) ∙ ap (open_nodes (content_of g f.production)) (sym e.place) ∙ k.place;
        sets = sym e.count ∙ k.sets;
        values = subst (Every SetFits) e.sets k.values;
      }

  same_frames : (may : Option ℕ) (fs hs : List Frame) → FramesInUse fs hs → FramesFit g may fs → FramesFit g may hs
  same_frames may [] [] neither k = tt
  same_frames may [] (h ∷ hs) e k = elim e [ ]
  same_frames may (f ∷ fs) [] e k = elim e [ ]
  same_frames may (f ∷ fs) (h ∷ hs) (both e r) k =
      let c : child_at (content_of g f.production) f.place ≡ child_at (content_of g h.production) h.place =
      ap (λ (q : ℕ). child_at (content_of g q) f.place) e.production ∙ ap (child_at (content_of g h.production)) e.place in
      (same_frame_lem may f h e k.0, subst (λ (m : Option ℕ). FramesFit g m hs) c (same_frames (child_at (content_of g f.production) f.place) fs hs r k.1))

  -- only what is in use counts: not echo, not whether the root has been closed, no frame above the stack's top and no set out of use
  pub same_fit : (n : ℕ) (z y : State) → SameUse z y → Fit g n z → Fit g n y
  same_fit n z y e k =
      record {
        few = omega (arith, e.depth, k.few);
        closing = rw (← e.closed) k.closing;
        count = omega (arith, e.count, k.count);
        values = rw (← e.values) k.values;
        frames = same_frames (some n) (take z.depth z.frames) (take y.depth y.frames) e.frames k.frames;
      }
