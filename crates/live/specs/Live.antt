-- The live part of a state and the lent stack: the state that they are together, and what each change makes of it.
-- Assumes nothing.
use Rattle.std.specs.Prelude.{◌≡◌, Bool, true, cond, List, ◌∷◌, ◌++◌, ℕ, zero, suc, ◌+◌, ◌-◌, ◌*◌, ◌<◌, ◌≤◌, eqb, ltb, length, replicate}
use Rattle.lent.specs.Put.{put}
use Rattle.runs.specs.Machine.{most}
use Rattle.state.specs.declared.Saved.{Saved}
use Rattle.state.specs.declared.Frame.{Frame}
use Rattle.state.specs.declared.State.{State}
use Rattle.state.specs.Bounds.{frame_width}
use Rattle.layout.specs.Layout.{byte_at}
use Rattle.state.specs.Bytes.{gathered, used_bytes, used_at}
use Rattle.state.specs.Changes.{bare_saved, bare_frame, keeping, last_set, without_last, at_place, pushed, popped}
use Rattle.state.specs.Meaning.{meaning_of, Fits, Shaped}
use Rattle.live.specs.declared.Live.{Live}
use Rattle.live.specs.declared.Restored.{Restored}

-- all frames: those around the innermost element as they lie in the stack, the root's first, at `base` and up, of each the head and the sets in use; then the
-- innermost one; none past it is in use
abbrev pub stack_at : ℕ → ℕ → Frame → List ℕ → List Frame
stack_at base zero f b = replicate most bare_frame
stack_at base (suc n) f b = gathered (used_at b) frame_width base n ++ f ∷ replicate (most - suc n) bare_frame

-- the state that the live part h and the stack's bytes b are, where its frames begin at `base`; and at 0, as a run has them
abbrev pub full_at : ℕ → Live → List ℕ → State
full_at base h b =
    record {
      values = h.values;
      echo = h.echo;
      count = h.count;
      rooted = h.rooted;
      closed = h.closed;
      depth = h.depth;
      frames = stack_at base h.depth h.top b;
    }

abbrev pub full : Live → List ℕ → State
full h b = full_at 0 h b

-- another innermost element, at another depth; other attributes
abbrev pub top_in : Live → Bool → ℕ → Frame → Live
top_in h rooted depth f =
    record { values = h.values; echo = h.echo; count = h.count; rooted = rooted; closed = h.closed; depth = depth; top = f }

abbrev pub kept_in : Live → Saved → Live
kept_in h k = top_in h h.rooted h.depth (keeping h.top k)

abbrev pub placed_in : Live → ℕ → Live
placed_in h p = top_in h h.rooted h.depth (at_place h.top p)

abbrev pub env_in : Live → List ℕ → Bool → ℕ → Live
env_in h values echo count =
    record { values = values; echo = echo; count = count; rooted = h.rooted; closed = h.closed; depth = h.depth; top = h.top }

pub record RestoredIn (h : Live) (r : Restored) : Type 0 where
  pub saved : r.saved ≡ cond (eqb h.depth 0) bare_saved (last_set h.top)
  pub live : r.live ≡ top_in h h.rooted h.depth (without_last h.top)

-- the stack's bytes below the end of those that the state h reads: those of the elements around its innermost one, and all before `base`
abbrev pub SameBelowAt : ℕ → Live → List ℕ → List ℕ → Type 0
SameBelowAt base h b b' = (i : ℕ) → i < base + frame_width * (h.depth - 1) → byte_at b' i ≡ byte_at b i

abbrev pub SameBelow : Live → List ℕ → List ℕ → Type 0
SameBelow h b b' = SameBelowAt 0 h b b'

-- the stack's bytes after a push: the element that was the innermost one is put where it lies, its head and its sets in use alone
abbrev pub pushed_bytes : ℕ → Live → List ℕ → List ℕ
pushed_bytes base h b = cond (eqb h.depth 0) b (put true b (base + frame_width * (h.depth - 1)) (used_bytes h.top))

-- a push: the live part and the stack's bytes, each one equation. So the state stands for the run with the new element, and what the state before it reads of the
-- stack, and all before that, is as it was
pub record PushedAs (base : ℕ) (h : Live) (f : Frame) (b : List ℕ) (r : Live) (b' : List ℕ) : Type 0 where
  pub is : r ≡ top_in h h.rooted (h.depth + 1) f
  pub bytes : b' ≡ pushed_bytes base h b
  pub means : Shaped (full_at base h b) → meaning_of (full_at base r b') ≡ meaning_of (pushed (full_at base h b) f).state
  pub shaped : Shaped (full_at base h b) → Fits f → Shaped (full_at base r b')
  pub as_was : SameBelowAt base h b b'
  pub long : length b' ≡ length b

-- the live part after a pop: the element around the closed one as it lies in the stack; where the root was closed, there is none
abbrev pub popped_in : ℕ → Live → List ℕ → Live
popped_in base h b =
    top_in h (cond (eqb h.depth 0) h.rooted (cond (eqb h.depth 1) true h.rooted)) (h.depth - 1)
    (cond (ltb 1 h.depth) (used_at b (base + frame_width * (h.depth - 2))) h.top)

-- a pop: the live part is that one. So the state stands for the run with the innermost element off
pub record PoppedAs (base : ℕ) (h : Live) (b : List ℕ) (r : Live) : Type 0 where
  pub is : r ≡ popped_in base h b
  pub means : 0 < h.depth → meaning_of (full_at base r b) ≡ meaning_of (popped (full_at base h b))
  pub shaped : 0 < h.depth → Shaped (full_at base h b) → Shaped (full_at base r b)
