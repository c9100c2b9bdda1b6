-- What each change of a state makes of it, whole: the frames and the sets that are not in use too.
-- Assumes nothing.
use Rattle.std.specs.Prelude.{Bool, true, false, cond, List, [], ◌∷◌, map, ℕ, zero, suc, ◌+◌, ◌-◌, eqb, ltb, get_or, set, replicate}
use Rattle.runs.specs.Visits.{attributes}
use Rattle.runs.specs.Machine.{most}
use Rattle.state.specs.Bounds.{most_sets}
use Rattle.state.specs.declared.Saved.{Saved}
use Rattle.state.specs.declared.Frame.{Frame}
use Rattle.state.specs.declared.Heading.{Heading}
use Rattle.state.specs.declared.State.{State}

-- a state but for its frames
abbrev pub heading_of : State → Heading
heading_of s = record { values = s.values; echo = s.echo; count = s.count; rooted = s.rooted; closed = s.closed; depth = s.depth }

-- what stands in a set and in a frame before they are first used
abbrev pub bare_saved : Saved
bare_saved = record { values = replicate attributes 0; echo = false }

unfoldable pub bare_frame : Frame
bare_frame = record { production = 0; place = 0; «open» = 0; saved = replicate most_sets bare_saved }

-- the closing number of a state that is not closed
abbrev pub not_closed : ℕ
not_closed = 255

-- no open element, all attributes 0, echo off, count 0
unfoldable pub fresh_state : State
fresh_state =
    record {
      values = replicate attributes 0;
      echo = false;
      count = 0;
      rooted = false;
      closed = not_closed;
      depth = 0;
      frames = replicate most bare_frame;
    }

-- of the first n of a list the last, or `other` where there is none; and another one in its place
abbrev pub last_of : {X : Type 0} → X → List X → ℕ → X
last_of other l zero = other
last_of other l (suc n) = get_or l n other

abbrev pub put_last : {X : Type 0} → List X → ℕ → X → List X
put_last l zero x = l
put_last l (suc n) x = set l n x

-- an element as its start tag opens it: at the start, with its production's set
unfoldable pub started : ℕ → Saved → Frame
started q k = record { production = q; place = 0; «open» = 1; saved = set (replicate most_sets bare_saved) 0 k }

-- one more set kept, where there is room for it; the last one taken off
unfoldable pub keeping : Frame → Saved → Frame
keeping f k =
    cond (ltb f.«open» most_sets)
    (record { production = f.production; place = f.place; «open» = f.«open» + 1; saved = set f.saved f.«open» k })
    f

abbrev pub last_set : Frame → Saved
last_set f = last_of bare_saved f.saved f.«open»

abbrev pub without_last : Frame → Frame
without_last f = record { production = f.production; place = f.place; «open» = f.«open» - 1; saved = f.saved }

abbrev pub at_place : Frame → ℕ → Frame
at_place f p = record { production = f.production; place = p; «open» = f.«open»; saved = f.saved }

-- the same state over another stack
abbrev pub with_stack : State → Bool → ℕ → List Frame → State
with_stack s rooted depth frames =
    record {
      values = s.values;
      echo = s.echo;
      count = s.count;
      rooted = rooted;
      closed = s.closed;
      depth = depth;
      frames = frames;
    }

-- a new innermost element, or, where as many are open as may be, the state as it was
pub record Pushed : Type 0 where
  pub ok : Bool
  pub state : State

unfoldable pub pushed : State → Frame → Pushed
pushed s f =
    cond (ltb s.depth most)
    (record { ok = true; state = with_stack s s.rooted (s.depth + 1) (set s.frames s.depth f) })
    (record { ok = false; state = s })

-- the innermost element off the stack; where it was the root, the root is closed
unfoldable pub popped : State → State
popped s = cond (eqb s.depth 0) s (with_stack s (cond (eqb s.depth 1) true s.rooted) (s.depth - 1) s.frames)

-- the innermost element, bare where none is open; and another one in its place
abbrev pub top_of : State → Frame
top_of s = last_of bare_frame s.frames s.depth

abbrev pub with_top : State → Frame → State
with_top s f = with_stack s s.rooted s.depth (put_last s.frames s.depth f)

-- the innermost element with one more set; with one less, and that set; at another place
abbrev pub saving : State → Saved → State
saving s k = with_top s (keeping (top_of s) k)

pub record Restored : Type 0 where
  pub saved : Saved
  pub state : State

abbrev pub restored : State → Restored
restored s = record { saved = last_set (top_of s); state = with_top s (without_last (top_of s)) }

abbrev pub placed : State → ℕ → State
placed s p = with_top s (at_place (top_of s) p)

-- other attributes, echo and count
abbrev pub with_env : State → List ℕ → Bool → ℕ → State
with_env s values echo count =
    record {
      values = values;
      echo = echo;
      count = count;
      rooted = s.rooted;
      closed = s.closed;
      depth = s.depth;
      frames = s.frames;
    }

-- closed with a number
abbrev pub closed_with : State → ℕ → State
closed_with s number =
    record {
      values = s.values;
      echo = s.echo;
      count = s.count;
      rooted = s.rooted;
      closed = number;
      depth = s.depth;
      frames = s.frames;
    }

-- the first n of a list as they are, the others bare
unfoldable pub bare_from : {X : Type 0} → X → ℕ → List X → List X
bare_from bare n [] = []
bare_from bare zero (x ∷ xs) = bare ∷ bare_from bare zero xs
bare_from bare (suc n) (x ∷ xs) = x ∷ bare_from bare n xs

-- the same with nothing left in what is not in use: sets past a frame's last; frames past the innermost one, and while an element is open the flag that the
-- root has been closed
abbrev pub tidy_frame : Frame → Frame
tidy_frame f =
    record { production = f.production; place = f.place; «open» = f.«open»; saved = bare_from bare_saved f.«open» f.saved }

abbrev pub tidied : State → State
tidied s =
    with_stack s (cond (eqb s.depth 0) s.rooted false) s.depth (bare_from bare_frame s.depth (map tidy_frame s.frames))
