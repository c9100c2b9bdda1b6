-- The state of a run that a state stands for, and what it takes for that to make sense.
-- Assumes nothing.
use Rattle.std.specs.Prelude.{Bool, true, false, List, [], ◌∷◌, map, reverse, ◌≡◌, ◌≤◌, length, take}
use Rattle.runs.specs.Visits.{Env, Saved as Kept}
use Rattle.runs.specs.Machine.{Open, Control, before, inside, after, most, Configuration as Run}
use Rattle.state.specs.declared.Saved.{Saved}
use Rattle.state.specs.declared.Frame.{Frame}
use Rattle.state.specs.declared.State.{State}
use Rattle.state.specs.Bounds.{most_sets}

abbrev pub kept_of : Saved → Kept
kept_of k = record { values = k.values; echo = k.echo }

-- the sets of a frame, those of its innermost open node first, its production's last
abbrev pub sets_of : Frame → List Kept
sets_of f = map kept_of (reverse (take f.«open» f.saved))

abbrev pub open_of : Frame → Open
open_of f = record { production = f.production; place = f.place }

-- the open elements, innermost first
abbrev pub elements : State → List Frame
elements s = reverse (take s.depth s.frames)

-- whether the root has been closed tells only where no element is open
abbrev pub standing : Bool → List Frame → Control
standing false [] = before
standing true [] = after
standing rooted (f ∷ fs) = inside (open_of f) (map open_of fs)

-- the open elements where a run stands, innermost first
abbrev pub opens_of : Control → List Open
opens_of before = []
opens_of (inside o os) = o ∷ os
opens_of after = []

abbrev pub env_of : State → Env
env_of s = record { values = s.values; echo = s.echo; out = []; count = s.count }

unfoldable pub meaning_of : State → Run
meaning_of s =
    record {
      control = standing s.rooted (elements s);
      store = record { kept = map sets_of (elements s); env = env_of s };
    }

pub data Every {X : Type 0} (P : X → Type 0) : List X → Type 0 where
  none : Every P []
  more : {x : X} {xs : List X} → P x → Every P xs → Every P (x ∷ xs)

-- a meaning makes sense where at most 32 elements are open, each with no more sets in use than its frame has room for
pub record Fits (f : Frame) : Type 0 where
  pub room : f.«open» ≤ most_sets
  pub sets : length f.saved ≡ most_sets

pub record Shaped (s : State) : Type 0 where
  pub deep : s.depth ≤ most
  pub frames : length s.frames ≡ most
  pub fits : Every Fits (take s.depth s.frames)
