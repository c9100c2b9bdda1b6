-- The one state in which a run is handed back: what is not in use is bare. So the same run between two calls is always the same bytes.
-- Assumes nothing.
use Rattle.std.specs.Prelude.{Bool, true, false, List, [], ◌∷◌, ◌++◌, map, reverse, ℕ, ◌-◌, length, replicate}
use Rattle.runs.specs.Visits.{Saved as Kept}
use Rattle.runs.specs.Machine.{Open, Control, before, inside, after, most, Configuration as Run}
use Rattle.state.specs.declared.Saved.{Saved}
use Rattle.state.specs.declared.Frame.{Frame}
use Rattle.state.specs.declared.State.{State}
use Rattle.state.specs.Bounds.{most_sets}
use Rattle.state.specs.Changes.{bare_saved, bare_frame}
use Rattle.state.specs.Meaning.{opens_of}

abbrev pub saved_for : Kept → Saved
saved_for k = record { values = k.values; echo = k.echo }

-- an open element with what is kept of it, its innermost node's first: a set for each, its production's first, and the other sets bare
unfoldable pub frame_for : Open → List Kept → Frame
frame_for o ks =
    record {
      production = o.production;
      place = o.place;
      «open» = length ks;
      saved = reverse (map saved_for ks) ++ replicate (most_sets - length ks) bare_saved;
    }

-- open elements with what is kept of each
abbrev pub frames_for : List Open → List (List Kept) → List Frame
frames_for [] kss = []
frames_for (o ∷ os) [] = []
frames_for (o ∷ os) (ks ∷ kss) = frame_for o ks ∷ frames_for os kss

abbrev pub root_closed : Control → Bool
root_closed before = false
root_closed (inside o os) = false
root_closed after = true

-- the run m between two tokens with a closing number: the frames of its open elements, the root's first, and the other frames bare
unfoldable pub state_for : Run → ℕ → State
state_for m number =
    record {
      values = m.store.env.values;
      echo = m.store.env.echo;
      count = m.store.env.count;
      rooted = root_closed m.control;
      closed = number;
      depth = length (opens_of m.control);
      frames =
          reverse (frames_for (opens_of m.control) m.store.kept) ++ replicate (most - length (opens_of m.control)) bare_frame;
    }
