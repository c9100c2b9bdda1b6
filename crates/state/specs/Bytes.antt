-- The form of a state as bytes: 3,867 of them, numbers little-endian, a flag 1 for on and 0 for off (read back: on unless 0).
--
-- | Bytes | Content |
-- |---|---|
-- | 0 to 7 | the eight attributes |
-- | 8 | echo |
-- | 9 to 16 | the count of visits |
-- | 17 | whether the root has been closed |
-- | 18 | the closing number, or 255 |
-- | 19 to 26 | how many elements are open |
-- | 27 to 3,866 | 32 frames of 120 bytes, the root's first, those not in use too |
--
-- A frame: production, place, how many sets are in use, then 13 sets of 9 bytes: the eight attributes just after the first visit, and echo before
-- it. The production's set comes first, then those of the open nodes, outermost first.
-- Assumes nothing.
use Rattle.std.specs.Prelude.{Bool, true, cond, not, ◌≡◌, List, [], ◌∷◌, ◌++◌, ℕ, zero, suc, ◌+◌, ◌*◌, ◌/◌, ◌%◌, ◌^◌, ◌<◌, eqb, length, take}
use Rattle.state.specs.Meaning.{Every}
use Rattle.state.specs.Changes.{tidy_frame}
use Rattle.lent.specs.Put.{put}
use Rattle.layout.specs.Layout.{byte_at}
use Rattle.runs.specs.Visits.{attributes}
use Rattle.runs.specs.Machine.{most}
use Rattle.state.specs.Bounds.{most_sets, set_width, frame_width, count_at, rooted_at, closed_at, depth_at, head_width}
use Rattle.state.specs.declared.Saved.{Saved}
use Rattle.state.specs.declared.Frame.{Frame}
use Rattle.state.specs.declared.Heading.{Heading}
use Rattle.state.specs.declared.State.{State}

abbrev pub flag : Bool → ℕ
flag b = cond b 1 0

-- n in so many bytes, little-endian, and back
unfoldable pub number_bytes : ℕ → ℕ → List ℕ
number_bytes zero n = []
number_bytes (suc k) n = n % 256 ∷ number_bytes k (n / 256)

unfoldable pub number : List ℕ → ℕ
number [] = 0
number (b ∷ bs) = b + 256 * number bs

-- one after another
unfoldable pub each_bytes : {X : Type 0} → (X → List ℕ) → List X → List ℕ
each_bytes f [] = []
each_bytes f (x ∷ xs) = f x ++ each_bytes f xs

unfoldable pub saved_bytes : Saved → List ℕ
saved_bytes k = k.values ++ flag k.echo ∷ []

unfoldable pub frame_bytes : Frame → List ℕ
frame_bytes f = f.production ∷ f.place ∷ f.«open» ∷ each_bytes saved_bytes f.saved

-- of a frame, its head and the sets in use alone
unfoldable pub used_bytes : Frame → List ℕ
used_bytes f = f.production ∷ f.place ∷ f.«open» ∷ each_bytes saved_bytes (take f.«open» f.saved)

-- what stands before the frames
unfoldable pub heading_bytes : Heading → List ℕ
heading_bytes h =
    h.values ++ flag h.echo ∷ (number_bytes 8 h.count ++ flag h.rooted ∷ h.closed ∷ number_bytes 8 h.depth)

unfoldable pub bytes_of : State → List ℕ
bytes_of s =
    s.values ++
    flag s.echo ∷
    (number_bytes 8 s.count ++
    flag s.rooted ∷ s.closed ∷ (number_bytes 8 s.depth ++ each_bytes frame_bytes s.frames))

-- what a function that writes `new`, of so many bytes, leaves of the memory, and answers: where the next byte goes
pub record Wrote (width : ℕ) (memory : List ℕ) (at : ℕ) (new after : List ℕ) (r : ℕ) : Type 0 where
  pub next : r ≡ at + width
  pub wide : length new ≡ width
  pub left : after ≡ put true memory at new

abbrev pub on_at : List ℕ → ℕ → Bool
on_at b at = not (eqb (byte_at b at) 0)

-- n things of so many bytes each, read one after another
unfoldable pub gathered : {X : Type 0} → (ℕ → X) → ℕ → ℕ → ℕ → List X
gathered f width at zero = []
gathered f width at (suc n) = f at ∷ gathered f width (at + width) n

abbrev pub bytes_at : List ℕ → ℕ → ℕ → List ℕ
bytes_at b at n = gathered (byte_at b) 1 at n

abbrev pub long_at : List ℕ → ℕ → ℕ
long_at b at = number (bytes_at b at 8)

unfoldable pub saved_at : List ℕ → ℕ → Saved
saved_at b at = record { values = bytes_at b at attributes; echo = on_at b (at + attributes) }

unfoldable pub frame_at : List ℕ → ℕ → Frame
frame_at b at =
    record {
      production = byte_at b at;
      place = byte_at b (at + 1);
      «open» = byte_at b (at + 2);
      saved = gathered (saved_at b) set_width (at + 3) most_sets;
    }

-- a frame of which the head and the sets in use are read, the others bare
abbrev pub used_at : List ℕ → ℕ → Frame
used_at b at = tidy_frame (frame_at b at)

-- a state but for its frames
abbrev pub heading_from : List ℕ → Heading
heading_from b =
    record {
      values = bytes_at b 0 attributes;
      echo = on_at b attributes;
      count = long_at b count_at;
      rooted = on_at b rooted_at;
      closed = byte_at b closed_at;
      depth = long_at b depth_at;
    }

unfoldable pub state_from : List ℕ → State
state_from b =
    record {
      values = bytes_at b 0 attributes;
      echo = on_at b attributes;
      count = long_at b count_at;
      rooted = on_at b rooted_at;
      closed = byte_at b closed_at;
      depth = long_at b depth_at;
      frames = gathered (frame_at b) frame_width head_width most;
    }

-- every array is as long as its type says, and the two wide numbers fit theirs: so it is of every state that code holds
pub record SizedSet (k : Saved) : Type 0 where
  pub values : length k.values ≡ attributes

pub record SizedFrame (f : Frame) : Type 0 where
  pub saved : length f.saved ≡ most_sets
  pub sets : Every SizedSet f.saved

pub record Sized (s : State) : Type 0 where
  pub values : length s.values ≡ attributes
  pub count : s.count < 2 ^ 64
  pub depth : s.depth < 2 ^ 64
  pub frames : length s.frames ≡ most
  pub each : Every SizedFrame s.frames
