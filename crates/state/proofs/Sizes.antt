-- Every state that code holds has its arrays as long as their types say: the relation of a struct to what the code holds says it of each field, and
-- that of an array of each element.
-- Assumes nothing.
use mathlib.Core.List.{List, [], ◌∷◌}
use mir.Val.{Val}
use denote.RattleType.{RattleType}
use denote.Laws.{Is}
use denote.Array.{each}
use denote.Shadow.{shadow}
use Rattle.state.specs.Meaning.{Every, none, more}
use Rattle.state.specs.Bytes.{SizedSet, SizedFrame, Sized}
use Rattle.state.specs.declared.Saved.{Saved}
use Rattle.state.specs.declared.Frame.{Frame}
use Rattle.state.specs.declared.State.{State}
use Rattle.state.specs.contracts.Saved.{the_row as set_row}
use Rattle.state.specs.contracts.Frame.{the_row as frame_row}
use Rattle.state.specs.contracts.State.{the_row as state_row}

all_held : (R : RattleType) (P : R.Denot → Type 0) → ((x : R.Denot) (vs : List Val) → Is R x vs → P x) → (l : List R.Denot) (us : List Val) →
    shadow (each R.Denot R.own_val l us) → Every P l
all_held R P h [] us r = none
all_held R P h (x ∷ l) [] r = absurd r
all_held R P h (x ∷ l) (u ∷ us) r = more (h x (u ∷ []) r.0) (all_held R P h l us r.1)

set_sized : (k : Saved) (vs : List Val) → Is set_row k vs → SizedSet k
set_sized k vs r = record { values = r.1.1.0.1.0.1 }

pub frame_sized : (f : Frame) (vs : List Val) → Is frame_row f vs → SizedFrame f
frame_sized f vs r =
    let sets = r.1.1.1.1.1.0 in
    record { saved = sets.1.0.1; sets = all_held set_row SizedSet set_sized f.saved sets.0 sets.1.1 }

pub state_sized : (z : State) (vs : List Val) → Is state_row z vs → Sized z
state_sized z vs r =
    let fields = r.1.1 in
    let frames = fields.1.1.1.1.1.1.0 in
    record {
      values = fields.0.1.0.1;
      count = fields.1.1.0.1;
      depth = fields.1.1.1.1.1.0.1;
      frames = frames.1.0.1;
      each = all_held frame_row SizedFrame frame_sized z.frames frames.0 frames.1.1;
    }
