-- What is read from bytes has the length of its type; and how many bytes a state has that is read from any bytes, and the fresh state: as many as every state.
-- Assumes nothing.
use mathlib.Core.Path.{◌≡◌, sym, ap, ◌∙◌}
use mathlib.Core.List.{List, [], ◌∷◌, ◌++◌}
use Prim.Native.Nat.{ℕ, zero, suc, ◌+◌, ◌*◌, ◌^◌, ◌<◌}
use native.Mathlib.Nat.{mul-suc}
use native.Mathlib.Omega.{arith}
use lib.ListN.{length, length-append}
use Rattle.runs.specs.Visits.{attributes}
use Rattle.runs.specs.Machine.{most}
use Rattle.state.specs.declared.Frame.{Frame}
use Rattle.state.specs.declared.State.{State}
use Rattle.state.specs.Bounds.{most_sets, set_width, frame_width, head_width, stack_width, state_width}
use Rattle.layout.specs.Layout.{byte_at}
use Rattle.state.specs.Bytes.{flag, number_bytes, each_bytes, frame_bytes, bytes_of, bytes_at, gathered, saved_at, frame_at, state_from, SizedSet, SizedFrame, Sized}
use Rattle.state.specs.Changes.{fresh_state}
use Rattle.state.specs.Meaning.{Every, none, more}
use Rattle.state.proofs.Written.{number_wide}
use Rattle.state.proofs.Gathered.{length_gathered}
use Rattle.state.proofs.Back.{frame_back, state_back}
use Rattle.state.proofs.Tidy.{fresh_sized}

pub all_read : {X : Type 0} (P : X → Type 0) (f : ℕ → X) (w : ℕ) → ((at : ℕ) → P (f at)) → (at n : ℕ) → Every P (gathered f w at n)
unfolding gathered
all_read P f w h at zero = none
all_read P f w h at (suc n) = more (h at) (all_read P f w h (at + w) n)

set_read : (b : List ℕ) (at : ℕ) → SizedSet (saved_at b at)
unfolding saved_at
set_read b at = record { values = length_gathered (byte_at b) 1 at attributes }

pub frame_read : (b : List ℕ) (at : ℕ) → SizedFrame (frame_at b at)
unfolding frame_at
frame_read b at = record { saved = length_gathered (saved_at b) set_width (at + 3) most_sets; sets = all_read SizedSet (saved_at b) set_width (set_read b) (at + 3) most_sets }

frames_wide : (l : List Frame) → Every SizedFrame l → length (each_bytes frame_bytes l) ≡ frame_width * length l
unfolding each_bytes
frames_wide [] a = omega arith
frames_wide (f ∷ l) (more h a) =
    length-append (frame_bytes f) (each_bytes frame_bytes l) ∙ rw ((frame_back f h).wide, frames_wide l a, mul-suc) (omega arith)

pub state_wide : (b : List ℕ) → length (bytes_of (state_from b)) ≡ state_width
unfolding bytes_of state_from
state_wide b =
    let fs : List Frame = gathered (frame_at b) frame_width head_width most in
    let v : List ℕ = bytes_at b 0 attributes in
    let c : List ℕ = number_bytes 8 (state_from b).count in
    let d : List ℕ = number_bytes 8 (state_from b).depth in
    let stack : List ℕ = each_bytes frame_bytes fs in
    let n : length stack ≡ stack_width =
    frames_wide fs (all_read SizedFrame (frame_at b) frame_width (frame_read b) head_width most) ∙ ap (λ (m : ℕ). frame_width * m) (length_gathered (frame_at b) frame_width head_width most) in
    let e : ℕ = flag (state_from b).echo in
    let r : ℕ = flag (state_from b).rooted in
    let k : ℕ = (state_from b).closed in
    omega (
      arith,
      length-append v (e ∷ (c ++ r ∷ k ∷ (d ++ stack))),
      length-append c (r ∷ k ∷ (d ++ stack)),
      length-append d stack,
      length_gathered (byte_at b) 1 0 attributes,
      number_wide 8 (state_from b).count,
      number_wide 8 (state_from b).depth,
      n,
    )

-- a state that is read from any bytes has its arrays as long as their types say
pub read_sized : (b : List ℕ) → (state_from b).count < 2 ^ 64 → (state_from b).depth < 2 ^ 64 → Sized (state_from b)
unfolding state_from
read_sized b c d =
    record {
      values = length_gathered (byte_at b) 1 0 attributes;
      count = c;
      depth = d;
      frames = length_gathered (frame_at b) frame_width head_width most;
      each = all_read SizedFrame (frame_at b) frame_width (frame_read b) head_width most;
    }

pub fresh_wide : length (bytes_of fresh_state) ≡ state_width
fresh_wide = ap (λ (z : State). length (bytes_of z)) (sym (state_back fresh_state fresh_sized)) ∙ state_wide (bytes_of fresh_state)
