-- A run over a state's own bytes. Its frames are the stack of the run, so the live part that is read with them may run (`may_here`), and what the run leaves, put
-- back, is what the call hands back (`ran_here`).
-- Assumes nothing.
use mathlib.Core.Path.{◌≡◌, refl, sym, ap, ◌∙◌, subst}
use mathlib.Core.Bool.{Bool}
use mathlib.Core.List.{List, [], ◌++◌, append-nil}
use Prim.Native.Nat.{ℕ, ◌-◌, ◌≤◌}
use native.Mathlib.Omega.{arith}
use lib.ListN.{length, take, drop, length-append, length-drop, drop_of_length-le}
use lib.Seq.{take_all, length-take-le, drop-append_seam}
use Rattle.state.specs.Bounds.{head_width, stack_width, state_width}
use Rattle.state.specs.Bytes.{bytes_of, heading_from, state_from}
use Rattle.state.specs.Changes.{tidied}
use Rattle.state.specs.declared.State.{State}
use Rattle.live.specs.declared.Live.{Live}
use Rattle.live.specs.Live.{full}
use Rattle.converter.specs.declared.LiveReply.{LiveReply}
use Rattle.converter.specs.Answered.{Ran}
use Rattle.converter.specs.Bytes.{BytesAnsweredAs, runs}
use Rattle.converter.specs.Inner.{MayRun, seen, RanLive}
use Rattle.converter.proofs.Entering.{state_in_lem}
use Rattle.converter.proofs.Going.{may_tidied, ran_tidied}

pub count_in : (b : List ℕ) → (heading_from b).count ≡ (state_from b).count
unfolding state_from
count_in b = refl

-- the frames of the bytes b, as they are lent; and the same bytes with other frames
abbrev lent_frames : List ℕ → List ℕ
lent_frames b = take (length b - head_width) (drop head_width b)

abbrev pub with_frames : List ℕ → List ℕ → List ℕ
with_frames b stack = take head_width b ++ (stack ++ drop (length b - head_width) (drop head_width b))

-- other frames, as many bytes of them
pub long_with : (b stack : List ℕ) → length b ≡ state_width → length stack ≡ length (lent_frames b) → length (with_frames b stack) ≡ length b
long_with b stack l k =
    let rest : List ℕ = drop head_width b in
    let n : length (take head_width b) ≡ head_width = length-take-le head_width b (omega arith) in
    let none_past : length (drop (length b - head_width) rest) ≡ 0 = omega (arith, length-drop (length b - head_width) rest, length-drop head_width b) in
    let all : length (lent_frames b) ≡ length b - head_width = ap (λ (x : List ℕ). length x) (take_all (length b - head_width) rest (omega (arith, length-drop head_width b))) ∙ length-drop head_width b in
    length-append (take head_width b) (stack ++ drop (length b - head_width) rest) ∙ omega (arith, length-append stack (drop (length b - head_width) rest))

module _ (s b : List ℕ) (h : Live) (l : length b ≡ state_width) (m : MayRun s (state_from b)) (e : full h (drop head_width b) ≡ tidied (state_from b)) where
  all_lent : lent_frames b ≡ drop head_width b
  all_lent = take_all (length b - head_width) (drop head_width b) (omega (arith, length-drop head_width b))

  is_tidied : full h (lent_frames b) ≡ tidied (state_from b)
  is_tidied = ap (full h) all_lent ∙ e

  pub room_here : stack_width ≤ length (lent_frames b)
  room_here = omega (arith, l, ap (λ (x : List ℕ). length x) all_lent, length-drop head_width b)

  pub may_here : MayRun s (full h (lent_frames b))
  may_here = subst (MayRun s) (sym is_tidied) (may_tidied m)

  frames_of : (stack : List ℕ) → drop head_width (with_frames b stack) ≡ stack
  frames_of stack =
      let n : length (take head_width b) ≡ head_width = length-take-le head_width b (omega arith) in
      let none_past : drop (length b - head_width) (drop head_width b) ≡ [] = drop_of_length-le (drop head_width b) {i = length b - head_width} (omega (arith, length-drop head_width b)) in
      ap (λ (i : ℕ). drop i (with_frames b stack)) (sym n) ∙ drop-append_seam (take head_width b) (stack ++ drop (length b - head_width) (drop head_width b))
      ∙ ap (λ (x : List ℕ). stack ++ x) none_past ∙ append-nil stack

  pub ran_here : {part : List ℕ} {ended : Bool} {lent after : List ℕ} (r : LiveReply) (stack b' : List ℕ) → RanLive s (full h (lent_frames b)) part ended lent after r stack →
      b' ≡ bytes_of (tidied (full r.live (drop head_width (with_frames b stack)))) → state_from b' ≡ tidied (full r.live (drop head_width (with_frames b stack))) →
      BytesAnsweredAs s b b' part ended lent after (record { number = r.number; taken = r.taken; written = r.written; visits = r.visits })
  ran_here {part} {ended} {lent} {after} r stack b' w p q =
      let d : tidied (full r.live (drop head_width (with_frames b stack))) ≡ tidied (full r.live stack) = ap (λ (x : List ℕ). tidied (full r.live x)) (frames_of stack) in
      runs (state_in_lem b l) (seen r stack) (ran_tidied m (subst (λ (z : State). Ran s z part ended lent after (seen r stack)) is_tidied w.ran))
      (record { number = refl; taken = refl; written = refl; visits = w.visits }) (p ∙ ap bytes_of d) (q ∙ d)
