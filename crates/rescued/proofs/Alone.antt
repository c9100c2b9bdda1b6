-- What returns is read as a state in which the root alone is open, and which is not closed: so its bytes say.
-- Assumes nothing.
use mathlib.Core.Path.{◌≡◌, refl, sym, ap, ap₂, ◌∙◌}
use mathlib.Core.List.{List, ◌∷◌, ◌++◌}
use Prim.Native.Nat.{ℕ, zero, suc, ◌+◌, ◌-◌, ◌*◌}
use native.Mathlib.Omega.{arith}
use lib.ListN.{length, take, drop, get_or, replicate, length-take, length-drop}
use lib.Seq.{get_or-append-add}
use Rattle.layout.specs.Layout.{byte_at}
use Rattle.runs.specs.Machine.{most}
use Rattle.state.specs.Bounds.{frame_width, rooted_at, depth_at}
use Rattle.state.specs.Bytes.{number_bytes, number, gathered, long_at, state_from}
use Rattle.state.specs.Changes.{not_closed}
use Rattle.rescued.specs.Bytes.{returns_at, returning_bytes}
use Rattle.rescued.specs.Alone.{ReturnsAlone}

-- bytes behind others are read as by themselves
behind : (A B : List ℕ) (k : ℕ) → length A ≡ k → (at : ℕ) → byte_at (A ++ B) (k + at) ≡ byte_at B at
behind A B k l at = ap (λ (i : ℕ). get_or (A ++ B) (i + at) 0) (sym l) ∙ get_or-append-add A B at 0

all_behind : (A B : List ℕ) (k : ℕ) → length A ≡ k → (n at i : ℕ) → i ≡ k + at → gathered (byte_at (A ++ B)) 1 i n ≡ gathered (byte_at B) 1 at n
unfolding gathered
all_behind A B k l zero at i e = refl
all_behind A B k l (suc n) at i e =
    ap₂ (λ (x : ℕ) (xs : List ℕ). x ∷ xs) (ap (byte_at (A ++ B)) e ∙ behind A B k l at) (all_behind A B k l n (at + 1) (i + 1) (omega arith))

middle_depth : (X : List ℕ) → long_at (0 ∷ not_closed ∷ (number_bytes 8 1 ++ X)) 2 ≡ 1
unfolding number_bytes number gathered
middle_depth X = refl

pub root_alone : ReturnsAlone
unfolding returning_bytes state_from
root_alone b l =
    let A : List ℕ = take rooted_at (drop returns_at b) in
    let X : List ℕ = take frame_width (drop (returns_at + rooted_at) b) ++ replicate (frame_width * (most - 1)) 0 in
    let B : List ℕ = 0 ∷ not_closed ∷ (number_bytes 8 1 ++ X) in
    let n : length A ≡ rooted_at = omega (arith, length-take rooted_at (drop returns_at b), length-drop returns_at b) in
    record { one = ap number (all_behind A B rooted_at n 8 2 depth_at refl) ∙ middle_depth X; is_open = behind A B rooted_at n 1 }
