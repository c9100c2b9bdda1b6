-- The bytes of a salvage run's state, read back part by part.
-- Assumes nothing.
use mathlib.Core.Path.{◌≡◌, refl, sym, ap, ap₂, ◌∙◌, subst}
use mathlib.Core.Bool.{not}
use mathlib.Core.List.{List, [], ◌∷◌, ◌++◌, append_assoc}
use Prim.Native.Nat.{ℕ, zero, suc, ◌+◌, ◌*◌, ◌/◌, ◌-◌, ◌^◌, ◌<◌, ◌≤◌}
use native.Mathlib.Nat.{div-add-mod, div-lt_iff_lt-mul, mul-suc, pow-suc}
use native.Mathlib.Omega.{arith}
use lib.Dec.{eqb}
use lib.ListN.{length, length-append}
use lib.Seq.{get_or-append_seam}
use Rattle.layout.specs.Layout.{byte_at}
use Rattle.runs.specs.Visits.{attributes}
use Rattle.runs.specs.Machine.{most}
use Rattle.state.specs.Bounds.{most_sets, set_width, frame_width, count_at, rooted_at, closed_at, depth_at, head_width, state_width}
use Rattle.state.specs.Bytes.{number_bytes, number, bytes_of, on_at, gathered, bytes_at, long_at, saved_at, frame_at, state_from, Sized}
use Rattle.state.specs.declared.State.{State}
use Rattle.state.proofs.Back.{state_back}
use Rattle.state.proofs.Widths.{state_wide}
use Rattle.state.proofs.Written.{number_wide}

-- bytes as they stand behind others
pub bytes_at_lem : (pre l post : List ℕ) (at : ℕ) → length pre ≡ at → bytes_at (pre ++ (l ++ post)) at (length l) ≡ l
unfolding gathered
bytes_at_lem pre [] post at e = refl
bytes_at_lem pre (b ∷ l) post at e =
    let h : byte_at (pre ++ b ∷ (l ++ post)) at ≡ b = subst (λ (i : ℕ). byte_at (pre ++ b ∷ (l ++ post)) i ≡ b) e (get_or-append_seam pre b (l ++ post) 0) in
    let t = bytes_at_lem (pre ++ b ∷ []) l post (at + 1) (length-append pre (b ∷ []) ∙ ap (λ (i : ℕ). i + 1) e) in
    ap₂ (λ (x : ℕ) (xs : List ℕ). x ∷ xs) h (ap (λ (w : List ℕ). bytes_at w (at + 1) (length l)) (sym (append_assoc pre (b ∷ []) (l ++ post))) ∙ t)

number_again : (k n : ℕ) → n < 256 ^ k → number (number_bytes k n) ≡ n
unfolding number number_bytes
number_again zero n h = omega arith
number_again (suc k) n h =
    let q : n / 256 < 256 ^ k = (div-lt_iff_lt-mul {k = 256} {x = n} {y = 256 ^ k} (omega arith)).1 (rw (pow-suc 256 k) at h) in
    rw (number_again k (n / 256) q) (omega (arith, div-add-mod n 256))

pub long_at_lem : (pre post : List ℕ) (n at : ℕ) → length pre ≡ at → n < 2 ^ 64 → long_at (pre ++ (number_bytes 8 n ++ post)) at ≡ n
long_at_lem pre post n at e h =
    ap number (ap (bytes_at (pre ++ (number_bytes 8 n ++ post)) at) (sym (number_wide 8 n)) ∙ bytes_at_lem pre (number_bytes 8 n) post at e) ∙ number_again 8 n (omega (arith, h))

pub byte_at_lem : (pre post : List ℕ) (b at : ℕ) → length pre ≡ at → byte_at (pre ++ b ∷ post) at ≡ b
byte_at_lem pre post b at e = subst (λ (i : ℕ). byte_at (pre ++ b ∷ post) i ≡ b) e (get_or-append_seam pre b post 0)

-- what is read of the first bytes is read of them with others behind
module _ (b t : List ℕ) where
  byte_same : (l : List ℕ) (i : ℕ) → i < length l → byte_at (l ++ t) i ≡ byte_at l i
  byte_same [] i h = absurd (omega arith)
  byte_same (x ∷ l) zero h = refl
  byte_same (x ∷ l) (suc i) h = byte_same l i (omega arith)

  gathered_same : {X : Type 0} (f f' : ℕ → X) (w : ℕ) → ((j : ℕ) → j + w ≤ length b → f j ≡ f' j) → (at n : ℕ) → at + w * n ≤ length b → gathered f w at n ≡ gathered f' w at n
  unfolding gathered
  gathered_same f f' w h at zero l = refl
  gathered_same {X} f f' w h at (suc n) l =
      let m : w * suc n ≡ w * n + w = mul-suc w n in
      ap₂ (λ (x : X) (xs : List X). x ∷ xs) (h at (omega (arith, l, m))) (gathered_same f f' w h (at + w) n (omega (arith, l, m)))

  bytes_same : (at n : ℕ) → at + n ≤ length b → bytes_at (b ++ t) at n ≡ bytes_at b at n
  bytes_same at n l = gathered_same (byte_at (b ++ t)) (byte_at b) 1 (λ j h. byte_same b j (omega arith)) at n (omega arith)

  on_same : (at : ℕ) → at < length b → on_at (b ++ t) at ≡ on_at b at
  on_same at l = ap (λ (x : ℕ). not (eqb x 0)) (byte_same b at l)

  saved_same : (at : ℕ) → at + set_width ≤ length b → saved_at (b ++ t) at ≡ saved_at b at
  unfolding saved_at
  saved_same at l =
      let v = bytes_same at attributes (omega arith) in
      let o = on_same (at + attributes) (omega arith) in
      λ i. record { values = v i; echo = o i }

  frame_same : (at : ℕ) → at + frame_width ≤ length b → frame_at (b ++ t) at ≡ frame_at b at
  unfolding frame_at
  frame_same at l =
      let p = byte_same b at (omega arith) in
      let q = byte_same b (at + 1) (omega arith) in
      let o = byte_same b (at + 2) (omega arith) in
      let s = gathered_same (saved_at (b ++ t)) (saved_at b) set_width saved_same (at + 3) most_sets (omega arith) in
      λ i. record { production = p i; place = q i; «open» = o i; saved = s i }

  pub state_first : length b ≡ state_width → state_from (b ++ t) ≡ state_from b
  unfolding state_from
  state_first e =
      let v = bytes_same 0 attributes (omega (arith, e)) in
      let o = on_same attributes (omega (arith, e)) in
      let c = bytes_same count_at 8 (omega (arith, e)) in
      let r = on_same rooted_at (omega (arith, e)) in
      let k = byte_same b closed_at (omega (arith, e)) in
      let d = bytes_same depth_at 8 (omega (arith, e)) in
      let f = gathered_same (frame_at (b ++ t)) (frame_at b) frame_width frame_same head_width most (omega (arith, e)) in
      λ i. record { values = v i; echo = o i; count = number (c i); rooted = r i; closed = k i; depth = number (d i); frames = f i }

pub wide_of : (z : State) → Sized z → length (bytes_of z) ≡ state_width
wide_of z h = ap (λ (y : State). length (bytes_of y)) (sym (state_back z h)) ∙ state_wide (bytes_of z)

-- a state that is read with other bytes behind it
pub state_again : (z : State) → Sized z → (t : List ℕ) → state_from (bytes_of z ++ t) ≡ z
state_again z h t = state_first (bytes_of z) t (wide_of z h) ∙ state_back z h
