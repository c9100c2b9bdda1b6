-- Rows of bytes laid down one behind another.
-- Assumes nothing.
use mathlib.Core.Path.{◌≡◌, refl, sym, ap, ap₂, subst, ◌∙◌}
use mathlib.Core.Bool.{true}
use mathlib.Core.List.{List, [], ◌∷◌, ◌++◌, append_assoc, append-nil}
use Prim.Native.Nat.{ℕ, zero, suc, ◌+◌, ◌-◌, ◌≤◌, ◌<◌}
use native.Mathlib.Omega.{arith}
use lib.ListN.{length, take, drop, replicate, length-append, length-take, length-drop, length-replicate, drop_of_length-le}
use lib.Seq.{take_at}
use Rattle.lent.specs.Put.{put, PutAs}
use Rattle.lent.proofs.Laws.{put_append, put_all, put_none}
use Rattle.state.specs.Bounds.{frame_width, rooted_at, head_width, state_width}
use Rattle.state.specs.Bytes.{number_bytes, Wrote}
use Rattle.state.proofs.Written.{number_wide}
use Rattle.live.specs.declared.Live.{Live}
use Rattle.rescued.specs.Bytes.{mode_at, returns_at, returns_width, salvage_width, tail_bytes, no_return}
use Rattle.resting.specs.Laid.{run_bytes, RunPut, tail_of, own_bytes, returns_of, ReturnsPut}

-- ---- zeros, one after another
pub clear_one : (d d' : List ℕ) (i to : ℕ) → i < to → d' ≡ put true d i (0 ∷ []) → put true d' (i + 1) (replicate (to - (i + 1)) 0) ≡ put true d i (replicate (to - i) 0)
clear_one d d' i to h e =
    let n : to - i ≡ suc (to - (i + 1)) = omega arith in
    ap (λ (y : List ℕ). put true y (i + 1) (replicate (to - (i + 1)) 0)) e ∙ put_append true d i (0 ∷ []) (replicate (to - (i + 1)) 0) ∙ ap (λ (k : ℕ). put true d i (replicate k 0)) (sym n)

pub clear_all : (d : List ℕ) (i to : ℕ) → to ≤ i → put true d i (replicate (to - i) 0) ≡ d
clear_all d i to h =
    let n : to - i ≡ 0 = omega arith in
    ap (λ (k : ℕ). put true d i (replicate k 0)) n ∙ put_none true d i

-- ---- the tail
pub tail_put : (b b₁ b₂ b₃ b₄ b' : List ℕ) (at p₁ p₂ p₃ p₄ p₅ m p f n k : ℕ) → at ≡ mode_at → Wrote 1 b at (m ∷ []) b₁ p₁ → Wrote 8 b₁ p₁ (number_bytes 8 p) b₂ p₂ → Wrote 8 b₂ p₂ (number_bytes 8 f) b₃ p₃ →
    Wrote 1 b₃ p₃ (n ∷ []) b₄ p₄ → Wrote 8 b₄ p₄ (number_bytes 8 k) b' p₅ → b' ≡ put true b mode_at (tail_of m p f n k)
unfolding tail_of
tail_put b b₁ b₂ b₃ b₄ b' at p₁ p₂ p₃ p₄ p₅ m p f n k e u v w x y =
    let P : List ℕ = number_bytes 8 p in
    let F : List ℕ = number_bytes 8 f in
    let K : List ℕ = number_bytes 8 k in
    let i₁ : p₁ ≡ at + 1 = u.next in
    let i₂ : p₂ ≡ p₁ + length P = omega (arith, v.next, v.wide) in
    let i₃ : p₃ ≡ p₂ + length F = omega (arith, w.next, w.wide) in
    let i₄ : p₄ ≡ p₃ + 1 = x.next in
    let e₄ : b' ≡ put true b₃ p₃ (n ∷ K) = y.left ∙ ap₂ (λ (l : List ℕ) (i : ℕ). put true l i K) x.left i₄ ∙ put_append true b₃ p₃ (n ∷ []) K in
    let e₃ : b' ≡ put true b₂ p₂ (F ++ n ∷ K) = e₄ ∙ ap₂ (λ (l : List ℕ) (i : ℕ). put true l i (n ∷ K)) w.left i₃ ∙ put_append true b₂ p₂ F (n ∷ K) in
    let e₂ : b' ≡ put true b₁ p₁ (P ++ (F ++ n ∷ K)) = e₃ ∙ ap₂ (λ (l : List ℕ) (i : ℕ). put true l i (F ++ n ∷ K)) v.left i₂ ∙ put_append true b₁ p₁ P (F ++ n ∷ K) in
    let e₁ : b' ≡ put true b at (m ∷ (P ++ (F ++ n ∷ K))) = e₂ ∙ ap₂ (λ (l : List ℕ) (i : ℕ). put true l i (P ++ (F ++ n ∷ K))) u.left i₁ ∙ put_append true b at (m ∷ []) (P ++ (F ++ n ∷ K)) in
    e₁ ∙ ap (λ (i : ℕ). put true b i (m ∷ (P ++ (F ++ n ∷ K)))) e

tail_long : (m p f n k : ℕ) → length (tail_of m p f n k) ≡ 26
unfolding tail_of
tail_long m p f n k =
    omega (arith, length-append (number_bytes 8 p) (number_bytes 8 f ++ n ∷ number_bytes 8 k), length-append (number_bytes 8 f) (n ∷ number_bytes 8 k), number_wide 8 p, number_wide 8 f, number_wide 8 k)

tail_is : (m p f n k : ℕ) (q : List ℕ) → tail_of m p f n k ++ q ≡ tail_bytes m p f n k q
unfolding tail_of tail_bytes
tail_is m p f n k q =
    let P : List ℕ = number_bytes 8 p in
    let F : List ℕ = number_bytes 8 f in
    let K : List ℕ = number_bytes 8 k in
    ap (λ (l : List ℕ). m ∷ l) (append_assoc P (F ++ n ∷ K) q ∙ ap (λ (l : List ℕ). P ++ l) (append_assoc F (n ∷ K) q))

-- ---- what returns
pub returns_put : (b b₁ b' d : List ℕ) (at p₁ p₂ : ℕ) (z : Live) → at ≡ returns_at → d ≡ own_bytes z → length d ≡ state_width → PutAs true b at (take rooted_at d) b₁ p₁ →
    PutAs true b₁ p₁ (take (head_width + frame_width - head_width) (drop head_width d)) b' p₂ → ReturnsPut z b b'
returns_put b b₁ b' d at p₁ p₂ z ae e l u v =
    let A : List ℕ = take rooted_at d in
    let F : List ℕ = take frame_width (drop head_width d) in
    let e₁ : b' ≡ put true b at (A ++ F) = v.left ∙ ap₂ (λ (y : List ℕ) (i : ℕ). put true y i F) u.left u.next ∙ put_append true b at A F in
    record { is = e₁ ∙ ap₂ (λ (i : ℕ) (y : List ℕ). put true b i (take rooted_at y ++ take frame_width (drop head_width y))) ae e; long = ap length (sym e) ∙ l }

returns_long : (d : List ℕ) → length d ≡ state_width → length (take rooted_at d ++ take frame_width (drop head_width d)) ≡ returns_width
returns_long d l =
    omega (arith, length-append (take rooted_at d) (take frame_width (drop head_width d)), length-take rooted_at d, length-take frame_width (drop head_width d), length-drop head_width d)

-- ---- all of it
module _ (h : Live) (b b₁ b₂ b' : List ℕ) (wide : length b ≡ salvage_width) (R : RunPut h b b₁) (m p f n k : ℕ) (T : b₂ ≡ put true b₁ mode_at (tail_of m p f n k)) where
  pub laid : (q : List ℕ) → length q ≡ returns_width → b' ≡ put true b₂ returns_at q → b' ≡ run_bytes h b ++ tail_bytes m p f n k q
  laid q lq e =
      let t : List ℕ = tail_of m p f n k in
      let r : List ℕ = run_bytes h b in
      let rest : List ℕ = drop state_width b in
      let lt = tail_long m p f n k in
      let i : returns_at ≡ mode_at + length t = omega (arith, lt) in
      let e₁ : b' ≡ put true b₁ mode_at (t ++ q) = e ∙ ap₂ (λ (y : List ℕ) (j : ℕ). put true y j q) T i ∙ put_append true b₁ mode_at t q in
      let lr : length rest ≡ 163 = omega (arith, length-drop state_width b) in
      let e₂ : b' ≡ put true (r ++ rest) mode_at (t ++ q) = e₁ ∙ ap (λ (y : List ℕ). put true y mode_at (t ++ q)) R.is in
      let l₂ : mode_at + length (t ++ q) ≡ length (r ++ rest) = omega (arith, length-append t q, length-append r rest, R.long) in
      let none_left : drop (mode_at + length (t ++ q)) (r ++ rest) ≡ [] = drop_of_length-le (r ++ rest) {i = mode_at + length (t ++ q)} (omega arith) in
      let e₃ : b' ≡ take mode_at (r ++ rest) ++ (t ++ q) ++ drop (mode_at + length (t ++ q)) (r ++ rest) = e₂ ∙ put_all (r ++ rest) mode_at (t ++ q) (omega arith) in
      e₃ ∙ ap₂ (λ (y w : List ℕ). y ++ (t ++ q) ++ w) (take_at r rest mode_at R.long) none_left ∙ append-nil (r ++ (t ++ q)) ∙ ap (λ (y : List ℕ). r ++ y) (tail_is m p f n k q)

  pub laid_none : b' ≡ put true b₂ returns_at (replicate (salvage_width - returns_at) 0) → b' ≡ run_bytes h b ++ tail_bytes m p f n k no_return
  laid_none e = laid no_return (length-replicate {A = ℕ} returns_width 0) e

  pub laid_returns : (z : Live) → ReturnsPut z b₂ b' → b' ≡ run_bytes h b ++ tail_bytes m p f n k (returns_of z)
  laid_returns z P = laid (returns_of z) (returns_long (own_bytes z) P.long) P.is

pub run_put : (h : Live) (b d : List ℕ) → d ≡ run_bytes h b → length d ≡ state_width → RunPut h b (d ++ drop state_width b)
run_put h b d e l = record { is = ap (λ (y : List ℕ). y ++ drop state_width b) e; long = ap length (sym e) ∙ l }
