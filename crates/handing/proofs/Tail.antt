-- What stands behind the state of 01's run, read back; and what returns, as the state that it is.
-- Assumes nothing.
use mathlib.Core.Path.{◌≡◌, refl, sym, ap, ap₂, ◌∙◌}
use mathlib.Core.List.{List, [], ◌∷◌, ◌++◌, append-nil, append_assoc}
use Prim.Native.Nat.{ℕ, zero, suc, ◌+◌, ◌*◌, ◌-◌, ◌^◌, ◌<◌}
use native.Mathlib.Nat.{mul-suc}
use native.Mathlib.Omega.{arith}
use lib.ListN.{length, take, drop, replicate, length-append}
use lib.Seq.{take-append_seam, drop-append_seam}
use Rattle.layout.specs.Layout.{byte_at}
use Rattle.runs.specs.Machine.{most}
use Rattle.runs.specs.Visits.{attributes}
use Rattle.state.specs.Bounds.{frame_width, rooted_at, head_width, state_width}
use Rattle.state.specs.Bytes.{number_bytes, each_bytes, saved_bytes, frame_bytes, long_at}
use Rattle.state.specs.Changes.{not_closed, bare_frame}
use Rattle.state.proofs.Written.{number_wide}
use Rattle.rescued.specs.Bytes.{mode_at, passed_at, first_at, refused_at, waiting_at, returns_at, tail_bytes}
use Rattle.handing.proofs.Bytes.{long_at_lem, byte_at_lem}

module _ (p : List ℕ) (w : length p ≡ state_width) (m q f n k : ℕ) (ret : List ℕ) where
  abbrev whole : List ℕ
  whole = p ++ tail_bytes m q f n k ret

  abbrev to_passed : List ℕ
  to_passed = p ++ m ∷ []

  abbrev to_first : List ℕ
  to_first = to_passed ++ number_bytes 8 q

  abbrev to_refused : List ℕ
  to_refused = to_first ++ number_bytes 8 f

  abbrev to_waiting : List ℕ
  to_waiting = to_refused ++ n ∷ []

  abbrev to_returns : List ℕ
  to_returns = to_waiting ++ number_bytes 8 k

  at_passed : whole ≡ to_passed ++ (number_bytes 8 q ++ (number_bytes 8 f ++ n ∷ (number_bytes 8 k ++ ret)))
  unfolding tail_bytes
  at_passed = sym (append_assoc p (m ∷ []) (number_bytes 8 q ++ (number_bytes 8 f ++ n ∷ (number_bytes 8 k ++ ret))))

  at_first : whole ≡ to_first ++ (number_bytes 8 f ++ n ∷ (number_bytes 8 k ++ ret))
  at_first = at_passed ∙ sym (append_assoc to_passed (number_bytes 8 q) (number_bytes 8 f ++ n ∷ (number_bytes 8 k ++ ret)))

  at_refused : whole ≡ to_refused ++ n ∷ (number_bytes 8 k ++ ret)
  at_refused = at_first ∙ sym (append_assoc to_first (number_bytes 8 f) (n ∷ (number_bytes 8 k ++ ret)))

  at_waiting : whole ≡ to_waiting ++ (number_bytes 8 k ++ ret)
  at_waiting = at_refused ∙ sym (append_assoc to_refused (n ∷ []) (number_bytes 8 k ++ ret))

  at_returns : whole ≡ to_returns ++ ret
  at_returns = at_waiting ∙ sym (append_assoc to_waiting (number_bytes 8 k) ret)

  long_passed : length to_passed ≡ passed_at
  long_passed = length-append p (m ∷ []) ∙ ap (λ (i : ℕ). i + 1) w

  long_first : length to_first ≡ first_at
  long_first = length-append to_passed (number_bytes 8 q) ∙ ap₂ (λ (i j : ℕ). i + j) long_passed (number_wide 8 q)

  long_refused : length to_refused ≡ refused_at
  long_refused = length-append to_first (number_bytes 8 f) ∙ ap₂ (λ (i j : ℕ). i + j) long_first (number_wide 8 f)

  long_waiting : length to_waiting ≡ waiting_at
  long_waiting = length-append to_refused (n ∷ []) ∙ ap (λ (i : ℕ). i + 1) long_refused

  long_returns : length to_returns ≡ returns_at
  long_returns = length-append to_waiting (number_bytes 8 k) ∙ ap₂ (λ (i j : ℕ). i + j) long_waiting (number_wide 8 k)

  pub mode_back : byte_at whole mode_at ≡ m
  unfolding tail_bytes
  mode_back = byte_at_lem p (number_bytes 8 q ++ (number_bytes 8 f ++ n ∷ (number_bytes 8 k ++ ret))) m mode_at w

  pub passed_back : q < 2 ^ 64 → long_at whole passed_at ≡ q
  passed_back h = ap (λ (l : List ℕ). long_at l passed_at) at_passed ∙ long_at_lem to_passed (number_bytes 8 f ++ n ∷ (number_bytes 8 k ++ ret)) q passed_at long_passed h

  pub first_back : f < 2 ^ 64 → long_at whole first_at ≡ f
  first_back h = ap (λ (l : List ℕ). long_at l first_at) at_first ∙ long_at_lem to_first (n ∷ (number_bytes 8 k ++ ret)) f first_at long_first h

  pub refused_back : byte_at whole refused_at ≡ n
  refused_back = ap (λ (l : List ℕ). byte_at l refused_at) at_refused ∙ byte_at_lem to_refused (number_bytes 8 k ++ ret) n refused_at long_refused

  pub waiting_back : k < 2 ^ 64 → long_at whole waiting_at ≡ k
  waiting_back h = ap (λ (l : List ℕ). long_at l waiting_at) at_waiting ∙ long_at_lem to_waiting ret k waiting_at long_waiting h

  pub returns_back : drop returns_at whole ≡ ret
  returns_back = ap (drop returns_at) at_returns ∙ ap (λ (i : ℕ). drop i (to_returns ++ ret)) (sym long_returns) ∙ drop-append_seam to_returns ret

-- frames that are not in use are 0
abbrev pub zeros : ℕ → List ℕ
zeros n = replicate n 0

zeros_both : (m n : ℕ) → zeros m ++ zeros n ≡ zeros (m + n)
zeros_both zero n = let e : n ≡ 0 + n = omega arith in ap zeros e
zeros_both (suc m) n =
    let e : suc (m + n) ≡ suc m + n = omega arith in
    ap (λ (l : List ℕ). 0 ∷ l) (zeros_both m n) ∙ ap zeros e

bare_zeros : frame_bytes bare_frame ≡ zeros frame_width
unfolding frame_bytes bare_frame each_bytes saved_bytes
bare_zeros = refl

pub frames_zeros : (n : ℕ) → each_bytes frame_bytes (replicate n bare_frame) ≡ zeros (frame_width * n)
unfolding each_bytes
frames_zeros zero = let e : 0 ≡ frame_width * 0 = omega arith in ap zeros e
frames_zeros (suc n) =
    let h : frame_width * suc n ≡ frame_width * n + frame_width = mul-suc frame_width n in
    let e : frame_width + frame_width * n ≡ frame_width * suc n = omega (arith, h) in
    ap₂ (λ (x y : List ℕ). x ++ y) bare_zeros (frames_zeros n) ∙ zeros_both frame_width (frame_width * n) ∙ ap zeros e

-- what returns is read as the state of a run in which the root is open alone
take_both : (u v : List ℕ) (k : ℕ) → length u ≡ k → take k (u ++ v) ≡ u
take_both u v k e = ap (λ (i : ℕ). take i (u ++ v)) (sym e) ∙ take-append_seam u v

drop_both : (u v : List ℕ) (k : ℕ) → length u ≡ k → drop k (u ++ v) ≡ v
drop_both u v k e = ap (λ (i : ℕ). drop i (u ++ v)) (sym e) ∙ drop-append_seam u v

module _ (v : List ℕ) (e : ℕ) (c : List ℕ) (f : List ℕ) (wv : length v ≡ attributes) (wc : length c ≡ 8) (wf : length f ≡ frame_width) where
  abbrev head : List ℕ
  head = v ++ e ∷ c

  abbrev middle : List ℕ
  middle = 0 ∷ not_closed ∷ number_bytes 8 1

  abbrev rest : List ℕ
  rest = zeros (frame_width * (most - 1))

  -- the bytes of such a state
  abbrev pub state_bytes : List ℕ
  state_bytes = v ++ e ∷ (c ++ 0 ∷ not_closed ∷ (number_bytes 8 1 ++ (f ++ rest)))

  long_head : length head ≡ rooted_at
  long_head = omega (arith, length-append v (e ∷ c), wv, wc)

  long_middle : length (head ++ middle) ≡ head_width
  long_middle = omega (arith, length-append head middle, long_head, number_wide 8 1)

  split : state_bytes ≡ head ++ (middle ++ (f ++ rest))
  split = sym (append_assoc v (e ∷ c) (middle ++ (f ++ rest)))

  first_part : take rooted_at state_bytes ≡ head
  first_part = ap (take rooted_at) split ∙ take_both head (middle ++ (f ++ rest)) rooted_at long_head

  frame_part : take frame_width (drop head_width state_bytes) ≡ f
  frame_part =
      ap (λ (l : List ℕ). take frame_width (drop head_width l)) (split ∙ sym (append_assoc head middle (f ++ rest)))
      ∙ ap (take frame_width) (drop_both (head ++ middle) (f ++ rest) head_width long_middle) ∙ take_both f rest frame_width wf

  -- put together again
  pub put_together : (ret : List ℕ) → ret ≡ take rooted_at state_bytes ++ take frame_width (drop head_width state_bytes) →
      take rooted_at ret ++ 0 ∷ not_closed ∷ (number_bytes 8 1 ++ (take frame_width (drop rooted_at ret) ++ zeros (frame_width * (most - 1)))) ≡ state_bytes
  put_together ret h =
      let r : ret ≡ head ++ f = h ∙ ap₂ (λ (x y : List ℕ). x ++ y) first_part frame_part in
      let a : take rooted_at ret ≡ head = ap (take rooted_at) r ∙ take_both head f rooted_at long_head in
      let b : take frame_width (drop rooted_at ret) ≡ f =
      ap (λ (l : List ℕ). take frame_width (drop rooted_at l)) r ∙ ap (take frame_width) (drop_both head f rooted_at long_head)
      ∙ ap (take frame_width) (sym (append-nil f)) ∙ take_both f [] frame_width wf in
      ap₂ (λ (x y : List ℕ). x ++ 0 ∷ not_closed ∷ (number_bytes 8 1 ++ (y ++ rest))) a b ∙ sym split
