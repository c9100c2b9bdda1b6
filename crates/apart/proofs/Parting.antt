-- Laws of a state's bytes, of which the frames are the stack of a run: the live part that is read with them is the state (`read_whole`), and what is written
-- back is the bytes of the state that the live part and the stack are (`all_put`).
-- Assumes nothing.
use mathlib.Core.Path.{◌≡◌, refl, sym, ap, ap₂, ◌∙◌, subst}
use mathlib.Core.Bool.{Bool, true, false, not, cond}
use mathlib.Core.List.{List, [], ◌∷◌, ◌++◌, map, append_assoc, append-nil}
use Prim.Native.Nat.{ℕ, zero, suc, ◌+◌, ◌-◌, ◌*◌, ◌^◌, ◌≤◌, ◌<◌}
use native.Mathlib.Nat.{mul-suc}
use native.Mathlib.Omega.{arith}
use lib.Dec.{eqb}
use lib.ListN.{length, take, drop, get_or, set, replicate, length-append, length-map, length-replicate, replicate-append-replicate, drop_of_length-le}
use lib.Seq.{get_or-set_other, take-append_seam, drop-append_seam, length-take-le}
use Rattle.lent.specs.Put.{put}
use Rattle.lent.proofs.Laws.{put_append, put_all, put_length}
use Rattle.runs.specs.Visits.{attributes}
use Rattle.runs.specs.Machine.{most}
use Rattle.layout.specs.Layout.{byte_at}
use Rattle.state.specs.declared.Frame.{Frame}
use Rattle.state.specs.declared.Heading.{Heading}
use Rattle.state.specs.declared.State.{State}
use Rattle.state.specs.Bounds.{most_sets, set_width, frame_width, head_width, state_width}
use Rattle.state.specs.Bytes.{gathered, saved_at, frame_at, used_at, saved_bytes, each_bytes, frame_bytes, heading_bytes, bytes_of, heading_from, state_from, Wrote, SizedFrame, Sized}
use Rattle.state.specs.Changes.{bare_saved, bare_frame, bare_from, tidy_frame, tidied}
use Rattle.state.specs.Meaning.{Every, none, more, Shaped}
use Rattle.state.proofs.Gathered.{length_gathered, take_gathered, get_D_gathered}
use Rattle.state.proofs.Tidy.{bare_is, bare_twice, all_alike, bare_sized, tidy_sized}
use Rattle.state.proofs.Widths.{frame_read, all_read}
use Rattle.state.proofs.Written.{wrote_none, wrote_then, wrote_more, joined_snoc, heading_first}
use Rattle.live.specs.declared.Live.{Live}
use Rattle.live.specs.Live.{stack_at, full}
use Rattle.live.proofs.Stacks.{gathered_snoc}
use Rattle.apart.specs.Apart.{innermost_in, frames_in_use}

-- what lies at j in b lies at k + j in b', from m on
module _ (k m : ℕ) (b b' : List ℕ) (A : (j : ℕ) → m ≤ j → byte_at b j ≡ byte_at b' (k + j)) where
  moved_each : {X : Type 0} (f g : ℕ → X) (w at n : ℕ) → m ≤ at → ((j : ℕ) → m ≤ j → f j ≡ g (k + j)) → gathered f w at n ≡ gathered g w (k + at) n
  unfolding gathered
  moved_each f g w at zero h B = refl
  moved_each {X} f g w at (suc n) h B =
      let e : k + (at + w) ≡ k + at + w = omega arith in
      ap₂ (λ (x : X) (l : List X). x ∷ l) (B at h) (moved_each f g w (at + w) n (omega arith) B ∙ ap (λ (i : ℕ). gathered g w i n) e)

  moved_set : (at : ℕ) → m ≤ at → saved_at b at ≡ saved_at b' (k + at)
  unfolding saved_at
  moved_set at h =
      let e : k + (at + attributes) ≡ k + at + attributes = omega arith in
      ap₂ (λ (v : List ℕ) (o : ℕ). record { values = v; echo = not (eqb o 0) }) (moved_each (byte_at b) (byte_at b') 1 at attributes h A)
      (A (at + attributes) (omega arith) ∙ ap (byte_at b') e)

  moved_frame : (at : ℕ) → m ≤ at → frame_at b at ≡ frame_at b' (k + at)
  unfolding frame_at
  moved_frame at h =
      let e₁ : k + (at + 1) ≡ k + at + 1 = omega arith in
      let e₂ : k + (at + 2) ≡ k + at + 2 = omega arith in
      let e₃ : k + (at + 3) ≡ k + at + 3 = omega arith in
      rw (
        A at h,
        A (at + 1) (omega arith) ∙ ap (byte_at b') e₁,
        A (at + 2) (omega arith) ∙ ap (byte_at b') e₂,
        moved_each (saved_at b) (saved_at b') set_width (at + 3) most_sets (omega arith) moved_set ∙ ap (λ (i : ℕ). gathered (saved_at b') set_width i most_sets) e₃,
      )

  moved_stack : (at n : ℕ) → m ≤ at → gathered (used_at b) frame_width at n ≡ gathered (used_at b') frame_width (k + at) n
  moved_stack at n h = moved_each (used_at b) (used_at b') frame_width at n h (λ j i. ap tidy_frame (moved_frame j i))

byte_drop : (k : ℕ) (b : List ℕ) (j : ℕ) → byte_at (drop k b) j ≡ byte_at b (k + j)
byte_drop zero b j = let e : j ≡ 0 + j = omega arith in ap (byte_at b) e
byte_drop (suc k) [] j = refl
byte_drop (suc k) (x ∷ b) j = let e : suc (k + j) ≡ suc k + j = omega arith in byte_drop k b j ∙ ap (byte_at (x ∷ b)) e

-- the frames where they lie, as the stack
stack_there : (b : List ℕ) (n : ℕ) → gathered (used_at (drop head_width b)) frame_width 0 n ≡ gathered (used_at b) frame_width head_width n
stack_there b n =
    let e : head_width + 0 ≡ head_width = omega arith in
    moved_stack head_width 0 (drop head_width b) b (λ j h. byte_drop head_width b j) 0 n (omega arith) ∙ ap (λ (i : ℕ). gathered (used_at b) frame_width i n) e

-- a frame that lies past what was written
past_put : (d : List ℕ) (at : ℕ) (xs : List ℕ) (j : ℕ) → at + length xs ≤ j → byte_at (put true d at xs) j ≡ byte_at d j
unfolding put
past_put d at [] j h = refl
past_put d at (x ∷ xs) j h = past_put (set d at x) (suc at) xs j (omega arith) ∙ get_or-set_other d at j x 0 (λ e. omega arith)

pub used_past : (b d : List ℕ) (at : ℕ) (xs : List ℕ) (next : ℕ) → b ≡ put true d at xs → at + length xs ≤ next → used_at b next ≡ used_at d next
used_past b d at xs next e h =
    let z : 0 + next ≡ next = omega arith in
    let A : (j : ℕ) → next ≤ j → byte_at b j ≡ byte_at d (0 + j) =
    λ j i. (let y : j ≡ 0 + j = omega arith in ap (λ (l : List ℕ). byte_at l j) e ∙ past_put d at xs j (omega arith) ∙ ap (byte_at d) y) in
    ap tidy_frame (moved_frame 0 next b d A next (omega arith)) ∙ ap (used_at d) z

-- frames read one after another, each changed
map_gathered : (f : Frame → Frame) (g : ℕ → Frame) (w at n : ℕ) → map f (gathered g w at n) ≡ gathered (λ (i : ℕ). f (g i)) w at n
unfolding gathered
map_gathered f g w at zero = refl
map_gathered f g w at (suc n) = ap (λ (l : List Frame). f (g at) ∷ l) (map_gathered f g w (at + w) n)

-- the live part and the stack are the state that the bytes are
stack_read : (b : List ℕ) (d : ℕ) → stack_at 0 d (innermost_in d b) (drop head_width b) ≡ gathered (used_at b) frame_width head_width d ++ replicate (most - d) bare_frame
unfolding gathered
stack_read b zero = refl
stack_read b (suc n) =
    let f : Frame = used_at b (head_width + frame_width * n) in
    let ys : List Frame = replicate (most - suc n) bare_frame in
    ap (λ (l : List Frame). l ++ f ∷ ys) (stack_there b n) ∙ sym (append_assoc (gathered (used_at b) frame_width head_width n) (f ∷ []) ys)
    ∙ ap (λ (l : List Frame). l ++ ys) (sym (gathered_snoc (used_at b) frame_width head_width n))

read_whole : (d : ℕ) (b : List ℕ) → d ≤ most →
    stack_at 0 d (innermost_in d b) (drop head_width b) ≡ bare_from bare_frame d (map tidy_frame (gathered (frame_at b) frame_width head_width most))
read_whole d b h =
    let g : List Frame = gathered (used_at b) frame_width head_width most in
    let e : map tidy_frame (gathered (frame_at b) frame_width head_width most) ≡ g = map_gathered tidy_frame (frame_at b) frame_width head_width most in
    let m : length g - d ≡ most - d = omega (arith, length_gathered (used_at b) frame_width head_width most) in
    let r : bare_from bare_frame d g ≡ gathered (used_at b) frame_width head_width d ++ replicate (most - d) bare_frame =
    bare_is bare_frame d g ∙ ap₂ (λ (l : List Frame) (n : ℕ). l ++ replicate n bare_frame) (take_gathered (used_at b) frame_width head_width d most h) m in
    stack_read b d ∙ sym (ap (bare_from bare_frame d) e ∙ r)

pub innermost_is : (d : ℕ) (b : List ℕ) → (d ≡ 0 → ⊥) → used_at b (head_width + frame_width * (d - 1)) ≡ innermost_in d b
innermost_is zero b h = absurd (h refl)
innermost_is (suc n) b h = let e : suc n - 1 ≡ n = omega arith in rw e

pub deep_in : (b : List ℕ) → Shaped (state_from b) → (heading_from b).depth ≤ most
unfolding state_from
deep_in b s = s.deep

pub read_live : (b : List ℕ) (h : Heading) (rooted : Bool) (top : Frame) → h ≡ heading_from b → h.depth ≤ most → rooted ≡ cond (eqb h.depth 0) h.rooted false → top ≡ innermost_in h.depth b →
    full (record { values = h.values; echo = h.echo; count = h.count; rooted = rooted; closed = h.closed; depth = h.depth; top = top }) (drop head_width b) ≡ tidied (state_from b)
unfolding state_from
read_live b h rooted top e d r t =
    ap₂ (λ (x : Bool) (l : List Frame). record { values = h.values; echo = h.echo; count = h.count; rooted = x; closed = h.closed; depth = h.depth; frames = l }) r
    (ap (λ (f : Frame). stack_at 0 h.depth f (drop head_width b)) t ∙ read_whole h.depth b d)
    ∙ ap (λ (g : Heading). record {
      values = g.values;
      echo = g.echo;
      count = g.count;
      rooted = cond (eqb g.depth 0) g.rooted false;
      closed = g.closed;
      depth = g.depth;
      frames = bare_from bare_frame g.depth (map tidy_frame (gathered (frame_at b) frame_width head_width most));
    }) e

-- one more of the frames around the innermost element, and that one
module _ {b b₁ b₂ : List ℕ} {next r : ℕ} where
  pub tidy_more : (n i : ℕ) (f : Frame) → i < n → f ≡ used_at b₁ next → Wrote (frame_width * i) b head_width (each_bytes frame_bytes (take i (gathered (used_at b) frame_width head_width n))) b₁ next →
      Wrote frame_width b₁ next (frame_bytes f) b₂ r → Wrote (frame_width * (i + 1)) b head_width (each_bytes frame_bytes (take (i + 1) (gathered (used_at b) frame_width head_width n))) b₂ r
  tidy_more n i f h e p q =
      let l : List Frame = gathered (used_at b) frame_width head_width n in
      let g : f ≡ get_or l i bare_frame =
      e ∙ used_past b₁ b head_width (each_bytes frame_bytes (take i l)) next p.left (omega (arith, p.wide, p.next)) ∙ ap (used_at b) p.next
      ∙ sym (get_D_gathered (used_at b) frame_width head_width n i bare_frame h) in
      wrote_more frame_bytes frame_width l i bare_frame (omega (arith, length_gathered (used_at b) frame_width head_width n)) p (subst (λ (x : Frame). Wrote frame_width b₁ next (frame_bytes x) b₂ r) g q)

  pub in_use_more : (d : ℕ) (f g : Frame) → (d ≡ 0 → ⊥) → g ≡ tidy_frame f → Wrote (frame_width * (d - 1)) b head_width (each_bytes frame_bytes (gathered (used_at b) frame_width head_width (d - 1))) b₁ next →
      Wrote frame_width b₁ next (frame_bytes g) b₂ r → Wrote (frame_width * d) b head_width (each_bytes frame_bytes (frames_in_use d f b)) b₂ r
  in_use_more zero f g h e p q = absurd (h refl)
  in_use_more (suc n) f g h e p q =
      let s : suc n - 1 ≡ n = omega arith in
      let p' : Wrote (frame_width * n) b head_width (each_bytes frame_bytes (gathered (used_at b) frame_width head_width n)) b₁ next =
      subst (λ (k : ℕ). Wrote (frame_width * k) b head_width (each_bytes frame_bytes (gathered (used_at b) frame_width head_width k)) b₁ next) s p in
      let q' : Wrote frame_width b₁ next (frame_bytes (tidy_frame f)) b₂ r = subst (λ (x : Frame). Wrote frame_width b₁ next (frame_bytes x) b₂ r) e q in
      rw (joined_snoc frame_bytes (gathered (used_at b) frame_width head_width n) (tidy_frame f), mul-suc) (wrote_then p' q')

pub in_use_none : (d : ℕ) (f : Frame) (b : List ℕ) → d ≡ 0 → Wrote (frame_width * d) b head_width (each_bytes frame_bytes (frames_in_use d f b)) b head_width
unfolding each_bytes
in_use_none d f b e = subst (λ (k : ℕ). Wrote (frame_width * k) b head_width (each_bytes frame_bytes (frames_in_use k f b)) b head_width) (sym e) (wrote_none b head_width)

-- frames as they are read are tidy
tidy_gathered : (b : List ℕ) (at n : ℕ) → map tidy_frame (gathered (used_at b) frame_width at n) ≡ gathered (used_at b) frame_width at n
unfolding gathered
tidy_gathered b at zero = refl
tidy_gathered b at (suc n) =
    let f : Frame = frame_at b at in
    let e : tidy_frame (tidy_frame f) ≡ tidy_frame f = rw (bare_twice bare_saved f.«open» f.saved) in
    ap₂ (λ (x : Frame) (l : List Frame). x ∷ l) e (tidy_gathered b (at + frame_width) n)

map_append : (f : Frame → Frame) (xs ys : List Frame) → map f (xs ++ ys) ≡ map f xs ++ map f ys
map_append f [] ys = refl
map_append f (x ∷ xs) ys = ap (λ (l : List Frame). f x ∷ l) (map_append f xs ys)

bare_past : (xs ys : List Frame) → bare_from bare_frame (length xs) (xs ++ ys) ≡ xs ++ replicate (length ys) bare_frame
bare_past xs ys =
    let n : length (xs ++ ys) - length xs ≡ length ys = omega (arith, length-append xs ys) in
    bare_is bare_frame (length xs) (xs ++ ys) ∙ ap₂ (λ (l : List Frame) (m : ℕ). l ++ replicate m bare_frame) (take-append_seam xs ys) n

-- the frames of the state that is handed back: those in use, and bare ones
tidied_frames : (d : ℕ) (f : Frame) (b : List ℕ) → bare_from bare_frame d (map tidy_frame (stack_at 0 d f (drop head_width b))) ≡ frames_in_use d f b ++ replicate (most - d) bare_frame
tidied_frames zero f b =
    let ys : List Frame = replicate most bare_frame in
    let e : most ≡ most - 0 = omega arith in
    bare_past [] (map tidy_frame ys) ∙ ap (λ (m : ℕ). replicate m bare_frame) (length-map ys tidy_frame ∙ length-replicate most bare_frame ∙ e)
tidied_frames (suc n) f b =
    let xs : List Frame = gathered (used_at (drop head_width b)) frame_width 0 n in
    let ys : List Frame = replicate (most - suc n) bare_frame in
    let l : length (xs ++ tidy_frame f ∷ []) ≡ suc n = length-append xs (tidy_frame f ∷ []) ∙ omega (arith, length_gathered (used_at (drop head_width b)) frame_width 0 n) in
    let m : map tidy_frame (stack_at 0 (suc n) f (drop head_width b)) ≡ (xs ++ tidy_frame f ∷ []) ++ map tidy_frame ys =
    map_append tidy_frame xs (f ∷ ys) ∙ ap (λ (z : List Frame). z ++ tidy_frame f ∷ map tidy_frame ys) (tidy_gathered (drop head_width b) 0 n)
    ∙ sym (append_assoc xs (tidy_frame f ∷ []) (map tidy_frame ys)) in
    ap₂ (λ (k : ℕ) (z : List Frame). bare_from bare_frame k z) (sym l) m ∙ bare_past (xs ++ tidy_frame f ∷ []) (map tidy_frame ys)
    ∙ ap (λ (k : ℕ). (xs ++ tidy_frame f ∷ []) ++ replicate k bare_frame) (length-map ys tidy_frame ∙ length-replicate (most - suc n) bare_frame)
    ∙ ap (λ (z : List Frame). (z ++ tidy_frame f ∷ []) ++ ys) (stack_there b n)

-- as bytes: frames not in use are zeros
each_append : (xs ys : List Frame) → each_bytes frame_bytes (xs ++ ys) ≡ each_bytes frame_bytes xs ++ each_bytes frame_bytes ys
unfolding each_bytes
each_append [] ys = refl
each_append (x ∷ xs) ys =
    ap (λ (l : List ℕ). frame_bytes x ++ l) (each_append xs ys) ∙ sym (append_assoc (frame_bytes x) (each_bytes frame_bytes xs) (each_bytes frame_bytes ys))

bare_bytes : frame_bytes bare_frame ≡ replicate frame_width 0
unfolding frame_bytes each_bytes saved_bytes bare_frame
bare_bytes = refl

bare_frames : (n : ℕ) → each_bytes frame_bytes (replicate n bare_frame) ≡ replicate (frame_width * n) 0
unfolding each_bytes
bare_frames zero = refl
bare_frames (suc n) =
    let e : frame_width + frame_width * n ≡ frame_width * suc n = omega arith in
    ap₂ ◌++◌ bare_bytes (bare_frames n) ∙ replicate-append-replicate frame_width (frame_width * n) 0 ∙ ap (λ (k : ℕ). replicate k 0) e

-- one more byte cleared, and none left
pub clear_more : (d m : List ℕ) (i : ℕ) → i < length d → put true (set m i 0) (i + 1) (replicate (length d - (i + 1)) 0) ≡ put true m i (replicate (length d - i) 0)
unfolding put
clear_more d m i h =
    let e : length d - i ≡ suc (length d - (i + 1)) = omega arith in
    let s : i + 1 ≡ suc i = omega arith in
    rw (e, s)

pub clear_none : (d m : List ℕ) (i : ℕ) → length d ≤ i → put true m i (replicate (length d - i) 0) ≡ m
unfolding put
clear_none d m i h = let e : length d - i ≡ 0 = omega arith in rw e

-- frames, zeros and the head written over all of a state's bytes
written_over : (b xs head : List ℕ) (used : ℕ) → length b ≡ state_width → length head ≡ head_width → used ≡ head_width + length xs → used ≤ state_width →
    put true (put true (put true b head_width xs) used (replicate (length (put true b head_width xs) - used) 0)) 0 head ≡ head ++ (xs ++ replicate (state_width - used) 0)
written_over b xs head used l k u h =
    let m : List ℕ = put true b head_width xs in
    let zs : List ℕ = replicate (state_width - used) 0 in
    let lm : length m - used ≡ state_width - used = omega (arith, put_length true b head_width xs) in
    let all : length (xs ++ zs) ≡ state_width - head_width = length-append xs zs ∙ omega (arith, length-replicate {A = ℕ} (state_width - used) 0) in
    let past : drop (head_width + length (xs ++ zs)) b ≡ [] = drop_of_length-le b {i = head_width + length (xs ++ zs)} (omega arith) in
    let e : put true m used (replicate (length m - used) 0) ≡ take head_width b ++ (xs ++ zs) =
    ap₂ (λ (i n : ℕ). put true m i (replicate n 0)) u lm ∙ put_append true b head_width xs zs ∙ put_all b head_width (xs ++ zs) (omega arith)
    ∙ ap (λ (r : List ℕ). (take head_width b ++ (xs ++ zs)) ++ r) past ∙ append-nil (take head_width b ++ (xs ++ zs)) in
    let t : length (take head_width b) ≡ head_width = length-take-le head_width b (omega arith) in
    let w : List ℕ = take head_width b ++ (xs ++ zs) in
    let lw : length w ≡ state_width = length-append (take head_width b) (xs ++ zs) ∙ omega arith in
    let z : 0 + length head ≡ length (take head_width b) = omega arith in
    ap (λ (r : List ℕ). put true r 0 head) e ∙ put_all w 0 head (omega arith) ∙ ap (λ (i : ℕ). head ++ drop i w) z ∙ ap (λ (r : List ℕ). head ++ r) (drop-append_seam (take head_width b) (xs ++ zs))

every_append : {P : Frame → Type 0} {xs ys : List Frame} → Every P xs → Every P ys → Every P (xs ++ ys)
every_append none b = b
every_append (more p a) b = more p (every_append a b)

module _ (h : Live) (b : List ℕ) (deep : h.depth ≤ most) where
  abbrev pub left : State
  left = tidied (full h (drop head_width b))

  abbrev headed : Bool → Heading
  headed x = record { values = h.values; echo = h.echo; count = h.count; rooted = x; closed = h.closed; depth = h.depth }

  pub all_put : {b₁ b₂ b₃ : List ℕ} {used r : ℕ} (x : Bool) → length b ≡ state_width → x ≡ cond (eqb h.depth 0) h.rooted false →
      Wrote (frame_width * h.depth) b head_width (each_bytes frame_bytes (frames_in_use h.depth h.top b)) b₁ used → b₂ ≡ put true b₁ used (replicate (length b₁ - used) 0) →
      Wrote head_width b₂ 0 (heading_bytes (headed x)) b₃ r → b₃ ≡ bytes_of left
  all_put {used = used} x l e p c q =
      let xs : List ℕ = each_bytes frame_bytes (frames_in_use h.depth h.top b) in
      let u : used ≡ head_width + length xs = omega (arith, p.next, p.wide) in
      let n : state_width - used ≡ frame_width * (most - h.depth) = omega (arith, p.next, deep) in
      let k : used ≤ state_width = omega (arith, p.next, deep) in
      let fs : each_bytes frame_bytes left.frames ≡ xs ++ replicate (state_width - used) 0 =
      ap (each_bytes frame_bytes) (tidied_frames h.depth h.top b) ∙ each_append (frames_in_use h.depth h.top b) (replicate (most - h.depth) bare_frame)
      ∙ ap (λ (ys : List ℕ). xs ++ ys) (bare_frames (most - h.depth) ∙ ap (λ (i : ℕ). replicate i 0) (sym n)) in
      q.left
      ∙ ap (λ (m : List ℕ). put true m 0 (heading_bytes (headed x))) (c ∙ ap (λ (m : List ℕ). put true m used (replicate (length m - used) 0)) p.left)
      ∙ written_over b xs (heading_bytes (headed x)) used l q.wide u k
      ∙ ap₂ (λ (y : Bool) (ys : List ℕ). heading_bytes (headed y) ++ ys) e (sym fs)
      ∙ heading_first left

  in_use_sized : (d : ℕ) → SizedFrame h.top → Every SizedFrame (frames_in_use d h.top b)
  in_use_sized zero s = none
  in_use_sized (suc n) s =
      every_append (all_read SizedFrame (used_at b) frame_width (λ at. tidy_sized (frame_at b at) (frame_read b at)) head_width n) (more (tidy_sized h.top s) none)

  in_use_long : (d : ℕ) → length (frames_in_use d h.top b) ≡ d
  in_use_long zero = refl
  in_use_long (suc n) =
      length-append (gathered (used_at b) frame_width head_width n) (tidy_frame h.top ∷ []) ∙ omega (arith, length_gathered (used_at b) frame_width head_width n)

  pub left_sized : length h.values ≡ attributes → h.count < 2 ^ 64 → SizedFrame h.top → Sized left
  left_sized v c s =
      let ys : List Frame = replicate (most - h.depth) bare_frame in
      record {
        values = v;
        count = c;
        depth = omega arith;
        frames =
            ap length (tidied_frames h.depth h.top b) ∙ length-append (frames_in_use h.depth h.top b) ys
            ∙ omega (arith, in_use_long h.depth, length-replicate (most - h.depth) bare_frame);
        each =
            subst (Every SizedFrame) (sym (tidied_frames h.depth h.top b))
            (every_append (in_use_sized h.depth s) (all_alike (most - h.depth) bare_frame bare_sized));
      }
