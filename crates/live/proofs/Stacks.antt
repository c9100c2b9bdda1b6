-- Laws of the lent stack: what a push writes and a pop reads, and that a state reads nothing past the elements around its innermost one.
-- Assumes nothing.
use mathlib.Core.Path.{◌≡◌, refl, sym, ap, ap₂, ◌∙◌, subst}
use mathlib.Core.Bool.{Bool, true, false, cond}
use mathlib.Core.List.{List, [], ◌∷◌, ◌++◌, append_assoc, reverse}
use Prim.Native.Nat.{ℕ, zero, suc, ◌+◌, ◌-◌, ◌*◌, ◌≤◌, ◌<◌}
use native.Mathlib.Nat.{mul-suc, mul-zero}
use native.Mathlib.Numerals.{add-one, sub-one}
use native.Mathlib.Omega.{arith}
use lib.Dec.{eqb}
use lib.ListN.{length, take, drop, set, take-append-drop, get_or, replicate, length-append, length-take, length-replicate}
use lib.Seq.{take-append_seam, length-take-le, set-append_seam, set_at, get_or-append_seam}
use borrow.Author.Tests.{lt-ltb, le-ltb, eq-eqb, ne_eqb}
use Rattle.lent.specs.Put.{put}
use Rattle.lent.proofs.Laws.{put_all, put_length}
use Rattle.state.specs.declared.Saved.{Saved}
use Rattle.state.specs.declared.Frame.{Frame}
use Rattle.state.specs.declared.State.{State}
use Rattle.runs.specs.Visits.{attributes}
use Rattle.runs.specs.Machine.{inside, most, Configuration as Run}
use Rattle.state.specs.Bounds.{most_sets, set_width, frame_width, stack_width}
use Rattle.layout.specs.Layout.{byte_at}
use Rattle.state.specs.Bytes.{bytes_at, gathered, saved_at, frame_at, used_at, used_bytes, SizedFrame}
use Rattle.state.specs.Changes.{bare_saved, bare_frame, last_of, put_last, keeping, last_set, without_last, at_place, pushed, popped, top_of, saving, restored, placed, tidy_frame}
use Rattle.state.specs.Meaning.{sets_of, open_of, opens_of, Every, Fits, meaning_of, Shaped}
use Rattle.state.proofs.Gathered.{length_gathered}
use Rattle.state.proofs.Back.{used_back, used_wide}
use Rattle.state.proofs.Laws.{take_last, all_front}
use Rattle.state.proofs.Meant.{meaning_put_on, shaped_pushed}
use Rattle.state.proofs.Tidy.{tidy_top, meaning_tidy_top, shaped_tidy_top}
use Rattle.live.specs.declared.Live.{Live}
use Rattle.live.specs.declared.Restored.{Restored}
use Rattle.live.specs.Live.{stack_at, full_at, full, SameBelowAt, SameBelow, top_in, kept_in, placed_in, RestoredIn, pushed_bytes, PushedAs, popped_in, PoppedAs}

pub gathered_snoc : {X : Type 0} (f : ℕ → X) (w at n : ℕ) → gathered f w at (suc n) ≡ gathered f w at n ++ f (at + w * n) ∷ []
unfolding gathered
gathered_snoc f w at zero = rw mul-zero (let e : at + 0 ≡ at = omega arith in rw e)
gathered_snoc {X = X} f w at (suc n) =
    let e : at + w + w * n ≡ at + w * suc n = rw mul-suc (omega arith) in
    ap (λ (l : List X). f at ∷ l) (gathered_snoc f w (at + w) n ∙ ap (λ (j : ℕ). gathered f w (at + w) n ++ f j ∷ []) e)

-- two readings that agree below m
agree_gathered : {X : Type 0} (f g : ℕ → X) (w m at n : ℕ) → at + w * n ≤ m → ((j : ℕ) → j + w ≤ m → f j ≡ g j) → gathered f w at n ≡ gathered g w at n
unfolding gathered
agree_gathered f g w m at zero h A = refl
agree_gathered {X = X} f g w m at (suc n) h A =
    let k : at + (w * n + w) ≤ m = rw mul-suc at h in
    ap₂ (λ (x : X) (l : List X). x ∷ l) (A at (omega arith)) (agree_gathered f g w m (at + w) n (omega arith) A)

abbrev pub Agree : ℕ → List ℕ → List ℕ → Type 0
Agree m b b' = (i : ℕ) → i < m → byte_at b i ≡ byte_at b' i

module _ (m : ℕ) (b b' : List ℕ) (A : Agree m b b') where
  agree_bytes : (at n : ℕ) → at + n ≤ m → bytes_at b at n ≡ bytes_at b' at n
  agree_bytes at n h = agree_gathered (byte_at b) (byte_at b') 1 m at n (omega arith) (λ j k. A j (omega arith))

  agree_saved : (at : ℕ) → at + set_width ≤ m → saved_at b at ≡ saved_at b' at
  unfolding saved_at
  agree_saved at h = rw (agree_bytes at attributes (omega arith), A (at + attributes) (omega arith))

  agree_frame : (at : ℕ) → at + frame_width ≤ m → frame_at b at ≡ frame_at b' at
  unfolding frame_at
  agree_frame at h =
      rw (
        A at (omega arith),
        A (at + 1) (omega arith),
        A (at + 2) (omega arith),
        agree_gathered (saved_at b) (saved_at b') set_width m (at + 3) most_sets (omega arith) (λ j k. agree_saved j k),
      )

  agree_stack : (base n : ℕ) → base + frame_width * n ≤ m → gathered (used_at b) frame_width base n ≡ gathered (used_at b') frame_width base n
  agree_stack base n h = agree_gathered (used_at b) (used_at b') frame_width m base n h (λ j k. ap tidy_frame (agree_frame j k))

front_same : (xs ys zs : List ℕ) (i : ℕ) → i < length xs → byte_at (xs ++ ys) i ≡ byte_at (xs ++ zs) i
front_same [] ys zs i h = absurd (omega arith)
front_same (x ∷ xs) ys zs zero h = refl
front_same (x ∷ xs) ys zs (suc i) h = front_same xs ys zs i (omega arith)

-- a frame that is written: what lies before it is as it was, and it reads back
module _ (b b' : List ℕ) (at : ℕ) (f : Frame) (sized : SizedFrame f) (room : at + frame_width ≤ length b) (w : b' ≡ put true b at (used_bytes f)) where
  abbrev past : List ℕ
  past = drop (at + length (used_bytes f)) b

  long_before : length (take at b) ≡ at
  long_before = length-take-le at b (omega arith)

  written_is : b' ≡ take at b ++ (used_bytes f ++ past)
  written_is = w ∙ put_all b at (used_bytes f) (omega (arith, used_wide f sized)) ∙ append_assoc (take at b) (used_bytes f) past

  agree_before : Agree at b' b
  agree_before i h =
      ap (λ (l : List ℕ). byte_at l i) written_is ∙ front_same (take at b) (used_bytes f ++ past) (drop at b) i (omega (arith, long_before))
      ∙ ap (λ (l : List ℕ). byte_at l i) (take-append-drop at b)

  reads_back : used_at b' at ≡ tidy_frame f
  reads_back = ap (λ (l : List ℕ). used_at l at) written_is ∙ used_back f sized (take at b) past at long_before

with_frames : (h : Live) (l m : List Frame) → l ≡ m →
    ◌≡◌ {A = State} (record { values = h.values; echo = h.echo; count = h.count; rooted = h.rooted; closed = h.closed; depth = h.depth; frames = l })
    (record { values = h.values; echo = h.echo; count = h.count; rooted = h.rooted; closed = h.closed; depth = h.depth; frames = m })
with_frames h l m e = ap (λ (x : List Frame). record { values = h.values; echo = h.echo; count = h.count; rooted = h.rooted; closed = h.closed; depth = h.depth; frames = x }) e

more_than_one : (n : ℕ) → (n ≡ 0 → ⊥) → (n ≡ 1 → ⊥) → 1 < n
more_than_one zero p q = absurd (p refl)
more_than_one (suc zero) p q = absurd (q refl)
more_than_one (suc (suc n)) p q = omega arith

module _ (base : ℕ) where
  -- as many frames as a stack has
  pub stack_long : (d : ℕ) (f : Frame) (b : List ℕ) → d ≤ most → length (stack_at base d f b) ≡ most
  stack_long zero f b h = length-replicate most bare_frame
  stack_long (suc n) f b h =
      length-append (gathered (used_at b) frame_width base n) (f ∷ replicate (most - suc n) bare_frame)
      ∙ omega (arith, length_gathered (used_at b) frame_width base n, length-replicate (most - suc n) bare_frame)

  -- the frames below the innermost one, with one more
  stack_push : (n : ℕ) (top f : Frame) (b b' : List ℕ) → suc n < most → Agree (base + frame_width * n) b' b → used_at b' (base + frame_width * n) ≡ top →
      stack_at base (suc (suc n)) f b' ≡ set (stack_at base (suc n) top b) (suc n) f
  stack_push n top f b b' h A e =
      let xs : List Frame = gathered (used_at b) frame_width base n in
      let ys : List Frame = replicate (most - suc (suc n)) bare_frame in
      let same : gathered (used_at b') frame_width base (suc n) ≡ xs ++ top ∷ [] =
      gathered_snoc (used_at b') frame_width base n ∙ ap₂ (λ (l : List Frame) (x : Frame). l ++ x ∷ []) (agree_stack (base + frame_width * n) b' b A base n (omega arith)) e in
      let r : most - suc n ≡ suc (most - suc (suc n)) = omega arith in
      let l : length (xs ++ top ∷ []) ≡ suc n = length-append xs (top ∷ []) ∙ omega (arith, length_gathered (used_at b) frame_width base n) in
      rw (same, r) (sym (ap (λ (z : List Frame). set z (suc n) f) (sym (append_assoc xs (top ∷ []) (bare_frame ∷ ys))) ∙ set_at (xs ++ top ∷ []) bare_frame ys f (suc n) l))

  -- a state reads nothing past the elements around its innermost one
  stack_same : (d : ℕ) (f : Frame) (b b' : List ℕ) → Agree (base + frame_width * (d - 1)) b' b → stack_at base d f b' ≡ stack_at base d f b
  stack_same zero f b b' A = refl
  stack_same (suc n) f b b' A =
      let e : suc n - 1 ≡ n = omega arith in
      ap (λ (l : List Frame). l ++ f ∷ replicate (most - suc n) bare_frame) (agree_stack (base + frame_width * n) b' b (subst (λ (k : ℕ). Agree (base + frame_width * k) b' b) e A) base n (omega arith))

  full_same_at : (h : Live) (b b' : List ℕ) → SameBelowAt base h b b' → full_at base h b' ≡ full_at base h b
  full_same_at h b b' A = rw (stack_same h.depth h.top b b' A)

  stack_pushed : (d : ℕ) (top f : Frame) (b b' : List ℕ) → d < most → (0 < d → Agree (base + frame_width * (d - 1)) b' b) → (0 < d → used_at b' (base + frame_width * (d - 1)) ≡ top) → stack_at base (d + 1) f b' ≡ set (stack_at base d top b) d f
  unfolding gathered
  stack_pushed zero top f b b' h A e = refl
  stack_pushed (suc n) top f b b' h A e =
      let q : suc n - 1 ≡ n = omega arith in
      rw add-one
      (stack_push n top f b b' h (subst (λ (k : ℕ). Agree (base + frame_width * k) b' b) q (A (omega arith))) (subst (λ (k : ℕ). used_at b' (base + frame_width * k) ≡ top) q (e (omega arith))))

  -- changes of the innermost element
  stack_put : (d : ℕ) (f g : Frame) (b : List ℕ) → stack_at base d g b ≡ put_last (stack_at base d f b) d g
  stack_put zero f g b = refl
  stack_put (suc n) f g b =
      let xs : List Frame = gathered (used_at b) frame_width base n in
      let ys : List Frame = replicate (most - suc n) bare_frame in
      sym (ap (λ (k : ℕ). set (xs ++ f ∷ ys) k g) (sym (length_gathered (used_at b) frame_width base n)) ∙ set-append_seam xs f ys g)

  stack_top : (d : ℕ) (f : Frame) (b : List ℕ) → 0 < d → last_of bare_frame (stack_at base d f b) d ≡ f
  stack_top zero f b p = absurd (omega arith)
  stack_top (suc n) f b p =
      let xs : List Frame = gathered (used_at b) frame_width base n in
      let ys : List Frame = replicate (most - suc n) bare_frame in
      ap (λ (k : ℕ). get_or (xs ++ f ∷ ys) k bare_frame) (sym (length_gathered (used_at b) frame_width base n)) ∙ get_or-append_seam xs f ys bare_frame

  top_full_at : (h : Live) (b : List ℕ) → 0 < h.depth → top_of (full_at base h b) ≡ h.top
  top_full_at h b p = stack_top h.depth h.top b p

  -- of any depth: where no element is open neither side changes anything
  stack_changed : (c : Frame → Frame) (d : ℕ) (f : Frame) (b : List ℕ) → stack_at base d (c f) b ≡ put_last (stack_at base d f b) d (c (last_of bare_frame (stack_at base d f b) d))
  stack_changed c zero f b = refl
  stack_changed c (suc n) f b = stack_put (suc n) f (c f) b ∙ ap (λ (g : Frame). put_last (stack_at base (suc n) f b) (suc n) (c g)) (sym (stack_top (suc n) f b (omega arith)))

  -- the state is the one with the new element on top of the innermost one, tidied
  push_state : (h : Live) (f : Frame) (b b' : List ℕ) → h.depth < most → Agree (base + frame_width * (h.depth - 1)) b' b →
      (0 < h.depth → used_at b' (base + frame_width * (h.depth - 1)) ≡ tidy_frame h.top) → full_at base (top_in h h.rooted (h.depth + 1) f) b' ≡ (pushed (tidy_top (full_at base h b)) f).state
  unfolding pushed
  push_state h f b b' p A e =
      rw (lt-ltb h.depth most p)
      (with_frames (top_in h h.rooted (h.depth + 1) f) _ _
      (stack_pushed h.depth (tidy_frame h.top) f b b' p (λ q. A) e ∙ ap (λ (x : List Frame). set x h.depth f) (stack_changed tidy_frame h.depth h.top b)))

  push_means : (h : Live) (f : Frame) (b : List ℕ) (x : State) → h.depth < most → x ≡ (pushed (tidy_top (full_at base h b)) f).state → Shaped (full_at base h b) →
      meaning_of x ≡ meaning_of (pushed (full_at base h b) f).state
  push_means h f b x p e s =
      ap meaning_of e ∙ meaning_put_on (tidy_top (full_at base h b)) f (shaped_tidy_top (full_at base h b) s) p
      ∙ ap (λ (m : Run). record { control = inside (open_of f) (opens_of m.control); store = record { kept = sets_of f ∷ m.store.kept; env = m.store.env } })
      (meaning_tidy_top (full_at base h b) s)
      ∙ sym (meaning_put_on (full_at base h b) f s p)

  push_is : (h : Live) (f : Frame) (b b' : List ℕ) → h.depth < most → b' ≡ pushed_bytes base h b → Agree (base + frame_width * (h.depth - 1)) b' b →
      (0 < h.depth → used_at b' (base + frame_width * (h.depth - 1)) ≡ tidy_frame h.top) → length b' ≡ length b → PushedAs base h f b (top_in h h.rooted (h.depth + 1) f) b'
  push_is h f b b' p w A e l =
      let is = push_state h f b b' p A e in
      record {
        is = refl;
        bytes = w;
        means = push_means h f b _ p is;
        shaped = λ s g. subst Shaped (sym is) (shaped_pushed (tidy_top (full_at base h b)) f (shaped_tidy_top (full_at base h b) s) g);
        as_was = A;
        long = l;
      }

  pub push_first : (h : Live) (f : Frame) (b : List ℕ) → h.depth < most → h.depth ≡ 0 → PushedAs base h f b (top_in h h.rooted (h.depth + 1) f) b
  push_first h f b p z = push_is h f b b p (rw (eq-eqb h.depth 0 z)) (λ i q. refl) (λ q. absurd (omega arith)) refl

  pub push_next : (h : Live) (f : Frame) (b b' : List ℕ) → h.depth < most → (h.depth ≡ 0 → ⊥) → base + stack_width ≤ length b → SizedFrame h.top →
      b' ≡ put true b (base + frame_width * (h.depth - 1)) (used_bytes h.top) → PushedAs base h f b (top_in h h.rooted (h.depth + 1) f) b'
  push_next h f b b' p n l s w =
      let at : ℕ = base + frame_width * (h.depth - 1) in
      let room : at + frame_width ≤ length b = omega arith in
      push_is h f b b' p (rw (ne_eqb h.depth 0 n) w) (agree_before b b' at h.top s room w) (λ q. reads_back b b' at h.top s room w)
      (ap length w ∙ put_length true b at (used_bytes h.top))

  -- the elements after a pop
  take_popped : (n : ℕ) (top : Frame) (b : List ℕ) → take n (stack_at base (suc n) top b) ≡ gathered (used_at b) frame_width base n
  take_popped n top b =
      ap (λ (k : ℕ). take k (stack_at base (suc n) top b)) (sym (length_gathered (used_at b) frame_width base n)) ∙ take-append_seam (gathered (used_at b) frame_width base n) (top ∷ replicate (most - suc n) bare_frame)

  take_left : (n : ℕ) (b : List ℕ) → take (suc n) (stack_at base (suc n) (used_at b (base + frame_width * n)) b) ≡ gathered (used_at b) frame_width base (suc n)
  take_left n b =
      let xs : List Frame = gathered (used_at b) frame_width base n in
      let f : Frame = used_at b (base + frame_width * n) in
      let ys : List Frame = replicate (most - suc n) bare_frame in
      let l : length (xs ++ f ∷ []) ≡ suc n = length-append xs (f ∷ []) ∙ omega (arith, length_gathered (used_at b) frame_width base n) in
      ap₂ take (sym l) (sym (append_assoc xs (f ∷ []) ys)) ∙ take-append_seam (xs ++ f ∷ []) ys ∙ sym (gathered_snoc (used_at b) frame_width base n)

  -- the frame that a pop reads
  abbrev pub left_top : Live → List ℕ → Frame
  left_top h b = used_at b (base + frame_width * (h.depth - 2))

  same_elements : (d : ℕ) (top left : Frame) (b : List ℕ) → 0 < d → (1 < d → left ≡ used_at b (base + frame_width * (d - 2))) → take (d - 1) (stack_at base (d - 1) left b) ≡ take (d - 1) (stack_at base d top b)
  same_elements zero top left b p e = absurd (omega arith)
  same_elements (suc zero) top left b p e = refl
  same_elements (suc (suc n)) top left b p e =
      let q : suc (suc n) - 1 ≡ suc n = omega arith in
      let q' : suc (suc n) - 2 ≡ n = omega arith in
      let x : left ≡ used_at b (base + frame_width * n) = e (omega arith) ∙ ap (λ (k : ℕ). used_at b (base + frame_width * k)) q' in
      rw (q, x) (take_left n b ∙ sym (take_popped (suc n) top b))

  pop_top : (h : Live) (b : List ℕ) → 1 < h.depth → (popped_in base h b).top ≡ left_top h b
  pop_top h b q = rw (lt-ltb 1 h.depth q)

  left_same : (h : Live) (b : List ℕ) → 0 < h.depth →
      take (h.depth - 1) (stack_at base (h.depth - 1) (popped_in base h b).top b) ≡ take (h.depth - 1) (stack_at base h.depth h.top b)
  left_same h b p = same_elements h.depth h.top (popped_in base h b).top b p (pop_top h b)

  pop_means : (h : Live) (b : List ℕ) → 0 < h.depth → meaning_of (full_at base (popped_in base h b) b) ≡ meaning_of (popped (full_at base h b))
  unfolding popped meaning_of
  pop_means h b p = rw (ne_eqb h.depth 0 (λ x. omega arith), left_same h b p)

  pop_shaped : (h : Live) (b : List ℕ) → 0 < h.depth → Shaped (full_at base h b) → Shaped (full_at base (popped_in base h b) b)
  pop_shaped h b p s =
      let l : List Frame = stack_at base h.depth h.top b in
      let fits : Every Fits (take (h.depth - 1) l) =
      all_front (take (h.depth - 1) l) (last_of bare_frame l h.depth) (subst (Every Fits) (take_last bare_frame l h.depth p (omega (arith, s.deep, s.frames))) s.fits) in
      record {
        deep = omega (arith, s.deep);
        frames = stack_long (h.depth - 1) (popped_in base h b).top b (omega (arith, s.deep));
        fits = subst (Every Fits) (sym (left_same h b p)) fits;
      }

  pop_is : (h : Live) (b : List ℕ) (r : Live) → r ≡ popped_in base h b → PoppedAs base h b r
  pop_is h b r e =
      record {
        is = e;
        means = λ p. ap (λ (x : Live). meaning_of (full_at base x b)) e ∙ pop_means h b p;
        shaped = λ p s. subst (λ (x : Live). Shaped (full_at base x b)) (sym e) (pop_shaped h b p s);
      }

  pub pop_none : (h : Live) (b : List ℕ) → h.depth ≡ 0 → PoppedAs base h b h
  pop_none h b z =
      let d : h.depth ≡ h.depth - 1 = omega arith in
      pop_is h b h (rw (eq-eqb h.depth 0 z, le-ltb 1 h.depth (omega arith)) (ap (λ (k : ℕ). top_in h h.rooted k h.top) d))

  pub pop_root : (h : Live) (b : List ℕ) → h.depth ≡ 1 → PoppedAs base h b (top_in h true (h.depth - 1) h.top)
  pop_root h b z =
      pop_is h b (top_in h true (h.depth - 1) h.top)
      (rw (ne_eqb h.depth 0 (λ e. omega arith), eq-eqb h.depth 1 z, le-ltb 1 h.depth (omega arith)))

  pub pop_inner : (h : Live) (b : List ℕ) (left : Frame) → (h.depth ≡ 0 → ⊥) → (h.depth ≡ 1 → ⊥) → left ≡ left_top h b → PoppedAs base h b (top_in h h.rooted (h.depth - 1) left)
  pop_inner h b left p q e =
      let n : 1 < h.depth = more_than_one h.depth p q in
      pop_is h b (top_in h h.rooted (h.depth - 1) left) (rw (ne_eqb h.depth 0 p, ne_eqb h.depth 1 q, lt-ltb 1 h.depth n, e))

  -- the same of the whole state
  full_kept_at : (h : Live) (k : Saved) (b : List ℕ) → full_at base (kept_in h k) b ≡ saving (full_at base h b) k
  full_kept_at h k b = with_frames h _ _ (stack_changed (λ f. keeping f k) h.depth h.top b)

  full_placed_at : (h : Live) (p : ℕ) (b : List ℕ) → full_at base (placed_in h p) b ≡ placed (full_at base h b) p
  full_placed_at h p b = with_frames h _ _ (stack_changed (λ f. at_place f p) h.depth h.top b)

  last_kept : (d : ℕ) (f : Frame) (b : List ℕ) → cond (eqb d 0) bare_saved (last_set f) ≡ last_set (last_of bare_frame (stack_at base d f b) d)
  unfolding bare_frame
  last_kept zero f b = refl
  last_kept (suc n) f b = rw (ne_eqb (suc n) 0 (λ e. omega arith)) (ap last_set (sym (stack_top (suc n) f b (omega arith))))

  full_restored_at : (h : Live) (r : Restored) (b : List ℕ) → RestoredIn h r → record { saved = r.saved; state = full_at base r.live b } ≡ restored (full_at base h b)
  full_restored_at h r b R =
      ap₂ (λ (k : Saved) (z : State). record { saved = k; state = z }) (R.saved ∙ last_kept h.depth h.top b)
      (ap (λ (l : Live). full_at base l b) R.live ∙ with_frames h _ _ (stack_changed without_last h.depth h.top b))

-- the same of a run's own stack
pub full_same : (h : Live) (b b' : List ℕ) → SameBelow h b b' → full h b' ≡ full h b
full_same h b b' A = full_same_at 0 h b b' A

pub top_full : (h : Live) (b : List ℕ) → 0 < h.depth → top_of (full h b) ≡ h.top
top_full h b p = top_full_at 0 h b p

pub full_kept : (h : Live) (k : Saved) (b : List ℕ) → full (kept_in h k) b ≡ saving (full h b) k
full_kept h k b = full_kept_at 0 h k b

pub full_placed : (h : Live) (p : ℕ) (b : List ℕ) → full (placed_in h p) b ≡ placed (full h b) p
full_placed h p b = full_placed_at 0 h p b

pub full_restored : (h : Live) (r : Restored) (b : List ℕ) → RestoredIn h r → record { saved = r.saved; state = full r.live b } ≡ restored (full h b)
full_restored h r b R = full_restored_at 0 h r b R
