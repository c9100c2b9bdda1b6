-- A state's bytes read back as the state. Every part is shown to read back wherever it stands between other bytes (Back), so a list of parts
-- does too, by its length (gathered-back).
use mathlib.Core.Bool.{Bool, true, false, not}
use mathlib.Core.Path.{◌≡◌, refl, sym, ap, ap₂, ◌∙◌}
use mathlib.Core.List.{List, [], ◌∷◌, ◌++◌, append-nil, append_assoc}
use Prim.Native.Nat.{ℕ, zero, suc, ◌+◌, ◌*◌, ◌/◌, ◌-◌, ◌^◌, ◌<◌, ◌≤◌}
use native.Mathlib.Nat.{div-add-mod, div-lt_iff_lt-mul, mul-suc, pow-suc}
use native.Mathlib.Omega.{arith}
use lib.Dec.{eqb}
use lib.ListN.{length, take, replicate, length-append, length-take}
use lib.Seq.{get_or-append-add}
use Rattle.runs.specs.Visits.{attributes}
use Rattle.runs.specs.Machine.{most}
use Rattle.state.specs.Bounds.{most_sets, set_width, frame_width, count_at, rooted_at, closed_at, depth_at, head_width}
use Rattle.state.specs.declared.Saved.{Saved}
use Rattle.state.specs.declared.Frame.{Frame}
use Rattle.state.specs.declared.State.{State}
use Rattle.state.specs.Meaning.{Every, none, more}
use Rattle.state.specs.Changes.{bare_saved, bare_from, tidy_frame}
use Rattle.state.specs.Bytes.{flag, number_bytes, number, each_bytes, saved_bytes, frame_bytes, used_bytes, bytes_of}
use Rattle.layout.specs.Layout.{byte_at}
use Rattle.state.specs.Bytes.{on_at, gathered, bytes_at, saved_at, frame_at, used_at, state_from, SizedSet, SizedFrame, Sized}
use Rattle.state.proofs.Written.{number_wide}
use Rattle.state.proofs.Gathered.{length_gathered}
use Rattle.state.proofs.Tidy.{bare_is}

-- the bytes f x, w of them, read by g as x wherever they stand
pub record Back {X : Type 0} (f : X → List ℕ) (g : List ℕ → ℕ → X) (w : ℕ) (x : X) : Type 0 where
  pub wide : length (f x) ≡ w
  pub same : (pre post : List ℕ) (at : ℕ) → length pre ≡ at → g (pre ++ (f x ++ post)) at ≡ x

longer : (pre xs : List ℕ) (at w : ℕ) → length pre ≡ at → length xs ≡ w → length (pre ++ xs) ≡ at + w
longer pre xs at w p q = length-append pre xs ∙ (cc)

gathered_back : {X : Type 0} (f : X → List ℕ) (g : List ℕ → ℕ → X) (w : ℕ) (l : List X) → Every (Back f g w) l →
    (pre post : List ℕ) (at n : ℕ) → length pre ≡ at → length l ≡ n → gathered (g (pre ++ (each_bytes f l ++ post))) w at n ≡ l
unfolding gathered each_bytes
gathered_back f g w [] a pre post at zero p q = refl
gathered_back f g w [] a pre post at (suc n) p q = absurd (omega arith)
gathered_back f g w (x ∷ l) a pre post at zero p q = absurd (omega arith)
gathered_back f g w (x ∷ l) (more b a) pre post at (suc n) p q =
    let e : pre ++ ((f x ++ each_bytes f l) ++ post) ≡ pre ++ (f x ++ (each_bytes f l ++ post)) = ap (λ (r : List ℕ). pre ++ r) (append_assoc (f x) (each_bytes f l) post) in
    let h : g (pre ++ ((f x ++ each_bytes f l) ++ post)) at ≡ x = rw e (b.same pre (each_bytes f l ++ post) at p) in
    let e' : pre ++ ((f x ++ each_bytes f l) ++ post) ≡ (pre ++ f x) ++ (each_bytes f l ++ post) = e ∙ sym (append_assoc pre (f x) (each_bytes f l ++ post)) in
    let t : gathered (g (pre ++ ((f x ++ each_bytes f l) ++ post))) w (at + w) n ≡ l =
    rw e' (gathered_back f g w l a (pre ++ f x) post (at + w) n (longer pre (f x) at w p b.wide) (omega arith)) in
    (cc)

-- a byte past what stands before
byte_past : (pre ys : List ℕ) (at n : ℕ) → length pre ≡ at → byte_at (pre ++ ys) (at + n) ≡ byte_at ys n
byte_past pre ys at n p = rw (← p) (get_or-append-add pre ys n 0)

byte_first : (pre ys : List ℕ) (at : ℕ) → length pre ≡ at → byte_at (pre ++ ys) at ≡ byte_at ys 0
byte_first pre ys at p = let e : at ≡ at + 0 = omega arith in rw e (byte_past pre ys at 0 p)

-- bytes, a flag, a number
joined_bytes : (l : List ℕ) → each_bytes (λ (b : ℕ). b ∷ []) l ≡ l
unfolding each_bytes
joined_bytes [] = refl
joined_bytes (b ∷ l) = ap (λ (r : List ℕ). b ∷ r) (joined_bytes l)

each_byte : (l : List ℕ) → Every (Back (λ (b : ℕ). b ∷ []) byte_at 1) l
each_byte [] = none
each_byte (b ∷ l) = more (record { wide = refl; same = λ pre post at p. byte_first pre (b ∷ post) at p }) (each_byte l)

bytes_back : (l pre post : List ℕ) (at n : ℕ) → length pre ≡ at → length l ≡ n → bytes_at (pre ++ (l ++ post)) at n ≡ l
bytes_back l pre post at n p q = rw joined_bytes at (gathered_back (λ (b : ℕ). b ∷ []) byte_at 1 l (each_byte l) pre post at n p q)

flag_back : (b : Bool) → not (eqb (flag b) 0) ≡ b
flag_back true = refl
flag_back false = refl

number_back : (k n : ℕ) → n < 256 ^ k → number (number_bytes k n) ≡ n
unfolding number number_bytes
number_back zero n h = omega arith
number_back (suc k) n h =
    let q : n / 256 < 256 ^ k = (div-lt_iff_lt-mul {k = 256} {x = n} {y = 256 ^ k} (omega arith)).1 (rw (pow-suc 256 k) at h) in
    rw (number_back k (n / 256) q) (omega (arith, div-add-mod n 256))

-- a set, a frame, a state
saved_back : (k : Saved) → SizedSet k → Back saved_bytes saved_at set_width k
unfolding saved_bytes saved_at
saved_back k h =
    record {
      wide = length-append k.values (flag k.echo ∷ []) ∙ rw h.values;
      same = λ pre post at p.
          let e : pre ++ ((k.values ++ flag k.echo ∷ []) ++ post) ≡ pre ++ (k.values ++ flag k.echo ∷ post) =
          ap (λ (r : List ℕ). pre ++ r) (append_assoc k.values (flag k.echo ∷ []) post) in
          let v : bytes_at (pre ++ (k.values ++ flag k.echo ∷ post)) at attributes ≡ k.values =
          bytes_back k.values pre (flag k.echo ∷ post) at attributes p h.values in
          let o : on_at (pre ++ (k.values ++ flag k.echo ∷ post)) (at + attributes) ≡ k.echo =
          rw (byte_past pre (k.values ++ flag k.echo ∷ post) at attributes p, byte_first k.values (flag k.echo ∷ post) attributes h.values) (flag_back k.echo) in
          rw (e, v, o);
    }

each_saved : {l : List Saved} → Every SizedSet l → Every (Back saved_bytes saved_at set_width) l
each_saved none = none
each_saved (more h a) = more (saved_back _ h) (each_saved a)

joined_wide : {X : Type 0} (f : X → List ℕ) (g : List ℕ → ℕ → X) (w : ℕ) (l : List X) → Every (Back f g w) l → length (each_bytes f l) ≡ w * length l
unfolding each_bytes
joined_wide f g w [] a = omega arith
joined_wide f g w (x ∷ l) (more b a) = length-append (f x) (each_bytes f l) ∙ rw (b.wide, joined_wide f g w l a, mul-suc) (omega arith)

pub frame_back : (f : Frame) → SizedFrame f → Back frame_bytes frame_at frame_width f
unfolding frame_bytes frame_at
frame_back f h =
    let w : length (each_bytes saved_bytes f.saved) ≡ set_width * most_sets = joined_wide saved_bytes saved_at set_width f.saved (each_saved h.sets) ∙ rw h.saved in
    record {
      wide = rw w;
      same = λ pre post at p.
          let b = pre ++ f.production ∷ f.place ∷ f.«open» ∷ (each_bytes saved_bytes f.saved ++ post) in
          let ys = f.production ∷ f.place ∷ f.«open» ∷ (each_bytes saved_bytes f.saved ++ post) in
          let q : byte_at b at ≡ f.production = byte_first pre ys at p in
          let r : byte_at b (at + 1) ≡ f.place = byte_past pre ys at 1 p in
          let o : byte_at b (at + 2) ≡ f.«open» = byte_past pre ys at 2 p in
          let e : b ≡ (pre ++ f.production ∷ f.place ∷ f.«open» ∷ []) ++ (each_bytes saved_bytes f.saved ++ post) =
          sym (append_assoc pre (f.production ∷ f.place ∷ f.«open» ∷ []) (each_bytes saved_bytes f.saved ++ post)) in
          let k : gathered (saved_at b) set_width (at + 3) most_sets ≡ f.saved =
          rw e
          (gathered_back saved_bytes saved_at set_width f.saved (each_saved h.sets) (pre ++ f.production ∷ f.place ∷ f.«open» ∷ []) post (at + 3) most_sets
          (longer pre (f.production ∷ f.place ∷ f.«open» ∷ []) at 3 p refl)
          h.saved) in
          rw (q, r, o, k);
    }

-- of a list the first n alone were written: they are read back, the others are bare
some_back : {X : Type 0} (bare : X) (f : X → List ℕ) (g : List ℕ → ℕ → X) (w n : ℕ) (l : List X) → Every (Back f g w) l →
    (pre post : List ℕ) (at m : ℕ) → length pre ≡ at → length l ≡ m → bare_from bare n (gathered (g (pre ++ (each_bytes f (take n l) ++ post))) w at m) ≡ bare_from bare n l
unfolding gathered each_bytes bare_from
some_back bare f g w n [] a pre post at zero p q = refl
some_back bare f g w n [] a pre post at (suc m) p q = absurd (omega arith)
some_back bare f g w n (x ∷ l) a pre post at zero p q = absurd (omega arith)
some_back {X} bare f g w zero (x ∷ l) (more b a) pre post at (suc m) p q =
    let r : List X = gathered (g (pre ++ post)) w (at + w) m in
    let e : length r ≡ length l = length_gathered (g (pre ++ post)) w (at + w) m ∙ omega arith in
    ap (λ (t : List X). bare ∷ t) (bare_is bare zero r ∙ ap (λ (k : ℕ). replicate (k - 0) bare) e ∙ sym (bare_is bare zero l))
some_back {X} bare f g w (suc n) (x ∷ l) (more b a) pre post at (suc m) p q =
    let e : pre ++ ((f x ++ each_bytes f (take n l)) ++ post) ≡ pre ++ (f x ++ (each_bytes f (take n l) ++ post)) =
    ap (λ (r : List ℕ). pre ++ r) (append_assoc (f x) (each_bytes f (take n l)) post) in
    let h : g (pre ++ ((f x ++ each_bytes f (take n l)) ++ post)) at ≡ x = rw e (b.same pre (each_bytes f (take n l) ++ post) at p) in
    let e' : pre ++ ((f x ++ each_bytes f (take n l)) ++ post) ≡ (pre ++ f x) ++ (each_bytes f (take n l) ++ post) =
    e ∙ sym (append_assoc pre (f x) (each_bytes f (take n l) ++ post)) in
    ap₂ (λ (y : X) (t : List X). y ∷ t) h
    (ap (λ (d : List ℕ). bare_from bare n (gathered (g d) w (at + w) m)) e'
    ∙ some_back bare f g w n l a (pre ++ f x) post (at + w) m (longer pre (f x) at w p b.wide) (omega arith))

-- a frame of which the head and the sets in use alone were written
pub used_back : (f : Frame) → SizedFrame f → (pre post : List ℕ) (at : ℕ) → length pre ≡ at → used_at (pre ++ (used_bytes f ++ post)) at ≡ tidy_frame f
unfolding used_bytes frame_at
used_back f h pre post at p =
    let sets : List ℕ = each_bytes saved_bytes (take f.«open» f.saved) in
    let ys = f.production ∷ f.place ∷ f.«open» ∷ (sets ++ post) in
    let b = pre ++ ys in
    let q : byte_at b at ≡ f.production = byte_first pre ys at p in
    let r : byte_at b (at + 1) ≡ f.place = byte_past pre ys at 1 p in
    let o : byte_at b (at + 2) ≡ f.«open» = byte_past pre ys at 2 p in
    let head : List ℕ = pre ++ f.production ∷ f.place ∷ f.«open» ∷ [] in
    let e : b ≡ head ++ (sets ++ post) = sym (append_assoc pre (f.production ∷ f.place ∷ f.«open» ∷ []) (sets ++ post)) in
    let k : bare_from bare_saved f.«open» (gathered (saved_at b) set_width (at + 3) most_sets) ≡ bare_from bare_saved f.«open» f.saved =
    rw e
    (some_back bare_saved saved_bytes saved_at set_width f.«open» f.saved (each_saved h.sets) head post (at + 3) most_sets
    (longer pre (f.production ∷ f.place ∷ f.«open» ∷ []) at 3 p refl)
    h.saved) in
    rw (q, r, o, k)

all_take : {X : Type 0} {P : X → Type 0} (n : ℕ) (l : List X) → Every P l → Every P (take n l)
all_take zero l a = none
all_take (suc n) [] a = none
all_take (suc n) (x ∷ l) (more p a) = more p (all_take n l a)

pub used_wide : (f : Frame) → SizedFrame f → length (used_bytes f) ≤ frame_width
unfolding used_bytes
used_wide f h =
    let l : List Saved = take f.«open» f.saved in
    let w : length (each_bytes saved_bytes l) ≡ set_width * length l = joined_wide saved_bytes saved_at set_width l (all_take f.«open» f.saved (each_saved h.sets)) in
    omega (arith, w, length-take f.«open» f.saved, h.saved)

each_frame : {l : List Frame} → Every SizedFrame l → Every (Back frame_bytes frame_at frame_width) l
each_frame none = none
each_frame (more h a) = more (frame_back _ h) (each_frame a)

-- where each part of a state's bytes stands: after so many bytes
module _ (v c d stack : List ℕ) (e r n : ℕ) (of_attributes : length v ≡ attributes) (eight : length c ≡ 8) (eight' : length d ≡ 8) where
  abbrev whole : List ℕ
  whole = v ++ e ∷ (c ++ r ∷ n ∷ (d ++ stack))

  abbrev to_count : List ℕ
  to_count = v ++ e ∷ []

  abbrev to_flag : List ℕ
  to_flag = to_count ++ c

  abbrev to_depth : List ℕ
  to_depth = to_flag ++ r ∷ n ∷ []

  abbrev to_stack : List ℕ
  to_stack = to_depth ++ d

  at_count : whole ≡ to_count ++ (c ++ r ∷ n ∷ (d ++ stack))
  at_count = sym (append_assoc v (e ∷ []) (c ++ r ∷ n ∷ (d ++ stack)))

  at_flag : whole ≡ to_flag ++ r ∷ n ∷ (d ++ stack)
  at_flag = at_count ∙ sym (append_assoc to_count c (r ∷ n ∷ (d ++ stack)))

  at_depth : whole ≡ to_depth ++ (d ++ stack)
  at_depth = at_flag ∙ sym (append_assoc to_flag (r ∷ n ∷ []) (d ++ stack))

  at_stack : whole ≡ to_stack ++ (stack ++ [])
  at_stack = at_depth ∙ sym (append_assoc to_depth d stack) ∙ ap (λ (l : List ℕ). to_stack ++ l) (sym (append-nil stack))

  long_count : length to_count ≡ count_at
  long_count = longer v (e ∷ []) attributes 1 of_attributes refl

  long_flag : length to_flag ≡ rooted_at
  long_flag = longer to_count c count_at 8 long_count eight

  long_depth : length to_depth ≡ depth_at
  long_depth = longer to_flag (r ∷ n ∷ []) rooted_at 2 long_flag refl

  long_stack : length to_stack ≡ head_width
  long_stack = longer to_depth d depth_at 8 long_depth eight'

  values_back : bytes_at whole 0 attributes ≡ v
  values_back = bytes_back v [] (e ∷ (c ++ r ∷ n ∷ (d ++ stack))) 0 attributes refl of_attributes

  echo_back : byte_at whole attributes ≡ e
  echo_back = byte_first v (e ∷ (c ++ r ∷ n ∷ (d ++ stack))) attributes of_attributes

  count_back : bytes_at whole count_at 8 ≡ c
  count_back = rw at_count (bytes_back c to_count (r ∷ n ∷ (d ++ stack)) count_at 8 long_count eight)

  rooted_back : byte_at whole rooted_at ≡ r
  rooted_back = rw at_flag (byte_first to_flag (r ∷ n ∷ (d ++ stack)) rooted_at long_flag)

  closed_back : byte_at whole closed_at ≡ n
  closed_back = rw at_flag (byte_past to_flag (r ∷ n ∷ (d ++ stack)) rooted_at 1 long_flag)

  depth_back : bytes_at whole depth_at 8 ≡ d
  depth_back = rw at_depth (bytes_back d to_depth stack depth_at 8 long_depth eight')

pub state_back : (s : State) → Sized s → state_from (bytes_of s) ≡ s
unfolding state_from bytes_of
state_back s h =
    let v = s.values in
    let c = number_bytes 8 s.count in
    let d = number_bytes 8 s.depth in
    let stack = each_bytes frame_bytes s.frames in
    let e = flag s.echo in
    let r = flag s.rooted in
    let n = s.closed in
    let p = number_wide 8 s.count in
    let q = number_wide 8 s.depth in
    let b = v ++ e ∷ (c ++ r ∷ n ∷ (d ++ stack)) in
    let frames : gathered (frame_at b) frame_width head_width most ≡ s.frames =
    rw (at_stack v c d stack e r n h.values p q)
    (gathered_back frame_bytes frame_at frame_width s.frames (each_frame h.each) (to_stack v c d stack e r n h.values p q) [] head_width most
    (long_stack v c d stack e r n h.values p q)
    h.frames) in
    rw (
      values_back v c d stack e r n h.values p q,
      echo_back v c d stack e r n h.values p q,
      flag_back s.echo,
      count_back v c d stack e r n h.values p q,
      number_back 8 s.count h.count,
      rooted_back v c d stack e r n h.values p q,
      flag_back s.rooted,
      closed_back v c d stack e r n h.values p q,
      depth_back v c d stack e r n h.values p q,
      number_back 8 s.depth h.depth,
      frames,
    )
