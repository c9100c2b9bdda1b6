-- Laws of gaps, read byte by byte. Assumes nothing.
use mathlib.Core.Path.{◌≡◌, refl, sym, ◌∙◌, ap, subst}
use mathlib.Core.Bool.{Bool, true, false, cond}
use mathlib.Core.List.{List, [], ◌∷◌, ◌++◌, append_assoc, append-nil}
use Prim.Native.Nat.{ℕ, suc, ◌+◌, ◌≤◌, ◌<◌}
use native.Mathlib.Omega.{arith}
use lib.ListN.{length, take, drop, get_or, length-append, length-drop, take-append-drop}
use lib.Dec.{ltb}
use lib.Seq.{take-suc, take_at, drop-cons, drop-drop, get_or-drop, length-take-le, take_all}
use borrow.Author.Tests.{ltb-true, ltb-false}
use Rattle.std.specs.Prelude.{not, Option, Some, None}
use Rattle.std.specs.List.{position_or_len}
use Rattle.std.proofs.lemmas.List.Sums.{passes_at_first, prefix_len-le-length}
use Rattle.text.specs.Names.{blank, All}
use Rattle.notation.specs.Gaps.{in_comment, Gap, white, comment, Ending, gap, open_comment}
use Rattle.notation.proofs.Rows.{all_snoc}
use Rattle.gaps.specs.declared.Skipped.{Skipped}
use Rattle.gaps.specs.Skipped.{CommentRun, SkippedIs, a_byte, the_end, a_comment}

-- a comment on its way
pub record Going (x : List ℕ) (from i : ℕ) : Type 0 where
  pub low : from ≤ i
  pub high : i ≤ length x
  pub run : List ℕ
  pub held : All in_comment run
  pub split : drop from x ≡ run ++ drop i x
  pub long : from + length run ≡ i

pub going_none : (x : List ℕ) (from : ℕ) → from ≤ length x → Going x from from
going_none x from h = record { low = omega arith; high = h; run = []; held = tt; split = refl; long = omega arith }

pub going_more : (x : List ℕ) (from i : ℕ) → Going x from i → i < length x → in_comment (get_or x i 0) ≡ true → Going x from (i + 1)
going_more x from i g l e = record {
  low = omega (arith, g.low);
  high = omega arith;
  run = g.run ++ get_or x i 0 ∷ [];
  held = all_snoc in_comment g.run (get_or x i 0) g.held e;
  split = g.split ∙ ap (λ z. g.run ++ z) (drop-cons x i 0 l ∙ ap (λ n. get_or x i 0 ∷ drop n x) (sym (one i))) ∙ sym (append_assoc g.run (get_or x i 0 ∷ []) (drop (i + 1) x));
  long = ap (λ n. from + n) (length-append g.run (get_or x i 0 ∷ [])) ∙ omega (arith, g.long);
}
  where
    one : (n : ℕ) → n + 1 ≡ suc n
    one n = omega arith

pub going_stops : (x : List ℕ) (from i : ℕ) → Going x from i → (i < length x → in_comment (get_or x i 0) ≡ false) → CommentRun x from i
going_stops x from i g s = record { low = g.low; high = g.high; run = g.run; held = g.held; split = g.split; long = g.long; stops = s }

-- the first byte that a comment may not hold, as the library's search finds it
abbrev pub in_none : ℕ → Bool
in_none b = not (in_comment b)

held_before : (y : List ℕ) → All in_comment (take (position_or_len in_none y) y)
held_before [] = tt
held_before (b ∷ y) = on (held_before y) (in_comment b) refl
  where
    on : All in_comment (take (position_or_len in_none y) y) → (h : Bool) → in_comment b ≡ h → All in_comment (take (cond (not (not h)) (1 + position_or_len in_none y) 0) (b ∷ y))
    on ih true e = let k : suc (position_or_len in_none y) ≡ 1 + position_or_len in_none y = omega arith in subst (λ n. All in_comment (take n (b ∷ y))) k (e, ih)
    on ih false e = tt

run_before : (x : List ℕ) (from p : ℕ) → from ≤ length x → p ≡ position_or_len in_none (drop from x) → p ≤ length (drop from x) → Going x from (from + p)
run_before x from p h e k =
    let y : List ℕ = drop from x in
    record {
      low = omega arith;
      high = omega (arith, length-drop from x);
      run = take p y;
      held = subst (λ n. All in_comment (take n y)) (sym e) (held_before y);
      split = sym (take-append-drop p y) ∙ ap (λ z. take p y ++ z) (drop-drop p from x);
      long = ap (λ n. from + n) (length-take-le p y k);
    }

refused : (b : Bool) → not b ≡ true → b ≡ false
refused true e = sym e
refused false e = refl

module _ (x : List ℕ) (from : ℕ) (inside : from ≤ length x) where
  abbrev pub place : ℕ
  place = position_or_len in_none (drop from x)

  stops_there : place < length (drop from x) → CommentRun x from (from + place)
  stops_there l =
      going_stops x from (from + place) (run_before x from place inside refl (omega arith))
      (λ h. refused _ (ap in_none (sym (get_or-drop from x place 0)) ∙ passes_at_first in_none (drop from x) 0 l))

  goes_through : length (drop from x) ≤ place → CommentRun x from (length x)
  goes_through l =
      let k : from + place ≡ length x = omega (arith, prefix_len-le-length (λ b. not (in_none b)) (drop from x), length-drop from x) in
      subst (CommentRun x from) k (going_stops x from (from + place) (run_before x from place inside refl (omega (arith, length-drop from x))) (λ h. absurd (omega arith)))

  module _ (r : Option ℕ) (found : r ≡ cond (ltb place (length (drop from x))) (Some place) None) where
    pub run_to : (n : ℕ) → r ≡ Some n → CommentRun x from (from + n)
    run_to n e = on (ltb place (length (drop from x))) refl (sym found ∙ e)
      where
        on : (b : Bool) → ltb place (length (drop from x)) ≡ b → cond b (Some place) None ≡ Some n → CommentRun x from (from + n)
        on true t q = let same : place ≡ n = cc in subst (λ k. CommentRun x from (from + k)) same (stops_there (ltb-true _ _ t))
        on false t q = cc

    pub run_whole : r ≡ None → CommentRun x from (length x)
    run_whole e = on (ltb place (length (drop from x))) refl (sym found ∙ e)
      where
        on : (b : Bool) → ltb place (length (drop from x)) ≡ b → ◌≡◌ {A = Option ℕ} (cond b (Some place) None) None → CommentRun x from (length x)
        on true t q = cc
        on false t q = goes_through (ltb-false _ _ t)

-- gaps
gap_append : {g : List ℕ} (h : List ℕ) → Gap g → Gap h → Gap (g ++ h)
gap_append h Gap.none k = k
gap_append h (white i j) k = white i (gap_append h j k)
gap_append h (comment c {g = x} a j) k = subst (λ z. Gap (35 ∷ z)) (sym (append_assoc c (10 ∷ x) h)) (comment c a (gap_append h j k))

pub blank_more : (x : List ℕ) (i : ℕ) → i < length x → Gap (take i x) → blank (get_or x i 0) ≡ true → Gap (take (i + 1) x)
blank_more x i l g e = subst Gap (sym (ap (λ n. take n x) (one i) ∙ take-suc x i 0 l)) (gap_append (get_or x i 0 ∷ []) g (white e Gap.none))
  where
    one : (n : ℕ) → n + 1 ≡ suc n
    one n = omega arith

-- the rest behind a gap
rest_is : (x : List ℕ) (i : ℕ) → i < length x → x ≡ take i x ++ get_or x i 0 ∷ drop (suc i) x
rest_is x i l = sym (take-append-drop i x) ∙ ap (λ z. take i x ++ z) (drop-cons x i 0 l)

pub skip_to : (x : List ℕ) (i : ℕ) → i < length x → Gap (take i x) → blank (get_or x i 0) ≡ false → (get_or x i 0 ≡ 35 → ⊥) → SkippedIs x (Skipped.To i)
skip_to x i l g e n = a_byte {i = i} {b = get_or x i 0} (take i x) (drop (suc i) x) g (rest_is x i l) (sym (length-take-le i x (omega arith))) e n

pub skip_end : (x : List ℕ) (i : ℕ) → length x ≤ i → Gap (take i x) → SkippedIs x Skipped.End
skip_end x i l g = the_end (gap (subst Gap (take_all i x l) g))

-- a comment behind a gap
module _ (x : List ℕ) (i to : ℕ) (l : i < length x) (g : Gap (take i x)) (sharp : get_or x i 0 ≡ 35) (c : CommentRun x (i + 1) to) where
  are : x ≡ take i x ++ 35 ∷ (c.run ++ drop to x)
  are = rest_is x i l ∙ ap (λ z. take i x ++ z ∷ drop (suc i) x) sharp ∙ ap (λ z. take i x ++ 35 ∷ z) (ap (λ n. drop n x) (sym (one i)) ∙ c.split)
    where
      one : (n : ℕ) → n + 1 ≡ suc n
      one n = omega arith

  pub skip_open : to ≡ length x → SkippedIs x Skipped.End
  skip_open e = the_end (subst Ending (sym (are ∙ ap (λ z. take i x ++ 35 ∷ z) (ap (λ z. c.run ++ z) (none (drop to x) (omega (arith, length-drop to x))) ∙ append-nil c.run))) (open_comment c.run g c.held))
    where
      none : (z : List ℕ) → length z ≤ 0 → z ≡ []
      none [] h = refl
      none (b ∷ z) h = absurd (omega arith)

  pub skip_bad : to < length x → (get_or x to 0 ≡ 10 → ⊥) → SkippedIs x (Skipped.Bad to)
  skip_bad h n =
      a_comment {i = to} {b = get_or x to 0} (take i x) c.run (drop (suc to) x) g c.held (are ∙ ap (λ z. take i x ++ 35 ∷ (c.run ++ z)) (drop-cons x to 0 h))
      (omega (arith, c.long, length-take-le i x (omega arith))) (c.stops h) n

  pub comment_more : to < length x → get_or x to 0 ≡ 10 → Gap (take (to + 1) x)
  comment_more h e = subst Gap (sym taken) (gap_append (35 ∷ (c.run ++ 10 ∷ [])) g (comment c.run c.held Gap.none))
    where
      taken : take (to + 1) x ≡ take i x ++ 35 ∷ (c.run ++ 10 ∷ [])
      taken =
          ap (take (to + 1)) (are ∙ ap (λ z. take i x ++ 35 ∷ (c.run ++ z)) (drop-cons x to 0 h ∙ ap (λ z. z ∷ drop (suc to) x) e)
          ∙ ap (λ z. take i x ++ 35 ∷ z) (sym (append_assoc c.run (10 ∷ []) (drop (suc to) x))) ∙ sym (append_assoc (take i x) (35 ∷ (c.run ++ 10 ∷ [])) (drop (suc to) x)))
          ∙ take_at (take i x ++ 35 ∷ (c.run ++ 10 ∷ [])) (drop (suc to) x) (to + 1) long
        where
          long : length (take i x ++ 35 ∷ (c.run ++ 10 ∷ [])) ≡ to + 1
          long = length-append (take i x) (35 ∷ (c.run ++ 10 ∷ [])) ∙ omega (arith, c.long, length-take-le i x (omega arith), length-append c.run (10 ∷ []))
