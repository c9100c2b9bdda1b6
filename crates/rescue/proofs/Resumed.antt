-- What `resumption` answers of a part is one thing, and there is one: at each place the bytes start with one of the two strings, begin one, or are apart from both.
-- Assumes nothing.
use mathlib.Core.Path.{◌≡◌, refl, sym, ap, ap₂, ◌∙◌, subst}
use mathlib.Core.Logic.{◌⊎◌, inl, inr}
use mathlib.Core.Bool.{Bool, true, false}
use mathlib.Core.List.{List, [], ◌∷◌, ◌++◌, append_assoc, head-eq_of_cons-eq, tail-eq_of_cons-eq}
use Prim.Native.Nat.{ℕ, zero, suc, ◌+◌, ◌≤◌}
use native.Mathlib.Omega.{arith}
use native.Mathlib.Decide.{ℕ_discrete}
use lib.Dec.{ltb}
use lib.ListN.{length, drop, length-append}
use lib.Seq.{drop-append-le}
use borrow.Author.Tests.{ltb-true, ltb-false}
use Rattle.tokens.specs.declared.Word.TheVariants.{Whole, Begun, No}
use Rattle.text.specs.Chars.{Starts, Begins, Apart}
use Rattle.text.proofs.Shapes.{cons≢[]}
use Rattle.tokens.proofs.Theory.{none_of}
use Rattle.tokens.proofs.Reading.{starts_length, begins_length}
use Rattle.tokens.proofs.Numerals.{Decided, decided}
use Rattle.salvaging.specs.declared.Resumed.{Resumed}
use Rattle.salvaging.specs.declared.Resumed.TheVariants.{Here, Waits, Nowhere}
use Rattle.salvaging.specs.Resumed.{EitherIs, ApartUpTo, ResumedIs}
use Rattle.salvaging.proofs.Passed.{passed_over}
use Rattle.salvaging.proofs.Words.{apart_more, passed_all, none_yet}

module _ (w w' : List ℕ) where
  -- bytes apart from both neither start with one nor begin one
  pub apart_whole : (f : List ℕ) → EitherIs w w' f No → EitherIs w w' f Whole → ⊥
  apart_whole f (a, b) (inl s) = (none_of f w a).0 s
  apart_whole f (a, b) (inr s) = (none_of f w' b).0 s

  pub apart_begun : (f : List ℕ) → EitherIs w w' f No → EitherIs w w' f Begun → ⊥
  apart_begun f (a, b) (inl s, n, k) = (none_of f w a).1 s
  apart_begun f (a, b) (inr s, n, k) = (none_of f w' b).1 s

  pub whole_begun : (f : List ℕ) → EitherIs w w' f Whole → EitherIs w w' f Begun → ⊥
  whole_begun f (inl s) (k, n, m) = n s
  whole_begun f (inr s) (k, n, m) = m s

  module _ (part : List ℕ) (from : ℕ) where
    -- a place where one stands, or is begun
    abbrev Found : ℕ → Type 0
    Found at = EitherIs w w' (drop at part) Whole ⊎ EitherIs w w' (drop at part) Begun

    not_apart : (at : ℕ) → Found at → EitherIs w w' (drop at part) No → ⊥
    not_apart at (inl k) n = apart_whole (drop at part) n k
    not_apart at (inr k) n = apart_begun (drop at part) n k

    -- the first such place is one
    first_one : (at at' : ℕ) → from ≤ at → from ≤ at' → Found at → Found at' → ApartUpTo w w' part from at → ApartUpTo w w' part from at' → at ≡ at'
    first_one at at' l l' k k' h h' = by (ltb at at') refl (ltb at' at) refl
      where
        by : (b : Bool) → ltb at at' ≡ b → (c : Bool) → ltb at' at ≡ c → at ≡ at'
        by true e c d = absurd (not_apart at k (h' at l (ltb-true at at' e)))
        by false e true d = absurd (not_apart at' k' (h at' l' (ltb-true at' at d)))
        by false e false d = let u = ltb-false at at' e in let v = ltb-false at' at d in omega arith

    pub one_resumed : (r r' : Resumed) → ResumedIs w w' part from r → ResumedIs w w' part from r' → r ≡ r'
    one_resumed (Here at) (Here at') (l, n, k, h) (l', n', k', h') = ap Here (first_one at at' l l' (inl k) (inl k') h h')
    one_resumed (Here at) (Waits at') (l, n, k, h) (l', n', k', h') =
        let e = first_one at at' l l' (inl k) (inr k') h h' in
        absurd (whole_begun (drop at' part) (subst (λ (i : ℕ). EitherIs w w' (drop i part) Whole) e k) k')
    one_resumed (Here at) Nowhere (l, n, k, h) h' = absurd (apart_whole (drop at part) (h' at l n) k)
    one_resumed (Waits at) (Here at') (l, n, k, h) (l', n', k', h') =
        let e = first_one at at' l l' (inr k) (inl k') h h' in
        absurd (whole_begun (drop at part) (subst (λ (i : ℕ). EitherIs w w' (drop i part) Whole) (sym e) k') k)
    one_resumed (Waits at) (Waits at') (l, n, k, h) (l', n', k', h') = ap Waits (first_one at at' l l' (inr k) (inr k') h h')
    one_resumed (Waits at) Nowhere (l, n, k, h) h' = absurd (apart_begun (drop at part) (h' at l n) k)
    one_resumed Nowhere (Here at') h (l', n', k', h') = absurd (apart_whole (drop at' part) (h at' l' n') k')
    one_resumed Nowhere (Waits at') h (l', n', k', h') = absurd (apart_begun (drop at' part) (h at' l' n') k')
    one_resumed Nowhere Nowhere h h' = refl

-- how bytes compare with a word
word_decided : (f w : List ℕ) → Starts f w ⊎ (Begins f w ⊎ Apart f w)
word_decided f [] = inl (f, refl)
word_decided [] (y ∷ w) = inr (inl (y ∷ w, refl, (λ e. cons≢[] e)))
word_decided (x ∷ f) (y ∷ w) = by (decided (ℕ_discrete x y)) (word_decided f w)
  where
    by : Decided (x ≡ y) → Starts f w ⊎ (Begins f w ⊎ Apart f w) → Starts (x ∷ f) (y ∷ w) ⊎ (Begins (x ∷ f) (y ∷ w) ⊎ Apart (x ∷ f) (y ∷ w))
    by (inl e) (inl (v, q)) = inl (v, ap₂ (λ (z : ℕ) (l : List ℕ). z ∷ l) e q)
    by (inl e) (inr (inl (v, q, n))) = inr (inl (v, ap₂ (λ (z : ℕ) (l : List ℕ). z ∷ l) (sym e) q, n))
    by (inl e) (inr (inr n)) = inr (inr (λ v u q. n v u (tail-eq_of_cons-eq q)))
    by (inr n) o = inr (inr (λ v u q. n (head-eq_of_cons-eq q)))

-- how they compare with two
abbrev Compared : (w w' f : List ℕ) → Type 0
Compared w w' f = EitherIs w w' f Whole ⊎ (EitherIs w w' f Begun ⊎ EitherIs w w' f No)

either_decided : (w w' f : List ℕ) → Compared w w' f
either_decided w w' f = by (word_decided f w) (word_decided f w')
  where
    shorter : (u : List ℕ) → Begins f u → Starts f u → ⊥
    shorter u b s = omega (arith, starts_length f u s, begins_length f u b)

    by : Starts f w ⊎ (Begins f w ⊎ Apart f w) → Starts f w' ⊎ (Begins f w' ⊎ Apart f w') → Compared w w' f
    by (inl s) o = inl (inl s)
    by (inr o) (inl s) = inl (inr s)
    by (inr (inl b)) (inr (inl b')) = inr (inl (inl b, shorter w b, shorter w' b'))
    by (inr (inl b)) (inr (inr n)) = inr (inl (inl b, shorter w b, (none_of f w' n).0))
    by (inr (inr n)) (inr (inl b)) = inr (inl (inr b, (none_of f w n).0, shorter w' b))
    by (inr (inr n)) (inr (inr n')) = inr (inr (n, n'))

module _ (w w' part : List ℕ) (from : ℕ) where
  search_on : (left at : ℕ) → from ≤ at → length part ≤ at + left → ApartUpTo w w' part from at → (r : Resumed) × ResumedIs w w' part from r
  search_on zero at l k h = (Nowhere, passed_all w w' part from at (omega arith) h)
  search_on (suc left) at l k h =
      by (λ o. search_on left (at + 1) (omega arith) (omega arith) (apart_more w w' part from at h o)) (ltb at (length part)) refl (either_decided w w' (drop at part))
    where
      by : (EitherIs w w' (drop at part) No → (r : Resumed) × ResumedIs w w' part from r) → (b : Bool) → ltb at (length part) ≡ b → Compared w w' (drop at part) →
          (r : Resumed) × ResumedIs w w' part from r
      by more false e o = (Nowhere, passed_all w w' part from at (ltb-false at (length part) e) h)
      by more true e (inl o) = (Here at, (l, ltb-true at (length part) e, o, h))
      by more true e (inr (inl o)) = (Waits at, (l, ltb-true at (length part) e, o, h))
      by more true e (inr (inr o)) = more o

  -- there is one
  pub some_resumed : (r : Resumed) × ResumedIs w w' part from r
  some_resumed = search_on (length part) from (omega arith) (omega arith) (none_yet w w' part from)

-- what is told of a part stays so with more bytes behind it
module _ (w w' part later : List ℕ) where
  apart_behind : (f u : List ℕ) → Apart f u → Apart (f ++ later) u
  apart_behind f u a v k e = a (later ++ v) k (sym (append_assoc f later v) ∙ e)

  pub stay_apart : (at to : ℕ) → to ≤ length part → ApartUpTo w w' part at to → ApartUpTo w w' (part ++ later) at to
  stay_apart at to l h j i k =
      subst (λ (f : List ℕ). EitherIs w w' f No) (sym (drop-append-le j part later (omega (arith, k, l))))
      (let (p, q) = h j i k in (apart_behind (drop j part) w p, apart_behind (drop j part) w' q))

  pub still_here : (at to : ℕ) → ResumedIs w w' part at (Here to) → ResumedIs w w' (part ++ later) at (Here to)
  still_here at to (l, n, k, h) = (l, omega (arith, n, length-append part later), (passed_over w w' part later at (Here to) (l, n, k, h)).0, stay_apart at to (omega (arith, n)) h)

-- and it is told from a later place as well, up to which all is apart
module _ (w w' part : List ℕ) (at to : ℕ) (l : at ≤ to) (h : ApartUpTo w w' part at to) where
  pub from_later : (r : Resumed) → ResumedIs w w' part at r → ResumedIs w w' part to r
  from_later (Here i) (j, n, k, g) = by (ltb i to) refl
    where
      by : (b : Bool) → ltb i to ≡ b → ResumedIs w w' part to (Here i)
      by true e = absurd (apart_whole w w' (drop i part) (h i j (ltb-true i to e)) k)
      by false e = (ltb-false i to e, n, k, (λ f p q. g f (omega (arith, l, p)) q))
  from_later (Waits i) (j, n, k, g) = by (ltb i to) refl
    where
      by : (b : Bool) → ltb i to ≡ b → ResumedIs w w' part to (Waits i)
      by true e = absurd (apart_begun w w' (drop i part) (h i j (ltb-true i to e)) k)
      by false e = (ltb-false i to e, n, k, (λ f p q. g f (omega (arith, l, p)) q))
  from_later Nowhere g = λ f p q. g f (omega (arith, l, p)) q
