-- Laws of the text of a page: a byte behind it, 0s behind it, a byte in among the others. Assumes nothing.
use mathlib.Core.Path.{◌≡◌, refl, sym, ◌∙◌, ap, ap₂, subst}
use mathlib.Core.List.{List, [], ◌∷◌, ◌++◌, append-nil, append_assoc}
use Prim.Native.Nat.{ℕ, zero, suc, ◌+◌, ◌-◌, ◌≤◌, ◌<◌}
use native.Mathlib.Omega.{arith}
use native.Mathlib.Numerals.{add-one}
use borrow.Author.Tests.{lt-ltb, le-ltb}
use lib.ListN.{length, take, drop, set, replicate, length-append, length-drop}
use lib.Seq.{take_all, take_at, drop_at, length-take-le, take-suc-set, take-set-lt, set_split, take-append-le, take-take, paste}
use Rattle.std.proofs.lemmas.List.{replicate_more, drop-take}
use Rattle.std.proofs.lemmas.List.Edits.{take-paste}
use Rattle.limits.specs.Limits.{longest_program}
use Rattle.strokes.specs.Strokes.{written_on, inserted_at}

-- what is cut off twice is cut off once
cut_twice : {A : Type 0} (n : ℕ) (xs ys : List A) → take n (take n xs ++ ys) ≡ take n (xs ++ ys)
cut_twice zero xs ys = refl
cut_twice (suc n) [] ys = refl
cut_twice (suc n) (x ∷ xs) ys = ap (λ z. x ∷ z) (cut_twice n xs ys)

pub written_twice : (xs us bs : List ℕ) → written_on (written_on xs us) bs ≡ written_on xs (us ++ bs)
written_twice xs us bs = cut_twice longest_program (xs ++ us) bs ∙ ap (take longest_program) (append_assoc xs us bs)

pub none_written : (xs : List ℕ) → length xs ≤ longest_program → xs ≡ written_on xs []
none_written xs h = sym (ap (take longest_program) (append-nil xs) ∙ take_all longest_program xs h)

module _ (bs : List ℕ) (n : ℕ) (whole : length bs ≡ longest_program) where
  pub page_full : (us : List ℕ) → n ≤ longest_program → longest_program ≤ n → take n bs ≡ written_on (take n bs) us
  page_full us h g = sym (take_at (take n bs) us longest_program (length-take-le n bs (omega arith) ∙ omega arith))

  pub page_room : (b : ℕ) → n < longest_program → take (n + 1) (set bs n b) ≡ written_on (take n bs) (b ∷ [])
  page_room b h =
      rw (add-one n) (take-suc-set bs n b (omega arith)
      ∙ sym (take_all longest_program (take n bs ++ b ∷ []) (omega (arith, length-append (take n bs) (b ∷ []), length-take-le n bs (omega arith)))))

-- 0s one by one
pub zeros_more : (xs ys zs : List ℕ) (n : ℕ) → zs ≡ written_on ys (0 ∷ []) → ys ≡ written_on xs (replicate n 0) → zs ≡ written_on xs (replicate (n + 1) 0)
zeros_more xs ys zs n e h = e ∙ (ap (λ z. written_on z (0 ∷ [])) h ∙ (written_twice xs (replicate n 0) (0 ∷ []) ∙ ap (written_on xs) (replicate_more n 0)))

module _ (bs : List ℕ) (n at b : ℕ) (whole : length bs ≡ longest_program) (short : n ≤ longest_program) where
  long : length (take n bs) ≡ n
  long = length-take-le n bs (omega arith)

  pub no_room_in : longest_program ≤ n → take n bs ≡ inserted_at at b (take n bs)
  no_room_in h = rw (le-ltb (length (take n bs)) longest_program (omega (arith, long)))

  pub no_place_in : n < longest_program → n < at → take n bs ≡ inserted_at at b (take n bs)
  no_place_in h g = rw (lt-ltb (length (take n bs)) longest_program (omega (arith, long)), lt-ltb (length (take n bs)) at (omega (arith, long)))

  pub put_in_is : n < longest_program → at ≤ n → take at bs ++ b ∷ drop at (take n bs) ≡ inserted_at at b (take n bs)
  put_in_is h g =
      rw (lt-ltb (length (take n bs)) longest_program (omega (arith, long)), le-ltb (length (take n bs)) at (omega (arith, long))) (ap (λ z. z ++ b ∷ drop at (take n bs)) (sym (take-take at n bs g)))

  -- each byte behind the place goes one on
  pub moved_in : n < longest_program → at ≤ n → take (n + 1) (set (paste bs (at + 1) (drop at bs) (n - at)) at b) ≡ inserted_at at b (take n bs)
  moved_in h g =
      let moved : List ℕ = paste bs (at + 1) (drop at bs) (n - at) in
      let rest : List ℕ = take (n - at) (drop at bs) in
      let all : List ℕ = take (at + 1) bs ++ rest in
      let f : length (take (at + 1) bs) ≡ at + 1 = length-take-le (at + 1) bs (omega arith) in
      let k : at + 1 + (n - at) ≡ n + 1 = omega arith in
      let t : take (n + 1) moved ≡ all = subst (λ m. take m moved ≡ all) k (take-paste bs (at + 1) (drop at bs) (n - at) (omega arith) (omega (arith, length-drop at bs))) in
      let split : set all at b ≡ take at all ++ b ∷ drop (suc at) all = set_split all at b (omega (arith, length-append (take (at + 1) bs) rest)) in
      let front : take at all ≡ take at bs = take-append-le at (take (at + 1) bs) rest (omega arith) ∙ take-take at (at + 1) bs (omega arith) in
      let back : drop (suc at) all ≡ rest = drop_at (take (at + 1) bs) rest (suc at) (omega arith) in
      let j : at + (n - at) ≡ n = omega arith in
      let same : rest ≡ drop at (take n bs) = sym (drop-take at (n - at) bs) ∙ ap (λ m. drop at (take m bs)) j in
      take-set-lt (n + 1) moved at b (omega arith) ∙ ap (λ z. set z at b) t ∙ split ∙ ap₂ (λ u v. u ++ b ∷ v) front (back ∙ same) ∙ put_in_is h g
