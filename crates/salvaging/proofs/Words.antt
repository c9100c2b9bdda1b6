-- Two words compared with the same bytes: laws, one for each way.
-- Assumes nothing.
use mathlib.Core.Path.{◌≡◌, refl, subst}
use mathlib.Core.Logic.{inl, inr}
use mathlib.Core.Bool.{Bool, true, false}
use mathlib.Core.List.{List}
use Prim.Native.Nat.{ℕ, ◌+◌, ◌-◌, ◌≤◌, ◌<◌}
use native.Mathlib.Omega.{arith}
use lib.Dec.{ltb}
use lib.ListN.{length, take, drop, length-drop}
use lib.Seq.{take_all}
use borrow.Author.Tests.{ltb-true, ltb-false}
use Rattle.text.specs.Chars.{Starts, Begins}
use Rattle.tokens.specs.declared.Word.{Word}
use Rattle.tokens.specs.declared.Word.TheVariants.{Whole, Begun, No}
use Rattle.tokens.specs.Inner.{WordIs}
use Rattle.tokens.proofs.Theory.{none_of}
use Rattle.tokens.proofs.Reading.{starts_length, begins_length}
use Rattle.salvaging.specs.declared.Resumed.TheVariants.{Here, Waits}
use Rattle.salvaging.specs.Resumed.{joined_words, EitherIs, ApartUpTo, ResumedIs}

not_whole : (f w : List ℕ) → Begins f w → Starts f w → ⊥
not_whole f w b s = omega (arith, starts_length f w s, begins_length f w b)

pub either_is : (w w' f : List ℕ) (one other : Word) → WordIs f w one → WordIs f w' other → EitherIs w w' f (joined_words one other)
either_is w w' f Whole other h k = inl h
either_is w w' f Begun Whole h k = inr k
either_is w w' f Begun Begun h k = (inl h, not_whole f w h, not_whole f w' k)
either_is w w' f Begun No h k = (inl h, not_whole f w h, (none_of f w' k).0)
either_is w w' f No Whole h k = inr k
either_is w w' f No Begun h k = (inr k, (none_of f w h).0, not_whole f w' k)
either_is w w' f No No h k = (h, k)

-- one place more
pub apart_more : (w w' part : List ℕ) (from to : ℕ) → ApartUpTo w w' part from to → EitherIs w w' (drop to part) No → ApartUpTo w w' part from (to + 1)
apart_more w w' part from to h k j l m = by (ltb j to) refl
  where
    by : (b : Bool) → ltb j to ≡ b → EitherIs w w' (drop j part) No
    by true e = h j l (ltb-true j to e)
    by false e =
        let i : to ≡ j = let n = ltb-false j to e in omega (arith, n, m) in
        subst (λ (i : ℕ). EitherIs w w' (drop i part) No) i k

module _ (w w' part : List ℕ) (from at : ℕ) (r : Word) (h : EitherIs w w' (take (length part - at) (drop at part)) r) where
  -- the part from a place to its end
  here : EitherIs w w' (drop at part) r
  here = subst (λ (f : List ℕ). EitherIs w w' f r) (take_all (length part - at) (drop at part) (omega (arith, length-drop at part))) h

  pub stands_here : from ≤ at → at < length part → ApartUpTo w w' part from at → r ≡ Whole → ResumedIs w w' part from (Here at)
  stands_here l n k e = (l, n, subst (EitherIs w w' (drop at part)) e here, k)

  pub waits_here : from ≤ at → at < length part → ApartUpTo w w' part from at → r ≡ Begun → ResumedIs w w' part from (Waits at)
  waits_here l n k e = (l, n, subst (EitherIs w w' (drop at part)) e here, k)

  pub passes_here : ApartUpTo w w' part from at → r ≡ No → ApartUpTo w w' part from (at + 1)
  passes_here k e = apart_more w w' part from at k (subst (EitherIs w w' (drop at part)) e here)

-- past the end
pub passed_all : (w w' part : List ℕ) (from at : ℕ) → length part ≤ at → ApartUpTo w w' part from at → ApartUpTo w w' part from (length part)
passed_all w w' part from at l k j f g = k j f (omega (arith, l, g))

pub none_yet : (w w' part : List ℕ) (from : ℕ) → ApartUpTo w w' part from from
none_yet w w' part from j f g = absurd (omega (arith, f, g))
