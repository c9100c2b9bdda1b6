-- Bytes that are put behind others or in among them, where there is room. Assumes nothing.
use mathlib.Core.Path.{◌≡◌, refl, ◌∙◌, ap, ap₂}
use mathlib.Core.List.{List, ◌∷◌, ◌++◌}
use Prim.Native.Nat.{ℕ, zero, suc, ◌+◌, ◌≤◌, ◌<◌}
use native.Mathlib.Omega.{arith}
use borrow.Author.Tests.{lt-ltb, le-ltb}
use lib.ListN.{length, take, replicate, length-append}
use lib.Seq.{take_all, take-append_seam, drop-append_seam}
use Rattle.limits.specs.Limits.{longest_program}
use Rattle.strokes.specs.Strokes.{written_on, inserted_at, stacked, most_stacked}

pub grown : {ss xs : List ℕ} (bs ys : List ℕ) → ss ≡ xs → xs ++ bs ≡ ys → length ys ≤ longest_program → written_on ss bs ≡ ys
grown bs ys e f h = ap (λ z. take longest_program (z ++ bs)) e ∙ (ap (take longest_program) f ∙ take_all longest_program ys h)

pub put_in : {ss : List ℕ} {n : ℕ} (b : ℕ) (us bs : List ℕ) → ss ≡ us ++ bs → n ≡ length us → length (us ++ b ∷ bs) ≤ longest_program → inserted_at n b ss ≡ us ++ b ∷ bs
put_in b us bs e f h = ap₂ (λ z m. inserted_at m b z) e f ∙ (rw (lt-ltb (length (us ++ bs)) longest_program shorter, le-ltb (length (us ++ bs)) (length us) inside) (ap₂ (λ x y. x ++ b ∷ y) (take-append_seam us bs) (drop-append_seam us bs)))
  where
    shorter : length (us ++ bs) < longest_program
    shorter = omega (arith, length-append us bs, length-append us (b ∷ bs), h)

    inside : length us ≤ length (us ++ bs)
    inside = omega (arith, length-append us bs)

pub heaped : {ss ms : List ℕ} (m : ℕ) → ss ≡ ms → length (m ∷ ms) ≤ most_stacked → stacked m ss ≡ m ∷ ms
heaped {ms = ms} m e h = ap (stacked m) e ∙ rw (lt-ltb (length ms) most_stacked (omega arith))

-- one of many that are alike stands in front or behind
pub at_either_end : {A : Type 0} (k : ℕ) (a : A) (ys : List A) → replicate k a ++ a ∷ ys ≡ a ∷ (replicate k a ++ ys)
at_either_end zero a ys = refl
at_either_end (suc k) a ys = ap (λ z. a ∷ z) (at_either_end k a ys)
