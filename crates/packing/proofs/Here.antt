-- Bytes that lie at a place of others, and what is read there. Assumes nothing.
use mathlib.Core.Path.{◌≡◌, refl, sym, ◌∙◌, ap, ap₂, subst}
use mathlib.Core.List.{List, [], ◌∷◌, ◌++◌, append_assoc}
use Prim.Native.Nat.{ℕ, zero, suc, ◌+◌, ◌*◌, ◌/◌, ◌%◌, ◌<◌}
use native.Mathlib.Omega.{arith}
use lib.ListN.{length, take, drop, get_or, length-append}
use lib.Seq.{take-append_seam, get_or-append-add, drop_at}
use Rattle.layout.specs.Layout.{byte_at, word_at}
use Rattle.notation.proofs.Rows.{get_d_front}

pub record Here (s : List ℕ) (at : ℕ) (l : List ℕ) : Type 0 where
  pub front : List ℕ
  pub back : List ℕ
  pub are : s ≡ front ++ (l ++ back)
  pub placed : length front ≡ at

pub here_byte : (s : List ℕ) (at : ℕ) (l : List ℕ) → Here s at l → (j : ℕ) → j < length l → byte_at s (at + j) ≡ get_or l j 0
here_byte s at l h j i =
    ap (λ (z : List ℕ). get_or z (at + j) 0) h.are ∙ ap (λ n. get_or (h.front ++ (l ++ h.back)) (n + j) 0) (sym h.placed) ∙ get_or-append-add h.front (l ++ h.back) j 0 ∙ get_d_front l h.back j i

pub here_word : (s : List ℕ) (at : ℕ) (l : List ℕ) → Here s at l → (j : ℕ) → suc j < length l → word_at s (at + j) ≡ get_or l j 0 + 256 * get_or l (suc j) 0
here_word s at l h j i =
    ap₂ (λ a b. a + 256 * b) (here_byte s at l h j (omega arith)) (ap (λ n. get_or s n 0) (next at j) ∙ here_byte s at l h (suc j) i)
  where
    next : (a b : ℕ) → suc (a + b) ≡ a + suc b
    next a b = omega arith

-- a number of two bytes
pub two_bytes : (n : ℕ) → n % 256 + 256 * (n / 256) ≡ n
two_bytes n = omega arith

pub here_front : (s : List ℕ) (at : ℕ) (l m : List ℕ) → Here s at (l ++ m) → Here s at l
here_front s at l m h = record { front = h.front; back = m ++ h.back; are = h.are ∙ ap (λ z. h.front ++ z) (append_assoc l m h.back); placed = h.placed }

pub here_behind : (s : List ℕ) (at n : ℕ) (l m : List ℕ) → length l ≡ n → Here s at (l ++ m) → Here s (at + n) m
here_behind s at n l m e h = record {
  front = h.front ++ l;
  back = h.back;
  are = h.are ∙ ap (λ z. h.front ++ z) (append_assoc l m h.back) ∙ sym (append_assoc h.front l (m ++ h.back));
  placed = simp length-append (omega (arith, h.placed, e));
}

pub here_cut : (s : List ℕ) (at n : ℕ) (l : List ℕ) → length l ≡ n → Here s at l → take n (drop at s) ≡ l
here_cut s at n l e h =
    ap (λ (z : List ℕ). take n (drop at z)) h.are ∙ ap (take n) (drop_at h.front (l ++ h.back) at h.placed) ∙ ap (λ k. take k (l ++ h.back)) (sym e) ∙ take-append_seam l h.back

pub here_at : (s : List ℕ) (at at' : ℕ) (l : List ℕ) → at ≡ at' → Here s at l → Here s at' l
here_at s at at' l e h = subst (λ n. Here s n l) e h
