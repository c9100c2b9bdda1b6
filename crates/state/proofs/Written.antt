-- Laws of writing a state. What is written goes on where it stopped (wrote_then), so each function's answer is its parts' each_bytes; a loop over
-- sets or frames is stated by what it has written (wrote-more), one over a number by what is left (put-number).
use mathlib.Core.Bool.{true}
use mathlib.Core.Path.{◌≡◌, refl, sym, ap, subst, ◌∙◌}
use mathlib.Core.List.{List, [], ◌∷◌, ◌++◌, append-nil, append_assoc}
use Prim.Native.Nat.{ℕ, zero, suc, ◌+◌, ◌-◌, ◌*◌, ◌/◌, ◌%◌, ◌<◌, ◌≤◌}
use native.Mathlib.Nat.{mul-suc, mul-zero}
use native.Mathlib.Omega.{arith}
use native.Mathlib.Numerals.{add-one}
use lib.ListN.{length, length-append, get_or, take}
use lib.Seq.{take-suc, take_all}
use Rattle.lent.specs.Put.{put, PutAs}
use Rattle.lent.proofs.Laws.{put_append, put_none}
use Rattle.state.specs.declared.State.{State}
use Rattle.state.specs.Changes.{heading_of}
use Rattle.state.specs.Bytes.{flag, number_bytes, each_bytes, frame_bytes, heading_bytes, bytes_of, Wrote}

pub wrote_none : (d : List ℕ) (at : ℕ) → Wrote 0 d at [] d at
wrote_none d at = record { next = omega arith; wide = refl; left = sym (put_none true d at) }

pub wrote_then : {a b : ℕ} {d : List ℕ} {at : ℕ} {xs ys : List ℕ} {d₁ d₂ : List ℕ} {n m : ℕ} → Wrote a d at xs d₁ n → Wrote b d₁ n ys d₂ m → Wrote (a + b) d at (xs ++ ys) d₂ m
wrote_then {d = d} {at = at} {xs = xs} {ys = ys} {n = n} p q =
    let e : n ≡ at + length xs = omega arith in
    record {
      next = omega arith;
      wide = length-append xs ys ∙ (cc);
      left = q.left ∙ rw (p.left, e) (put_append true d at xs ys);
    }

pub wrote_same : {w : ℕ} {d : List ℕ} {at : ℕ} {xs ys d₁ : List ℕ} {n : ℕ} → xs ≡ ys → Wrote w d at xs d₁ n → Wrote w d at ys d₁ n
wrote_same {w} {d} {at} {d₁ = d₁} {n = n} e p = subst (λ (l : List ℕ). Wrote w d at l d₁ n) e p

pub wrote_wide : {a b : ℕ} {d : List ℕ} {at : ℕ} {xs d₁ : List ℕ} {n : ℕ} → a ≡ b → Wrote a d at xs d₁ n → Wrote b d at xs d₁ n
wrote_wide {d = d} {at = at} {xs = xs} {d₁ = d₁} {n = n} e p = subst (λ (w : ℕ). Wrote w d at xs d₁ n) e p

-- what the crate `lent` puts
pub wrote_put : {d : List ℕ} {at : ℕ} {xs d₁ : List ℕ} {n : ℕ} (w : ℕ) → length xs ≡ w → PutAs true d at xs d₁ n → Wrote w d at xs d₁ n
wrote_put w e p = record { next = omega arith; wide = e; left = p.left }

pub put_wrote : {w : ℕ} {d : List ℕ} {at : ℕ} {xs d₁ : List ℕ} {n : ℕ} → Wrote w d at xs d₁ n → PutAs true d at xs d₁ n
put_wrote p = record { next = omega (arith, p.next, p.wide); left = p.left }

pub put_after : {d : List ℕ} {at : ℕ} {xs ys d₁ d₂ : List ℕ} {n m : ℕ} → PutAs true d at xs d₁ n → PutAs true d₁ n ys d₂ m → d₂ ≡ put true d at (xs ++ ys)
put_after {d = d} {at = at} {xs = xs} {ys = ys} p q = q.left ∙ rw (p.left, p.next) (put_append true d at xs ys)

pub joined_snoc : {X : Type 0} (f : X → List ℕ) (l : List X) (x : X) → each_bytes f (l ++ (x ∷ [])) ≡ each_bytes f l ++ f x
unfolding each_bytes
joined_snoc f [] x = append-nil (f x)
joined_snoc f (y ∷ l) x = ap (λ (r : List ℕ). f y ++ r) (joined_snoc f l x) ∙ sym (append_assoc (f y) (each_bytes f l) (f x))

-- one more of a list
pub wrote_more : {X : Type 0} (f : X → List ℕ) (w : ℕ) (l : List X) (i : ℕ) (z : X) → i < length l → {d : List ℕ} {at : ℕ} {d₁ d₂ : List ℕ} {n m : ℕ} →
    Wrote (w * i) d at (each_bytes f (take i l)) d₁ n → Wrote w d₁ n (f (get_or l i z)) d₂ m → Wrote (w * (i + 1)) d at (each_bytes f (take (i + 1) l)) d₂ m
wrote_more f w l i z h p q =
    rw (add-one, take-suc l i z h, joined_snoc f (take i l) (get_or l i z), mul-suc) (wrote_then p q)

pub wrote_start : {X : Type 0} (f : X → List ℕ) (w : ℕ) (l : List X) (d : List ℕ) (at : ℕ) → Wrote (w * 0) d at (each_bytes f (take 0 l)) d at
unfolding each_bytes
wrote_start f w l d at = rw mul-zero (wrote_none d at)

pub wrote_all : {X : Type 0} (f : X → List ℕ) (w : ℕ) (l : List X) (n i : ℕ) → length l ≡ n → i ≡ n → {d : List ℕ} {at : ℕ} {d₁ : List ℕ} {m : ℕ} →
    Wrote (w * i) d at (each_bytes f (take i l)) d₁ m → Wrote (w * n) d at (each_bytes f l) d₁ m
wrote_all f w l n i e g p = let h : take i l ≡ l = take_all i l (omega arith) in rw (← g, ← h) p

-- one more byte of a number
pub put_number_lem : (d : List ℕ) (at i m : ℕ) → i < 8 →
    put true (put true d (at + i) (m % 256 ∷ [])) (at + (i + 1)) (number_bytes (8 - (i + 1)) (m / 256)) ≡ put true d (at + i) (number_bytes (8 - i) m)
unfolding number_bytes
put_number_lem d at i m h =
    let e : 8 - i ≡ suc (8 - (i + 1)) = omega arith in
    let g : at + (i + 1) ≡ at + i + 1 = omega arith in
    rw (e, g) (put_append true d (at + i) (m % 256 ∷ []) (number_bytes (8 - (i + 1)) (m / 256)))

pub number_done : (d : List ℕ) (at i m : ℕ) → 8 ≤ i → put true d (at + i) (number_bytes (8 - i) m) ≡ d
unfolding number_bytes
number_done d at i m h = let e : 8 - i ≡ 0 = omega arith in rw e (put_none true d (at + i))

pub number_wide : (k n : ℕ) → length (number_bytes k n) ≡ k
unfolding number_bytes
number_wide zero n = refl
number_wide (suc k) n = ap suc (number_wide k (n / 256))

-- a state's bytes: all but its frames, and its frames
pub heading_first : (s : State) → heading_bytes (heading_of s) ++ each_bytes frame_bytes s.frames ≡ bytes_of s
unfolding heading_bytes bytes_of
heading_first s =
    let c : List ℕ = number_bytes 8 s.count in
    let d : List ℕ = number_bytes 8 s.depth in
    let fs : List ℕ = each_bytes frame_bytes s.frames in
    append_assoc s.values (flag s.echo ∷ (c ++ flag s.rooted ∷ s.closed ∷ d)) fs
    ∙ ap (λ (l : List ℕ). s.values ++ flag s.echo ∷ l) (append_assoc c (flag s.rooted ∷ s.closed ∷ d) fs)

-- one answer: what is left and what is answered
pub wrote_one : {w : ℕ} {d : List ℕ} {at : ℕ} {xs d₁ d₂ : List ℕ} {n m : ℕ} → Wrote w d at xs d₁ n → Wrote w d at xs d₂ m → (d₁ ≡ d₂) × (n ≡ m)
wrote_one p q = (p.left ∙ sym q.left, omega arith)
