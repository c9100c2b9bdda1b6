-- Numbers, bytes of strings and operands as they are written, by the test that each passes; a string, one byte from the front. Assumes nothing.
use mathlib.Core.Path.{◌≡◌, refl, sym, ◌∙◌, ap, subst}
use mathlib.Core.Bool.{Bool, true, false, cond}
use mathlib.Core.List.{List, [], ◌∷◌, ◌++◌}
use Prim.Native.Nat.{ℕ, suc, ◌+◌, ◌-◌, ◌*◌, ◌/◌, ◌%◌, ◌≤◌, ◌<◌}
use native.Mathlib.Omega.{arith}
use native.Mathlib.Numerals.{add-one}
use lib.Dec.{eqb, ltb}
use lib.ListN.{length, length-append, get_or, drop, drop_of_length-le}
use lib.Seq.{drop-cons}
use borrow.Author.Tests.{ne_eqb, eq-eqb, lt-ltb, le-ltb}
use Rattle.lent.specs.Put.{put, PutAs}
use Rattle.lent.proofs.Laws.{put_append, put_none}
use Rattle.programs.specs.Program.{constant, current, recalled}
use Rattle.notation.specs.Tokens.{decimal}
use Rattle.printed.specs.Programs.{in_string, all_in_string}
use Rattle.printer.specs.Operands.{operand_text_at, OperandsAreTheirs}

pub one_digit : (n : ℕ) → n < 10 → (48 + n) ∷ [] ≡ decimal n
unfolding decimal
one_digit n h = rw (lt-ltb n 10 h) refl

pub two_digits : (n : ℕ) → 10 ≤ n → (48 + n / 10) ∷ (48 + n % 10) ∷ [] ≡ decimal n
unfolding decimal
two_digits n h = rw (le-ltb n 10 h) refl

pub string_quote : (b : ℕ) → b ≡ 34 → 92 ∷ 34 ∷ [] ≡ in_string b
string_quote b e = rw e refl

pub string_backslash : (b : ℕ) → b ≡ 92 → 92 ∷ 92 ∷ [] ≡ in_string b
string_backslash b e = rw e refl

pub string_tab : (b : ℕ) → b ≡ 9 → 92 ∷ 116 ∷ [] ≡ in_string b
string_tab b e = rw e refl

pub string_line : (b : ℕ) → b ≡ 10 → 92 ∷ 110 ∷ [] ≡ in_string b
string_line b e = rw e refl

pub string_return : (b : ℕ) → b ≡ 13 → 92 ∷ 114 ∷ [] ≡ in_string b
string_return b e = rw e refl

pub string_other : (b : ℕ) → (b ≡ 34 → ⊥) → (b ≡ 92 → ⊥) → (b ≡ 9 → ⊥) → (b ≡ 10 → ⊥) → (b ≡ 13 → ⊥) → b ∷ [] ≡ in_string b
string_other b h i j k l = rw (ne_eqb b 34 h, ne_eqb b 92 i, ne_eqb b 9 j, ne_eqb b 10 k, ne_eqb b 13 l) refl

pub string_short : (b : ℕ) → length (in_string b) ≤ 2
string_short b = on (eqb b 34) (eqb b 92) (eqb b 9) (eqb b 10) (eqb b 13)
  where
    on : (p q r s t : Bool) → length (cond p (92 ∷ 34 ∷ []) (cond q (92 ∷ 92 ∷ []) (cond r (92 ∷ 116 ∷ []) (cond s (92 ∷ 110 ∷ []) (cond t (92 ∷ 114 ∷ []) (b ∷ [])))))) ≤ 2
    on true q r s t = omega arith
    on false true r s t = omega arith
    on false false true s t = omega arith
    on false false false true t = omega arith
    on false false false false true = omega arith
    on false false false false false = omega arith

pub all_short : (f : List ℕ) → length (all_in_string f) ≤ 2 * length f
all_short [] = omega arith
all_short (b ∷ f) = omega (arith, length-append (in_string b) (all_in_string f), string_short b, all_short f)

-- a string from byte i on
abbrev pub Rest : List ℕ → ℕ → List ℕ
Rest f i = all_in_string (drop i f)

pub rest_cons : (f : List ℕ) (i : ℕ) → i < length f → Rest f i ≡ in_string (get_or f i 0) ++ Rest f (i + 1)
rest_cons f i h = ap all_in_string (drop-cons f i 0 h) ∙ ap (λ z. in_string (get_or f i 0) ++ all_in_string (drop z f)) (let e : suc i ≡ i + 1 = omega arith in e)

pub next_length : (w : Bool) (d d' : List ℕ) (n n' i : ℕ) (f : List ℕ) → i < length f → PutAs w d n (in_string (get_or f i 0)) d' n' → n' + length (Rest f (i + 1)) ≡ n + length (Rest f i)
next_length w d d' n n' i f h P = omega (arith, P.next, ap length (rest_cons f i h), length-append (in_string (get_or f i 0)) (Rest f (i + 1)))

pub next_put : (w : Bool) (d d' : List ℕ) (n n' i : ℕ) (f : List ℕ) → i < length f → PutAs w d n (in_string (get_or f i 0)) d' n' → put w d' n' (Rest f (i + 1)) ≡ put w d n (Rest f i)
next_put w d d' n n' i f h P =
    ap (λ z. put w z n' (Rest f (i + 1))) P.left ∙ ap (λ z. put w (put w d n (in_string (get_or f i 0))) z (Rest f (i + 1))) P.next ∙ put_append w d n (in_string (get_or f i 0)) (Rest f (i + 1))
    ∙ ap (put w d n) (sym (rest_cons f i h))

pub all_put : (w : Bool) (d d' : List ℕ) (at n i : ℕ) (f : List ℕ) → length f ≤ i → n + length (Rest f i) ≡ at + length (Rest f 0) → put w d' n (Rest f i) ≡ put w d at (Rest f 0) → PutAs w d at (all_in_string f) d' n
all_put w d d' at n i f h e g =
    let z : Rest f i ≡ [] = ap all_in_string (drop_of_length-le f h) in
    record { next = omega (arith, e, ap length z); left = sym (put_none w d' n) ∙ ap (put w d' n) (sym z) ∙ g }

pub operand_value : (k v : ℕ) → k ≡ 0 → decimal v ≡ operand_text_at k v
operand_value k v e = rw e refl

pub operand_current : (k v : ℕ) → k ≡ 1 → 36 ∷ 46 ∷ 97 ∷ [] ++ decimal v ≡ operand_text_at k v
operand_current k v e = rw e refl

pub operand_kept : (k v : ℕ) → (k ≡ 0 → ⊥) → (k ≡ 1 → ⊥) → 36 ∷ 91 ∷ 46 ∷ 97 ∷ [] ++ decimal v ≡ operand_text_at k v
operand_kept k v h i = rw (ne_eqb k 0 h, ne_eqb k 1 i) refl

pub operands_are_theirs : OperandsAreTheirs
operands_are_theirs (constant v) = refl
operands_are_theirs (current a) = refl
operands_are_theirs (recalled a) = refl
