-- References by number: what each way through `number` shows of the front, and the fewest digits that a number still wants.
-- Assumes nothing.
use mathlib.Core.Path.{◌≡◌, refl, sym, ap, ap₂, ◌∙◌, subst}
use mathlib.Core.Logic.{◌⊎◌, inl, inr, ⊎_elim}
use mathlib.Core.Bool.{true, false, true≢false}
use mathlib.Core.List.{List, [], ◌∷◌, ◌++◌, append_assoc, append-nil, head-eq_of_cons-eq}
use Prim.Native.Nat.{ℕ, ◌+◌, ◌*◌, ◌≤◌, ◌<◌}
use native.Mathlib.Omega.{arith}
use native.Mathlib.Numerals.{add-one}
use native.Mathlib.Nat.{add-zero}
use native.Mathlib.Decide.{dec_le, dec_lt, ℕ_discrete}
use lib.ListN.{length, get_or, drop, length-append}
use lib.Seq.{drop-cons}
use borrow.Author.Tests.{lt-ltb, le-ltb, ltb-true}
use Rattle.text.specs.Chars.{In, Char, Begins}
use Rattle.text.specs.Names.{All}
use Rattle.text.specs.Numerals.{digit_value, Base, decimal, hex, radix, digit_below, Digits, value_from, value_of}
use Rattle.text.proofs.Shapes.{cons≢[], char_low, char_most}
use Rattle.text.proofs.NumeralLaws.{value_append, value_grows}
use Rattle.tokens.specs.Inner.{cut_at, OpensNumeric, Fewest}
use Rattle.tokens.specs.Tokens.{crlf, Tok, numeric, Good, base_mark, bytes, Means}
use Rattle.tokens.specs.declared.Event.TheVariants.{Character}
use Rattle.tokens.specs.declared.Answer.TheVariants.{Token, Begun, Bad}
use Rattle.tokens.proofs.Theory.{NoMark, GoesOn, number_is, stop_59, whole, begun, no_line}
use Rattle.tokens.proofs.Runs.{all_snoc, all_append}
use Rattle.tokens.proofs.Reading.{at_one, nothing_left, bad, cut_means}

-- the fewest digits
between : (c : ℕ) → Char c → 13 < c → c < 32 → ⊥
between c ok h k = ⊎_elim (λ e. omega arith) (⊎_elim (λ e. omega arith) (λ e. omega arith)) (char_low ok k)

pub fewest_none : (r n : ℕ) → Char n → Fewest r n 0
fewest_none r n ok = record { digits = []; are_digits = tt; name_one = ok; many = refl; fewest = λ ds a c. omega arith }

-- a number that is no character wants a digit
wants_one : (r n : ℕ) → (Char n → ⊥) → (ds : List ℕ) → Char (value_from r n ds) → 1 ≤ length ds
wants_one r n no_char [] c = absurd (no_char c)
wants_one r n no_char (d ∷ ds) c = omega arith

one_more : (low x r : ℕ) → 13 < low → low + r ≤ 32 → x < r → Char (low + x) → ⊥
one_more low x r h k l ok = between (low + x) ok (omega arith) (omega arith)

wants_two : (r n : ℕ) → (Char n → ⊥) → 13 < n * r → n * r + r ≤ 32 → (ds : List ℕ) → All (digit_below r) ds → Char (value_from r n ds) → 2 ≤ length ds
wants_two r n no_char h k [] a c = absurd (no_char c)
wants_two r n no_char h k (d ∷ []) a c = absurd (one_more (n * r) (digit_value d) r h k (ltb-true (digit_value d) r a.0) c)
wants_two r n no_char h k (d ∷ e ∷ ds) a c = omega arith

-- a decimal digit, and F, in the base
zero_digit : (r : ℕ) → 10 ≤ r → digit_below r 48 ≡ true
zero_digit r h = lt-ltb 0 r (omega arith)

pub fewest_two : (r n : ℕ) → (r ≡ 10) ⊎ (r ≡ 16) → (Char n → ⊥) → 13 < n * r → n * r + r ≤ 32 → Fewest r n 2
fewest_two r n b no_char h k =
    record {
      digits = 48 ∷ 48 ∷ [];
      are_digits = ⊎_elim (λ e. zeros (omega arith)) (λ e. zeros (omega arith)) b;
      name_one = ⊎_elim (λ e. ten e) (λ e. sixteen e) b;
      many = refl;
      fewest = wants_two r n no_char h k;
    }
  where
    zeros : 10 ≤ r → All (digit_below r) (48 ∷ 48 ∷ [])
    zeros l = (zero_digit r l, (zero_digit r l, tt))

    ten : r ≡ 10 → Char (value_from r n (48 ∷ 48 ∷ []))
    ten e =
        let h' : 13 < n * 10 = subst (λ (x : ℕ). 13 < n * x) e h in
        let k' : n * 10 + 10 ≤ 32 = subst (λ (x : ℕ). n * x + x ≤ 32) e k in
        subst (λ (x : ℕ). Char (value_from x n (48 ∷ 48 ∷ []))) (sym e) (inr (inr (inr (inl (omega arith)))))

    sixteen : r ≡ 16 → Char (value_from r n (48 ∷ 48 ∷ []))
    sixteen e =
        let h' : 13 < n * 16 = subst (λ (x : ℕ). 13 < n * x) e h in
        let k' : n * 16 + 16 ≤ 32 = subst (λ (x : ℕ). n * x + x ≤ 32) e k in
        subst (λ (x : ℕ). Char (value_from x n (48 ∷ 48 ∷ []))) (sym e) (inr (inr (inr (inl (omega arith)))))

-- what is so or is not
abbrev pub Decided : Type 0 → Type 0
Decided P = P ⊎ (P → ⊥)

pub decided : {P : Type 0} → Dec P → Decided P
decided (yes p) = inl p
decided (no n) = inr n

or_decided : {P Q : Type 0} → Decided P → Decided Q → Decided (P ⊎ Q)
or_decided (inl p) q = inl (inl p)
or_decided (inr n) (inl q) = inl (inr q)
or_decided (inr n) (inr m) = inr (λ x. ⊎_elim n m x)

pub and_decided : {P Q : Type 0} → Decided P → Decided Q → Decided (P × Q)
and_decided (inr n) q = inr (λ x. n x.0)
and_decided (inl p) (inl q) = inl (p, q)
and_decided (inl p) (inr m) = inr (λ x. m x.1)

in_decided : (a c b : ℕ) → Decided (In a c b)
in_decided a c b = and_decided (decided (dec_le a c)) (decided (dec_le c b))

pub char_decided : (c : ℕ) → Decided (Char c)
char_decided c =
    or_decided (decided (ℕ_discrete c 0x9)) (or_decided (decided (ℕ_discrete c 0xA)) (or_decided (decided (ℕ_discrete c 0xD))
    (or_decided (in_decided 0x20 c 0xD7FF) (or_decided (in_decided 0xE000 c 0xFFFD) (in_decided 0x10000 c 0x10FFFF)))))

-- where no character is, up to the last
abbrev Gap : ℕ → Type 0
Gap n = (n < 32) ⊎ (((0xD800 ≤ n) × (n < 0xE000)) ⊎ ((0xFFFE ≤ n) × (n < 0x10000)))

gap : (n : ℕ) → n ≤ 0x10FFFF → (Char n → ⊥) → Gap n
gap n m no_char = go (dec_lt n 32) (dec_lt n 0xD800) (dec_lt n 0xE000) (dec_lt n 0xFFFE) (dec_lt n 0x10000)
  where
    go : Dec (n < 32) → Dec (n < 0xD800) → Dec (n < 0xE000) → Dec (n < 0xFFFE) → Dec (n < 0x10000) → Gap n
    go (yes a) b c d e = inl a
    go (no a) (yes b) c d e = absurd (no_char (inr (inr (inr (inl (omega arith))))))
    go (no a) (no b) (yes c) d e = inr (inl (omega arith, c))
    go (no a) (no b) (no c) (yes d) e = absurd (no_char (inr (inr (inr (inr (inl (omega arith)))))))
    go (no a) (no b) (no c) (no d) (yes e) = inr (inr (omega arith, e))
    go (no a) (no b) (no c) (no d) (no e) = absurd (no_char (inr (inr (inr (inr (inr (omega arith)))))))

-- one digit that comes to a character
abbrev OneDigit : ℕ → ℕ → Type 0
OneDigit r n = (d : ℕ) × (digit_below r d ≡ true) × Char (n * r + digit_value d)

ten_digit : (n : ℕ) → Gap n → (n * 10 ≤ 13) ⊎ (32 < n * 10 + 10) → OneDigit 10 n
ten_digit n (inl h) (inl k) = go (ℕ_discrete n 0)
  where
    go : Dec (n ≡ 0) → OneDigit 10 n
    go (yes e) = (57, refl, inl (omega arith))
    go (no e) = (48, refl, inr (inl (omega arith)))
ten_digit n (inl h) (inr k) = (57, refl, inr (inr (inr (inl (omega arith)))))
ten_digit n (inr (inl h)) k = (48, refl, inr (inr (inr (inr (inr (omega arith))))))
ten_digit n (inr (inr h)) k = (48, refl, inr (inr (inr (inr (inr (omega arith))))))

sixteen_digit : (n : ℕ) → Gap n → (n * 16 ≤ 13) ⊎ (32 < n * 16 + 16) → OneDigit 16 n
sixteen_digit n (inl h) (inl k) = (57, refl, inl (omega arith))
sixteen_digit n (inl h) (inr k) = (70, refl, inr (inr (inr (inl (omega arith)))))
sixteen_digit n (inr (inl h)) k = (48, refl, inr (inr (inr (inr (inr (omega arith))))))
sixteen_digit n (inr (inr h)) k = (48, refl, inr (inr (inr (inr (inr (omega arith))))))

one_digit : (r n : ℕ) → (r ≡ 10) ⊎ (r ≡ 16) → Gap n → (n * r ≤ 13) ⊎ (32 < n * r + r) → OneDigit r n
one_digit r n (inl e) g k = subst (λ (x : ℕ). OneDigit x n) (sym e) (ten_digit n g (subst (λ (x : ℕ). (n * x ≤ 13) ⊎ (32 < n * x + x)) e k))
one_digit r n (inr e) g k = subst (λ (x : ℕ). OneDigit x n) (sym e) (sixteen_digit n g (subst (λ (x : ℕ). (n * x ≤ 13) ⊎ (32 < n * x + x)) e k))

pub fewest_one : (r n : ℕ) → n ≤ 0x10FFFF → (r ≡ 10) ⊎ (r ≡ 16) → (Char n → ⊥) → (n * r ≤ 13) ⊎ (32 < n * r + r) → Fewest r n 1
fewest_one r n m b no_char k =
    let (d, p, c) = one_digit r n b (gap n m no_char) k in
    record { digits = d ∷ []; are_digits = (p, tt); name_one = c; many = refl; fewest = λ ds a x. wants_one r n no_char ds x }

-- there are always such, and they are two at most
pub some_fewest : (k : Base) (n : ℕ) → n ≤ 0x10FFFF → (j : ℕ) × Fewest (radix k) n j × (j ≤ 2)
some_fewest k n m = by (char_decided n) (decided (dec_lt 13 (n * radix k))) (decided (dec_le (n * radix k + radix k) 32))
  where
    ten_or_sixteen : (x : Base) → (radix x ≡ 10) ⊎ (radix x ≡ 16)
    ten_or_sixteen decimal = inl refl
    ten_or_sixteen hex = inr refl

    by : Decided (Char n) → Decided (13 < n * radix k) → Decided (n * radix k + radix k ≤ 32) → (j : ℕ) × Fewest (radix k) n j × (j ≤ 2)
    by (inl c) a b = (0, fewest_none (radix k) n c, omega arith)
    by (inr c) (inl a) (inl b) = (2, fewest_two (radix k) n (ten_or_sixteen k) c a b, omega arith)
    by (inr c) (inr a) b = (1, fewest_one (radix k) n m (ten_or_sixteen k) c (inl (omega arith)), omega arith)
    by (inr c) (inl a) (inr b) = (1, fewest_one (radix k) n m (ten_or_sixteen k) c (inr (omega arith)), omega arith)

-- so the fewest are
pub fewest_most : (r n j : ℕ) → n ≤ 0x10FFFF → (r ≡ 10) ⊎ (r ≡ 16) → Fewest r n j → j ≤ 2
fewest_most r n j m b F = ⊎_elim (λ e. by decimal e) (λ e. by hex e) b
  where
    by : (k : Base) → r ≡ radix k → j ≤ 2
    by k e =
        let (i, G, few) = some_fewest k n m in
        omega (arith, F.fewest G.digits (subst (λ (x : ℕ). All (digit_below x) G.digits) (sym e) G.are_digits) (subst (λ (x : ℕ). Char (value_from x n G.digits)) (sym e) G.name_one), G.many, few)

-- the bytes of f from `from` up to i are digits, and name n, which is not past the last character: what the loop over them keeps
pub record Counted (f : List ℕ) (from r i n : ℕ) : Type 0 where
  pub run : List ℕ
  pub pass : All (digit_below r) run
  pub split : drop from f ≡ run ++ drop i f
  pub count : from + length run ≡ i
  pub within : i ≤ length f
  pub value : n ≡ value_from r 0 run
  pub small : n ≤ 0x10FFFF

-- the digits read so far
pub counted_none : (f : List ℕ) (from r : ℕ) → from ≤ length f → Counted f from r from 0
counted_none f from r h =
    record { run = []; pass = tt; split = refl; count = add-zero from; within = h; value = refl; small = omega arith }

pub counted_more : (f : List ℕ) (from r i n d : ℕ) → Counted f from r i n → i < length f → d ≡ digit_value (get_or f i 0) → d < r → n * r + d ≤ 0x10FFFF
    → Counted f from r (i + 1) (n * r + d)
counted_more f from r i n d C h e l s =
    let x : ℕ = get_or f i 0 in
    record {
      run = C.run ++ (x ∷ []);
      pass = all_snoc (digit_below r) x C.run C.pass (lt-ltb (digit_value x) r (subst (λ (y : ℕ). y < r) e l));
      split = C.split ∙ ap (λ (m : List ℕ). C.run ++ m) (drop-cons f i 0 h ∙ ap (λ (j : ℕ). x ∷ drop j f) (sym (add-one i))) ∙ sym (append_assoc C.run (x ∷ []) (drop (i + 1) f));
      count = omega (arith, length-append C.run (x ∷ []), C.count);
      within = omega arith;
      value = ap₂ (λ (y z : ℕ). y * r + z) C.value e ∙ sym (value_append r 0 C.run (x ∷ []));
      small = s;
    }

past : (x y : ℕ) → x ≤ y → 0x10FFFF < x → y ≤ 0x10FFFF → ⊥
past x y a b c = omega arith

-- what opens the reference, and its digits
opened_length : (k : Base) (ds : List ℕ) → length (bytes (numeric k ds)) ≡ 2 + (length (base_mark k) + (length ds + 1))
opened_length k ds = omega (arith, length-append (base_mark k) (ds ++ (59 ∷ [])), length-append ds (59 ∷ []))

no_mark_in : (k : Base) (f : List ℕ) (from : ℕ) → (k ≡ decimal → (from < length f) × (get_or f from 0 ≡ 120 → ⊥)) → (v : List ℕ) → NoMark k (drop from f ++ v)
no_mark_in decimal f from n v =
    let w = n refl in
    subst (λ (l : List ℕ). NoMark decimal (l ++ v)) (sym (drop-cons f from 0 w.0)) w.1
no_mark_in hex f from n v = tt

module _ (f : List ℕ) (at from r : ℕ) (O : OpensNumeric f from r) (i n : ℕ) (C : Counted f from r i n) where
  base_digits : Digits O.base C.run
  base_digits = subst (λ (x : ℕ). All (digit_below x) C.run) O.radix_is C.pass

  so_far_lem : f ≡ 38 ∷ 35 ∷ (base_mark O.base ++ (C.run ++ drop i f))
  so_far_lem = O.opened ∙ ap (λ (l : List ℕ). 38 ∷ 35 ∷ (base_mark O.base ++ l)) C.split

  value_is : n ≡ value_of O.base C.run
  value_is = C.value ∙ ap (λ (x : ℕ). value_from x 0 C.run) O.radix_is

  -- a token that f agrees with as far as both go
  agrees : (v : List ℕ) (t : Tok) → Good t → (u : List ℕ) → f ++ v ≡ bytes t ++ u → GoesOn O.base C.run (drop i f ++ v) t u
  agrees v t ok u e =
      number_is O.base C.run (drop i f ++ v) base_digits
      (subst (λ (l : List ℕ). NoMark O.base l) (ap (λ (l : List ℕ). l ++ v) C.split ∙ append_assoc C.run (drop i f) v) (no_mark_in O.base f from O.no_mark v)) t ok u
      (ap (λ (l : List ℕ). 38 ∷ 35 ∷ l) (ap (λ (l : List ℕ). base_mark O.base ++ l) (sym (append_assoc C.run (drop i f) v)) ∙ sym (append_assoc (base_mark O.base) (C.run ++ drop i f) v))
      ∙ ap (λ (l : List ℕ). l ++ v) (sym so_far_lem) ∙ e)

  -- it names what its digits come to after those read
  goes_to : (t : Tok) → Good t → (m : List ℕ) → t ≡ numeric O.base (C.run ++ m) → Char (value_from r n m)
  goes_to t ok m p =
      let c : Char (value_of O.base (C.run ++ m)) = (subst (λ (x : Tok). Good x) p ok).1 in
      subst (λ (x : ℕ). Char x) (value_append (radix O.base) 0 C.run m ∙ ap₂ (λ (x y : ℕ). value_from x y m) (sym O.radix_is) (sym value_is)) c

  pub number_token : i < length f → get_or f i 0 ≡ 59 → Char n → Means f at (Token (Character n false) (record { at = at + i + 1 }))
  number_token h e ok =
      let t : Tok = numeric O.base C.run in
      whole f at t (drop (i + 1) f) (base_digits, subst (λ (x : ℕ). Char x) value_is ok)
      (so_far_lem ∙ ap (λ (l : List ℕ). 38 ∷ 35 ∷ (base_mark O.base ++ (C.run ++ l))) (at_one f i 59 h e)
      ∙ ap (λ (l : List ℕ). 38 ∷ 35 ∷ l) (ap (λ (l : List ℕ). base_mark O.base ++ l) (sym (append_assoc C.run (59 ∷ []) (drop (i + 1) f))) ∙ sym (append_assoc (base_mark O.base) (C.run ++ (59 ∷ [])) (drop (i + 1) f))))
      (Character n false) (record { at = at + i + 1 }) tt tt (ap (λ (x : ℕ). Character x false) value_is)
      (omega (arith, opened_length O.base C.run, O.place, C.count))

  -- a byte that is no digit: ; after a number that is no character, or another
  pub number_bad : i < length f → (digit_below r (get_or f i 0) ≡ true → ⊥) → (get_or f i 0 ≡ 59 → Char n → ⊥) → Means f at Bad
  number_bad h no_digit no_char = bad f at (λ t ok v u e. go t ok v u (agrees v t ok u e))
    where
      is : (v : List ℕ) → drop i f ++ v ≡ get_or f i 0 ∷ (drop (i + 1) f ++ v)
      is v = ap (λ (l : List ℕ). l ++ v) (at_one f i (get_or f i 0) h refl)

      go : (t : Tok) → Good t → (v u : List ℕ) → GoesOn O.base C.run (drop i f ++ v) t u → ⊥
      go t ok v u ([], a, p, q) = no_char (head-eq_of_cons-eq (sym (is v) ∙ q)) (goes_to t ok [] p)
      go t ok v u (x ∷ m, a, p, q) =
          no_digit (ap₂ (λ (y z : ℕ). digit_below y z) O.radix_is (head-eq_of_cons-eq (sym (is v) ∙ q)) ∙ a.0)

  -- a digit that takes the number past the last character
  pub number_large : i < length f → digit_below r (get_or f i 0) ≡ true → 0x10FFFF < n * r + digit_value (get_or f i 0) → Means f at Bad
  number_large h digit large = bad f at (λ t ok v u e. go t ok v u (agrees v t ok u e))
    where
      is : (v : List ℕ) → drop i f ++ v ≡ get_or f i 0 ∷ (drop (i + 1) f ++ v)
      is v = ap (λ (l : List ℕ). l ++ v) (at_one f i (get_or f i 0) h refl)

      digit_here : digit_below (radix O.base) (get_or f i 0) ≡ true
      digit_here = ap (λ (x : ℕ). digit_below x (get_or f i 0)) (sym O.radix_is) ∙ digit

      go : (t : Tok) → Good t → (v u : List ℕ) → GoesOn O.base C.run (drop i f ++ v) t u → ⊥
      go t ok v u ([], a, p, q) =
          true≢false (sym digit_here ∙ ap (digit_below (radix O.base)) (head-eq_of_cons-eq (sym (is v) ∙ q)) ∙ stop_59 O.base)
      go t ok v u (x ∷ m, a, p, q) =
          let e : get_or f i 0 ≡ x = head-eq_of_cons-eq (sym (is v) ∙ q) in
          let g : n * r + digit_value x ≤ value_from r (n * r + digit_value x) m =
          subst (λ (y : ℕ). n * r + digit_value x ≤ value_from y (n * r + digit_value x) m) (sym O.radix_is) (value_grows O.base (n * r + digit_value x) m) in
          let l : 0x10FFFF < n * r + digit_value x = subst (λ (y : ℕ). 0x10FFFF < n * r + digit_value y) e large in
          let c : value_from r (n * r + digit_value x) m ≤ 0x10FFFF = char_most (goes_to t ok (x ∷ m) p) in
          past (n * r + digit_value x) (value_from r (n * r + digit_value x) m) g l c

  -- the same as the code comes to them
  pub number_none : i < length f → get_or f i 0 ≡ 59 → (Char n → ⊥) → Means f at Bad
  number_none h e no_char = number_bad h (λ y. true≢false (sym y ∙ ap₂ (λ (x z : ℕ). digit_below x z) O.radix_is e ∙ stop_59 O.base)) (λ z k. no_char k)

  pub number_other : i < length f → (d : ℕ) → d ≡ digit_value (get_or f i 0) → r ≤ d → (get_or f i 0 ≡ 59 → ⊥) → Means f at Bad
  number_other h d e l other =
      number_bad h (λ y. true≢false (sym y ∙ le-ltb (digit_value (get_or f i 0)) r (subst (λ (x : ℕ). r ≤ x) e l))) (λ z k. other z)

  pub number_past : i < length f → (d : ℕ) → d ≡ digit_value (get_or f i 0) → d < r → 0x10FFFF < n * r + d → Means f at Bad
  number_past h d e l large =
      number_large h (lt-ltb (digit_value (get_or f i 0)) r (subst (λ (x : ℕ). x < r) e l)) (subst (λ (x : ℕ). 0x10FFFF < n * r + x) e large)

  -- cut off
  pub number_cut : i ≡ length f → (k : ℕ) → Fewest r n k → Means f at (cut_at (length f + k))
  number_cut l k F = cut_means f at t (length f + k) good (no_line t crlf refl) begins long shortest
    where
      t : Tok
      t = numeric O.base (C.run ++ F.digits)

      all_of : f ≡ 38 ∷ 35 ∷ (base_mark O.base ++ C.run)
      all_of = so_far_lem ∙ ap (λ (x : List ℕ). 38 ∷ 35 ∷ (base_mark O.base ++ x)) (ap (λ (x : List ℕ). C.run ++ x) (nothing_left f i l) ∙ append-nil C.run)

      size : length f ≡ 2 + (length (base_mark O.base) + length C.run)
      size = omega (arith, O.place, C.count)

      tail : Digits O.base F.digits
      tail = subst (λ (x : ℕ). All (digit_below x) F.digits) O.radix_is F.are_digits

      good : Good t
      good = (
        all_append (digit_below (radix O.base)) C.run F.digits base_digits tail,
        subst (λ (x : ℕ). Char x) (ap₂ (λ (x y : ℕ). value_from x y F.digits) O.radix_is value_is ∙ sym (value_append (radix O.base) 0 C.run F.digits)) F.name_one,
      )

      begins : Begins f (bytes t)
      begins = (
        F.digits ++ (59 ∷ []),
        ap (λ (x : List ℕ). 38 ∷ 35 ∷ x) (ap (λ (x : List ℕ). base_mark O.base ++ x) (append_assoc C.run F.digits (59 ∷ [])) ∙ sym (append_assoc (base_mark O.base) C.run (F.digits ++ (59 ∷ []))))
            ∙ ap (λ (x : List ℕ). x ++ (F.digits ++ (59 ∷ []))) (sym all_of),
        λ z. omega (arith, ap length z, length-append F.digits (59 ∷ [])),
      )

      long : length (bytes t) ≡ length f + k + 1
      long = omega (arith, opened_length O.base (C.run ++ F.digits), length-append C.run F.digits, size, F.many)

      shortest : (t' : Tok) → Good t' → Begins f (bytes t') → length f + k < length (bytes t')
      shortest t' ok' (v, e, ne) =
          let (m, a, p, q) = agrees v t' ok' [] (sym e ∙ sym (append-nil (bytes t'))) in
          let d : All (digit_below r) m = subst (λ (x : ℕ). All (digit_below x) m) (sym O.radix_is) a in
          omega (arith, ap (λ (x : Tok). length (bytes x)) p, opened_length O.base (C.run ++ m), length-append C.run m, size, F.fewest m d (goes_to t' ok' m p))

-- &# alone, and with what comes next
pub begun_number : (f : List ℕ) (at : ℕ) → length f ≡ 2 → get_or f 0 0 ≡ 38 → get_or f 1 0 ≡ 35 → Means f at Begun
begun_number f at l e e' =
    let s : f ≡ 38 ∷ 35 ∷ [] = at_one f 0 38 (omega arith) e ∙ ap (λ (r : List ℕ). 38 ∷ r) (at_one f 1 35 (omega arith) e' ∙ ap (λ (r : List ℕ). 35 ∷ r) (nothing_left f 2 (sym l))) in
    begun f at (numeric decimal (57 ∷ [])) ((refl, tt), inl refl) (no_line (numeric decimal (57 ∷ [])) crlf refl)
    (57 ∷ 59 ∷ [], ap (λ (r : List ℕ). r ++ (57 ∷ 59 ∷ [])) (sym s), cons≢[]) (omega arith)

pub opened_hex : (f : List ℕ) → 3 ≤ length f → get_or f 0 0 ≡ 38 → get_or f 1 0 ≡ 35 → get_or f 2 0 ≡ 120 → OpensNumeric f 3 16
opened_hex f l e e' e'' =
    record {
      base = hex;
      radix_is = refl;
      place = refl;
      opened = at_one f 0 38 (omega arith) e ∙ ap (λ (r : List ℕ). 38 ∷ r) (at_one f 1 35 (omega arith) e' ∙ ap (λ (r : List ℕ). 35 ∷ r) (at_one f 2 120 (omega arith) e''));
      no_mark = λ p. absurd (let z : ◌≡◌ {A = ℕ} 0 1 = cc in omega arith);
    }

pub opened_decimal : (f : List ℕ) → 3 ≤ length f → get_or f 0 0 ≡ 38 → get_or f 1 0 ≡ 35 → (get_or f 2 0 ≡ 120 → ⊥) → OpensNumeric f 2 10
opened_decimal f l e e' n =
    record {
      base = decimal;
      radix_is = refl;
      place = refl;
      opened = at_one f 0 38 (omega arith) e ∙ ap (λ (r : List ℕ). 38 ∷ r) (at_one f 1 35 (omega arith) e');
      no_mark = λ p. (omega arith, n);
    }

pub opened_within : (f : List ℕ) (from r : ℕ) → OpensNumeric f from r → from ≤ length f
opened_within f from r O = omega (arith, ap length O.opened, length-append (base_mark O.base) (drop from f), O.place)

-- the next number is far from the largest of a machine's
pub product_most : (n r : ℕ) → n ≤ 0x10FFFF → (r ≡ 10) ⊎ (r ≡ 16) → n * r + r ≤ 17825792
product_most n r m (inl e) = subst (λ (x : ℕ). n * x + x ≤ 17825792) (sym e) (omega arith)
product_most n r m (inr e) = subst (λ (x : ℕ). n * x + x ≤ 17825792) (sym e) (omega arith)

-- the base of a reference that is opened
pub either_base : (f : List ℕ) (from r : ℕ) → OpensNumeric f from r → (r ≡ 10) ⊎ (r ≡ 16)
either_base f from r O = go O.base O.radix_is
  where
    go : (k : Base) → r ≡ radix k → (r ≡ 10) ⊎ (r ≡ 16)
    go decimal e = inl e
    go hex e = inr e
