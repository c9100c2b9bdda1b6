-- Every front has an answer of the reader: it begins with <, &, > or CR or with a character, and each is decided there, by the laws of the reader's own
-- proof. Whether bytes start with a character of the Char set, or begin one, is decided by trying each.
-- Assumes nothing.
use mathlib.Core.Path.{◌≡◌, refl, sym, ap₂, ◌∙◌, subst}
use mathlib.Core.Logic.{◌⊎◌, inl, inr, ⊎_elim}
use mathlib.Core.Bool.{Bool, true, false, true≢false}
use mathlib.Core.List.{List, [], ◌∷◌, head-eq_of_cons-eq, tail-eq_of_cons-eq}
use Prim.Native.Nat.{ℕ, zero, suc, ◌+◌, ◌-◌, ◌*◌, ◌≤◌, ◌<◌}
use native.Mathlib.Omega.{arith}
use native.Mathlib.Decide.{dec_lt, ℕ_discrete}
use borrow.Author.Tests.{lt-ltb, ltb-true}
use lib.ListN.{length, get_or, drop, length-take}
use Rattle.text.specs.Chars.{Char, utf8, Starts, Begins, Apart, DecodedIs}
use Rattle.text.specs.Names.{name_first, name_byte, blank}
use Rattle.text.specs.Numerals.{digit_value, digit_below}
use Rattle.text.proofs.Shapes.{cons≢[]}
use Rattle.text.specs.declared.Decoded.{Decoded}
use Rattle.tokens.specs.declared.Event.TheVariants.{Start, End, Empty, Character}
use Rattle.tokens.specs.declared.Answer.{Answer}
use Rattle.tokens.specs.declared.Answer.TheVariants.{Token, Waiting, Begun, Bad}
use Rattle.tokens.specs.Tokens.{Ref, amp, lt, gt, apos, quot, crlf, ref, spelled, stands, front, Means}
use Rattle.tokens.specs.Inner.{PassUpTo, cut_at, OpensNumeric, Fewest}
use Rattle.tokens.proofs.Runs.{Going, going_none, going_more, going_stop, going_end}
use Rattle.tokens.proofs.Reading.{Tag, tag_of, open_cut, open_start, open_slash, open_empty, open_bad, open_bad_slash, open_none, end_cut, end_token, end_bad, end_none, begun_open, begun_end, char_token, char_begun, char_bad, greater_bad, begun_none, spelled_most, starts_length, begins_length, begun_amp, cr_waits, cr_lf, cr_alone, ref_bad, each_ref}
use Rattle.tokens.proofs.Theory.{either, none_of, stop_59, whole, begun, no_line}
use Rattle.tokens.proofs.Numerals.{Counted, Decided, decided, and_decided, char_decided, some_fewest, counted_none, counted_more, number_token, number_bad, number_large, number_cut, begun_number, opened_hex, opened_decimal}

-- a number with the property is found, or there is none under k
module _ (P : ℕ → Type 0) where
  one_more : (k : ℕ) → ((c : ℕ) → c < k → P c → ⊥) → (P k → ⊥) → (c : ℕ) → c < suc k → P c → ⊥
  one_more k f n c h p = go (decided (ℕ_discrete c k))
    where
      go : Decided (c ≡ k) → ⊥
      go (inl e) = n (subst P e p)
      go (inr e) = f c (omega arith) p

  find_below : ((c : ℕ) → Decided (P c)) → (k : ℕ) → ((c : ℕ) × P c) ⊎ ((c : ℕ) → c < k → P c → ⊥)
  find_below dec zero = inr (λ c h p. omega arith)
  find_below dec (suc k) = by (dec k) (find_below dec k)
    where
      by : Decided (P k) → ((c : ℕ) × P c) ⊎ ((c : ℕ) → c < k → P c → ⊥) → ((c : ℕ) × P c) ⊎ ((c : ℕ) → c < suc k → P c → ⊥)
      by (inl p) o = inl (k, p)
      by (inr n) (inl o) = inl o
      by (inr n) (inr f) = inr (one_more k f n)

char_below : (c : ℕ) → Char c → c < 0x110000
char_below c (inl e) = omega arith
char_below c (inr (inl e)) = omega arith
char_below c (inr (inr (inl e))) = omega arith
char_below c (inr (inr (inr (inl h)))) = omega (arith, h.1)
char_below c (inr (inr (inr (inr (inl h))))) = omega (arith, h.1)
char_below c (inr (inr (inr (inr (inr h))))) = omega (arith, h.1)

-- f starts with w, begins it, or neither
compared : (f w : List ℕ) → Starts f w ⊎ (Begins f w ⊎ Apart f w)
compared [] [] = inl ([], refl)
compared [] (y ∷ w) = inr (inl (y ∷ w, refl, cons≢[]))
compared (x ∷ f) [] = inl (x ∷ f, refl)
compared (x ∷ f) (y ∷ w) = by (decided (ℕ_discrete x y)) (compared f w)
  where
    by : Decided (x ≡ y) → Starts f w ⊎ (Begins f w ⊎ Apart f w) → Starts (x ∷ f) (y ∷ w) ⊎ (Begins (x ∷ f) (y ∷ w) ⊎ Apart (x ∷ f) (y ∷ w))
    by (inr n) o = inr (inr (λ v u e. n (head-eq_of_cons-eq e)))
    by (inl e) (inl (v, q)) = inl (v, ap₂ (λ (z : ℕ) (l : List ℕ). z ∷ l) e q)
    by (inl e) (inr (inl (v, q, m))) = inr (inl (v, ap₂ (λ (z : ℕ) (l : List ℕ). z ∷ l) (sym e) q, m))
    by (inl e) (inr (inr a)) = inr (inr (λ v u q. a v u (tail-eq_of_cons-eq q)))

-- what f starts with in the Char set, k being over all of it
module _ (f : List ℕ) (k : ℕ) (below : (c : ℕ) → Char c → c < k) where
  starts_decided : (w : List ℕ) → Decided (Starts f w)
  starts_decided w = by (compared f w)
    where
      by : Starts f w ⊎ (Begins f w ⊎ Apart f w) → Decided (Starts f w)
      by (inl s) = inl s
      by (inr (inl b)) = inr (λ s. omega (arith, starts_length f w s, begins_length f w b))
      by (inr (inr a)) = inr (λ s. (none_of f w a).0 s)

  begins_decided : (w : List ℕ) → Decided (Begins f w)
  begins_decided w = by (compared f w)
    where
      by : Starts f w ⊎ (Begins f w ⊎ Apart f w) → Decided (Begins f w)
      by (inl s) = inr (λ b. omega (arith, starts_length f w s, begins_length f w b))
      by (inr (inl b)) = inl b
      by (inr (inr a)) = inr (λ b. (none_of f w a).1 b)

  some_decoded : (d : Decoded) × DecodedIs f d
  some_decoded =
      by (find_below (λ c. Char c × Starts f (utf8 c)) (λ c. and_decided (char_decided c) (starts_decided (utf8 c))) k)
      (find_below (λ c. Char c × Begins f (utf8 c)) (λ c. and_decided (char_decided c) (begins_decided (utf8 c))) k)
    where
      by : ((c : ℕ) × (Char c × Starts f (utf8 c))) ⊎ ((c : ℕ) → c < k → Char c × Starts f (utf8 c) → ⊥) →
          ((c : ℕ) × (Char c × Begins f (utf8 c))) ⊎ ((c : ℕ) → c < k → Char c × Begins f (utf8 c) → ⊥) → (d : Decoded) × DecodedIs f d
      by (inl (c, h)) o = (Decoded.Whole c (length (utf8 c)), (h.0, h.1, refl))
      by (inr n) (inl (c, h)) = (Decoded.Begun, (c, h.0, h.1))
      by (inr n) (inr m) =
          (Decoded.Bad, (λ c h v u e. ⊎_elim (λ s. n c (below c h) (h, s)) (λ b. m c (below c h) (h, b)) (either f (utf8 c) v u e)))

-- where bytes that pass a test stop
module _ (p : ℕ → Bool) (f : List ℕ) (at : ℕ) where
  go_on : (left i : ℕ) → Going p f at i → length f ≤ i + left → (to : ℕ) × PassUpTo p f at to
  go_on zero i g h = (i, going_end p f at i g (omega arith))
  go_on (suc left) i g h = by (λ g'. go_on left (i + 1) g' (omega arith)) (decided (dec_lt i (length f))) (p (get_or f i 0)) refl
    where
      by : (Going p f at (i + 1) → (to : ℕ) × PassUpTo p f at to) → Decided (i < length f) → (b : Bool) → p (get_or f i 0) ≡ b → (to : ℕ) × PassUpTo p f at to
      by next (inr n) b e = (i, going_end p f at i g (omega arith))
      by next (inl l) true e = next (going_more p f at i g l e)
      by next (inl l) false e = (i, going_stop p f at i g l e)

  some_stop : at ≤ length f → (to : ℕ) × PassUpTo p f at to
  some_stop h = go_on (length f) at (going_none p f at h) (omega arith)

-- the front f
module _ (f : List ℕ) (at : ℕ) (short : length f ≤ 32) where
  abbrev Read : Type 0
  Read = (x : Answer) × Means f at x

  some_tag : (from : ℕ) → from < length f → name_first (get_or f from 0) ≡ true → (to close : ℕ) × Tag f from to close
  some_tag from h n =
      let a = some_stop name_byte f (from + 1) (omega arith) in
      let b = some_stop blank f a.0 a.1.within in
      (a.0, b.0, tag_of f from a.0 b.0 h n a.1 b.1)

  open_read : 2 ≤ length f → get_or f 0 0 ≡ 60 → (get_or f 1 0 ≡ 47 → ⊥) → Read
  open_read h z m = by (name_first (get_or f 1 0)) refl
    where
      closed : (to close : ℕ) → Tag f 1 to close → Decided (close ≡ length f) → Decided (get_or f close 0 ≡ 62) → Decided (get_or f close 0 ≡ 47) →
          Decided (close + 1 ≡ length f) → Decided (get_or f (close + 1) 0 ≡ 62) → Read
      closed to close T (inl e) b c d g = (cut_at (length f), open_cut f at to close short (omega arith) z T e)
      closed to close T (inr n) (inl b) c d g = (Token (Start (at + 1) (to - 1)) (record { at = at + close + 1 }), open_start f at to close short (omega arith) z T (omega (arith, T.within)) b)
      closed to close T (inr n) (inr b) (inr c) d g = (Bad, open_bad f at to close short (omega arith) z T (omega (arith, T.within)) b c)
      closed to close T (inr n) (inr b) (inl c) (inl d) g = (cut_at (length f), open_slash f at to close short (omega arith) z T c d)
      closed to close T (inr n) (inr b) (inl c) (inr d) (inl g) = (Token (Empty (at + 1) (to - 1)) (record { at = at + close + 2 }), open_empty f at to close short (omega arith) z T (omega (arith, T.within)) c g)
      closed to close T (inr n) (inr b) (inl c) (inr d) (inr g) = (Bad, open_bad_slash f at to close short (omega arith) z T (omega (arith, T.within)) b g)

      by : (b : Bool) → name_first (get_or f 1 0) ≡ b → Read
      by false e = (Bad, open_none f at h z m e)
      by true e =
          let t = some_tag 1 (omega arith) e in
          let i : ℕ = t.1 in
          closed t.0 i t.2 (decided (ℕ_discrete i (length f))) (decided (ℕ_discrete (get_or f i 0) 62)) (decided (ℕ_discrete (get_or f i 0) 47))
          (decided (ℕ_discrete (i + 1) (length f))) (decided (ℕ_discrete (get_or f (i + 1) 0) 62))

  end_read : 2 ≤ length f → get_or f 0 0 ≡ 60 → get_or f 1 0 ≡ 47 → Read
  end_read h z o = alone (decided (ℕ_discrete (length f) 2))
    where
      closed : (to close : ℕ) → Tag f 2 to close → Decided (close ≡ length f) → Decided (get_or f close 0 ≡ 62) → Read
      closed to close T (inl e) b = (cut_at (length f), end_cut f at to close short h z o T e)
      closed to close T (inr n) (inl b) = (Token (End (at + 2) (to - 2)) (record { at = at + close + 1 }), end_token f at to close short h z o T (omega (arith, T.within)) b)
      closed to close T (inr n) (inr b) = (Bad, end_bad f at to close short h z o T (omega (arith, T.within)) b)

      by : 3 ≤ length f → (b : Bool) → name_first (get_or f 2 0) ≡ b → Read
      by l false e = (Bad, end_none f at l z o e)
      by l true e =
          let t = some_tag 2 (omega arith) e in
          let i : ℕ = t.1 in
          closed t.0 i t.2 (decided (ℕ_discrete i (length f))) (decided (ℕ_discrete (get_or f i 0) 62))

      alone : Decided (length f ≡ 2) → Read
      alone (inl e) = (Begun, begun_end f at e z o)
      alone (inr n) = by (omega arith) (name_first (get_or f 2 0)) refl

  ref_read : 2 ≤ length f → get_or f 0 0 ≡ 38 → (get_or f 1 0 ≡ 35 → ⊥) → Read
  ref_read h z o =
      try amp (compared f (spelled amp)) (λ a. try lt (compared f (spelled lt)) (λ b. try gt (compared f (spelled gt))
      (λ c. try apos (compared f (spelled apos)) (λ d. try quot (compared f (spelled quot)) (λ e. (Bad, ref_bad f at h z o (each_ref f a b c d e)))))))
    where
      try : (x : Ref) → Starts f (spelled x) ⊎ (Begins f (spelled x) ⊎ Apart f (spelled x)) → (Apart f (spelled x) → Read) → Read
      try x (inl s) next =
          let n : ℕ = at + length (spelled x) in
          (Token (Character (stands x) false) (record { at = n }), whole f at (ref x) s.0 tt s.1 (Character (stands x) false) (record { at = n }) tt tt refl refl)
      try x (inr (inl b)) next = (Begun, begun f at (ref x) tt (no_line (ref x) crlf refl) b (spelled_most x))
      try x (inr (inr a)) next = next a

  -- the digits from i on
  module _ (from r : ℕ) (O : OpensNumeric f from r) where
    cut_read : (i n : ℕ) → Counted f from r i n → length f ≤ i → Read
    cut_read i n C h =
        let (k, F, few) = some_fewest O.base n C.small in
        (cut_at (length f + k), number_cut f at from r O i n C (omega (arith, C.within)) k (subst (λ (x : ℕ). Fewest x n k) (sym O.radix_is) F))

    digit_read : (i n : ℕ) → Counted f from r i n → ((n' : ℕ) → Counted f from r (i + 1) n' → Read) → i < length f → Read
    digit_read i n C next q =
        by (decided (ℕ_discrete (get_or f i 0) 59)) (char_decided n) (decided (dec_lt (digit_value (get_or f i 0)) r)) (decided (dec_lt 0x10FFFF (n * r + digit_value (get_or f i 0))))
      where
        d : ℕ
        d = digit_value (get_or f i 0)

        stop_here : get_or f i 0 ≡ 59 → digit_below r (get_or f i 0) ≡ true → ⊥
        stop_here z y = true≢false (sym y ∙ ap₂ (λ (u v : ℕ). digit_below u v) O.radix_is z ∙ stop_59 O.base)

        by : Decided (get_or f i 0 ≡ 59) → Decided (Char n) → Decided (digit_value (get_or f i 0) < r) → Decided (0x10FFFF < n * r + digit_value (get_or f i 0)) → Read
        by (inl a) (inl b) c e = (Token (Character n false) (record { at = at + i + 1 }), number_token f at from r O i n C q a b)
        by (inl a) (inr b) c e = (Bad, number_bad f at from r O i n C q (stop_here a) (λ z k. b k))
        by (inr a) b (inr c) e = (Bad, number_bad f at from r O i n C q (λ y. c (ltb-true d r y)) (λ z k. a z))
        by (inr a) b (inl c) (inl e) = (Bad, number_large f at from r O i n C q (lt-ltb d r c) e)
        by (inr a) b (inl c) (inr e) = next (n * r + d) (counted_more f from r i n d C q refl c (omega arith))

    digits_read : (left i n : ℕ) → Counted f from r i n → length f ≤ i + left → Read
    digits_read zero i n C l = cut_read i n C (omega arith)
    digits_read (suc left) i n C l = go (λ n' C'. digits_read left (i + 1) n' C' (omega arith)) (decided (dec_lt i (length f)))
      where
        go : ((n' : ℕ) → Counted f from r (i + 1) n' → Read) → Decided (i < length f) → Read
        go next (inl q) = digit_read i n C next q
        go next (inr q) = cut_read i n C (omega arith)

    number_read : from ≤ length f → Read
    number_read h = digits_read (length f) from 0 (counted_none f from r h) (omega arith)

  amp_read : 1 ≤ length f → get_or f 0 0 ≡ 38 → Read
  amp_read h z = by (decided (ℕ_discrete (length f) 1)) (decided (ℕ_discrete (get_or f 1 0) 35)) (decided (ℕ_discrete (length f) 2)) (decided (ℕ_discrete (get_or f 2 0) 120))
    where
      by : Decided (length f ≡ 1) → Decided (get_or f 1 0 ≡ 35) → Decided (length f ≡ 2) → Decided (get_or f 2 0 ≡ 120) → Read
      by (inl e) a b c = (Begun, begun_amp f at e z)
      by (inr n) (inr a) b c = ref_read (omega arith) z a
      by (inr n) (inl a) (inl b) c = (Begun, begun_number f at b z a)
      by (inr n) (inl a) (inr b) (inl c) = number_read 3 16 (opened_hex f (omega arith) z a c) (omega arith)
      by (inr n) (inl a) (inr b) (inr c) = number_read 2 10 (opened_decimal f (omega arith) z a c) (omega arith)

  line_read : 1 ≤ length f → get_or f 0 0 ≡ 13 → Read
  line_read h z = by (decided (ℕ_discrete (length f) 1)) (decided (ℕ_discrete (get_or f 1 0) 10))
    where
      by : Decided (length f ≡ 1) → Decided (get_or f 1 0 ≡ 10) → Read
      by (inl e) a = (Waiting (Character 10 true) (record { at = at + 1 }), cr_waits f at h z e)
      by (inr n) (inl a) = (Token (Character 10 true) (record { at = at + 2 }), cr_lf f at h z (omega arith) a)
      by (inr n) (inr a) = (Token (Character 10 true) (record { at = at + 1 }), cr_alone f at h z (omega arith) a)

  char_read : 1 ≤ length f → (get_or f 0 0 ≡ 60 → ⊥) → (get_or f 0 0 ≡ 38 → ⊥) → (get_or f 0 0 ≡ 62 → ⊥) → (get_or f 0 0 ≡ 13 → ⊥) → Read
  char_read h a b c e = by (some_decoded f 0x110000 char_below)
    where
      by : (d : Decoded) × DecodedIs f d → Read
      by (Decoded.Whole x n, d) = (Token (Character x true) (record { at = at + n }), char_token f at h a b c e x n d)
      by (Decoded.Begun, d) = (Begun, char_begun f at h a b c e d)
      by (Decoded.Bad, d) = (Bad, char_bad f at h a b c e d)

  pub front_read : Read
  front_read =
      by (decided (ℕ_discrete (length f) 0)) (decided (ℕ_discrete (get_or f 0 0) 60)) (decided (ℕ_discrete (get_or f 0 0) 38)) (decided (ℕ_discrete (get_or f 0 0) 62))
      (decided (ℕ_discrete (get_or f 0 0) 13))
    where
      tag_read : 1 ≤ length f → get_or f 0 0 ≡ 60 → Decided (length f ≡ 1) → Decided (get_or f 1 0 ≡ 47) → Read
      tag_read h z (inl e) d = (Begun, begun_open f at e z)
      tag_read h z (inr n) (inl o) = end_read (omega arith) z o
      tag_read h z (inr n) (inr m) = open_read (omega arith) z m

      by : Decided (length f ≡ 0) → Decided (get_or f 0 0 ≡ 60) → Decided (get_or f 0 0 ≡ 38) → Decided (get_or f 0 0 ≡ 62) → Decided (get_or f 0 0 ≡ 13) → Read
      by (inl e) a b c d = (Begun, begun_none f at e)
      by (inr n) (inl a) b c d = tag_read (omega arith) a (decided (ℕ_discrete (length f) 1)) (decided (ℕ_discrete (get_or f 1 0) 47))
      by (inr n) (inr a) (inl b) c d = amp_read (omega arith) b
      by (inr n) (inr a) (inr b) (inl c) d = (Bad, greater_bad f at (omega arith) c)
      by (inr n) (inr a) (inr b) (inr c) (inl d) = line_read (omega arith) d
      by (inr n) (inr a) (inr b) (inr c) (inr d) = char_read (omega arith) a b c d

-- the reader answers at each place
pub some_answer : (s : List ℕ) (at : ℕ) → (x : Answer) × Means (front s at) at x
some_answer s at = front_read (front s at) at (omega (arith, length-take 32 (drop at s)))
