-- A string token is read byte by byte. Assumes nothing.
use mathlib.Core.Path.{◌≡◌, refl, sym, ◌∙◌, ap, ap₂, subst}
use mathlib.Core.Bool.{Bool, true, false, cond}
use mathlib.Core.List.{List, [], ◌∷◌, ◌++◌, append_assoc, append-nil, head-eq_of_cons-eq, tail-eq_of_cons-eq}
use Prim.Native.Nat.{ℕ, suc, ◌+◌, ◌-◌, ◌≤◌, ◌<◌}
use native.Mathlib.Omega.{arith}
use lib.Dec.{eqb}
use lib.ListN.{length, drop, get_or, set, length-append, length-drop, length-set}
use lib.Seq.{drop-drop, drop-cons, drop_at, set_at}
use borrow.Author.Tests.{eq-eqb, ne_eqb}
use Rattle.text.specs.Characters.{utf8s}
use Rattle.notation.specs.Tokens.{string, token_bytes, all_in_quotes, StringOf}
use Rattle.unquoting.specs.declared.Piece.{Piece}
use Rattle.unquoting.specs.Unquoted.{quoted_byte, all_quoted, unescaped, StringPieceIs, Unquoted, UnquotedIs}
use Rattle.unquoting.proofs.Quoting.{Written, with_escape, plainly, written, string_same}

if_so : (a b x y : ℕ) → a ≡ b → cond (eqb a b) x y ≡ x
if_so a b x y e = ap (λ (t : Bool). cond t x y) (eq-eqb a b e)

if_not : (a b x y : ℕ) → (a ≡ b → ⊥) → cond (eqb a b) x y ≡ y
if_not a b x y e = ap (λ (t : Bool). cond t x y) (ne_eqb a b e)

pub un_tab : (b : ℕ) → b ≡ 116 → 9 ≡ unescaped b
un_tab b e = sym (if_so b 116 _ _ e)

pub un_feed : (b : ℕ) → (b ≡ 116 → ⊥) → b ≡ 110 → 10 ≡ unescaped b
un_feed b a e = sym (if_not b 116 _ _ a ∙ if_so b 110 _ _ e)

pub un_return : (b : ℕ) → (b ≡ 116 → ⊥) → (b ≡ 110 → ⊥) → b ≡ 114 → 13 ≡ unescaped b
un_return b a c e = sym (if_not b 116 _ _ a ∙ if_not b 110 _ _ c ∙ if_so b 114 _ _ e)

pub un_self : (b : ℕ) → (b ≡ 116 → ⊥) → (b ≡ 110 → ⊥) → (b ≡ 114 → ⊥) → b ≡ unescaped b
un_self b a c e = sym (if_not b 116 _ _ a ∙ if_not b 110 _ _ c ∙ if_not b 114 _ _ e)

abbrev piece : ℕ → ℕ → Piece
piece b n = record { byte = b; long = n }

-- what is written there, by its first byte
module _ (x : List ℕ) (i : ℕ) (h : i < length x) where
  first_is : drop i x ≡ get_or x i 0 ∷ drop (suc i) x
  first_is = drop-cons x i 0 h

  long : length (drop i x) ≡ length x - i
  long = length-drop i x

  -- a \ and what stands behind it
  pub piece_escaped : (b c : ℕ) → b ≡ get_or x i 0 → b ≡ 92 → i + 1 < length x → c ≡ unescaped (get_or x (i + 1) 0) → StringPieceIs (drop i x) (piece c 2)
  piece_escaped b c e f k g = record {
    onward = omega arith;
    inside = omega (arith, long, k);
    byte_is = λ y rest w. on_byte y rest w (written y);
    long_is = λ y rest w. on_long y rest w (written y);
  }
    where
      next : drop (suc i) x ≡ get_or x (i + 1) 0 ∷ drop (suc (i + 1)) x
      next = let j : suc i ≡ i + 1 = omega arith in ap (λ (n : ℕ). drop n x) j ∙ drop-cons x (i + 1) 0 k

      on_byte : (y : ℕ) (rest : List ℕ) → drop i x ≡ quoted_byte y ++ rest → Written y → c ≡ y
      on_byte y rest w (with_escape n u q) =
          let z : get_or x i 0 ∷ drop (suc i) x ≡ 92 ∷ n ∷ rest = sym first_is ∙ w ∙ ap (λ (l : List ℕ). l ++ rest) q in
          let s : get_or x (i + 1) 0 ≡ n = head-eq_of_cons-eq (sym next ∙ tail-eq_of_cons-eq z) in
          g ∙ ap unescaped s ∙ u
      on_byte y rest w (plainly a d q) =
          let z : get_or x i 0 ∷ drop (suc i) x ≡ y ∷ rest = sym first_is ∙ w ∙ ap (λ (l : List ℕ). l ++ rest) q in
          absurd (d (sym (head-eq_of_cons-eq z) ∙ sym e ∙ f))

      on_long : (y : ℕ) (rest : List ℕ) → drop i x ≡ quoted_byte y ++ rest → Written y → 2 ≡ length (quoted_byte y)
      on_long y rest w (with_escape n u q) = sym (ap length q)
      on_long y rest w (plainly a d q) =
          let z : get_or x i 0 ∷ drop (suc i) x ≡ y ∷ rest = sym first_is ∙ w ∙ ap (λ (l : List ℕ). l ++ rest) q in
          absurd (d (sym (head-eq_of_cons-eq z) ∙ sym e ∙ f))

  -- a \ at the end
  pub piece_cut : (b : ℕ) → b ≡ get_or x i 0 → b ≡ 92 → length x ≤ i + 1 → StringPieceIs (drop i x) (piece b 1)
  piece_cut b e f k = record {
    onward = omega arith;
    inside = omega (arith, long, h);
    byte_is = λ y rest w. absurd (too_short y rest w (written y));
    long_is = λ y rest w. absurd (too_short y rest w (written y));
  }
    where
      too_short : (y : ℕ) (rest : List ℕ) → drop i x ≡ quoted_byte y ++ rest → Written y → ⊥
      too_short y rest w (with_escape n u q) = let z = ap length (w ∙ ap (λ (l : List ℕ). l ++ rest) q) in omega (arith, z, long, k)
      too_short y rest w (plainly a d q) =
          let z : get_or x i 0 ∷ drop (suc i) x ≡ y ∷ rest = sym first_is ∙ w ∙ ap (λ (l : List ℕ). l ++ rest) q in
          d (sym (head-eq_of_cons-eq z) ∙ sym e ∙ f)

  -- any other byte
  pub piece_plain : (b : ℕ) → b ≡ get_or x i 0 → (b ≡ 92 → ⊥) → StringPieceIs (drop i x) (piece b 1)
  piece_plain b e f = record {
    onward = omega arith;
    inside = omega (arith, long, h);
    byte_is = λ y rest w. on_byte y rest w (written y);
    long_is = λ y rest w. on_long y rest w (written y);
  }
    where
      on_byte : (y : ℕ) (rest : List ℕ) → drop i x ≡ quoted_byte y ++ rest → Written y → b ≡ y
      on_byte y rest w (with_escape n u q) =
          let z : get_or x i 0 ∷ drop (suc i) x ≡ 92 ∷ n ∷ rest = sym first_is ∙ w ∙ ap (λ (l : List ℕ). l ++ rest) q in
          absurd (f (e ∙ head-eq_of_cons-eq z))
      on_byte y rest w (plainly a d q) =
          let z : get_or x i 0 ∷ drop (suc i) x ≡ y ∷ rest = sym first_is ∙ w ∙ ap (λ (l : List ℕ). l ++ rest) q in
          e ∙ head-eq_of_cons-eq z

      on_long : (y : ℕ) (rest : List ℕ) → drop i x ≡ quoted_byte y ++ rest → Written y → 1 ≡ length (quoted_byte y)
      on_long y rest w (with_escape n u q) =
          let z : get_or x i 0 ∷ drop (suc i) x ≡ 92 ∷ n ∷ rest = sym first_is ∙ w ∙ ap (λ (l : List ℕ). l ++ rest) q in
          absurd (f (e ∙ head-eq_of_cons-eq z))
      on_long y rest w (plainly a d q) = sym (ap length q)

pub piece_past : (x : List ℕ) (i : ℕ) (p : Piece) → i < length x → StringPieceIs (drop i x) p → i + p.long ≤ length x
piece_past x i p h f = omega (arith, f.inside, length-drop i x, h)

-- what is left of a string
pub record Left (x before out : List ℕ) (i n : ℕ) (bs rest : List ℕ) : Type 0 where
  pub done : List ℕ
  pub left : List ℕ
  pub whole : bs ≡ done ++ left
  pub ahead : drop i x ≡ all_quoted left ++ 34 ∷ rest
  pub count : n ≡ length done
  pub laid : out ≡ done ++ drop n before

-- what the loop keeps
pub record Under (x before out : List ℕ) (i n : ℕ) : Type 0 where
  pub same : length out ≡ length before
  pub inside : n ≤ length before
  pub is : (bs rest : List ℕ) → drop 1 x ≡ all_quoted bs ++ 34 ∷ rest → length bs ≤ length before → Left x before out i n bs rest

pub under_first : (x before : List ℕ) → Under x before before 1 0
under_first x before = record { same = refl; inside = omega arith; is = λ bs rest e h. record { done = []; left = bs; whole = refl; ahead = e; count = refl; laid = refl } }

starts_as : (x : List ℕ) (i y : ℕ) (ys tail : List ℕ) → i < length x → drop i x ≡ y ∷ ys ++ tail → get_or x i 0 ≡ y
starts_as x i y ys tail h e = head-eq_of_cons-eq (sym (drop-cons x i 0 h) ∙ e)

-- no byte of a string is written with a quote in front
no_quote : (x : List ℕ) (i y : ℕ) (ys rest : List ℕ) → i < length x → get_or x i 0 ≡ 34 → drop i x ≡ all_quoted (y ∷ ys) ++ 34 ∷ rest → ⊥
no_quote x i y ys rest h q e = on (written y)
  where
    on : Written y → ⊥
    on (with_escape k u w) =
        let z = head-eq_of_cons-eq (sym (drop-cons x i 0 h) ∙ e ∙ ap (λ (l : List ℕ). (l ++ all_quoted ys) ++ 34 ∷ rest) w) in
        let c : ◌≡◌ {A = ℕ} 34 92 = sym q ∙ z in
        omega arith
    on (plainly a d w) = let z = head-eq_of_cons-eq (sym (drop-cons x i 0 h) ∙ e ∙ ap (λ (l : List ℕ). (l ++ all_quoted ys) ++ 34 ∷ rest) w) in a (sym z ∙ q)

ended_with : (x before out : List ℕ) (i n : ℕ) (bs rest : List ℕ) (l : Left x before out i n bs rest) → i < length x → get_or x i 0 ≡ 34 → bs ≡ l.done
ended_with x before out i n bs rest l h q = on l.left l.ahead l.whole
  where
    on : (left : List ℕ) → drop i x ≡ all_quoted left ++ 34 ∷ rest → bs ≡ l.done ++ left → bs ≡ l.done
    on [] e w = w ∙ append-nil l.done
    on (y ∷ ys) e w = absurd (no_quote x i y ys rest h q e)

to_drop : (x cs rest : List ℕ) → x ≡ token_bytes (string cs) ++ rest → drop 1 x ≡ all_quoted (utf8s cs) ++ 34 ∷ rest
to_drop x cs rest e =
    ap (drop 1) e ∙ append_assoc (all_in_quotes cs) (34 ∷ []) rest ∙ ap (λ (z : List ℕ). z ++ 34 ∷ rest) (string_same cs)

-- at the closing quote
pub unquoted_whole : (x before out : List ℕ) (i n : ℕ) → Under x before out i n → i < length x → get_or x i 0 ≡ 34 → UnquotedIs x before out n
unquoted_whole x before out i n u h q = record {
  inside = u.inside;
  is = λ cs rest s e k.
      let l = u.is (utf8s cs) rest (to_drop x cs rest e) k in
      let w = ended_with x before out i n (utf8s cs) rest l h q in
      record { long = l.count ∙ ap length (sym w); are = l.laid ∙ ap (λ (z : List ℕ). z ++ drop n before) (sym w) };
}

-- no room left, before the closing quote
pub unquoted_full : (x before out : List ℕ) (i n : ℕ) → Under x before out i n → i < length x → (get_or x i 0 ≡ 34 → ⊥) → n ≡ length out → UnquotedIs x before out n
unquoted_full x before out i n u h q f = record {
  inside = u.inside;
  is = λ cs rest s e k. let l = u.is (utf8s cs) rest (to_drop x cs rest e) k in absurd (on (utf8s cs) rest l k l.left l.ahead l.whole);
}
  where
    on : (bs rest : List ℕ) (l : Left x before out i n bs rest) → length bs ≤ length before → (left : List ℕ) → drop i x ≡ all_quoted left ++ 34 ∷ rest → bs ≡ l.done ++ left → ⊥
    on bs rest l k [] e w = q (head-eq_of_cons-eq (sym (drop-cons x i 0 h) ∙ e))
    on bs rest l k (y ∷ ys) e w = omega (arith, k, ap length w, length-append l.done (y ∷ ys), l.count, f, u.same)

-- the bytes have ended, before the closing quote
pub unquoted_cut : (x before out : List ℕ) (i n : ℕ) → Under x before out i n → length x ≤ i → UnquotedIs x before out n
unquoted_cut x before out i n u h = record {
  inside = u.inside;
  is = λ cs rest s e k.
      let l = u.is (utf8s cs) rest (to_drop x cs rest e) k in
      absurd (let z = ap length l.ahead in omega (arith, z, length-drop i x, h, length-append (all_quoted l.left) (34 ∷ rest)));
}

-- one byte more
pub under_on : (x before out : List ℕ) (i n : ℕ) (p : Piece) → Under x before out i n → i < length x → (get_or x i 0 ≡ 34 → ⊥) → (n ≡ length out → ⊥) → StringPieceIs (drop i x) p → Under x before (set out n p.byte) (i + p.long) (n + 1)
under_on x before out i n p u h q r' f = record {
  same = length-set out n p.byte ∙ u.same;
  inside = omega (arith, r, u.same);
  is = λ bs rest e k. let l = u.is bs rest e k in on bs rest l l.left l.ahead l.whole;
}
  where
    r : n < length out
    r = omega (arith, r', u.inside, u.same)

    on : (bs rest : List ℕ) (l : Left x before out i n bs rest) → (left : List ℕ) → drop i x ≡ all_quoted left ++ 34 ∷ rest → bs ≡ l.done ++ left → Left x before (set out n p.byte) (i + p.long) (n + 1) bs rest
    on bs rest l [] e w = absurd (q (head-eq_of_cons-eq (sym (drop-cons x i 0 h) ∙ e)))
    on bs rest l (y ∷ ys) e w =
        let e' : drop i x ≡ quoted_byte y ++ (all_quoted ys ++ 34 ∷ rest) = e ∙ append_assoc (quoted_byte y) (all_quoted ys) (34 ∷ rest) in
        let b = f.byte_is y (all_quoted ys ++ 34 ∷ rest) e' in
        let n' = f.long_is y (all_quoted ys ++ 34 ∷ rest) e' in
        let free : n < length before = omega (arith, r, u.same) in
        let laid : out ≡ l.done ++ get_or before n 0 ∷ drop (suc n) before = l.laid ∙ ap (λ (z : List ℕ). l.done ++ z) (drop-cons before n 0 free) in
        let next : suc n ≡ n + 1 = omega arith in
        record {
          done = l.done ++ y ∷ [];
          left = ys;
          whole = w ∙ sym (append_assoc l.done (y ∷ []) ys);
          ahead = sym (drop-drop p.long i x) ∙ ap (drop p.long) e' ∙ drop_at (quoted_byte y) (all_quoted ys ++ 34 ∷ rest) p.long (sym n');
          count = omega (arith, l.count, length-append l.done (y ∷ []));
          laid = ap (λ (z : List ℕ). set z n p.byte) laid ∙ set_at l.done (get_or before n 0) (drop (suc n) before) p.byte n (sym l.count)
              ∙ ap (λ (c : ℕ). l.done ++ c ∷ drop (suc n) before) b ∙ sym (append_assoc l.done (y ∷ []) (drop (suc n) before)) ∙ ap (λ (c : ℕ). (l.done ++ y ∷ []) ++ drop c before) next;
        }
