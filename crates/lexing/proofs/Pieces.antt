-- Laws of characters and of strings as they are written. Assumes nothing.
use mathlib.Core.Path.{◌≡◌, refl, sym, ◌∙◌, ap, ap₂, subst}
use mathlib.Core.Logic.{◌⊎◌, inl, inr}
use mathlib.Core.Bool.{Bool, true, false}
use mathlib.Core.List.{List, [], ◌∷◌, ◌++◌, append_assoc, append-nil, append_cancel_left, head-eq_of_cons-eq, tail-eq_of_cons-eq}
use Prim.Native.Nat.{ℕ, zero, suc, ◌+◌, ◌-◌, ◌/◌, ◌≤◌, ◌<◌}
use native.Mathlib.Omega.{arith}
use native.Mathlib.Decide.{dec_le, ℕ_discrete}
use lib.ListN.{length, take, drop, get_or, length-append, length-drop, take-append-drop}
use lib.Seq.{take_all, take_at, take-add, drop-cons, length-take-le}
use borrow.Author.Tests.{lt-ltb, le-ltb, ne_eqb}
use Rattle.text.specs.declared.Decoded.{Decoded}
use Rattle.text.specs.declared.Decoded.TheVariants.{Whole, Begun, Bad}
use Rattle.text.specs.Chars.{Char, utf8, DecodedIs}
use Rattle.text.specs.Characters.{AllChar, utf8s}
use Rattle.text.proofs.Shapes.{shape1, shape2, shape3, shape4, Range, range, char_low}
use Rattle.text.proofs.Unique.{decoded_one}
use Rattle.text.proofs.Decoding.{begun0}
use Rattle.notation.specs.Tokens.{in_quotes, all_in_quotes, StringOf}
use Rattle.notation.proofs.Rows.{splits, utf8_some}
use Rattle.notation.proofs.Strings.{escaped_one, no_quote}
use Rattle.lexing.specs.declared.Tried.{Tried}
use Rattle.lexing.specs.Reads.{Stops, nothing, Spelt, BeginsSpelling, Halts, ReadIs, whole, halts, CharSpelling, width_of, escape_byte, PieceSpelling, StringSpelling}
use Rattle.lexing.proofs.Spellings.{part, part_is}

any_stops : (y : List ℕ) → Stops nothing y
any_stops [] = tt
any_stops (z ∷ y) = refl

-- the loop of one character
pub none_read : (y : List ℕ) → DecodedIs (take 0 y) Begun
none_read y = begun0

pub decoded_as : (y : List ℕ) (n : ℕ) (r v : Decoded) → r ≡ v → DecodedIs (take n y) r → DecodedIs (take n y) v
decoded_as y n r v e h = subst (DecodedIs (take n y)) e h

pub character_found : (y : List ℕ) (j c n : ℕ) → DecodedIs (take j y) (Whole c n) → ReadIs CharSpelling nothing y (Tried.Whole n n)
character_found y j c n (h, (v, e), l) = whole {n = n} {k = n} (record {
  spelling = utf8 c;
  rest = v ++ drop j y;
  is = record { character = c; is_char = h; spelled = refl; long = l };
  are = sym (take-append-drop j y) ∙ ap (λ z. z ++ drop j y) e ∙ append_assoc (utf8 c) v (drop j y);
  long = l;
  stops = any_stops (v ++ drop j y);
})

begun_char : (y : List ℕ) (j : ℕ) → DecodedIs (take j y) Begun → BeginsSpelling CharSpelling (take j y)
begun_char y j (c, h, (v, e, n)) = record { spelling = utf8 c; number = length (utf8 c); rest = v; is = record { character = c; is_char = h; spelled = refl; long = refl }; are = e }

pub character_bad : (y : List ℕ) (j : ℕ) → j ≤ length y → DecodedIs (take j y) Begun → DecodedIs (take (j + 1) y) Bad → ReadIs CharSpelling nothing y (Tried.Stuck j)
character_bad y j l b d = halts {k = j} (record {
  reached = l;
  begun = λ i. begun_char y j b;
  no_further = λ i s. bad s.is.character s.is.is_char s.rest [] (sym s.are ∙ s.is.spelled ∙ sym (append-nil (utf8 s.is.character)));
  no_whole = λ n k s. bad s.is.character s.is.is_char (drop (suc j) y) s.rest (take-append-drop (suc j) y ∙ s.are ∙ ap (λ z. z ++ s.rest) s.is.spelled);
})
  where
    bad : (c : ℕ) → Char c → (v u : List ℕ) → take (suc j) y ++ v ≡ utf8 c ++ u → ⊥
    bad = subst (λ n. DecodedIs (take n y) Bad) (one j) d
      where
        one : (n : ℕ) → n + 1 ≡ suc n
        one n = omega arith

pub character_begun : (y : List ℕ) (j : ℕ) → j ≤ length y → length y ≤ j → DecodedIs (take j y) Begun → ReadIs CharSpelling nothing y (Tried.Stuck j)
character_begun y j l m b = halts {k = j} (record {
  reached = l;
  begun = λ i. begun_char y j b;
  no_further = λ i s. absurd (omega arith);
  no_whole = λ n k s.
      let d : DecodedIs y (Whole s.is.character (length (utf8 s.is.character))) = (s.is.is_char, (s.rest, s.are ∙ ap (λ z. z ++ s.rest) s.is.spelled), refl) in
      let e : Decoded.Begun ≡ Whole s.is.character (length (utf8 s.is.character)) = decoded_one y Begun (Whole s.is.character (length (utf8 s.is.character))) (subst (λ z. DecodedIs z Begun) (take_all j y m) b) d in
      let z : ◌≡◌ {A = ℕ} 0 1 = cc in omega arith;
})

-- the first byte tells the width
pub width_is : (c a : ℕ) (g u : List ℕ) → Char c → utf8 c ++ u ≡ a ∷ g → length (utf8 c) ≡ width_of a
width_is c a g u h e = on (range c)
  where
    on : Range c → length (utf8 c) ≡ width_of a
    on (inl l) = let f : c ≡ a = head-eq_of_cons-eq (sym (ap (λ z. z ++ u) (shape1 c l)) ∙ e) in ap length (shape1 c l) ∙ sym (rw (lt-ltb a 128 (omega arith)) refl)
    on (inr (inl l)) =
        let f : 0xC0 + c / 64 ≡ a = head-eq_of_cons-eq (sym (ap (λ z. z ++ u) (shape2 c l.0 (omega arith))) ∙ e) in
        ap length (shape2 c l.0 (omega arith)) ∙ sym (rw (le-ltb a 128 (omega arith), lt-ltb a 224 (omega arith)) refl)
    on (inr (inr (inl l))) =
        let f : 0xE0 + c / 4096 ≡ a = head-eq_of_cons-eq (sym (ap (λ z. z ++ u) (shape3 c l.0 (omega arith))) ∙ e) in
        ap length (shape3 c l.0 (omega arith)) ∙ sym (rw (le-ltb a 128 (omega arith), le-ltb a 224 (omega arith), lt-ltb a 240 (omega arith)) refl)
    on (inr (inr (inr l))) =
        let f : 0xF0 + c / 262144 ≡ a = head-eq_of_cons-eq (sym (ap (λ z. z ++ u) (shape4 c l)) ∙ e) in
        ap length (shape4 c l) ∙ sym (rw (le-ltb a 128 (omega arith), le-ltb a 224 (omega arith), le-ltb a 240 (omega arith)) refl)

clash : {A : Type 0} → ◌≡◌ {A = Bool} true false → A
clash e = absurd (let z : ◌≡◌ {A = ℕ} 0 1 = cc in omega arith)

-- how a character is written
data Written (c : ℕ) : Type 0 where
  with_escape : (k : ℕ) → escape_byte k ≡ true → in_quotes c ≡ 92 ∷ k ∷ [] → length (utf8 c) ≡ 1 → Written c
  plainly : in_quotes c ≡ utf8 c → (c ≡ 34 → ⊥) → (c ≡ 92 → ⊥) → (c ≡ 9 → ⊥) → (c ≡ 10 → ⊥) → (c ≡ 13 → ⊥) → Written c

plain_escaped : (c : ℕ) → (c ≡ 34 → ⊥) → (c ≡ 92 → ⊥) → (c ≡ 9 → ⊥) → (c ≡ 10 → ⊥) → (c ≡ 13 → ⊥) → in_quotes c ≡ utf8 c
unfolding in_quotes
plain_escaped c a b d f g = rw (ne_eqb c 34 a, ne_eqb c 92 b, ne_eqb c 9 d, ne_eqb c 10 f, ne_eqb c 13 g) refl

written : (c : ℕ) → Written c
unfolding in_quotes
written c = on (ℕ_discrete c 34) (ℕ_discrete c 92) (ℕ_discrete c 9) (ℕ_discrete c 10) (ℕ_discrete c 13)
  where
    one : c < 128 → length (utf8 c) ≡ 1
    one h = ap length (shape1 c h)

    on : Dec (c ≡ 34) → Dec (c ≡ 92) → Dec (c ≡ 9) → Dec (c ≡ 10) → Dec (c ≡ 13) → Written c
    on (yes e) b d f g = with_escape 34 refl (rw e refl) (one (omega arith))
    on (no a) (yes e) d f g = with_escape 92 refl (rw e refl) (one (omega arith))
    on (no a) (no b) (yes e) f g = with_escape 116 refl (rw e refl) (one (omega arith))
    on (no a) (no b) (no d) (yes e) g = with_escape 110 refl (rw e refl) (one (omega arith))
    on (no a) (no b) (no d) (no f) (yes e) = with_escape 114 refl (rw e refl) (one (omega arith))
    on (no a) (no b) (no d) (no f) (no g) = plainly (plain_escaped c a b d f g) a b d f g

escaped_some : (c : ℕ) → 1 ≤ length (in_quotes c)
escaped_some c = on (written c)
  where
    on : Written c → 1 ≤ length (in_quotes c)
    on (with_escape k h e l) = rw e (omega arith)
    on (plainly e a b d f g) = rw e (utf8_some c)

-- an escape is that of a character
abbrev EscapeOf : ℕ → Type 0
EscapeOf b = (c : ℕ) × Char c × (in_quotes c ≡ 92 ∷ b ∷ []) × (length (utf8 c) ≡ 1)

escape_of : (b : ℕ) → escape_byte b ≡ true → EscapeOf b
unfolding in_quotes
escape_of b h = on (ℕ_discrete b 34) (ℕ_discrete b 92) (ℕ_discrete b 116) (ℕ_discrete b 110) (ℕ_discrete b 114)
  where
    of : (c k : ℕ) → Char c → c < 128 → in_quotes c ≡ 92 ∷ k ∷ [] → b ≡ k → EscapeOf b
    of c k i l e f = (c, i, e ∙ ap (λ z. 92 ∷ z ∷ []) (sym f), ap length (shape1 c l))

    quoted : in_quotes 34 ≡ 92 ∷ 34 ∷ []
    quoted = refl

    slashed : in_quotes 92 ≡ 92 ∷ 92 ∷ []
    slashed = refl

    tabbed : in_quotes 9 ≡ 92 ∷ 116 ∷ []
    tabbed = refl

    fed : in_quotes 10 ≡ 92 ∷ 110 ∷ []
    fed = refl

    returned : in_quotes 13 ≡ 92 ∷ 114 ∷ []
    returned = refl

    on : Dec (b ≡ 34) → Dec (b ≡ 92) → Dec (b ≡ 116) → Dec (b ≡ 110) → Dec (b ≡ 114) → EscapeOf b
    on (yes e) q d f g = of 34 34 (inr (inr (inr (inl (omega arith, omega arith))))) (omega arith) quoted e
    on (no a) (yes e) d f g = of 92 92 (inr (inr (inr (inl (omega arith, omega arith))))) (omega arith) slashed e
    on (no a) (no q) (yes e) f g = of 9 116 (inl refl) (omega arith) tabbed e
    on (no a) (no q) (no d) (yes e) g = of 10 110 (inr (inl refl)) (omega arith) fed e
    on (no a) (no q) (no d) (no f) (yes e) = of 13 114 (inr (inr (inl refl))) (omega arith) returned e
    on (no a) (no q) (no d) (no f) (no g) = clash (sym h ∙ rw (ne_eqb b 34 a, ne_eqb b 92 q, ne_eqb b 116 d, ne_eqb b 110 f, ne_eqb b 114 g) refl)

-- a character that is written plainly does not begin with a \, a quote or a control
plain_first : (c a : ℕ) (g u : List ℕ) → Char c → (c ≡ 34 → ⊥) → (c ≡ 92 → ⊥) → (c ≡ 9 → ⊥) → (c ≡ 10 → ⊥) → (c ≡ 13 → ⊥) → utf8 c ++ u ≡ a ∷ g → (a ≡ 34 → ⊥) × (a ≡ 92 → ⊥) × (32 ≤ a)
plain_first c a g u h p q r s t e = on (range c)
  where
    high : 128 ≤ a → (a ≡ 34 → ⊥) × (a ≡ 92 → ⊥) × (32 ≤ a)
    high l = (λ i. omega arith, λ i. omega arith, omega arith)

    low : c < 32 → ⊥
    low l = out (char_low h l)
      where
        out : (c ≡ 0x9) ⊎ ((c ≡ 0xA) ⊎ (c ≡ 0xD)) → ⊥
        out (inl i) = r i
        out (inr (inl i)) = s i
        out (inr (inr i)) = t i

    printed : Dec (32 ≤ c) → 32 ≤ c
    printed (yes l) = l
    printed (no l) = absurd (low (omega arith))

    on : Range c → (a ≡ 34 → ⊥) × (a ≡ 92 → ⊥) × (32 ≤ a)
    on (inl l) = let f : c ≡ a = head-eq_of_cons-eq (sym (ap (λ z. z ++ u) (shape1 c l)) ∙ e) in (λ i. p (f ∙ i), λ i. q (f ∙ i), omega (arith, printed (dec_le 32 c)))
    on (inr (inl l)) = let f : 0xC0 + c / 64 ≡ a = head-eq_of_cons-eq (sym (ap (λ z. z ++ u) (shape2 c l.0 (omega arith))) ∙ e) in high (omega arith)
    on (inr (inr (inl l))) = let f : 0xE0 + c / 4096 ≡ a = head-eq_of_cons-eq (sym (ap (λ z. z ++ u) (shape3 c l.0 (omega arith))) ∙ e) in high (omega arith)
    on (inr (inr (inr l))) = let f : 0xF0 + c / 262144 ≡ a = head-eq_of_cons-eq (sym (ap (λ z. z ++ u) (shape4 c l)) ∙ e) in high (omega arith)

-- spellings by their first byte
abbrev Led : (List ℕ → ℕ → Type 0) → ℕ → List ℕ → ℕ → Type 0
Led L a w n = L w n × ((v : List ℕ) × (w ≡ a ∷ v))

module _ (L : List ℕ → ℕ → Type 0) (a : ℕ) (g : List ℕ) (some : (w : List ℕ) (n : ℕ) → L w n → 1 ≤ length w) where
  led_whole : (n k : ℕ) → (s : Spelt L nothing (a ∷ g) n k) → Led L a s.spelling n
  led_whole n k s = (s.is, on s.spelling (some s.spelling n s.is) s.are)
    where
      on : (w : List ℕ) → 1 ≤ length w → a ∷ g ≡ w ++ s.rest → (v : List ℕ) × (w ≡ a ∷ v)
      on [] l e = absurd (omega arith)
      on (b ∷ w) l e = (w, ap (λ z. z ∷ w) (sym (head-eq_of_cons-eq e)))

  led_start : (k : ℕ) → (s : BeginsSpelling L (take (suc k) (a ∷ g))) → Led L a s.spelling s.number
  led_start k s = (s.is, (take k g ++ s.rest, s.are))

  none_led : ((w : List ℕ) (n : ℕ) → Led L a w n → ⊥) → ReadIs L nothing (a ∷ g) (Tried.Stuck 0)
  none_led f = halts {k = 0} (record {
    reached = omega arith;
    begun = λ i. absurd (omega arith);
    no_further = λ i s. f s.spelling s.number (led_start 0 s);
    no_whole = λ n k s. f s.spelling n (led_whole n k s);
  })

-- two sorts that have the same spellings with that first byte
module _ (L M : List ℕ → ℕ → Type 0) (a : ℕ) (g : List ℕ) (some_l : (w : List ℕ) (n : ℕ) → L w n → 1 ≤ length w) (some_m : (w : List ℕ) (n : ℕ) → M w n → 1 ≤ length w)
    (to : (w : List ℕ) (n : ℕ) → Led L a w n → M w n) (back : (w : List ℕ) (n : ℕ) → Led M a w n → L w n) where
  begun_agree : (k : ℕ) → (1 ≤ k → BeginsSpelling L (take k (a ∷ g))) → 1 ≤ k → BeginsSpelling M (take k (a ∷ g))
  begun_agree zero f i = absurd (omega arith)
  begun_agree (suc k) f i = let s = f i in record { spelling = s.spelling; number = s.number; rest = s.rest; is = to s.spelling s.number (led_start L a g some_l k s); are = s.are }

  read_agree : (r : Tried) → ReadIs L nothing (a ∷ g) r → ReadIs M nothing (a ∷ g) r
  read_agree (Tried.Whole n k) (whole s) = whole {n = n} {k = k} (record { spelling = s.spelling; rest = s.rest; is = to s.spelling n (led_whole L a g some_l n k s); are = s.are; long = s.long; stops = s.stops })
  read_agree (Tried.Stuck k) (halts h) = halts {k = k} (record {
    reached = h.reached;
    begun = begun_agree k h.begun;
    no_further = λ i s. h.no_further i (record { spelling = s.spelling; number = s.number; rest = s.rest; is = back s.spelling s.number (led_start M a g some_m k s); are = s.are });
    no_whole = λ n m s. h.no_whole n m (record { spelling = s.spelling; rest = s.rest; is = back s.spelling n (led_whole M a g some_m n m s); are = s.are; long = s.long; stops = s.stops });
  })

piece_some : (room : ℕ) (w : List ℕ) (n : ℕ) → PieceSpelling room w n → 1 ≤ length w
piece_some room w n p = omega (arith, ap length p.spelled, escaped_some p.character)

char_some : (w : List ℕ) (n : ℕ) → CharSpelling w n → 1 ≤ length w
char_some w n p = omega (arith, ap length p.spelled, utf8_some p.character)

-- a piece by its first byte
data Leads (room a : ℕ) (v : List ℕ) (n : ℕ) : Type 0 where
  a_slash : (k : ℕ) → a ≡ 92 → escape_byte k ≡ true → v ≡ k ∷ [] → n ≡ 1 → 1 ≤ room → Leads room a v n
  itself : (c : ℕ) → Char c → a ∷ v ≡ utf8 c → (a ≡ 34 → ⊥) → (a ≡ 92 → ⊥) → 32 ≤ a → n ≡ length (utf8 c) → width_of a ≤ room → Leads room a v n

leads : (room a : ℕ) (w v : List ℕ) (n : ℕ) → PieceSpelling room w n → w ≡ a ∷ v → Leads room a v n
leads room a w v n p e = on (written p.character)
  where
    spelled : in_quotes p.character ≡ a ∷ v
    spelled = sym p.spelled ∙ e

    on : Written p.character → Leads room a v n
    on (with_escape k h f l) = let same : 92 ∷ k ∷ [] ≡ a ∷ v = sym f ∙ spelled in a_slash k (sym (head-eq_of_cons-eq same)) h (sym (tail-eq_of_cons-eq same)) (p.long ∙ l) (omega (arith, p.fits))
    on (plainly f p1 p2 p3 p4 p5) =
        let same : utf8 p.character ≡ a ∷ v = sym f ∙ spelled in
        let q = plain_first p.character a v [] p.is_char p1 p2 p3 p4 p5 (append-nil (utf8 p.character) ∙ same) in
        itself p.character p.is_char (sym same) q.0 q.1 q.2 p.long (subst (λ z. z ≤ room) (width_is p.character a v [] p.is_char (append-nil (utf8 p.character) ∙ same)) p.fits)

pub piece_none : (room : ℕ) (y : List ℕ) → length y ≡ 0 → ReadIs (PieceSpelling room) nothing y (Tried.Stuck 0)
piece_none room [] e = halts {k = 0} (record {
  reached = omega arith;
  begun = λ i. absurd (omega arith);
  no_further = λ i s. absurd (omega arith);
  no_whole = λ n k s. absurd (omega (arith, piece_some room s.spelling n s.is, ap length s.are ∙ length-append s.spelling s.rest));
})
piece_none room (a ∷ g) e = absurd (omega arith)

-- no piece begins so
pub no_piece : (room : ℕ) (y : List ℕ) → 1 ≤ length y → (get_or y 0 0 ≡ 92 → ⊥) → (get_or y 0 0 ≡ 34) ⊎ ((get_or y 0 0 < 32) ⊎ (room < width_of (get_or y 0 0))) → ReadIs (PieceSpelling room) nothing y (Tried.Stuck 0)
no_piece room [] l n f = absurd (omega arith)
no_piece room (a ∷ g) l n f = none_led (PieceSpelling room) a g (piece_some room) (λ w m h. out f (leads room a w h.1.0 m h.0 h.1.1))
  where
    out : (a ≡ 34) ⊎ ((a < 32) ⊎ (room < width_of a)) → {v : List ℕ} {m : ℕ} → Leads room a v m → ⊥
    out z (a_slash k e h i j r) = n e
    out (inl z) (itself c h e q r s i j) = q z
    out (inr (inl z)) (itself c h e q r s i j) = omega arith
    out (inr (inr z)) (itself c h e q r s i j) = omega arith

pub piece_itself : (room : ℕ) (y : List ℕ) (r : Tried) → 1 ≤ length y → (get_or y 0 0 ≡ 92 → ⊥) → (get_or y 0 0 ≡ 34 → ⊥) → 32 ≤ get_or y 0 0 → width_of (get_or y 0 0) ≤ room → ReadIs CharSpelling nothing y r → ReadIs (PieceSpelling room) nothing y r
piece_itself room [] r l n q s f h = absurd (omega arith)
piece_itself room (a ∷ g) r l n q s f h = read_agree CharSpelling (PieceSpelling room) a g char_some (piece_some room) to back r h
  where
    to : (w : List ℕ) (m : ℕ) → Led CharSpelling a w m → PieceSpelling room w m
    to w m (p, (v, e)) = record {
      character = p.character;
      is_char = p.is_char;
      fits = subst (λ z. z ≤ room) (sym (width_is p.character a v [] p.is_char (append-nil (utf8 p.character) ∙ sym p.spelled ∙ e))) f;
      spelled = p.spelled ∙ plain (written p.character);
      long = p.long;
    }
      where
        same : utf8 p.character ≡ a ∷ v
        same = sym p.spelled ∙ e

        low : (k : ℕ) → p.character ≡ k → k < 128 → a ≡ k
        low k i j = sym (head-eq_of_cons-eq (sym (shape1 k j) ∙ ap utf8 (sym i) ∙ same))

        plain : Written p.character → utf8 p.character ≡ in_quotes p.character
        plain (plainly i p1 p2 p3 p4 p5) = sym i
        plain (with_escape k i j z) = absurd (on (ℕ_discrete p.character 34) (ℕ_discrete p.character 92) (ℕ_discrete p.character 9) (ℕ_discrete p.character 10) (ℕ_discrete p.character 13))
          where
            on : Dec (p.character ≡ 34) → Dec (p.character ≡ 92) → Dec (p.character ≡ 9) → Dec (p.character ≡ 10) → Dec (p.character ≡ 13) → ⊥
            on (yes t) b d f g = q (low 34 t (omega arith))
            on (no x) (yes t) d f g = n (low 92 t (omega arith))
            on (no x) (no b) (yes t) f g = omega (arith, low 9 t (omega arith))
            on (no x) (no b) (no d) (yes t) g = omega (arith, low 10 t (omega arith))
            on (no x) (no b) (no d) (no u) (yes t) = omega (arith, low 13 t (omega arith))
            on (no x) (no b) (no d) (no u) (no t) = n (sym (head-eq_of_cons-eq (sym j ∙ plain_escaped p.character x b d u t ∙ same)))

    back : (w : List ℕ) (m : ℕ) → Led (PieceSpelling room) a w m → CharSpelling w m
    back w m (p, (v, e)) = on (leads room a w v m p e)
      where
        on : Leads room a v m → CharSpelling w m
        on (a_slash k i h j z o) = absurd (n i)
        on (itself c h i j z o u t) = record { character = c; is_char = h; spelled = e ∙ i; long = u }

-- escapes
pub escape_no_room : (room : ℕ) (y : List ℕ) → 1 ≤ length y → room ≡ 0 → ReadIs (PieceSpelling room) nothing y (Tried.Stuck 0)
escape_no_room room [] l e = absurd (omega arith)
escape_no_room room (a ∷ g) l e = none_led (PieceSpelling room) a g (piece_some room) (λ w m h. omega (arith, h.0.fits, utf8_some h.0.character))

escape_begun : (room : ℕ) (y : List ℕ) → 1 ≤ room → 1 ≤ length y → get_or y 0 0 ≡ 92 → BeginsSpelling (PieceSpelling room) (take 1 y)
escape_begun room [] r l e = absurd (omega arith)
escape_begun room (a ∷ g) r l e =
    let z = escape_of 34 refl in
    record { spelling = 92 ∷ 34 ∷ []; number = 1; rest = 34 ∷ []; is = record { character = z.0; is_char = z.1; fits = omega (arith, z.3); spelled = sym z.2; long = sym z.3 }; are = ap (λ b. b ∷ 34 ∷ []) (sym e) }

pub escape_short : (room : ℕ) (y : List ℕ) → 1 ≤ room → length y ≡ 1 → get_or y 0 0 ≡ 92 → ReadIs (PieceSpelling room) nothing y (Tried.Stuck 1)
escape_short room [] r l e = absurd (omega arith)
escape_short room (a ∷ b ∷ g) r l e = absurd (omega arith)
escape_short room (a ∷ []) r l e = halts {k = 1} (record {
  reached = omega arith;
  begun = λ i. escape_begun room (a ∷ []) r (omega arith) e;
  no_further = λ i s. absurd (omega arith);
  no_whole = λ n k s. let h = led_whole (PieceSpelling room) a [] (piece_some room) n k s in on s.spelling s.rest h.1.1 s.are (leads room a s.spelling h.1.0 n h.0 h.1.1);
})
  where
    on : (w q : List ℕ) {v : List ℕ} {n : ℕ} → w ≡ a ∷ v → a ∷ [] ≡ w ++ q → Leads room a v n → ⊥
    on w q {v = v} i j (a_slash k f h z o t) = let x = ap length j ∙ length-append w q in omega (arith, ap length i, ap length z)
    on w q i j (itself c h z f o t u x) = o e

pub escape_found : (room : ℕ) (y : List ℕ) → 1 ≤ room → 2 ≤ length y → get_or y 0 0 ≡ 92 → escape_byte (get_or y 1 0) ≡ true → ReadIs (PieceSpelling room) nothing y (Tried.Whole 1 2)
escape_found room [] r l e h = absurd (omega arith)
escape_found room (a ∷ []) r l e h = absurd (omega arith)
escape_found room (a ∷ b ∷ g) r l e h =
    let z = escape_of b h in
    whole {n = 1} {k = 2} (record { spelling = 92 ∷ b ∷ []; rest = g; is = record { character = z.0; is_char = z.1; fits = omega (arith, z.3); spelled = sym z.2; long = sym z.3 }; are = ap (λ c. c ∷ b ∷ g) e; long = refl; stops = any_stops g })

pub escape_bad : (room : ℕ) (y : List ℕ) → 1 ≤ room → 2 ≤ length y → get_or y 0 0 ≡ 92 → escape_byte (get_or y 1 0) ≡ false → ReadIs (PieceSpelling room) nothing y (Tried.Stuck 1)
escape_bad room [] r l e h = absurd (omega arith)
escape_bad room (a ∷ []) r l e h = absurd (omega arith)
escape_bad room (a ∷ b ∷ g) r l e h = halts {k = 1} (record {
  reached = omega arith;
  begun = λ i. escape_begun room (a ∷ b ∷ g) r (omega arith) e;
  no_further = λ i s. on s.spelling (b ∷ s.rest) [] (s.are ∙ sym (append-nil (a ∷ b ∷ s.rest))) (leads room a s.spelling (b ∷ s.rest) s.number s.is s.are) s.rest refl;
  no_whole = λ n k s. let i = led_whole (PieceSpelling room) a (b ∷ g) (piece_some room) n k s in behind s.spelling i.1.0 s.rest i.1.1 s.are (leads room a s.spelling i.1.0 n i.0 i.1.1);
})
  where
    on : (w v q : List ℕ) {n : ℕ} → w ≡ (a ∷ v) ++ q → Leads room a v n → (u : List ℕ) → v ≡ b ∷ u → ⊥
    on w v q i (a_slash k f j z o t) u x = clash (sym j ∙ ap escape_byte (head-eq_of_cons-eq (sym z ∙ x)) ∙ h)
    on w v q i (itself c f z j o t p x) u y = o e

    behind : (w v q : List ℕ) {n : ℕ} → w ≡ a ∷ v → a ∷ b ∷ g ≡ w ++ q → Leads room a v n → ⊥
    behind w v q i j (itself c f z p o t u x) = o e
    behind w v q i j (a_slash k f p z o t) = clash (sym p ∙ ap escape_byte (sym (head-eq_of_cons-eq (tail-eq_of_cons-eq (j ∙ ap (λ x. x ++ q) i ∙ ap (λ x. (a ∷ x) ++ q) z)))) ∙ h)

-- strings: the characters read so far
pub record SoFar (x : List ℕ) (i n : ℕ) : Type 0 where
  pub characters : List ℕ
  pub are_chars : AllChar characters
  pub taken : take i x ≡ 34 ∷ all_in_quotes characters
  pub long : n ≡ length (utf8s characters)

escaped_append : (cs ds : List ℕ) → all_in_quotes (cs ++ ds) ≡ all_in_quotes cs ++ all_in_quotes ds
escaped_append [] ds = refl
escaped_append (c ∷ cs) ds = ap (λ z. in_quotes c ++ z) (escaped_append cs ds) ∙ sym (append_assoc (in_quotes c) (all_in_quotes cs) (all_in_quotes ds))

utf8s_append : (cs ds : List ℕ) → utf8s (cs ++ ds) ≡ utf8s cs ++ utf8s ds
utf8s_append [] ds = refl
utf8s_append (c ∷ cs) ds = ap (λ z. utf8 c ++ z) (utf8s_append cs ds) ∙ sym (append_assoc (utf8 c) (utf8s cs) (utf8s ds))

char_append : (cs ds : List ℕ) → AllChar cs → AllChar ds → AllChar (cs ++ ds)
char_append [] ds h k = k
char_append (c ∷ cs) ds h k = (h.0, char_append cs ds h.1 k)

char_back : (cs ds : List ℕ) → AllChar (cs ++ ds) → AllChar ds
char_back [] ds h = h
char_back (c ∷ cs) ds h = char_back cs ds h.1

string_some : (w : List ℕ) (n : ℕ) → StringSpelling w n → 1 ≤ length w
string_some w n s = omega (arith, ap length s.spelled)

pub no_string : (x : List ℕ) → (1 ≤ length x → get_or x 0 0 ≡ 34 → ⊥) → ReadIs StringSpelling nothing x (Tried.Stuck 0)
no_string [] f = halts {k = 0} (record {
  reached = omega arith;
  begun = λ i. absurd (omega arith);
  no_further = λ i s. absurd (omega arith);
  no_whole = λ n k s. absurd (omega (arith, string_some s.spelling n s.is, ap length s.are ∙ length-append s.spelling s.rest));
})
no_string (a ∷ g) f = none_led StringSpelling a g string_some (λ w n h. f (omega arith) (head-eq_of_cons-eq (sym h.1.1 ∙ h.0.spelled)))

pub string_start : (x : List ℕ) → 1 ≤ length x → get_or x 0 0 ≡ 34 → SoFar x 1 0
string_start [] l e = absurd (omega arith)
string_start (a ∷ g) l e = record { characters = []; are_chars = tt; taken = ap (λ z. z ∷ []) e; long = refl }

-- two strings, one of which is read so far
split_strings : (cs ds p q : List ℕ) → all_in_quotes ds ++ 34 ∷ p ≡ all_in_quotes cs ++ q → ((d : ℕ) × (es : List ℕ) × (ds ≡ cs ++ d ∷ es) × (q ≡ in_quotes d ++ (all_in_quotes es ++ 34 ∷ p))) ⊎ (q ≡ 34 ∷ p)
split_strings [] [] p q e = inr (sym e)
split_strings [] (d ∷ es) p q e = inl (d, es, refl, sym e ∙ append_assoc (in_quotes d) (all_in_quotes es) (34 ∷ p))
split_strings (c ∷ cs) [] p q e = absurd (no_quote c (all_in_quotes cs ++ q) p (sym (append_assoc (in_quotes c) (all_in_quotes cs) q) ∙ sym e))
split_strings (c ∷ cs) (d ∷ ds) p q e = on (split_strings cs ds p q more)
  where
    whole_eq : in_quotes d ++ (all_in_quotes ds ++ 34 ∷ p) ≡ in_quotes c ++ (all_in_quotes cs ++ q)
    whole_eq = sym (append_assoc (in_quotes d) (all_in_quotes ds) (34 ∷ p)) ∙ e ∙ append_assoc (in_quotes c) (all_in_quotes cs) q

    same : d ≡ c
    same = escaped_one d c (all_in_quotes ds ++ 34 ∷ p) (all_in_quotes cs ++ q) whole_eq

    more : all_in_quotes ds ++ 34 ∷ p ≡ all_in_quotes cs ++ q
    more = append_cancel_left (in_quotes c) (all_in_quotes ds ++ 34 ∷ p) (all_in_quotes cs ++ q) (ap (λ z. in_quotes z ++ (all_in_quotes ds ++ 34 ∷ p)) (sym same) ∙ whole_eq)

    on : ((b : ℕ) × (es : List ℕ) × (ds ≡ cs ++ b ∷ es) × (q ≡ in_quotes b ++ (all_in_quotes es ++ 34 ∷ p))) ⊎ (q ≡ 34 ∷ p)
        → ((b : ℕ) × (es : List ℕ) × (d ∷ ds ≡ c ∷ (cs ++ b ∷ es)) × (q ≡ in_quotes b ++ (all_in_quotes es ++ 34 ∷ p))) ⊎ (q ≡ 34 ∷ p)
    on (inl (b, es, i, j)) = inl (b, es, ap₂ (λ a l. a ∷ l) same i, j)
    on (inr j) = inr j

module _ (x : List ℕ) (i n : ℕ) (l : i ≤ length x) (small : n ≤ 255) (f : SoFar x i n) where
  are_x : x ≡ 34 ∷ (all_in_quotes f.characters ++ drop i x)
  are_x = sym (take-append-drop i x) ∙ ap (λ z. z ++ drop i x) f.taken

  taken_to : (k : ℕ) → take (i + k) x ≡ 34 ∷ (all_in_quotes f.characters ++ take k (drop i x))
  taken_to k = take-add i k x ∙ ap (λ z. z ++ take k (drop i x)) f.taken

  string_so_far : StringOf f.characters
  string_so_far = record { characters = f.are_chars; short = omega (arith, f.long) }

  -- with one character more
  one_longer : (c : ℕ) → Char c → length (utf8 c) ≤ 255 - n → StringOf (f.characters ++ c ∷ [])
  one_longer c h r = record {
    characters = char_append f.characters (c ∷ []) f.are_chars (h, tt);
    short = subst (λ z. z ≤ 255) (sym (ap length (utf8s_append f.characters (c ∷ [])) ∙ length-append (utf8s f.characters) (utf8 c ++ []) ∙ ap (λ z. length (utf8s f.characters) + length z) (append-nil (utf8 c)))) (omega (arith, f.long));
  }

  pub string_closed : i < length x → get_or x i 0 ≡ 34 → ReadIs StringSpelling nothing x (Tried.Whole n (i + 1))
  string_closed m e = whole {n = n} {k = i + 1} (record {
    spelling = 34 ∷ (all_in_quotes f.characters ++ 34 ∷ []);
    rest = drop (suc i) x;
    is = record { characters = f.characters; are_string = string_so_far; spelled = refl; long = f.long };
    are = are_x ∙ ap (λ z. 34 ∷ (all_in_quotes f.characters ++ z)) (drop-cons x i 0 m ∙ ap (λ z. z ∷ drop (suc i) x) e) ∙ ap (λ z. 34 ∷ z) (sym (append_assoc (all_in_quotes f.characters) (34 ∷ []) (drop (suc i) x)));
    long = omega (arith, sym (length-take-le i x l) ∙ ap length f.taken, length-append (all_in_quotes f.characters) (34 ∷ []));
    stops = any_stops (drop (suc i) x);
  })

  pub string_more : (m k : ℕ) → ReadIs (PieceSpelling (255 - n)) nothing (part x i) (Tried.Whole m k) → SoFar x (i + k) (n + m) × (m ≤ 255 - n) × (1 ≤ k) × (i + k ≤ length x)
  string_more m k (whole s) =
      let p = s.is in
      let y : drop i x ≡ in_quotes p.character ++ s.rest = sym (part_is x i) ∙ s.are ∙ ap (λ z. z ++ s.rest) p.spelled in
      let long_k : k ≡ length (in_quotes p.character) = s.long ∙ ap length p.spelled in
      let reach : length (drop i x) ≡ length (in_quotes p.character) + length s.rest = ap length y ∙ length-append (in_quotes p.character) s.rest in (
        record {
          characters = f.characters ++ p.character ∷ [];
          are_chars = char_append f.characters (p.character ∷ []) f.are_chars (p.is_char, tt);
          taken = taken_to k ∙ ap (λ z. 34 ∷ (all_in_quotes f.characters ++ z)) (ap (take k) y ∙ take_at (in_quotes p.character) s.rest k (sym long_k) ∙ sym (append-nil (in_quotes p.character))) ∙ ap (λ z. 34 ∷ z) (sym (escaped_append f.characters (p.character ∷ [])));
          long = ap₂ ◌+◌ f.long p.long ∙ sym (ap length (utf8s_append f.characters (p.character ∷ [])) ∙ length-append (utf8s f.characters) (utf8 p.character ++ []) ∙ ap (λ z. length (utf8s f.characters) + length z) (append-nil (utf8 p.character)));
        },
        omega (arith, p.fits, p.long),
        omega (arith, long_k, escaped_some p.character),
        omega (arith, long_k, reach, length-drop i x),
      )

  -- a string that goes on behind what is read
  module _ (k : ℕ) (no_end : i < length x → get_or x i 0 ≡ 34 → ⊥) (h : Halts (PieceSpelling (255 - n)) nothing (drop i x) k) where
    room_left : (ds : List ℕ) (d : ℕ) (es : List ℕ) → StringOf ds → ds ≡ f.characters ++ d ∷ es → Char d × (length (utf8 d) ≤ 255 - n)
    room_left ds d es t e =
        let u : length (utf8s ds) ≡ length (utf8s f.characters) + (length (utf8 d) + length (utf8s es)) =
        ap (λ z. length (utf8s z)) e ∙ ap length (utf8s_append f.characters (d ∷ es)) ∙ length-append (utf8s f.characters) (utf8 d ++ utf8s es) ∙ ap (λ z. length (utf8s f.characters) + z) (length-append (utf8 d) (utf8s es)) in
        ((char_back f.characters (d ∷ es) (subst AllChar e t.characters)).0, omega (arith, t.short, u, f.long))

    quote_first : (p : List ℕ) → drop i x ≡ 34 ∷ p → ⊥
    quote_first p e = no_end (omega (arith, ap length e, length-drop i x)) (head-eq_of_cons-eq (sym (drop-cons x i 0 (omega (arith, ap length e, length-drop i x))) ∙ e))

    string_no_whole : (m q : ℕ) → Spelt StringSpelling nothing x m q → ⊥
    string_no_whole m q s = on (split_strings f.characters s.is.characters s.rest (drop i x) same)
      where
        same : all_in_quotes s.is.characters ++ 34 ∷ s.rest ≡ all_in_quotes f.characters ++ drop i x
        same = sym (append_assoc (all_in_quotes s.is.characters) (34 ∷ []) s.rest) ∙ sym (tail-eq_of_cons-eq (sym are_x ∙ s.are ∙ ap (λ z. z ++ s.rest) s.is.spelled))

        on : ((d : ℕ) × (es : List ℕ) × (s.is.characters ≡ f.characters ++ d ∷ es) × (drop i x ≡ in_quotes d ++ (all_in_quotes es ++ 34 ∷ s.rest))) ⊎ (drop i x ≡ 34 ∷ s.rest) → ⊥
        on (inr e) = quote_first s.rest e
        on (inl (d, es, e, j)) =
            let r = room_left s.is.characters d es s.is.are_string e in
            h.no_whole (length (utf8 d)) (length (in_quotes d)) (record { spelling = in_quotes d; rest = all_in_quotes es ++ 34 ∷ s.rest; is = record { character = d; is_char = r.0; fits = r.1; spelled = refl; long = refl }; are = j; long = refl; stops = any_stops (all_in_quotes es ++ 34 ∷ s.rest) })

    string_no_further : i + k < length x → BeginsSpelling StringSpelling (take (suc (i + k)) x) → ⊥
    string_no_further m s = on (split_strings f.characters s.is.characters [] (take (suc k) (drop i x) ++ s.rest) same)
      where
        front : take (suc (i + k)) x ≡ 34 ∷ (all_in_quotes f.characters ++ take (suc k) (drop i x))
        front = ap (λ z. take z x) (shift i k) ∙ taken_to (suc k)
          where
            shift : (a b : ℕ) → suc (a + b) ≡ a + suc b
            shift a b = omega arith

        same : all_in_quotes s.is.characters ++ 34 ∷ [] ≡ all_in_quotes f.characters ++ (take (suc k) (drop i x) ++ s.rest)
        same = tail-eq_of_cons-eq (sym s.is.spelled ∙ s.are ∙ ap (λ z. z ++ s.rest) front) ∙ append_assoc (all_in_quotes f.characters) (take (suc k) (drop i x)) s.rest

        inside : k < length (drop i x)
        inside = omega (arith, length-drop i x)

        on : ((d : ℕ) × (es : List ℕ) × (s.is.characters ≡ f.characters ++ d ∷ es) × (take (suc k) (drop i x) ++ s.rest ≡ in_quotes d ++ (all_in_quotes es ++ 34 ∷ []))) ⊎ (take (suc k) (drop i x) ++ s.rest ≡ 34 ∷ []) → ⊥
        on (inr e) = no_end (omega arith) (first (drop i x) (drop-cons x i 0 (omega arith)) e)
          where
            first : (y : List ℕ) → y ≡ get_or x i 0 ∷ drop (suc i) x → take (suc k) y ++ s.rest ≡ 34 ∷ [] → get_or x i 0 ≡ 34
            first y a b = head-eq_of_cons-eq (sym (ap (λ z. take (suc k) z ++ s.rest) a) ∙ b)
        on (inl (d, es, e, j)) = cut (splits (take (suc k) (drop i x)) s.rest (in_quotes d) (all_in_quotes es ++ 34 ∷ []) j)
          where
            r : Char d × (length (utf8 d) ≤ 255 - n)
            r = room_left s.is.characters d es s.is.are_string e

            spelled : PieceSpelling (255 - n) (in_quotes d) (length (utf8 d))
            spelled = record { character = d; is_char = r.0; fits = r.1; spelled = refl; long = refl }

            cut : ((z : List ℕ) × (take (suc k) (drop i x) ≡ in_quotes d ++ z) × (all_in_quotes es ++ 34 ∷ [] ≡ z ++ s.rest)) ⊎ ((z : List ℕ) × (in_quotes d ≡ take (suc k) (drop i x) ++ z) × (s.rest ≡ z ++ (all_in_quotes es ++ 34 ∷ []))) → ⊥
            cut (inl (z, a, b)) = h.no_whole (length (utf8 d)) (length (in_quotes d)) (record {
              spelling = in_quotes d;
              rest = z ++ drop (suc k) (drop i x);
              is = spelled;
              are = sym (take-append-drop (suc k) (drop i x)) ∙ ap (λ y. y ++ drop (suc k) (drop i x)) a ∙ append_assoc (in_quotes d) z (drop (suc k) (drop i x));
              long = refl;
              stops = any_stops (z ++ drop (suc k) (drop i x));
            })
            cut (inr (z, a, b)) = h.no_further inside (record { spelling = in_quotes d; number = length (utf8 d); rest = z; is = spelled; are = a })

    string_begun : BeginsSpelling StringSpelling (take (i + k) x)
    string_begun = on k h.begun (taken_to k)
      where
        on : (q : ℕ) → (1 ≤ q → BeginsSpelling (PieceSpelling (255 - n)) (take q (drop i x))) → take (i + k) x ≡ 34 ∷ (all_in_quotes f.characters ++ take q (drop i x)) → BeginsSpelling StringSpelling (take (i + k) x)
        on zero b e = record {
          spelling = 34 ∷ (all_in_quotes f.characters ++ 34 ∷ []);
          number = n;
          rest = 34 ∷ [];
          is = record { characters = f.characters; are_string = string_so_far; spelled = refl; long = f.long };
          are = ap (λ z. 34 ∷ (z ++ 34 ∷ [])) (sym (append-nil (all_in_quotes f.characters))) ∙ ap (λ z. z ++ 34 ∷ []) (sym e);
        }
        on (suc q) b e =
            let s = b (omega arith) in
            let p = s.is in
            let all : all_in_quotes (f.characters ++ p.character ∷ []) ≡ (all_in_quotes f.characters ++ take (suc q) (drop i x)) ++ s.rest =
            escaped_append f.characters (p.character ∷ []) ∙ ap (λ z. all_in_quotes f.characters ++ z) (append-nil (in_quotes p.character) ∙ sym p.spelled ∙ s.are) ∙ sym (append_assoc (all_in_quotes f.characters) (take (suc q) (drop i x)) s.rest) in
            record {
              spelling = 34 ∷ (all_in_quotes (f.characters ++ p.character ∷ []) ++ 34 ∷ []);
              number = length (utf8s (f.characters ++ p.character ∷ []));
              rest = s.rest ++ 34 ∷ [];
              is = record { characters = f.characters ++ p.character ∷ []; are_string = one_longer p.character p.is_char p.fits; spelled = refl; long = refl };
              are = ap (λ z. 34 ∷ (z ++ 34 ∷ [])) all ∙ ap (λ z. 34 ∷ z) (append_assoc (all_in_quotes f.characters ++ take (suc q) (drop i x)) s.rest (34 ∷ [])) ∙ ap (λ z. z ++ (s.rest ++ 34 ∷ [])) (sym e);
            }

    string_halts : ReadIs StringSpelling nothing x (Tried.Stuck (i + k))
    string_halts = halts {k = i + k} (record {
      reached = omega (arith, h.reached, length-drop i x);
      begun = λ z. string_begun;
      no_further = string_no_further;
      no_whole = string_no_whole;
    })

  pub string_stuck : (k : ℕ) → (get_or x i 0 ≡ 34 → ⊥) → ReadIs (PieceSpelling (255 - n)) nothing (part x i) (Tried.Stuck k) → ReadIs StringSpelling nothing x (Tried.Stuck (i + k))
  string_stuck k e (halts h) = string_halts k (λ z. e) (subst (λ y. Halts (PieceSpelling (255 - n)) nothing y k) (part_is x i) h)

  pub string_open : length x ≤ i → ReadIs StringSpelling nothing x (Tried.Stuck i)
  string_open m = on (piece_none (255 - n) (drop i x) (omega (arith, length-drop i x)))
    where
      on : ReadIs (PieceSpelling (255 - n)) nothing (drop i x) (Tried.Stuck 0) → ReadIs StringSpelling nothing x (Tried.Stuck i)
      on (halts h) = subst (λ z. ReadIs StringSpelling nothing x (Tried.Stuck z)) (none i) (string_halts 0 (λ z. absurd (omega arith)) h)
        where
          none : (z : ℕ) → z + 0 ≡ z
          none z = omega arith

pub stuck_reached : (x : List ℕ) (i room k : ℕ) → ReadIs (PieceSpelling room) nothing (part x i) (Tried.Stuck k) → k ≤ length x - i
stuck_reached x i room k (halts h) = omega (arith, h.reached, ap length (part_is x i), length-drop i x)
