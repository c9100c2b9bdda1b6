-- A stream that comes in parts: a whole token of a part is one of the stream, and bytes that begin none begin none; what waits settles with the next byte;
-- what is begun is presented again. Begun is answered only of a front under 32 bytes, and Long only of one of 32, or of a number cut off at 30 or 31.
-- Assumes nothing.
use mathlib.Core.Path.{◌≡◌, refl, sym, ap, ap₂, ◌∙◌, subst}
use mathlib.Core.Logic.{◌⊎◌, inl, inr, ⊎_elim}
use mathlib.Core.Bool.{Bool, true}
use mathlib.Core.List.{List, [], ◌∷◌, ◌++◌, append_assoc, append-nil, append_cancel_left, head-eq_of_cons-eq, tail-eq_of_cons-eq}
use Prim.Native.Nat.{ℕ, ◌+◌, ◌-◌, ◌≤◌, ◌<◌}
use native.Mathlib.Omega.{arith}
use native.Mathlib.Decide.{dec_lt, ℕ_discrete}
use native.Mathlib.Nat.{add_assoc}
use lib.ListN.{length, take, drop, length-append, length-take, drop_of_length-le}
use lib.Seq.{drop-append-le, drop-append_seam, drop-drop, take-append-le, take-append-add, take_all}
use Rattle.text.specs.Chars.{Char, Starts, Begins}
use Rattle.text.specs.Names.{name_byte, blank, All, Name}
use Rattle.text.specs.Numerals.{Base, decimal, hex, radix, digit_below, value_from, value_of}
use Rattle.text.proofs.NameLaws.{name_all}
use Rattle.text.proofs.NumeralLaws.{value_append, value_grows}
use Rattle.text.proofs.Shapes.{cons≢[], char_most}
use Rattle.tokens.specs.Tokens.{Kind, start, end, empty, lt, crlf, cr, Tok, tag, ref, numeric, line, char, Good, opening_bytes, closing_bytes, base_mark, bytes, event_of, front, Longest, BeginsOne, Means}
use Rattle.tokens.specs.Stream.{settled, ReadAs, Reads, moved_event, moved}
use Rattle.tokens.specs.Parts.{CutNumber, Settles, WaitingSettles, Alike, InParts}
use Rattle.tokens.specs.declared.Cursor.{Cursor}
use Rattle.tokens.specs.declared.Event.{Event}
use Rattle.tokens.specs.declared.Event.TheVariants.{Start, End, Empty}
use Rattle.tokens.specs.declared.Answer.{Answer}
use Rattle.tokens.specs.declared.Answer.TheVariants.{Token, Waiting, Begun, Bad, Long}
use Rattle.tokens.proofs.Theory.{either, one_answer, nil_right, whole, followed_ended}
use Rattle.tokens.proofs.Runs.{all_append}
use Rattle.tokens.proofs.Reading.{utf8_most, spelled_most, begins_length, starts_length, regroup}
use Rattle.tokens.proofs.Numerals.{some_fewest}
use Rattle.tokens.proofs.Readable.{some_answer}
use Rattle.tokens.proofs.Streams.{followed_append, token_followed, waiting_is}

-- the first part of bytes that all pass
all_left : (p : ℕ → Bool) (l m : List ℕ) → All p (l ++ m) → All p l
all_left p [] m a = tt
all_left p (x ∷ l) m a = (a.0, all_left p l m a.1)

-- f begins a token of at most 32 bytes
abbrev pub Short : List ℕ → Type 0
Short f = (t : Tok) × Good t × Begins f (bytes t) × (length (bytes t) ≤ 32)

-- f with > behind it is a token
closed : (f : List ℕ) (t : Tok) → Good t → bytes t ≡ f ++ (62 ∷ []) → length f < 32 → Short f
closed f t ok e h = (t, ok, (62 ∷ [], e, cons≢[]), omega (arith, ap length e, length-append f (62 ∷ [])))

-- the parts of a tag that f can end in: the name, the white space, the closing bytes
module _ (k : Kind) (is : closing_bytes k ≡ 62 ∷ []) (alone : Short (opening_bytes k)) (v c : List ℕ) (more : v ≡ [] → ⊥) where
  short_name : (g : List ℕ) → All name_byte g → (h : List ℕ) → Name (g ++ h) → length (opening_bytes k ++ g) < 32 → Short (opening_bytes k ++ g)
  short_name [] a h n s = subst (λ (l : List ℕ). Short l) (sym (append-nil (opening_bytes k))) alone
  short_name (x ∷ g) a h n s =
      closed (opening_bytes k ++ (x ∷ g)) (tag k (x ∷ g) []) ((n.0, a.1), tt) (ap (λ (l : List ℕ). opening_bytes k ++ (x ∷ g ++ l)) is ∙ sym (append_assoc (opening_bytes k) (x ∷ g) (62 ∷ []))) s

  short_gap : (n g h : List ℕ) → Name n → All blank (g ++ h) → length (opening_bytes k ++ (n ++ g)) < 32 → Short (opening_bytes k ++ (n ++ g))
  short_gap n g h hn hb s =
      closed (opening_bytes k ++ (n ++ g)) (tag k n g) (hn, all_left blank g h hb)
      (ap (λ (l : List ℕ). opening_bytes k ++ (n ++ (g ++ l))) is ∙ simp append_assoc) s

  short_tag : (g n b : List ℕ) → Name n → All blank b → g ++ v ≡ n ++ (b ++ c) → length (opening_bytes k ++ g) < 32
      → ((r : List ℕ) → c ≡ r ++ v → length (opening_bytes k ++ (n ++ (b ++ r))) < 32 → Short (opening_bytes k ++ (n ++ (b ++ r)))) → Short (opening_bytes k ++ g)
  short_tag g n b hn hb e s last =
      ⊎_elim
      (λ w.
      let e₁ : w.0 ++ v ≡ b ++ c = append_cancel_left n (w.0 ++ v) (b ++ c) (sym (append_assoc n w.0 v) ∙ ap (λ (l : List ℕ). l ++ v) (sym w.1) ∙ e) in
      ⊎_elim
      (λ x.
      let e₂ : c ≡ x.0 ++ v = append_cancel_left b c (x.0 ++ v) (sym e₁ ∙ ap (λ (l : List ℕ). l ++ v) x.1 ∙ append_assoc b x.0 v) in
      let q : n ++ (b ++ x.0) ≡ g = ap (λ (l : List ℕ). n ++ l) (sym x.1) ∙ sym w.1 in
      subst (λ (l : List ℕ). Short (opening_bytes k ++ l)) q (last x.0 e₂ (subst (λ (l : List ℕ). length (opening_bytes k ++ l) < 32) (sym q) s)))
      (λ x.
      subst (λ (l : List ℕ). Short (opening_bytes k ++ l)) (sym w.1)
      (short_gap n w.0 x.0 hn (subst (λ (l : List ℕ). All blank l) x.1 hb) (subst (λ (l : List ℕ). length (opening_bytes k ++ l) < 32) w.1 s)))
      (either w.0 b v c e₁))
      (λ w.
      short_name g (all_left name_byte g w.0 (subst (λ (l : List ℕ). All name_byte l) w.1 (name_all n hn))) w.0 (subst (λ (l : List ℕ). Name l) w.1 hn) s)
      (either g n v (b ++ c) e)

short_start : Short (opening_bytes start)
short_start = (tag start (97 ∷ []) [], ((refl, tt), tt), (97 ∷ 62 ∷ [], refl, cons≢[]), omega arith)

short_end : Short (opening_bytes end)
short_end = (tag end (97 ∷ []) [], ((refl, tt), tt), (97 ∷ 62 ∷ [], refl, cons≢[]), omega arith)

short_none : Short []
short_none = (tag start (97 ∷ []) [], ((refl, tt), tt), (60 ∷ 97 ∷ 62 ∷ [], refl, cons≢[]), omega arith)

-- what is left of > or of />
last_one : (k : Kind) → closing_bytes k ≡ 62 ∷ [] → (n b v : List ℕ) → Name n → All blank b → (v ≡ [] → ⊥) → (r : List ℕ) → 62 ∷ [] ≡ r ++ v
    → length (opening_bytes k ++ (n ++ (b ++ r))) < 32 → Short (opening_bytes k ++ (n ++ (b ++ r)))
last_one k is n b v hn hb more [] e s = closed (opening_bytes k ++ (n ++ (b ++ []))) (tag k n b) (hn, hb) (ap (λ (l : List ℕ). opening_bytes k ++ (n ++ (b ++ l))) is ∙ regroup (opening_bytes k) n b [] (62 ∷ [])) s
last_one k is n b [] hn hb more (x ∷ r) e s = absurd (more refl)
last_one k is n b (y ∷ v) hn hb more (x ∷ r) e s = absurd (omega (arith, ap length e, length-append r (y ∷ v)))

last_two : (n b v : List ℕ) → Name n → All blank b → (v ≡ [] → ⊥) → (r : List ℕ) → 47 ∷ 62 ∷ [] ≡ r ++ v
    → length (60 ∷ (n ++ (b ++ r))) < 32 → Short (60 ∷ (n ++ (b ++ r)))
last_two n b v hn hb more [] e s = closed (60 ∷ (n ++ (b ++ []))) (tag start n b) (hn, hb) (regroup (60 ∷ []) n b [] (62 ∷ [])) s
last_two n b v hn hb more (x ∷ []) e s =
    closed (60 ∷ (n ++ (b ++ (x ∷ [])))) (tag empty n b) (hn, hb)
    (regroup (60 ∷ []) n b (47 ∷ []) (62 ∷ []) ∙ ap (λ (z : ℕ). (60 ∷ (n ++ (b ++ (z ∷ [])))) ++ (62 ∷ [])) (head-eq_of_cons-eq e)) s
last_two n b [] hn hb more (x ∷ y ∷ r) e s = absurd (more refl)
last_two n b (z ∷ v) hn hb more (x ∷ y ∷ r) e s = absurd (omega (arith, ap length e, length-append r (z ∷ v)))

-- a reference by number: &, &#, and its digits so far
short_amp : Short (38 ∷ [])
short_amp = (ref lt, tt, (108 ∷ 116 ∷ 59 ∷ [], refl, cons≢[]), omega arith)

short_hash : Short (38 ∷ 35 ∷ [])
short_hash = (numeric decimal (57 ∷ []), ((refl, tt), inl refl), (57 ∷ 59 ∷ [], refl, cons≢[]), omega arith)

-- digits that are cut off from ; are the first of them
first_digits : (g ds v : List ℕ) → g ++ v ≡ ds ++ (59 ∷ []) → (v ≡ [] → ⊥) → (m : List ℕ) × (ds ≡ g ++ m)
first_digits [] ds v e n = (ds, refl)
first_digits (x ∷ g) [] v e n = absurd (n (nil_right g v (tail-eq_of_cons-eq e)))
first_digits (x ∷ g) (y ∷ ds) v e n =
    let (m, q) = first_digits g ds v (tail-eq_of_cons-eq e) n in
    (m, ap₂ {A = ℕ} (λ z l. z ∷ l) (sym (head-eq_of_cons-eq e)) q)

short_number : (k : Base) (g m : List ℕ) → Good (numeric k (g ++ m)) → length (38 ∷ 35 ∷ (base_mark k ++ g)) ≤ 29 → Short (38 ∷ 35 ∷ (base_mark k ++ g))
short_number k g m ok s =
    let n : ℕ = value_of k g in
    let (j, F, few) = some_fewest k n (at_most n (value_from (radix k) n m) (value_grows k n m) (char_most (subst (λ (x : ℕ). Char x) (value_append (radix k) 0 g m) ok.1))) in
    let t : Tok = numeric k (g ++ F.digits) in
    let w : List ℕ = F.digits ++ (59 ∷ []) in
    let e : bytes t ≡ (38 ∷ 35 ∷ (base_mark k ++ g)) ++ w =
    ap (λ (x : List ℕ). 38 ∷ 35 ∷ x) (ap (λ (x : List ℕ). base_mark k ++ x) (append_assoc g F.digits (59 ∷ [])) ∙ sym (append_assoc (base_mark k) g w)) in (
      t,
      (all_append (digit_below (radix k)) g F.digits (all_left (digit_below (radix k)) g m ok.0) F.are_digits, subst (λ (x : ℕ). Char x) (sym (value_append (radix k) 0 g F.digits)) F.name_one),
      (w, e, λ z. omega (arith, ap length z, length-append F.digits (59 ∷ []))),
      omega (arith, ap length e, length-append (38 ∷ 35 ∷ (base_mark k ++ g)) w, length-append F.digits (59 ∷ []), F.many, few, s),
    )
  where
    at_most : (x y : ℕ) → x ≤ y → y ≤ 0x10FFFF → x ≤ 0x10FFFF
    at_most x y a b = omega arith

-- under 30 bytes a number can still come to 32; at 30 and 31 it may not
number_short : (k : Base) (g m f : List ℕ) → Good (numeric k (g ++ m)) → 38 ∷ 35 ∷ (base_mark k ++ g) ≡ f → length f < 32 → Short f ⊎ CutNumber f
number_short k g m f ok e s = go (dec_lt (length f) 30)
  where
    go : Dec (length f < 30) → Short f ⊎ CutNumber f
    go (yes h) = inl (subst (λ (l : List ℕ). Short l) e (short_number k g m ok (omega (arith, ap length e))))
    go (no h) = inr (record { opened = (base_mark k ++ g, sym e); long = which (dec_lt (length f) 31) })
      where
        which : Dec (length f < 31) → (length f ≡ 30) ⊎ (length f ≡ 31)
        which (yes l) = inl (omega arith)
        which (no l) = inr (omega arith)

-- A front under 32 bytes that begins a token begins one of at most 32 bytes, or is a number cut off.
pub short : (f : List ℕ) (t : Tok) → Good t → Begins f (bytes t) → length f < 32 → Short f ⊎ CutNumber f
short f (ref x) ok b s = inl (ref x, ok, b, spelled_most x)
short f (line crlf) ok b s = inl (line crlf, ok, b, omega arith)
short f (line cr) ok b s = inl (line cr, ok, b, omega arith)
short f (char c) ok b s = inl (char c, ok, b, omega (arith, utf8_most c))
short [] (tag k n g) ok b s = inl short_none
short (x ∷ f) (tag start n g) ok b s =
    let e = b.1 in
    inl (subst (λ (y : ℕ). Short (y ∷ f)) (head-eq_of_cons-eq e)
    (short_tag start refl short_start b.0 (62 ∷ []) b.2 f n g ok.0 ok.1 (sym (tail-eq_of_cons-eq e)) s (last_one start refl n g b.0 ok.0 ok.1 b.2)))
short (x ∷ f) (tag empty n g) ok b s =
    let e = b.1 in
    inl (subst (λ (y : ℕ). Short (y ∷ f)) (head-eq_of_cons-eq e)
    (short_tag start refl short_start b.0 (47 ∷ 62 ∷ []) b.2 f n g ok.0 ok.1 (sym (tail-eq_of_cons-eq e)) s (last_two n g b.0 ok.0 ok.1 b.2)))
short (x ∷ []) (tag end n g) ok b s = inl (subst (λ (y : ℕ). Short (y ∷ [])) (head-eq_of_cons-eq b.1) short_start)
short (x ∷ z ∷ f) (tag end n g) ok b s =
    let e = b.1 in
    inl (subst (λ (l : List ℕ). Short l) (ap₂ (λ (p q : ℕ). p ∷ q ∷ f) (head-eq_of_cons-eq e) (head-eq_of_cons-eq (tail-eq_of_cons-eq e)))
    (short_tag end refl short_end b.0 (62 ∷ []) b.2 f n g ok.0 ok.1 (sym (tail-eq_of_cons-eq (tail-eq_of_cons-eq e))) s (last_one end refl n g b.0 ok.0 ok.1 b.2)))
short [] (numeric k ds) ok b s = inl short_none
short (x ∷ []) (numeric k ds) ok b s = inl (subst (λ (y : ℕ). Short (y ∷ [])) (head-eq_of_cons-eq b.1) short_amp)
short (x ∷ y ∷ f) (numeric decimal ds) ok b s =
    let e = b.1 in
    let (m, q) = first_digits f ds b.0 (sym (tail-eq_of_cons-eq (tail-eq_of_cons-eq e))) b.2 in
    number_short decimal f m (x ∷ y ∷ f) (subst (λ (l : List ℕ). Good (numeric decimal l)) q ok)
    (ap₂ (λ (p q : ℕ). p ∷ q ∷ f) (head-eq_of_cons-eq e) (head-eq_of_cons-eq (tail-eq_of_cons-eq e))) s
short (x ∷ y ∷ []) (numeric hex ds) ok b s =
    let e = b.1 in
    inl (subst (λ (l : List ℕ). Short l) (ap₂ (λ (p q : ℕ). p ∷ q ∷ []) (head-eq_of_cons-eq e) (head-eq_of_cons-eq (tail-eq_of_cons-eq e))) short_hash)
short (x ∷ y ∷ z ∷ f) (numeric hex ds) ok b s =
    let e = b.1 in
    let e' = tail-eq_of_cons-eq (tail-eq_of_cons-eq e) in
    let (m, q) = first_digits f ds b.0 (sym (tail-eq_of_cons-eq e')) b.2 in
    number_short hex f m (x ∷ y ∷ z ∷ f) (subst (λ (l : List ℕ). Good (numeric hex l)) q ok)
    (ap₂ (λ (p q : ℕ). p ∷ q ∷ 120 ∷ f) (head-eq_of_cons-eq e) (head-eq_of_cons-eq (tail-eq_of_cons-eq e)) ∙ ap (λ (p : ℕ). x ∷ y ∷ p ∷ f) (head-eq_of_cons-eq e')) s

pub begun_short : (f : List ℕ) (at : ℕ) → Means f at Begun → length f < 32
begun_short f at m = omega (arith, begins_length f (bytes m.1.0) m.1.2, m.1.3)

pub long_full : (f : List ℕ) (at : ℕ) → Means f at Long → (32 ≤ length f) ⊎ CutNumber f
long_full f at m = go (dec_lt (length f) 32)
  where
    go : Dec (length f < 32) → (32 ≤ length f) ⊎ CutNumber f
    go (no h) = inl (omega arith)
    go (yes h) = ⊎_elim (λ w. absurd (omega (arith, w.3, m.2 w.0 w.1 w.2))) (λ w. inr w) (short f m.1.0 m.1.1 m.1.2 h)

-- more bytes behind: the front goes on, unless it is full
abbrev Further : List ℕ → List ℕ → ℕ → Type 0
Further s r at = (x : List ℕ) × (front (s ++ r) at ≡ front s at ++ x) × (32 ≤ length (front s at) → x ≡ [])

front_within : (s r : List ℕ) (at : ℕ) → at ≤ length s → Further s r at
front_within s r at h = go (dec_lt (length (drop at s)) 32)
  where
    d : List ℕ
    d = drop at s

    e : front (s ++ r) at ≡ take 32 (d ++ r)
    e = ap (take 32) (drop-append-le at s r h)

    go : Dec (length (drop at s) < 32) → Further s r at
    go (no k) = ([], e ∙ take-append-le 32 d r (omega arith) ∙ sym (append-nil (front s at)), λ q. refl)
    go (yes k) =
        let n : length d + (32 - length d) ≡ 32 = omega arith in
        let a : take 32 d ≡ d = take_all 32 d (omega arith) in (
          take (32 - length d) r,
          e ∙ ap (λ (m : ℕ). take m (d ++ r)) (sym n) ∙ take-append-add d r (32 - length d) ∙ ap (λ (l : List ℕ). l ++ take (32 - length d) r) (sym a),
          λ q. absurd (omega (arith, ap length a)),
        )

past_end : (s : List ℕ) (at : ℕ) → length s < at → front s at ≡ []
past_end s at h = ap (take 32) (drop_of_length-le s {i = at} (omega arith))

front_more : (s r : List ℕ) (at : ℕ) → Further s r at
front_more s r at = go (dec_lt (length s) at)
  where
    go : Dec (length s < at) → Further s r at
    go (no h) = front_within s r at (omega arith)
    go (yes h) =
        let e = past_end s at h in
        (front (s ++ r) at, ap (λ (l : List ℕ). l ++ front (s ++ r) at) (sym e), λ q. absurd (omega (arith, ap length e)))

begins_more : (f x w : List ℕ) → Begins (f ++ x) w → Begins f w
begins_more f x w (v, e, n) = (x ++ v, e ∙ append_assoc f x v, λ z. n (nil_right x v z))

-- a token that the longer front starts with or begins
starts_more : (f x w : List ℕ) → Starts (f ++ x) w → Starts f w ⊎ Begins f w
starts_more f x w s = either f w x s.0 s.1

token_more : (f x : List ℕ) (at : ℕ) (e : Event) (n : Cursor) → Means f at (Token e n) → Means (f ++ x) at (Token e n)
token_more f x at e n m =
    let L = m.0 in
    let t : Tok = L.token in
    let u : List ℕ = L.starts.0 in
    let g = followed_append t u x (token_followed f at e n m t refl u L.starts.1) in
    whole (f ++ x) at t (u ++ x) L.good (ap (λ (l : List ℕ). l ++ x) L.starts.1 ∙ append_assoc (bytes t) u x) e n g (followed_ended t (u ++ x) g) L.event L.ends

bad_more : (f x : List ℕ) (at : ℕ) → Means f at Bad → Means (f ++ x) at Bad
bad_more f x at m = (
  λ t ok s. ⊎_elim (λ a. m.0 t ok a) (λ b. m.1 (t, ok, b)) (starts_more f x (bytes t) s),
  λ (b : BeginsOne (f ++ x)). m.1 (b.0, b.1, begins_more f x (bytes b.0) b.2),
)

-- A whole token stays as it is when more of the stream comes, and so do bytes that begin none.
module _ (s r : List ℕ) (at : ℕ) where
  pub stays : (e : Event) (n : Cursor) → Means (front s at) at (Token e n) → Means (front (s ++ r) at) at (Token e n)
  stays e n m = let w = front_more s r at in subst (λ (l : List ℕ). Means l at (Token e n)) (sym w.1) (token_more (front s at) w.0 at e n m)

  pub bad_stays : Means (front s at) at Bad → Means (front (s ++ r) at) at Bad
  bad_stays m = let w = front_more s r at in subst (λ (l : List ℕ). Means l at Bad) (sym w.1) (bad_more (front s at) w.0 at m)

-- What waits settles with the next byte.
pub waiting_settles : WaitingSettles
waiting_settles f at e next m =
    let w = waiting_is f at e next m in
    record {
      is_cr = w.1;
      is_lf = w.2;
      past_it = w.3;
      with_lf = λ l. whole (13 ∷ 10 ∷ l) at (line crlf) l tt refl e (record { at = at + 2 }) tt tt w.2 refl;
      with_other = λ b l n. whole (13 ∷ b ∷ l) at (line cr) (b ∷ l) tt refl e next n n w.2 w.3;
    }

-- a front and a longer one
module _ (f x : List ℕ) (at : ℕ) (full : 32 ≤ length f → x ≡ []) (most : length (f ++ x) ≤ 32) where
  no_start : Means f at Long → (e : Event) (n : Cursor) → Longest (f ++ x) at e n → ⊥
  no_start m e n L =
      ⊎_elim (λ a. m.0 L.token L.good a)
      (λ b. omega (arith, m.2 L.token L.good b, starts_length (f ++ x) (bytes L.token) L.starts)) (starts_more f x (bytes L.token) L.starts)

  long_alike : Means f at Long → (later : Answer) → Means (f ++ x) at later → (later ≡ Long) ⊎ ((later ≡ Bad) × CutNumber f)
  long_alike m (Token e n) m' = absurd (no_start m e n m'.0)
  long_alike m (Waiting e n) m' = absurd (no_start m e n m'.0)
  long_alike m Begun m' = absurd (omega (arith, m'.1.3, m.2 m'.1.0 m'.1.1 (begins_more f x (bytes m'.1.0) m'.1.2)))
  long_alike m Bad m' =
      ⊎_elim (λ h. inl (one_answer f at Bad Long (subst (λ (l : List ℕ). Means l at Bad) (ap (λ (l : List ℕ). f ++ l) (full h) ∙ append-nil f) m') m)) (λ c. inr (refl, c))
      (long_full f at m)
  long_alike m Long m' = inl refl

  waiting_alike : (e : Event) (n : Cursor) → Means f at (Waiting e n) → (later : Answer) → Means (f ++ x) at later
      → (f ≡ 13 ∷ []) × ((later ≡ Waiting e n) ⊎ ((later ≡ Token e n) ⊎ (later ≡ Token e (record { at = n.at + 1 }))))
  waiting_alike e n m later m' =
      let S = waiting_settles f at e n m in
      (S.is_cr, by S x (subst (λ (l : List ℕ). Means (l ++ x) at later) S.is_cr m'))
    where
      by : Settles f at e n → (y : List ℕ) → Means (13 ∷ y) at later → (later ≡ Waiting e n) ⊎ ((later ≡ Token e n) ⊎ (later ≡ Token e (record { at = n.at + 1 })))
      by S [] k = inl (one_answer (13 ∷ []) at later (Waiting e n) k (subst (λ (l : List ℕ). Means l at (Waiting e n)) S.is_cr m))
      by S (b ∷ y) k = which (ℕ_discrete b 10)
        where
          which : Dec (b ≡ 10) → (later ≡ Waiting e n) ⊎ ((later ≡ Token e n) ⊎ (later ≡ Token e (record { at = n.at + 1 })))
          which (yes h) =
              let q : at + 2 ≡ n.at + 1 = omega (arith, S.past_it) in
              inr (inr (one_answer (13 ∷ b ∷ y) at later (Token e (record { at = n.at + 1 })) k
              (subst (λ (i : ℕ). Means (13 ∷ b ∷ y) at (Token e (record { at = i }))) q (subst (λ (z : ℕ). Means (13 ∷ z ∷ y) at (Token e (record { at = at + 2 }))) (sym h) (S.with_lf y)))))
          which (no h) = inr (inl (one_answer (13 ∷ b ∷ y) at later (Token e n) k (S.with_other b y h)))

  alike : (a later : Answer) → Means f at a → Means (f ++ x) at later → Alike f a later
  alike (Token e n) later m m' = one_answer (f ++ x) at later (Token e n) m' (token_more f x at e n m)
  alike (Waiting e n) later m m' = waiting_alike e n m later m'
  alike Begun later m m' = tt
  alike Bad later m m' = one_answer (f ++ x) at later Bad m' (bad_more f x at m)
  alike Long later m m' = long_alike m later m'

-- what is read where more is to come, other than what is begun, is read of the stream; but for a number that is cut off
pub read_stays : (more : Bool) (s r : List ℕ) (at : ℕ) (a : Answer) → (a ≡ Begun → ⊥) → ReadAs true s at a
    → ReadAs more (s ++ r) at a ⊎ ((a ≡ Long) × ReadAs more (s ++ r) at Bad × CutNumber (front s at))
read_stays more s r at a n (b, m, e) = by b m e
  where
    long_stays : Means (front s at) at Long → (later : Answer) × Means (front (s ++ r) at) at later → (later : Answer) × Means (front (s ++ r) at) at later × ((later ≡ Long) ⊎ ((later ≡ Bad) × CutNumber (front s at)))
    long_stays k (later, m') =
        let w = front_more s r at in
        let q : length (front s at ++ w.0) ≤ 32 = omega (arith, ap length w.1, length-take 32 (drop at (s ++ r))) in
        (later, m', long_alike (front s at) w.0 at w.2 q k later (subst (λ (l : List ℕ). Means l at later) w.1 m'))

    by : (c : Answer) → Means (front s at) at c → a ≡ settled true c → ReadAs more (s ++ r) at a ⊎ ((a ≡ Long) × ReadAs more (s ++ r) at Bad × CutNumber (front s at))
    by (Token e' n') k q = inl (Token e' n', stays s r at e' n' k, q)
    by (Waiting e' n') k q = absurd (n q)
    by Begun k q = absurd (n q)
    by Bad k q = inl (Bad, bad_stays s r at k, q)
    by Long k q =
        let (later, m', o) = long_stays k (some_answer (s ++ r) at) in
        ⊎_elim (λ z. inl (Long, subst (λ (c : Answer). Means (front (s ++ r) at) at c) z m', q))
        (λ z. inr (q, (Bad, subst (λ (c : Answer). Means (front (s ++ r) at) at c) z.0 m', refl), z.1)) o

-- The same for runs of tokens.
token≢begun : (e : Event) (n : Cursor) → Token e n ≡ Begun → ⊥
token≢begun e n p = let z : ◌≡◌ {A = ℕ} 0 1 = cc in omega arith

token≢long : (e : Event) (n : Cursor) → Token e n ≡ Long → ⊥
token≢long e n p = let z : ◌≡◌ {A = ℕ} 0 1 = cc in omega arith

pub reads_more : (more : Bool) (s r : List ℕ) (at : ℕ) (es : List Event) (to : ℕ) → Reads true s at es to → Reads more (s ++ r) at es to
reads_more more s r at [] to w = w
reads_more more s r at (e ∷ es) to (next, m, w) =
    let n : Cursor = record { at = next } in
    (next, ⊎_elim (λ x. x) (λ x. absurd (token≢long e n x.0)) (read_stays more s r at (Token e n) (token≢begun e n) m), reads_more more s r next es to w)

-- What stands in front of a part changes an answer's places only.
moved_event_lem : (n at : ℕ) (t : Tok) → moved_event n (event_of at t) ≡ event_of (n + at) t
moved_event_lem n at (tag start m b) = ap (λ (i : ℕ). Start i (length m)) (sym (add_assoc n at 1))
moved_event_lem n at (tag end m b) = ap (λ (i : ℕ). End i (length m)) (sym (add_assoc n at 2))
moved_event_lem n at (tag empty m b) = ap (λ (i : ℕ). Empty i (length m)) (sym (add_assoc n at 1))
moved_event_lem n at (ref x) = refl
moved_event_lem n at (numeric k ds) = refl
moved_event_lem n at (line x) = refl
moved_event_lem n at (char c) = refl

moved_longest : (f : List ℕ) (n at : ℕ) (e : Event) (next : Cursor) → Longest f at e next → Longest f (n + at) (moved_event n e) (record { at = n + next.at })
moved_longest f n at e next L =
    record {
      token = L.token;
      good = L.good;
      starts = L.starts;
      event = ap (moved_event n) L.event ∙ moved_event_lem n at L.token;
      ends = omega (arith, L.ends);
      longest = L.longest;
    }

moves : (f : List ℕ) (n at : ℕ) (a : Answer) → Means f at a → Means f (n + at) (moved n a)
moves f n at (Token e next) m = (moved_longest f n at e next m.0, m.1)
moves f n at (Waiting e next) m = (moved_longest f n at e next m.0, m.1)
moves f n at Begun m = m
moves f n at Bad m = m
moves f n at Long m = m

front_behind : (p s : List ℕ) (at : ℕ) → front (p ++ s) (length p + at) ≡ front s at
front_behind p s at = ap (take 32) (sym (drop-drop at (length p) (p ++ s)) ∙ ap (drop at) (drop-append_seam p s))

-- How a stream is cut into parts changes nothing, but for the one number.
pub in_parts : InParts
in_parts p s r at a later m m' =
    let w = front_more s r at in
    let i : ℕ = length p + at in
    let q : length (front s at ++ w.0) ≤ 32 = omega (arith, ap length w.1, length-take 32 (drop at (s ++ r))) in
    alike (front s at) w.0 i w.2 q (moved (length p) a) later (moves (front s at) (length p) at a m)
    (subst (λ (l : List ℕ). Means l i later) (front_behind p (s ++ r) at ∙ w.1) m')
