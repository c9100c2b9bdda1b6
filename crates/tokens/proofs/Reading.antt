-- What each way through the reader's functions shows of the front: the laws that their proofs cite.
-- Assumes nothing.
use mathlib.Core.Path.{◌≡◌, refl, sym, ap, ap₂, ◌∙◌, subst}
use mathlib.Core.Logic.{◌⊎◌, inl, inr, ⊎_elim}
use mathlib.Core.Bool.{Bool, true, false}
use mathlib.Core.List.{List, [], ◌∷◌, ◌++◌, append_assoc, append-nil, head-eq_of_cons-eq, tail-eq_of_cons-eq}
use Prim.Native.Nat.{ℕ, ◌+◌, ◌-◌, ◌≤◌, ◌<◌}
use native.Mathlib.Omega.{arith}
use native.Mathlib.Numerals.{add-one}
use native.Mathlib.Decide.{dec_lt}
use lib.ListN.{length, get_or, take, drop, length-append, length-drop, drop_of_length-le}
use lib.Seq.{drop-cons, take_all}
use borrow.Author.Tests.{lt-ltb, le-ltb}
use Rattle.text.specs.Chars.{Char, utf8, Starts, Begins, Apart, DecodedIs}
use Rattle.text.specs.declared.Decoded.{Decoded}
use Rattle.text.specs.Names.{name_first, name_byte, blank, All, Name}
use Rattle.text.proofs.Shapes.{front1, front2, front3, none_left, lead, range, shape1, shape2, shape3, shape4, cons≢[]}
use Rattle.tokens.specs.Inner.{Stops, PassUpTo, WordIs, cut_at}
use Rattle.tokens.specs.Tokens.{Kind, start, end, empty, Ref, amp, lt, gt, apos, quot, crlf, cr, Tok, tag, ref, line, char, Good, opening_bytes, closing_bytes, spelled, stands, bytes, tag_event, BeginsOne, Means, front}
use Rattle.tokens.specs.declared.Word.{Word}
use Rattle.tokens.specs.declared.Word.TheVariants.{Whole, No}
use Rattle.tokens.specs.declared.Event.TheVariants.{Start, End, Empty, Character}
use Rattle.tokens.specs.declared.Answer.{Answer}
use Rattle.tokens.specs.declared.Answer.TheVariants.{Token, Waiting, Begun, Bad}
use Rattle.tokens.proofs.Theory.{open_is, end_is, ref_is, char_is, char_head, none_of, no_open, no_end, whole, waits, begun, begins_only, no_line}

-- `compare`: two lists that go on to one are such that one of the two goes on to the other
one_on : (f w v u : List ℕ) → f ++ v ≡ w ++ u → Starts f w ⊎ Starts w f
one_on f [] v u e = inl (f, refl)
one_on [] (y ∷ w) v u e = inr (y ∷ w, refl)
one_on (x ∷ f) (y ∷ w) v u e =
    let h : x ≡ y = head-eq_of_cons-eq e in
    ⊎_elim (λ s. inl (s.0, ap₂ (λ (a : ℕ) (l : List ℕ). a ∷ l) h s.1)) (λ s. inr (s.0, ap₂ (λ (a : ℕ) (l : List ℕ). a ∷ l) (sym h) s.1)) (one_on f w v u (tail-eq_of_cons-eq e))

pub begins_word : (f w v : List ℕ) → w ≡ f ++ v → (Starts f w → ⊥) → Begins f w
begins_word f w v e n = (v, e, λ z. n ([], sym (append-nil f) ∙ ap (λ (l : List ℕ). f ++ l) (sym z) ∙ sym e ∙ sym (append-nil w)))

pub apart_from : (f w : List ℕ) → (Starts f w → ⊥) → (Starts w f → ⊥) → Apart f w
apart_from f w n m v u e = ⊎_elim n m (one_on f w v u e)

-- a list that begins another is shorter
pub begins_length : (f w : List ℕ) → Begins f w → length f < length w
begins_length f w (v, e, n) = go v e n
  where
    go : (v : List ℕ) → w ≡ f ++ v → (v ≡ [] → ⊥) → length f < length w
    go [] e n = absurd (n refl)
    go (x ∷ v) e n = omega (arith, ap length e, length-append f (x ∷ v))

-- `cut`: a front that begins a token of n + 1 bytes, and none shorter, is begun, or over-long from n = 32 on
pub cut_means : (f : List ℕ) (at : ℕ) (t : Tok) (n : ℕ) → Good t → (t ≡ line crlf → ⊥) → Begins f (bytes t) → length (bytes t) ≡ n + 1
    → ((t' : Tok) → Good t' → Begins f (bytes t') → n < length (bytes t')) → Means f at (cut_at n)
cut_means f at t n ok o b l s = go (dec_lt n 32)
  where
    go : Dec (n < 32) → Means f at (cut_at n)
    go (yes h) = rw (lt-ltb n 32 h) (begun f at t ok o b (omega arith))
    go (no h) =
        let k : 32 ≤ n = omega arith in
        rw (le-ltb n 32 k) (begins_only f t ok o b, (t, ok, b), λ t' ok' b'. omega (arith, s t' ok' b'))

-- a whole tag
pub tag_length : (k : Kind) (n b : List ℕ) → length (bytes (tag k n b)) ≡ length (opening_bytes k) + (length n + (length b + length (closing_bytes k)))
tag_length k n b = length-append (opening_bytes k) (n ++ (b ++ closing_bytes k)) ∙ ap (λ (m : ℕ). length (opening_bytes k) + m) (length-append n (b ++ closing_bytes k) ∙ ap (λ (m : ℕ). length n + m) (length-append b (closing_bytes k)))

-- o, n, b, c, r: the bytes that open a tag, the name, the white space, the bytes that close it, what follows
pub regroup : (o n b c r : List ℕ) → o ++ (n ++ (b ++ (c ++ r))) ≡ (o ++ (n ++ (b ++ c))) ++ r
regroup o n b c r = simp append_assoc

pub tag_token : (k : Kind) (f n b r : List ℕ) (at len next : ℕ) → Name n → All blank b → f ≡ opening_bytes k ++ (n ++ (b ++ (closing_bytes k ++ r)))
    → len ≡ length n → next ≡ at + (length (opening_bytes k) + (length n + (length b + length (closing_bytes k))))
    → Means f at (Token (tag_event k (at + length (opening_bytes k)) len) (record { at = next }))
tag_token k f n b r at len next hn hb e l m =
    whole f at (tag k n b) r (hn, hb) (e ∙ regroup (opening_bytes k) n b (closing_bytes k) r) (tag_event k (at + length (opening_bytes k)) len) (record { at = next }) tt tt
    (ap (tag_event k (at + length (opening_bytes k))) l) (m ∙ ap (λ (x : ℕ). at + x) (sym (tag_length k n b)))

-- a tag that is cut off one byte before its end
pub tag_cut : (k : Kind) (f n b : List ℕ) (at : ℕ) → Name n → All blank b → bytes (tag k n b) ≡ f ++ (62 ∷ []) → length f ≤ 32 → Means f at (cut_at (length f))
tag_cut k f n b at hn hb e s =
    cut_means f at (tag k n b) (length f) (hn, hb) (no_line (tag k n b) crlf refl) (62 ∷ [], e, cons≢[]) (ap length e ∙ length-append f (62 ∷ []))
    (λ t' ok' b'. begins_length f (bytes t') b')

-- a front that agrees with no token
pub bad : (f : List ℕ) (at : ℕ) → ((t : Tok) → Good t → Apart f (bytes t)) → Means f at Bad
bad f at a = ((λ t ok s. (none_of f (bytes t) (a t ok)).0 s), (λ (b : BeginsOne f). (none_of f (bytes b.0) (a b.0 b.1)).1 b.2))

-- the parts of a tag that the functions found: the name from `from` to `to`, the white space up to `close`
pub record Tag (f : List ℕ) (from to close : ℕ) : Type 0 where
  pub name : List ℕ
  pub gap : List ℕ
  pub is_name : Name name
  pub is_gap : All blank gap
  pub split : drop from f ≡ name ++ (gap ++ drop close f)
  pub name_long : from + length name ≡ to
  pub gap_long : to + length gap ≡ close
  pub within : close ≤ length f
  pub ends : Stops name_byte (gap ++ drop close f)
  pub rests : Stops blank (drop close f)

pub tag_of : (f : List ℕ) (from to close : ℕ) → from < length f → name_first (get_or f from 0) ≡ true → PassUpTo name_byte f (from + 1) to → PassUpTo blank f to close → Tag f from to close
tag_of f from to close h k r s =
    record {
      name = get_or f from 0 ∷ r.run;
      gap = s.run;
      is_name = (k, r.pass);
      is_gap = s.pass;
      split = drop-cons f from 0 h ∙ ap (λ (l : List ℕ). get_or f from 0 ∷ l) (ap (λ (i : ℕ). drop i f) (sym (add-one from)) ∙ r.split ∙ ap (λ (l : List ℕ). r.run ++ l) s.split);
      name_long = omega (arith, r.count);
      gap_long = s.count;
      within = s.within;
      ends = subst (λ (l : List ℕ). Stops name_byte l) s.split r.stops;
      rests = s.stops;
    }

stops_append : (p : ℕ → Bool) (l v : List ℕ) → 1 ≤ length l → Stops p l → Stops p (l ++ v)
stops_append p [] v h s = absurd (omega arith)
stops_append p (x ∷ l) v h s = s

-- what stops a tag's name and white space still does so with more bytes behind
module _ (f : List ℕ) (from to close : ℕ) (T : Tag f from to close) (h : close < length f) (v : List ℕ) where
  ends_more : Stops name_byte (T.gap ++ (drop close f ++ v))
  ends_more =
      rw (← append_assoc T.gap (drop close f) v)
      (stops_append name_byte (T.gap ++ drop close f) v (omega (arith, length-append T.gap (drop close f), length-drop close f)) T.ends)

  rests_more : Stops blank (drop close f ++ v)
  rests_more = stops_append blank (drop close f) v (omega (arith, length-drop close f)) T.rests

-- the bytes from `close` on
pub at_one : (f : List ℕ) (i : ℕ) (x : ℕ) → i < length f → get_or f i 0 ≡ x → drop i f ≡ x ∷ drop (i + 1) f
at_one f i x h e = drop-cons f i 0 h ∙ ap₂ (λ (y j : ℕ). y ∷ drop j f) e (sym (add-one i))

pub nothing_left : (f : List ℕ) (i : ℕ) → i ≡ length f → drop i f ≡ []
nothing_left f i e = drop_of_length-le f {i = i} (omega arith)

-- f after <, a name and white space
module _ (f : List ℕ) (at to close : ℕ) (short : length f ≤ 32) (long : 1 ≤ length f) (zero_is : get_or f 0 0 ≡ 60) (T : Tag f 1 to close) where
  open_split : {r : List ℕ} → drop close f ≡ r → f ≡ 60 ∷ (T.name ++ (T.gap ++ r))
  open_split e = at_one f 0 60 (omega arith) zero_is ∙ ap (λ (l : List ℕ). 60 ∷ l) T.split ∙ ap (λ (l : List ℕ). 60 ∷ (T.name ++ (T.gap ++ l))) e

  pub open_cut : close ≡ length f → Means f at (cut_at (length f))
  open_cut e =
      tag_cut start f T.name T.gap at T.is_name T.is_gap
      (regroup (60 ∷ []) T.name T.gap [] (62 ∷ []) ∙ ap (λ (l : List ℕ). l ++ (62 ∷ [])) (sym (open_split (nothing_left f close e)))) short

  pub open_start : close < length f → get_or f close 0 ≡ 62 → Means f at (Token (Start (at + 1) (to - 1)) (record { at = at + close + 1 }))
  open_start h e =
      tag_token start f T.name T.gap (drop (close + 1) f) at (to - 1) (at + close + 1) T.is_name T.is_gap (open_split (at_one f close 62 h e))
      (omega (arith, T.name_long)) (omega (arith, T.name_long, T.gap_long))

  pub open_slash : get_or f close 0 ≡ 47 → close + 1 ≡ length f → Means f at (cut_at (length f))
  open_slash e l =
      tag_cut empty f T.name T.gap at T.is_name T.is_gap
      (regroup (60 ∷ []) T.name T.gap (47 ∷ []) (62 ∷ []) ∙ ap (λ (r : List ℕ). r ++ (62 ∷ [])) (sym (open_split (at_one f close 47 (omega arith) e ∙ ap (λ (r : List ℕ). 47 ∷ r) (nothing_left f (close + 1) l))))) short

  pub open_empty : close + 1 < length f → get_or f close 0 ≡ 47 → get_or f (close + 1) 0 ≡ 62 → Means f at (Token (Empty (at + 1) (to - 1)) (record { at = at + close + 2 }))
  open_empty h e e' =
      tag_token empty f T.name T.gap (drop (close + 1 + 1) f) at (to - 1) (at + close + 2) T.is_name T.is_gap
      (open_split (at_one f close 47 (omega arith) e ∙ ap (λ (r : List ℕ). 47 ∷ r) (at_one f (close + 1) 62 h e')))
      (omega (arith, T.name_long)) (omega (arith, T.name_long, T.gap_long))

  -- neither > nor />
  open_other : close < length f → ((u v : List ℕ) → drop close f ++ v ≡ 62 ∷ u → ⊥) → ((u v : List ℕ) → drop close f ++ v ≡ 47 ∷ 62 ∷ u → ⊥) → Means f at Bad
  open_other h p q =
      bad f at
      (λ t ok v u e.
      ⊎_elim (λ w. p u v w.1) (λ w. q u v w.1)
      (open_is T.name T.gap (drop close f ++ v) T.is_name T.is_gap (ends_more f 1 to close T h v) (rests_more f 1 to close T h v) t ok u
      (regroup (60 ∷ []) T.name T.gap (drop close f) v ∙ ap (λ (l : List ℕ). l ++ v) (sym (open_split refl)) ∙ e)))

  pub open_bad : close < length f → (get_or f close 0 ≡ 62 → ⊥) → (get_or f close 0 ≡ 47 → ⊥) → Means f at Bad
  open_bad h p q =
      let e = at_one f close (get_or f close 0) h refl in
      open_other h (λ u v w. p (head-eq_of_cons-eq (sym (ap (λ (l : List ℕ). l ++ v) e) ∙ w))) (λ u v w. q (head-eq_of_cons-eq (sym (ap (λ (l : List ℕ). l ++ v) e) ∙ w)))

  pub open_bad_slash : close + 1 < length f → (get_or f close 0 ≡ 62 → ⊥) → (get_or f (close + 1) 0 ≡ 62 → ⊥) → Means f at Bad
  open_bad_slash h p q =
      let e = at_one f close (get_or f close 0) (omega arith) refl in
      let e' = at_one f (close + 1) (get_or f (close + 1) 0) h refl in
      open_other (omega arith) (λ u v w. p (head-eq_of_cons-eq (sym (ap (λ (l : List ℕ). l ++ v) e) ∙ w)))
      (λ u v w. q (head-eq_of_cons-eq (sym (ap (λ (l : List ℕ). l ++ v) e') ∙ tail-eq_of_cons-eq (sym (ap (λ (l : List ℕ). l ++ v) e) ∙ w))))

pub open_none : (f : List ℕ) (at : ℕ) → 2 ≤ length f → get_or f 0 0 ≡ 60 → (get_or f 1 0 ≡ 47 → ⊥) → name_first (get_or f 1 0) ≡ false → Means f at Bad
open_none f at h e n k =
    bad f at
    (λ t ok v u w.
    no_open (get_or f 1 0) (drop 2 f ++ v) k n t ok u (ap (λ (l : List ℕ). l ++ v) (sym (front2 f h ∙ ap (λ (x : ℕ). x ∷ get_or f 1 0 ∷ drop 2 f) e)) ∙ w))

-- f after </, a name and white space
module _ (f : List ℕ) (at to close : ℕ) (short : length f ≤ 32) (long : 2 ≤ length f) (zero_is : get_or f 0 0 ≡ 60) (one_is : get_or f 1 0 ≡ 47) (T : Tag f 2 to close) where
  end_split : {r : List ℕ} → drop close f ≡ r → f ≡ 60 ∷ 47 ∷ (T.name ++ (T.gap ++ r))
  end_split e = front2 f long ∙ ap₂ (λ (x y : ℕ). x ∷ y ∷ drop 2 f) zero_is one_is ∙ ap (λ (l : List ℕ). 60 ∷ 47 ∷ l) (T.split ∙ ap (λ (l : List ℕ). T.name ++ (T.gap ++ l)) e)

  pub end_cut : close ≡ length f → Means f at (cut_at (length f))
  end_cut e =
      tag_cut end f T.name T.gap at T.is_name T.is_gap
      (regroup (60 ∷ 47 ∷ []) T.name T.gap [] (62 ∷ []) ∙ ap (λ (l : List ℕ). l ++ (62 ∷ [])) (sym (end_split (nothing_left f close e)))) short

  pub end_token : close < length f → get_or f close 0 ≡ 62 → Means f at (Token (End (at + 2) (to - 2)) (record { at = at + close + 1 }))
  end_token h e =
      tag_token end f T.name T.gap (drop (close + 1) f) at (to - 2) (at + close + 1) T.is_name T.is_gap (end_split (at_one f close 62 h e))
      (omega (arith, T.name_long)) (omega (arith, T.name_long, T.gap_long))

  pub end_bad : close < length f → (get_or f close 0 ≡ 62 → ⊥) → Means f at Bad
  end_bad h p =
      let e = at_one f close (get_or f close 0) h refl in
      bad f at
      (λ t ok v u w.
      p (head-eq_of_cons-eq (sym (ap (λ (l : List ℕ). l ++ v) e)
      ∙ (end_is T.name T.gap (drop close f ++ v) T.is_name T.is_gap (ends_more f 2 to close T h v) (rests_more f 2 to close T h v) t ok u
      (regroup (60 ∷ 47 ∷ []) T.name T.gap (drop close f) v ∙ ap (λ (l : List ℕ). l ++ v) (sym (end_split refl)) ∙ w)).1)))

pub end_none : (f : List ℕ) (at : ℕ) → 3 ≤ length f → get_or f 0 0 ≡ 60 → get_or f 1 0 ≡ 47 → name_first (get_or f 2 0) ≡ false → Means f at Bad
end_none f at h e e' k =
    bad f at
    (λ t ok v u w.
    no_end (get_or f 2 0) (drop 3 f ++ v) k t ok u (ap (λ (l : List ℕ). l ++ v) (sym (front3 f h ∙ ap₂ (λ (x y : ℕ). x ∷ y ∷ get_or f 2 0 ∷ drop 3 f) e e')) ∙ w))

-- < and </ alone
pub begun_open : (f : List ℕ) (at : ℕ) → length f ≡ 1 → get_or f 0 0 ≡ 60 → Means f at Begun
begun_open f at l e =
    let s : f ≡ 60 ∷ [] = at_one f 0 60 (omega arith) e ∙ ap (λ (r : List ℕ). 60 ∷ r) (nothing_left f 1 (sym l)) in
    begun f at (tag start (97 ∷ []) []) ((refl, tt), tt) (no_line (tag start (97 ∷ []) []) crlf refl)
    (97 ∷ 62 ∷ [], ap (λ (r : List ℕ). r ++ (97 ∷ 62 ∷ [])) (sym s), cons≢[]) (omega arith)

pub begun_end : (f : List ℕ) (at : ℕ) → length f ≡ 2 → get_or f 0 0 ≡ 60 → get_or f 1 0 ≡ 47 → Means f at Begun
begun_end f at l e e' =
    let s : f ≡ 60 ∷ 47 ∷ [] = at_one f 0 60 (omega arith) e ∙ ap (λ (r : List ℕ). 60 ∷ r) (at_one f 1 47 (omega arith) e' ∙ ap (λ (r : List ℕ). 47 ∷ r) (nothing_left f 2 (sym l))) in
    begun f at (tag end (97 ∷ []) []) ((refl, tt), tt) (no_line (tag end (97 ∷ []) []) crlf refl)
    (97 ∷ 62 ∷ [], ap (λ (r : List ℕ). r ++ (97 ∷ 62 ∷ [])) (sym s), cons≢[]) (omega arith)

-- what `cut` answers
pub by_cut : (f : List ℕ) (at n : ℕ) (r : Answer) → r ≡ cut_at n → Means f at (cut_at n) → Means f at r
by_cut f at n r e m = subst (λ (a : Answer). Means f at a) (sym e) m

-- characters
good_char : (x c : ℕ) (g u : List ℕ) → (x ≡ 60 → ⊥) → (x ≡ 38 → ⊥) → (x ≡ 62 → ⊥) → (x ≡ 13 → ⊥) → Char c → x ∷ g ≡ utf8 c ++ u → Good (char c)
good_char x c g u h k l m ok e =
    ⊎_elim (λ w. (ok, (λ q. h (w.1 ∙ q)), (λ q. k (w.1 ∙ q)), (λ q. l (w.1 ∙ q)), (λ q. m (w.1 ∙ q))))
    (⊎_elim (λ w. high (omega (arith, w.0.0))) (⊎_elim (λ w. high (omega (arith, w.0.0))) (λ w. high (omega (arith, w.0)))))
    (lead x g c u e)
  where
    high : 0x80 ≤ c → Good (char c)
    high w = (ok, (λ q. omega arith), (λ q. omega arith), (λ q. omega arith), (λ q. omega arith))

pub utf8_most : (c : ℕ) → length (utf8 c) ≤ 4
utf8_most c =
    ⊎_elim (λ h. omega (arith, ap length (shape1 c h)))
    (⊎_elim (λ h. omega (arith, ap length (shape2 c h.0 (omega arith))))
    (⊎_elim (λ h. omega (arith, ap length (shape3 c h.0 (omega arith)))) (λ h. omega (arith, ap length (shape4 c h)))))
    (range c)

pub whole_fits : (f : List ℕ) (c n : ℕ) → DecodedIs f (Decoded.Whole c n) → n ≤ length f
whole_fits f c n d = omega (arith, d.2, ap length d.1.1, length-append (utf8 c) d.1.0)

module _ (f : List ℕ) (at : ℕ) (h : 1 ≤ length f) (k : get_or f 0 0 ≡ 60 → ⊥) (l : get_or f 0 0 ≡ 38 → ⊥) (m : get_or f 0 0 ≡ 62 → ⊥) (o : get_or f 0 0 ≡ 13 → ⊥) where
  pub char_token : (c n : ℕ) → DecodedIs f (Decoded.Whole c n) → Means f at (Token (Character c true) (record { at = at + n }))
  char_token c n d =
      whole f at (char c) d.1.0 (good_char (get_or f 0 0) c (drop 1 f) d.1.0 k l m o d.0 (sym (front1 f h) ∙ d.1.1)) d.1.1
      (Character c true) (record { at = at + n }) tt tt refl (ap (λ (x : ℕ). at + x) d.2)

  pub char_begun : DecodedIs f Decoded.Begun → Means f at Begun
  char_begun d =
      begun f at (char d.0)
      (good_char (get_or f 0 0) d.0 (drop 1 f ++ d.2.0) [] k l m o d.1 (ap (λ (r : List ℕ). r ++ d.2.0) (sym (front1 f h)) ∙ sym d.2.1 ∙ sym (append-nil (utf8 d.0))))
      (no_line (char d.0) crlf refl) d.2 (omega (arith, utf8_most d.0))

  pub char_bad : DecodedIs f Decoded.Bad → Means f at Bad
  char_bad d =
      bad f at
      (λ t ok v u e.
      let w = char_is (get_or f 0 0) (drop 1 f ++ v) k l o t ok u (ap (λ (r : List ℕ). r ++ v) (sym (front1 f h)) ∙ e) in
      d w.0 w.2.0 v u (ap (λ (r : List ℕ). r ++ v) (front1 f h) ∙ w.3))

-- a > by itself
pub greater_bad : (f : List ℕ) (at : ℕ) → 1 ≤ length f → get_or f 0 0 ≡ 62 → Means f at Bad
greater_bad f at h e =
    bad f at
    (λ t ok v u q.
    let w = char_is 62 (drop 1 f ++ v) (λ z. omega arith) (λ z. omega arith) (λ z. omega arith) t ok u (ap (λ (r : List ℕ). r ++ v) (sym (front1 f h ∙ ap (λ (x : ℕ). x ∷ drop 1 f) e)) ∙ q) in
    (char_head w.0 62 (drop 1 f ++ v) u w.2 w.3).2 refl)

-- nothing at all begins any token
pub begun_none : (f : List ℕ) (at : ℕ) → length f ≡ 0 → Means f at Begun
begun_none f at e =
    begun f at (tag start (97 ∷ []) []) ((refl, tt), tt) (no_line (tag start (97 ∷ []) []) crlf refl)
    (60 ∷ 97 ∷ 62 ∷ [], ap (λ (r : List ℕ). r ++ (60 ∷ 97 ∷ 62 ∷ [])) (sym (none_left f e)), cons≢[]) (omega arith)

-- line ends
module _ (f : List ℕ) (at : ℕ) (h : 1 ≤ length f) (zero_is : get_or f 0 0 ≡ 13) where
  pub cr_waits : length f ≡ 1 → Means f at (Waiting (Character 10 true) (record { at = at + 1 }))
  cr_waits l = waits f at (at_one f 0 13 (omega arith) zero_is ∙ ap (λ (r : List ℕ). 13 ∷ r) (nothing_left f 1 (sym l)))

  pub cr_lf : 2 ≤ length f → get_or f 1 0 ≡ 10 → Means f at (Token (Character 10 true) (record { at = at + 2 }))
  cr_lf l e =
      whole f at (line crlf) (drop 2 f) tt (front2 f l ∙ ap₂ (λ (x y : ℕ). x ∷ y ∷ drop 2 f) zero_is e) (Character 10 true) (record { at = at + 2 }) tt tt refl refl

  pub cr_alone : 2 ≤ length f → (get_or f 1 0 ≡ 10 → ⊥) → Means f at (Token (Character 10 true) (record { at = at + 1 }))
  cr_alone l n =
      whole f at (line cr) (get_or f 1 0 ∷ drop 2 f) tt (front2 f l ∙ ap (λ (x : ℕ). x ∷ get_or f 1 0 ∷ drop 2 f) zero_is)
      (Character 10 true) (record { at = at + 1 }) n n refl refl

-- references
pub starts_length : (f w : List ℕ) → Starts f w → length w ≤ length f
starts_length f w s = omega (arith, ap length s.1, length-append w s.0)

pub spelled_most : (x : Ref) → length (spelled x) ≤ 32
spelled_most amp = omega arith
spelled_most lt = omega arith
spelled_most gt = omega arith
spelled_most apos = omega arith
spelled_most quot = omega arith

-- what `compare` answered of a reference
module _ (f : List ℕ) (at : ℕ) (x : Ref) (r : Word) (h : WordIs f (spelled x) r) where
  pub ref_is_whole : r ≡ Whole → Starts f (spelled x)
  ref_is_whole e = subst (λ (w : Word). WordIs f (spelled x) w) e h

  pub ref_fits : r ≡ Whole → length (spelled x) ≤ length f
  ref_fits e = starts_length f (spelled x) (ref_is_whole e)

  pub ref_token : r ≡ Whole → Means f at (Token (Character (stands x) false) (record { at = at + length (spelled x) }))
  ref_token e =
      let w = ref_is_whole e in
      whole f at (ref x) w.0 tt w.1 (Character (stands x) false) (record { at = at + length (spelled x) }) tt tt refl refl

  pub ref_begun : r ≡ Word.Begun → Means f at Begun
  ref_begun e = begun f at (ref x) tt (no_line (ref x) crlf refl) (subst (λ (w : Word). WordIs f (spelled x) w) e h) (spelled_most x)

  pub ref_apart : r ≡ No → Apart f (spelled x)
  ref_apart e = subst (λ (w : Word). WordIs f (spelled x) w) e h

pub ref_bad : (f : List ℕ) (at : ℕ) → 2 ≤ length f → get_or f 0 0 ≡ 38 → (get_or f 1 0 ≡ 35 → ⊥) → ((x : Ref) → Apart f (spelled x)) → Means f at Bad
ref_bad f at h e n a =
    bad f at
    (λ t ok v u q.
    let s : f ≡ 38 ∷ get_or f 1 0 ∷ drop 2 f = front2 f h ∙ ap (λ (x : ℕ). x ∷ get_or f 1 0 ∷ drop 2 f) e in
    let w = ref_is (get_or f 1 0) (drop 2 f ++ v) n t ok u (ap (λ (r : List ℕ). r ++ v) (sym s) ∙ q) in
    a w.0 v u (ap (λ (r : List ℕ). r ++ v) s ∙ w.2))

-- & alone
pub begun_amp : (f : List ℕ) (at : ℕ) → length f ≡ 1 → get_or f 0 0 ≡ 38 → Means f at Begun
begun_amp f at l e =
    let s : f ≡ 38 ∷ [] = at_one f 0 38 (omega arith) e ∙ ap (λ (r : List ℕ). 38 ∷ r) (nothing_left f 1 (sym l)) in
    begun f at (ref lt) tt (no_line (ref lt) crlf refl) (108 ∷ 116 ∷ 59 ∷ [], ap (λ (r : List ℕ). r ++ (108 ∷ 116 ∷ 59 ∷ [])) (sym s), cons≢[]) (omega arith)

-- past the end the front is empty
pub begun_past : (s : List ℕ) (at : ℕ) → length s < at → Means (front s at) at Begun
begun_past s at h = begun_none (front s at) at (ap (λ (l : List ℕ). length (take 32 l)) (drop_of_length-le s {i = at} (omega arith)))

-- the part of the stream that is handed on is the front
pub front_tail : (s : List ℕ) (at : ℕ) → at ≤ length s → length s - at ≤ 32 → take (length s - at) (drop at s) ≡ front s at
front_tail s at h k = take_all (length s - at) (drop at s) (omega (arith, length-drop at s)) ∙ sym (take_all 32 (drop at s) (omega (arith, length-drop at s)))

pub front_part : (s : List ℕ) (at : ℕ) → take (at + 32 - at) (drop at s) ≡ front s at
front_part s at = let e : at + 32 - at ≡ 32 = omega arith in ap (λ (k : ℕ). take k (drop at s)) e

pub decoded_is : (f : List ℕ) (r r' : Decoded) → r ≡ r' → DecodedIs f r → DecodedIs f r'
decoded_is f r r' e h = subst (λ (x : Decoded). DecodedIs f x) e h

pub each_ref : (f : List ℕ) → Apart f (spelled amp) → Apart f (spelled lt) → Apart f (spelled gt) → Apart f (spelled apos) → Apart f (spelled quot) → (x : Ref) → Apart f (spelled x)
each_ref f a b c d e amp = a
each_ref f a b c d e lt = b
each_ref f a b c d e gt = c
each_ref f a b c d e apos = d
each_ref f a b c d e quot = e

pub means_of : (f f' : List ℕ) (at : ℕ) (r : Answer) → f ≡ f' → Means f at r → Means f' at r
means_of f f' at r e m = subst (λ (l : List ℕ). Means l at r) e m
