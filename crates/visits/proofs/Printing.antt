-- What a statement prints: a tag by its record, or a range of the strings character by character; each character is at most five bytes.
-- Assumes nothing.
use mathlib.Core.Path.{◌≡◌, refl, sym, ap, ◌∙◌, subst}
use mathlib.Core.Bool.{Bool, true, false}
use mathlib.Core.List.{List, [], ◌∷◌, ◌++◌, append-nil}
use mathlib.Core.Logic.{inl, inr}
use mathlib.Core.Option.{some}
use Prim.Native.Nat.{ℕ, ◌+◌, ◌-◌, ◌*◌, ◌/◌, ◌%◌, ◌≤◌, ◌<◌}
use native.Mathlib.Omega.{arith}
use lib.ListN.{length, get_or, take, drop, length-append, length-drop, length-take}
use lib.Seq.{take-append_seam}
use Rattle.lent.specs.Put.{put, PutAs}
use Rattle.lent.proofs.Laws.{put_append, put_none, nothing_put, put_dry}
use Rattle.text.specs.Chars.{utf8, Starts, DecodedIs}
use Rattle.text.specs.Characters.{utf8s, WholeCharacters}
use Rattle.text.specs.declared.Decoded.TheVariants.{Whole}
use Rattle.text.proofs.Shapes.{Range, range, shape1, shape2, shape3, shape4}
use Rattle.tokens.specs.Tokens.{Tok, bytes}
use Rattle.programs.specs.Program.{Statement, become, copy, recall, reject, print_start, print_end, print_text, echo, branch, statement_bytes, condition_bytes, program_bytes}
use Rattle.programs.specs.Limits.{Printable}
use Rattle.programs.proofs.Characters.{tail, step_on}
use Rattle.programs.proofs.Reading.{behind, byte_of, first_byte, starts_length}
use Rattle.output.specs.Escape.{escaped, render, text, start_tag, end_tag}
use Rattle.output.proofs.Writing.{each_token}
use Rattle.runs.specs.Characters.{characters_of}
use Rattle.runs.specs.Execute.{Effect, name_of, execute_one}
use Rattle.runs.proofs.Characters.{characters_of_lem}
use Rattle.visits.specs.Written.{Pen, Written, TextOf, RangeOf, tag_text, TagNameAt, TagOf, PrintOf}
use Rattle.visits.specs.Ran.{most_printed}
use Rattle.visits.proofs.Lying.{second_part, statement_of}
use Rattle.visits.proofs.Settling.{same_effect, no_effect}

utf8_short : (c : ℕ) → length (utf8 c) ≤ 5
utf8_short c = go (range c)
  where
    go : Range c → length (utf8 c) ≤ 5
    go (inl h) = omega (arith, ap length (shape1 c h))
    go (inr (inl (h, k))) = omega (arith, ap length (shape2 c h (omega arith)))
    go (inr (inr (inl (h, k)))) = omega (arith, ap length (shape3 c h (omega arith)))
    go (inr (inr (inr h))) = omega (arith, ap length (shape4 c h))

pub escaped_short : (c : ℕ) → length (escaped c) ≤ 5
escaped_short c =
    each_token (λ (t : Tok). length (bytes t) ≤ 5) c (λ h. omega arith) (λ h. omega arith) (λ h. omega arith) (λ h. omega arith) (λ h j k l. utf8_short c)

-- ---- text, one character from the front
pub one_more : (f : List ℕ) (i c k : ℕ) → DecodedIs (take (length f - i) (drop i f)) (Whole c k) → WholeCharacters (drop i f)
    → text (characters_of (drop i f)) ≡ escaped c ++ text (characters_of (drop (i + k) f))
one_more f i c k d w =
    let d' : DecodedIs (drop i f) (Whole c k) = subst (λ (g : List ℕ). DecodedIs g (Whole c k)) (tail f i) d in
    let v = d'.1.0 in
    let after : drop (i + k) f ≡ v = ap (λ (n : ℕ). drop (i + n) f) d'.2 ∙ behind f i (utf8 c) v d'.1.1 in
    let rest = (step_on f i c k d).3 w in
    let cs = rest.characters in
    let now : drop i f ≡ utf8s (c ∷ cs) = d'.1.1 ∙ ap (λ (l : List ℕ). utf8 c ++ l) (sym after ∙ rest.spelled) in
    let here : characters_of (drop i f) ≡ c ∷ cs = ap characters_of now ∙ characters_of_lem (c ∷ cs) in
    let there : characters_of (drop (i + k) f) ≡ cs = ap characters_of rest.spelled ∙ characters_of_lem cs in
    ap text here ∙ sym (ap (λ (l : List ℕ). escaped c ++ text l) there)

pub no_text : (f : List ℕ) → length f ≡ 0 → text (characters_of f) ≡ []
no_text [] e = refl
no_text (x ∷ f) e = absurd (omega arith)

-- after a character that was written, what is left to write
pub next_character : (f : List ℕ) (i c k : ℕ) → DecodedIs (take (length f - i) (drop i f)) (Whole c k) → WholeCharacters (drop i f)
    → (write : Bool) (d d₀ : List ℕ) (n at : ℕ) (d₁ : List ℕ) (n₁ : ℕ) → PutAs write d n (escaped c) d₁ n₁
    → n + length (text (characters_of (drop i f))) ≡ at + length (text (characters_of f)) → put write d n (text (characters_of (drop i f))) ≡ put write d₀ at (text (characters_of f))
    → WholeCharacters (drop (i + k) f) × (n₁ + length (text (characters_of (drop (i + k) f))) ≡ at + length (text (characters_of f)))
    × (put write d₁ n₁ (text (characters_of (drop (i + k) f))) ≡ put write d₀ at (text (characters_of f)))
next_character f i c k d w write m m₀ n at m₁ n₁ P len due =
    let e = one_more f i c k d w in
    let rest = text (characters_of (drop (i + k) f)) in
    let on : put write m₁ n₁ rest ≡ put write m n (escaped c ++ rest) = ap (λ (l : List ℕ). put write l n₁ rest) P.left ∙ ap (λ (x : ℕ). put write (put write m n (escaped c)) x rest) P.next ∙ put_append write m n (escaped c) rest in
    ((step_on f i c k d).3 w, omega (arith, ap length e, length-append (escaped c) rest, P.next, len), on ∙ ap (λ (l : List ℕ). put write m n l) (sym e) ∙ due)

-- nothing is left to write
pub all_written : (write : Bool) (d d₀ : List ℕ) (n at : ℕ) (f g w : List ℕ) → w ≡ text (characters_of f) → text (characters_of g) ≡ []
    → n + length (text (characters_of g)) ≡ at + length (text (characters_of f)) → put write d n (text (characters_of g)) ≡ put write d₀ at (text (characters_of f))
    → PutAs write d₀ at w d n
all_written write m m₀ n at f g w e none len due =
    record {
      next = omega (arith, len, ap length e, ap length none);
      left = sym (put_none write m n) ∙ ap (λ (l : List ℕ). put write m n l) (sym none) ∙ due ∙ ap (λ (l : List ℕ). put write m₀ at l) (sym e);
    }

-- ---- what was written
module _ (most : ℕ) (Due : List ℕ → Type 0) (p : Pen) where
  -- nothing was, and nothing is due
  pub nothing_due : ((w : List ℕ) → Due w → w ≡ []) → Written most Due p p.at p.lent
  nothing_due f = record { reach = omega arith; dry = λ z. refl; right = λ w u. subst (λ (l : List ℕ). PutAs p.write p.lent p.at l p.lent p.at) (sym (f w u)) (nothing_put p.write p.lent p.at) }

  pub just : (w : List ℕ) (r : ℕ) (d : List ℕ) → PutAs p.write p.lent p.at w d r → length w ≤ most → ((v : List ℕ) → Due v → v ≡ w) → Written most Due p r d
  just w r d P short f =
      record { reach = omega (arith, P.next); dry = λ z. P.left ∙ put_dry p.write p.lent p.at w z; right = λ v u. subst (λ (l : List ℕ). PutAs p.write p.lent p.at l d r) (sym (f v u)) P }

-- what is due of the one is due of the other
pub as_due : (most most' : ℕ) (Due Due' : List ℕ → Type 0) (p : Pen) (r : ℕ) (d : List ℕ) → most ≤ most' → ((w : List ℕ) → Due' w → Due w) → Written most Due p r d → Written most' Due' p r d
as_due most most' Due Due' p r d h f W = record { reach = omega (arith, W.reach); dry = W.dry; right = λ w u. W.right w (f w u) }

-- a range of the strings is text
pub range_due : (s : List ℕ) (o n : ℕ) (w : List ℕ) → RangeOf s o n w → TextOf (take (o + n - o) (drop o s)) w
range_due s o n w u = let same : o + n - o ≡ n = omega arith in rw same (u.0.whole, u.1)

-- ---- tags
module _ (tags : List ℕ) (t : ℕ) (n : List ℕ) (N : TagNameAt tags t n) where
  pub record_inside : 16 * t + 1 + length n ≤ length tags
  record_inside = omega (arith, starts_length (drop (16 * t) tags) (length n ∷ n) N.spelled, length-drop (16 * t) tags)

  pub name_length : get_or tags (16 * t) 0 ≡ length n
  name_length = first_byte tags (16 * t) (length n) n N.spelled

  pub name_is : take (length n) (drop (16 * t + 1) tags) ≡ n
  name_is = let st = second_part tags (16 * t) (length n ∷ []) n N.spelled in ap (λ (l : List ℕ). take (length n) l) st.1 ∙ take-append_seam n st.0

tag_of_short : (ending : Bool) (n : List ℕ) → length n ≤ 255 → length (tag_text ending n) ≤ most_printed
tag_of_short false n h = omega (arith, length-append n (62 ∷ []))
tag_of_short true n h = omega (arith, length-append n (62 ∷ []))

-- the tag of the name that lies between
pub tag_put : (tags : List ℕ) (t : ℕ) (ending b : Bool) → ending ≡ b → (m from to : ℕ) (p : Pen) (r : ℕ) (d : List ℕ) → m ≡ get_or tags (16 * t) 0 → m < 256 → from ≡ 16 * t + 1 → to ≡ from + m
    → PutAs p.write p.lent p.at (tag_text b (take (to - from) (drop from tags))) d r → Written most_printed (TagOf tags t ending) p r d
tag_put tags t ending b same m from to p r d mis small fis tis put_as =
    let P : PutAs p.write p.lent p.at (tag_text ending (take (to - from) (drop from tags))) d r = rw same put_as in
    just most_printed (TagOf tags t ending) p (tag_text ending (take (to - from) (drop from tags))) r d P
    (tag_of_short ending (take (to - from) (drop from tags)) (omega (arith, length-take (to - from) (drop from tags))))
    (λ w u.
    let n = u.0 in
    let len : to - from ≡ length n = omega (arith, name_length tags t n u.1) in
    let name : take (to - from) (drop from tags) ≡ n = ap (λ (k : ℕ). take k (drop from tags)) len ∙ ap (λ (k : ℕ). take (length n) (drop k tags)) fis ∙ name_is tags t n u.1 in
    u.2 ∙ ap (tag_text ending) (sym name))

-- ---- a statement
module _ (s tags strings : List ℕ) (i : ℕ) (h : i < length s) where
  printed_is : (w : List ℕ) (P : PrintOf s tags strings i w) (x : Effect) → some x ≡ some P.effect → w ≡ render x.printed
  printed_is w P x e = P.bytes ∙ ap (λ (y : Effect). render y.printed) (sym (same_effect x P.effect e))

  pub start_due : get_or s i 0 ≡ 5 → (t : ℕ) → t ≡ get_or s (i + 1) 0 → (w : List ℕ) → PrintOf s tags strings i w → TagOf tags t false w
  start_due k t tis w P =
      let z = statement_of s i h k P.statement P.lies in
      let same : t ≡ z.0 = tis ∙ (byte_of s i (5 ∷ z.0 ∷ []) (rw z.1 at P.lies) 1 (omega arith)).1 in
      let name = name_of P.sheet.names z.0 in
      (name, rw same (P.sources.names_are z.0 (rw z.1 at P.fits)), printed_is w P _ (rw z.1 at P.does) ∙ append-nil (start_tag name))

  pub end_due : get_or s i 0 ≡ 6 → (t : ℕ) → t ≡ get_or s (i + 1) 0 → (w : List ℕ) → PrintOf s tags strings i w → TagOf tags t true w
  end_due k t tis w P =
      let z = statement_of s i h k P.statement P.lies in
      let same : t ≡ z.0 = tis ∙ (byte_of s i (6 ∷ z.0 ∷ []) (rw z.1 at P.lies) 1 (omega arith)).1 in
      let name = name_of P.sheet.names z.0 in
      (name, rw same (P.sources.names_are z.0 (rw z.1 at P.fits)), printed_is w P _ (rw z.1 at P.does) ∙ append-nil (end_tag name))

  pub text_due : get_or s i 0 ≡ 7 → (low high n : ℕ) → low ≡ get_or s (i + 1) 0 → high ≡ get_or s (i + 2) 0 → n ≡ get_or s (i + 3) 0
      → (w : List ℕ) → PrintOf s tags strings i w → RangeOf strings (low + 256 * high) n w
  text_due k low high n lis his nis w P =
      let z = statement_of s i h k P.statement P.lies in
      let o = z.0 in
      let m = z.1 in
      let bytes : List ℕ = 7 ∷ (o % 256) ∷ (o / 256) ∷ m ∷ [] in
      let st : Starts (drop i s) bytes = rw z.2 at P.lies in
      let a = lis ∙ (byte_of s i bytes st 1 (omega arith)).1 in
      let b = his ∙ (byte_of s i bytes st 2 (omega arith)).1 in
      let c = nis ∙ (byte_of s i bytes st 3 (omega arith)).1 in
      let same : low + 256 * high ≡ o = omega arith in
      let fits : Printable strings o m = rw z.2 at P.fits in
      let due : w ≡ text (characters_of (take m (drop o P.sheet.strings))) = printed_is w P _ (rw z.2 at P.does) in
      rw (same, c) (fits, rw P.sources.strings_are at due)

  pub nothing_printed : (get_or s i 0 ≡ 5 → ⊥) → (get_or s i 0 ≡ 6 → ⊥) → (get_or s i 0 ≡ 7 → ⊥) → (get_or s i 0 ≡ 10 → ⊥) → (w : List ℕ) → PrintOf s tags strings i w → w ≡ []
  nothing_printed f5 f6 f7 f10 w P = go P.statement P.lies P.does
    where
      go : (t : Statement) → Starts (drop i s) (statement_bytes t) → execute_one P.sheet P.kept t P.values P.on ≡ some P.effect → w ≡ []
      go (become a v) st d = printed_is w P _ d
      go (copy a b) st d = printed_is w P _ d
      go (recall a b) st d = printed_is w P _ d
      go reject st d = absurd (no_effect P.effect d)
      go (print_start t) st d = absurd (f5 (first_byte s i 5 (t ∷ []) st))
      go (print_end t) st d = absurd (f6 (first_byte s i 6 (t ∷ []) st))
      go (print_text o n) st d = absurd (f7 (first_byte s i 7 ((o % 256) ∷ (o / 256) ∷ n ∷ []) st))
      go (echo on) st d = printed_is w P _ d
      go (branch c l m) st d = absurd (f10 (first_byte s i 10 (condition_bytes c ++ (program_bytes l ++ program_bytes m)) st))
