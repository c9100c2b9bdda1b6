-- The normalised bytes of tokens are those of the same tokens with each line end an LF, and white space in tags normalised; so they read as tokens that
-- hand on the same.
-- Assumes nothing.
use mathlib.Core.Path.{◌≡◌, refl, sym, ap, ap₂, ◌∙◌, subst}
use mathlib.Core.Logic.{inl, inr}
use mathlib.Core.Bool.{Bool, true, false, not, ◌&&◌, true≢false}
use mathlib.Core.List.{List, [], ◌∷◌, ◌++◌, append_assoc, append-nil, map}
use Prim.Native.Nat.{ℕ, ◌+◌, ◌/◌, ◌%◌, ◌≤◌}
use native.Mathlib.Omega.{arith}
use lib.ListN.{length, take, drop, length-append}
use lib.Seq.{drop-append_seam, take-append_seam}
use lib.Dec.{eqb}
use borrow.Author.Tests.{eqb-true, ne_eqb, not-true}
use Rattle.text.specs.Chars.{utf8, pick}
use Rattle.text.specs.Names.{name_byte, blank, All, Name}
use Rattle.text.specs.Numerals.{decimal, hex, digit_below, value_of}
use Rattle.text.proofs.NameLaws.{name_all}
use Rattle.text.proofs.Shapes.{Range, range, shape1, shape2, shape3, shape4}
use Rattle.tokens.specs.declared.Event.{Event}
use Rattle.tokens.specs.Tokens.{Kind, start, end, empty, Ref, amp, lt, gt, apos, quot, crlf, cr, Tok, tag, ref, numeric, line, char, Good, opening_bytes, closing_bytes, spelled, stands, bytes, event_of}
use Rattle.tokens.specs.Stream.{Reads, flat, AllGood, AllShort, Followed, AllWhole, events_at}
use Rattle.tokens.specs.LineEnds.{normal_after, normal, NoCR, Handed, a_tag, a_character, handed_on, all_handed, TranslatedTo, Translated}
use Rattle.text.proofs.Shapes.{cons≢[]}
use Rattle.tokens.proofs.Theory.{utf8_cons}
use Rattle.tokens.proofs.Runs.{all_append}
use Rattle.tokens.proofs.Reading.{tag_length}
use Rattle.tokens.proofs.Streams.{reads_flat, reads_all, name_place}

-- bytes that are normalised: no CR is left, there are no more of them, and white space stays white space
pub normal_no_cr : (after : Bool) (s : List ℕ) → NoCR (normal_after after s)
normal_no_cr after [] = tt
normal_no_cr after (b ∷ s) = by (eqb b 13) refl (after && eqb b 10) (normal_no_cr true s) (normal_no_cr false s)
  where
    by : (p : Bool) → eqb b 13 ≡ p → (q : Bool) → NoCR (normal_after true s) → NoCR (normal_after false s)
        → NoCR (pick p (10 ∷ normal_after true s) (pick q (normal_after false s) (b ∷ normal_after false s)))
    by true e q i j = (refl, i)
    by false e true i j = j
    by false e false i j = (ap not e, j)

normal_length : (after : Bool) (s : List ℕ) → length (normal_after after s) ≤ length s
normal_length after [] = omega arith
normal_length after (b ∷ s) = by (eqb b 13) (after && eqb b 10) (normal_length true s) (normal_length false s)
  where
    by : (p q : Bool) → length (normal_after true s) ≤ length s → length (normal_after false s) ≤ length s
        → length (pick p (10 ∷ normal_after true s) (pick q (normal_after false s) (b ∷ normal_after false s))) ≤ length (b ∷ s)
    by true q i j = omega arith
    by false true i j = omega arith
    by false false i j = omega arith

normal_blank : (after : Bool) (s : List ℕ) → All blank s → All blank (normal_after after s)
normal_blank after [] a = tt
normal_blank after (b ∷ s) a = by (eqb b 13) (after && eqb b 10) (normal_blank true s a.1) (normal_blank false s a.1)
  where
    by : (p q : Bool) → All blank (normal_after true s) → All blank (normal_after false s) → All blank (pick p (10 ∷ normal_after true s) (pick q (normal_after false s) (b ∷ normal_after false s)))
    by true q i j = (refl, i)
    by false true i j = j
    by false false i j = (a.0, j)

-- a byte that is neither CR nor, right behind a CR, LF
kept : (after : Bool) (x : ℕ) (u : List ℕ) → not (eqb x 13) ≡ true → (after ≡ true → x ≡ 10 → ⊥) → normal_after after (x ∷ u) ≡ x ∷ normal_after false u
kept false x u h n = simp (not-true (eqb x 13) h)
kept true x u h n = simp (not-true (eqb x 13) h, ne_eqb x 10 (n refl))

-- bytes without CR stay, in front of others
kept_all : (w u : List ℕ) → NoCR w → normal_after false (w ++ u) ≡ w ++ normal_after false u
kept_all [] u a = refl
kept_all (x ∷ w) u a = kept false x (w ++ u) a.0 (λ e. absurd (true≢false (sym e))) ∙ ap (λ (l : List ℕ). x ∷ l) (kept_all w u a.1)

-- the first byte is no LF behind a CR
abbrev Unbroken : Bool → List ℕ → Type 0
Unbroken after [] = Unit {0}
Unbroken after (x ∷ l) = after ≡ true → x ≡ 10 → ⊥

kept_after : (after : Bool) (x : ℕ) (w u : List ℕ) → NoCR (x ∷ w) → (after ≡ true → x ≡ 10 → ⊥) → normal_after after ((x ∷ w) ++ u) ≡ (x ∷ w) ++ normal_after false u
kept_after after x w u a n = kept after x (w ++ u) a.0 n ∙ ap (λ (l : List ℕ). x ∷ l) (kept_all w u a.1)

-- white space in a tag, in front of a byte that is none
gap_then : (after : Bool) (b : List ℕ) (y : ℕ) (v : List ℕ) → not (eqb y 13) ≡ true → (y ≡ 10 → ⊥) → normal_after after (b ++ (y ∷ v)) ≡ normal_after after b ++ (y ∷ normal_after false v)
gap_then after [] y v h n = kept after y v h (λ e. n)
gap_then after (x ∷ b) y v h n = by (eqb x 13) (after && eqb x 10) (gap_then true b y v h n) (gap_then false b y v h n)
  where
    by : (p q : Bool) → normal_after true (b ++ (y ∷ v)) ≡ normal_after true b ++ (y ∷ normal_after false v) → normal_after false (b ++ (y ∷ v)) ≡ normal_after false b ++ (y ∷ normal_after false v)
        → pick p (10 ∷ normal_after true (b ++ (y ∷ v))) (pick q (normal_after false (b ++ (y ∷ v))) (x ∷ normal_after false (b ++ (y ∷ v))))
        ≡ pick p (10 ∷ normal_after true b) (pick q (normal_after false b) (x ∷ normal_after false b)) ++ (y ∷ normal_after false v)
    by true q i j = ap (λ (l : List ℕ). 10 ∷ l) i
    by false true i j = j
    by false false i j = ap (λ (l : List ℕ). x ∷ l) j

-- bytes that pass a test which CR does not
pub no_cr_in : (p : ℕ → Bool) → p 13 ≡ false → (l : List ℕ) → All p l → NoCR l
no_cr_in p h [] a = tt
no_cr_in p h (x ∷ l) a = (by (eqb x 13) refl, no_cr_in p h l a.1)
  where
    by : (t : Bool) → eqb x 13 ≡ t → not t ≡ true
    by true e = absurd (true≢false (sym a.0 ∙ ap p (eqb-true x 13 e) ∙ h))
    by false e = refl

not_cr : (x : ℕ) → (x ≡ 13 → ⊥) → not (eqb x 13) ≡ true
not_cr x n = ap not (ne_eqb x 13 n)

high : (x : ℕ) → 0x80 ≤ x → not (eqb x 13) ≡ true
high x h = not_cr x (λ e. omega arith)

-- no character but CR has the byte CR
pub utf8_no_cr : (c : ℕ) → (c ≡ 13 → ⊥) → NoCR (utf8 c)
utf8_no_cr c n = go (range c)
  where
    go : Range c → NoCR (utf8 c)
    go (inl h) = subst NoCR (sym (shape1 c h)) (not_cr c n, tt)
    go (inr (inl h)) = subst NoCR (sym (shape2 c h.0 (omega arith))) (high (0xC0 + c / 64) (omega arith), (high (0x80 + c % 64) (omega arith), tt))
    go (inr (inr (inl h))) =
        subst NoCR (sym (shape3 c h.0 (omega arith))) (high (0xE0 + c / 4096) (omega arith), (high (0x80 + c / 64 % 64) (omega arith), (high (0x80 + c % 64) (omega arith), tt)))
    go (inr (inr (inr h))) =
        subst NoCR (sym (shape4 c h))
        (high (0xF0 + c / 262144) (omega arith), (high (0x80 + c / 4096 % 64) (omega arith), (high (0x80 + c / 64 % 64) (omega arith), (high (0x80 + c % 64) (omega arith), tt))))

-- the token as it is in the normalised bytes
abbrev unix : Tok → Tok
unix (tag k n b) = tag k n (normal b)
unix (ref x) = ref x
unix (numeric k ds) = numeric k ds
unix (line x) = char 10
unix (char c) = char c

unix_good : (t : Tok) → Good t → Good (unix t)
unix_good (tag k n b) ok = (ok.0, normal_blank false b ok.1)
unix_good (ref x) ok = ok
unix_good (numeric k ds) ok = ok
unix_good (line x) ok = (inr (inl refl), (λ e. omega arith), (λ e. omega arith), (λ e. omega arith), (λ e. omega arith))
unix_good (char c) ok = ok

unix_length : (t : Tok) → length (bytes (unix t)) ≤ length (bytes t)
unix_length (tag k n b) = omega (arith, tag_length k n b, tag_length k n (normal b), normal_length false b)
unix_length (ref x) = omega arith
unix_length (numeric k ds) = omega arith
unix_length (line crlf) = omega (arith, ap length (shape1 10 (omega arith)))
unix_length (line cr) = omega (arith, ap length (shape1 10 (omega arith)))
unix_length (char c) = omega arith

unix_whole : (t : Tok) (rest : List ℕ) → Followed true (unix t) rest
unix_whole (tag k n b) rest = tt
unix_whole (ref x) rest = tt
unix_whole (numeric k ds) rest = tt
unix_whole (line x) rest = tt
unix_whole (char c) rest = tt

-- a token ends in CR
abbrev ends_cr : Tok → Bool
ends_cr (tag k n b) = false
ends_cr (ref x) = false
ends_cr (numeric k ds) = false
ends_cr (line crlf) = false
ends_cr (line cr) = true
ends_cr (char c) = false

closes_then : (k : Kind) (after : Bool) (b v : List ℕ) → normal_after after (b ++ (closing_bytes k ++ v)) ≡ normal_after after b ++ (closing_bytes k ++ normal_after false v)
closes_then start after b v = gap_then after b 62 v refl (λ e. omega arith)
closes_then end after b v = gap_then after b 62 v refl (λ e. omega arith)
closes_then empty after b v =
    gap_then after b 47 (62 ∷ v) refl (λ e. omega arith) ∙ ap (λ (l : List ℕ). normal_after after b ++ (47 ∷ l)) (kept false 62 v refl (λ e z. omega arith))

opens_then : (k : Kind) (after : Bool) (u : List ℕ) → normal_after after (opening_bytes k ++ u) ≡ opening_bytes k ++ normal_after false u
opens_then start after u = kept_after after 60 [] u (refl, tt) (λ e z. omega arith)
opens_then end after u = kept_after after 60 (47 ∷ []) u (refl, (refl, tt)) (λ e z. omega arith)
opens_then empty after u = kept_after after 60 [] u (refl, tt) (λ e z. omega arith)

tag_normal : (k : Kind) (after : Bool) (n b u : List ℕ) → Name n → normal_after after (bytes (tag k n b) ++ u) ≡ bytes (tag k n (normal b)) ++ normal_after false u
tag_normal k after n b u hn =
    ap (normal_after after) (together (opening_bytes k) n b (closing_bytes k) u)
    ∙ opens_then k after (n ++ (b ++ (closing_bytes k ++ u)))
    ∙ ap (λ (l : List ℕ). opening_bytes k ++ l) (kept_all n (b ++ (closing_bytes k ++ u)) (no_cr_in name_byte refl n (name_all n hn)) ∙ ap (λ (l : List ℕ). n ++ l) (closes_then k false b u))
    ∙ sym (together (opening_bytes k) n (normal b) (closing_bytes k) (normal_after false u))
  where
    together : (o m g c v : List ℕ) → (o ++ (m ++ (g ++ c))) ++ v ≡ o ++ (m ++ (g ++ (c ++ v)))
    together o m g c v = simp append_assoc

ref_normal : (x : Ref) (after : Bool) (u : List ℕ) → normal_after after (spelled x ++ u) ≡ spelled x ++ normal_after false u
ref_normal amp after u = kept_after after 38 (97 ∷ 109 ∷ 112 ∷ 59 ∷ []) u (refl, (refl, (refl, (refl, (refl, tt))))) (λ e z. omega arith)
ref_normal lt after u = kept_after after 38 (108 ∷ 116 ∷ 59 ∷ []) u (refl, (refl, (refl, (refl, tt)))) (λ e z. omega arith)
ref_normal gt after u = kept_after after 38 (103 ∷ 116 ∷ 59 ∷ []) u (refl, (refl, (refl, (refl, tt)))) (λ e z. omega arith)
ref_normal apos after u = kept_after after 38 (97 ∷ 112 ∷ 111 ∷ 115 ∷ 59 ∷ []) u (refl, (refl, (refl, (refl, (refl, (refl, tt)))))) (λ e z. omega arith)
ref_normal quot after u = kept_after after 38 (113 ∷ 117 ∷ 111 ∷ 116 ∷ 59 ∷ []) u (refl, (refl, (refl, (refl, (refl, (refl, tt)))))) (λ e z. omega arith)

char_normal : (c : ℕ) (after : Bool) (u : List ℕ) → (c ≡ 13 → ⊥) → Unbroken after (utf8 c ++ u) → normal_after after (utf8 c ++ u) ≡ utf8 c ++ normal_after false u
char_normal c after u n h = by (utf8 c) (utf8_no_cr c n) (utf8_cons c) h
  where
    by : (w : List ℕ) → NoCR w → (x : ℕ) × (g : List ℕ) × (w ≡ x ∷ g) → Unbroken after (w ++ u) → normal_after after (w ++ u) ≡ w ++ normal_after false u
    by [] a (x, g, e) k = absurd (cons≢[] (sym e))
    by (y ∷ w) a e k = kept_after after y w u a k

-- one token, and then the rest; after is whether a CR comes right before it
token_normal : (t : Tok) (after : Bool) (u : List ℕ) → Good t → Unbroken after (bytes t ++ u) → Followed false t u
    → normal_after after (bytes t ++ u) ≡ bytes (unix t) ++ normal_after (ends_cr t) u
token_normal (tag k n b) after u ok h f = tag_normal k after n b u ok.0
token_normal (ref x) after u ok h f = ref_normal x after u
token_normal (numeric decimal ds) after u ok h f =
    kept_after after 38 (35 ∷ (ds ++ (59 ∷ []))) u (refl, (refl, all_append (λ b. not (eqb b 13)) ds (59 ∷ []) (no_cr_in (digit_below 10) refl ds ok.0) (refl, tt))) (λ e z. omega arith)
token_normal (numeric hex ds) after u ok h f =
    kept_after after 38 (35 ∷ 120 ∷ (ds ++ (59 ∷ []))) u (refl, (refl, (refl, all_append (λ b. not (eqb b 13)) ds (59 ∷ []) (no_cr_in (digit_below 16) refl ds ok.0) (refl, tt)))) (λ e z. omega arith)
token_normal (line crlf) after u ok h f = ap (λ (l : List ℕ). l ++ normal_after false u) (sym (shape1 10 (omega arith)))
token_normal (line cr) after u ok h f = ap (λ (l : List ℕ). l ++ normal_after true u) (sym (shape1 10 (omega arith)))
token_normal (char c) after u ok h f = char_normal c after u ok.4 h

-- what follows a token does not go on with its CR
unbroken_next : (t : Tok) (u : List ℕ) → Followed false t u → Unbroken (ends_cr t) u
unbroken_next t [] f = tt
unbroken_next (tag k n b) (x ∷ u) f = λ e z. true≢false (sym e)
unbroken_next (ref y) (x ∷ u) f = λ e z. true≢false (sym e)
unbroken_next (numeric k ds) (x ∷ u) f = λ e z. true≢false (sym e)
unbroken_next (line crlf) (x ∷ u) f = λ e z. true≢false (sym e)
unbroken_next (line cr) (x ∷ u) f = λ e z. f z
unbroken_next (char c) (x ∷ u) f = λ e z. true≢false (sym e)

flat_normal : (ts : List Tok) (after : Bool) → AllGood ts → AllWhole false ts [] → Unbroken after (flat ts) → normal_after after (flat ts) ≡ flat (map unix ts)
flat_normal [] after g w h = refl
flat_normal (t ∷ ts) after g w h =
    let f = subst (λ (l : List ℕ). Followed false t l) (append-nil (flat ts)) w.0 in
    token_normal t after (flat ts) g.0 h f ∙ ap (λ (l : List ℕ). bytes (unix t) ++ l) (flat_normal ts (ends_cr t) g.1 w.1 (unbroken_next t (flat ts) f))

unix_all : (ts : List Tok) → AllGood ts → AllShort ts → AllGood (map unix ts) × AllShort (map unix ts) × AllWhole true (map unix ts) []
unix_all [] g h = (tt, tt, tt)
unix_all (t ∷ ts) g h =
    let i = unix_all ts g.1 h.1 in
    ((unix_good t g.0, i.0), (omega (arith, unix_length t, h.0), i.1), (unix_whole t (flat (map unix ts) ++ []), i.2))

-- what was whole with more behind it is whole at the end
followed_cut : (more : Bool) (t : Tok) (u r : List ℕ) → Followed more t (u ++ r) → Followed false t (u ++ [])
followed_cut more (tag k n b) u r f = tt
followed_cut more (ref x) u r f = tt
followed_cut more (numeric k ds) u r f = tt
followed_cut more (line crlf) u r f = tt
followed_cut more (line cr) [] r f = refl
followed_cut more (line cr) (x ∷ u) r f = f
followed_cut more (char c) u r f = tt

whole_cut : (more : Bool) (ts : List Tok) (r : List ℕ) → AllWhole more ts r → AllWhole false ts []
whole_cut more [] r w = tt
whole_cut more (t ∷ ts) r w = (followed_cut more t (flat ts) r w.0, whole_cut more ts r w.1)

-- what a token hands on, wherever it stands
abbrev said : Tok → Handed
said (tag k n b) = a_tag k n
said (ref x) = a_character (stands x) false
said (numeric k ds) = a_character (value_of k ds) false
said (line x) = a_character 10 true
said (char c) = a_character c true

unix_said : (t : Tok) → said t ≡ said (unix t)
unix_said (tag k n b) = refl
unix_said (ref x) = refl
unix_said (numeric k ds) = refl
unix_said (line x) = refl
unix_said (char c) = refl

all_unix_said : (ts : List Tok) → map said ts ≡ map said (map unix ts)
all_unix_said [] = refl
all_unix_said (t ∷ ts) = ap₂ (λ (x : Handed) (xs : List Handed). x ∷ xs) (unix_said t) (all_unix_said ts)

hands : (t : Tok) (s : List ℕ) (at : ℕ) (r : List ℕ) → drop at s ≡ bytes t ++ r → handed_on s (event_of at t) ≡ said t
hands (tag start n b) s at r e = ap (a_tag start) (name_place start s at n b r e)
hands (tag end n b) s at r e = ap (a_tag end) (name_place end s at n b r e)
hands (tag empty n b) s at r e = ap (a_tag empty) (name_place empty s at n b r e)
hands (ref x) s at r e = refl
hands (numeric k ds) s at r e = refl
hands (line x) s at r e = refl
hands (char c) s at r e = refl

hands_all : (ts : List Tok) (p r : List ℕ) → all_handed (p ++ (flat ts ++ r)) (events_at (length p) ts) ≡ map said ts
hands_all [] p r = refl
hands_all (t ∷ ts) p r =
    let w : List ℕ = bytes t in
    let e : (p ++ w) ++ (flat ts ++ r) ≡ p ++ ((w ++ flat ts) ++ r) = simp append_assoc in
    ap₂ (λ (x : Handed) (xs : List Handed). x ∷ xs)
    (hands t (p ++ ((w ++ flat ts) ++ r)) (length p) (flat ts ++ r) (drop-append_seam p ((w ++ flat ts) ++ r) ∙ append_assoc w (flat ts) r))
    (ap₂ (λ (l : List ℕ) (k : ℕ). all_handed l (events_at k ts)) (sym e) (sym (length-append p w)) ∙ hands_all ts (p ++ w) r)

of_tokens : (ts : List Tok) → AllGood ts → AllShort ts → AllWhole false ts [] → TranslatedTo (flat ts) (events_at 0 ts)
of_tokens ts g h w =
    let us : List Tok = map unix ts in
    let i = unix_all ts g h in
    let e : normal (flat ts) ≡ flat us = flat_normal ts false g w (start_of (flat ts)) in
    record {
      no_cr = normal_no_cr false (flat ts);
      again = events_at 0 us;
      reads = subst (λ (l : List ℕ). Reads true l 0 (events_at 0 us) (length l)) (sym e) (at_zero us (reads_flat true us [] [] i.0 i.1 i.2));
      same = handed_of ts ∙ all_unix_said ts ∙ sym (handed_of us) ∙ ap (λ (l : List ℕ). all_handed l (events_at 0 us)) (sym e);
    }
  where
    start_of : (l : List ℕ) → Unbroken false l
    start_of [] = tt
    start_of (x ∷ l) = λ e z. true≢false (sym e)

    handed_of : (vs : List Tok) → all_handed (flat vs) (events_at 0 vs) ≡ map said vs
    handed_of vs = ap (λ (l : List ℕ). all_handed l (events_at 0 vs)) (sym (append-nil (flat vs))) ∙ hands_all vs [] []

    at_zero : (vs : List Tok) → Reads true (flat vs ++ []) 0 (events_at 0 vs) (0 + length (flat vs)) → Reads true (flat vs) 0 (events_at 0 vs) (length (flat vs))
    at_zero vs r =
        let z : 0 + length (flat vs) ≡ length (flat vs) = omega arith in
        subst (λ (k : ℕ). Reads true (flat vs) 0 (events_at 0 vs) k) z (subst (λ (l : List ℕ). Reads true l 0 (events_at 0 vs) (0 + length (flat vs))) (append-nil (flat vs)) r)

-- The characters handed on are those of XML 1.0, section 2.11.
pub translated : Translated
translated more s es to r =
    let (ts, g, p, q, a, w, h) = reads_all more s 0 es to r in
    let z : length (flat ts) ≡ to = omega (arith, q) in
    let e : flat ts ≡ take to s = sym (take-append_seam (flat ts) (drop to s)) ∙ ap₂ (λ (k : ℕ) (l : List ℕ). take k l) z (sym a) in
    subst (λ (l : List ℕ). TranslatedTo l es) e (subst (λ (x : List Event). TranslatedTo (flat ts) x) (sym p) (of_tokens ts g h (whole_cut more ts (drop to s) w)))
