-- Which token bytes can be: a list that agrees with a token as far as both go shows which token that is. So no two tokens start the same
-- bytes, but for CR and CR LF (`agreed`), and none where each is followed as it may be (`agree`); and any two answers of one front are equal (`one_answer`).
-- Assumes nothing.
use mathlib.Core.Path.{◌≡◌, refl, sym, ap, ap₂, ◌∙◌, subst}
use mathlib.Core.Logic.{◌⊎◌, inl, inr, ⊎_elim}
use mathlib.Core.Bool.{Bool, true, false, true≢false}
use mathlib.Core.List.{List, [], ◌∷◌, ◌++◌, append_assoc, append-nil, append_cancel_left, head-eq_of_cons-eq, tail-eq_of_cons-eq}
use Prim.Native.Nat.{ℕ, ◌+◌, ◌≤◌}
use native.Mathlib.Omega.{arith}
use lib.ListN.{length, get_or}
use lib.Dec.{eqb}
use Rattle.text.specs.Chars.{utf8, Starts, Begins, Apart}
use Rattle.text.specs.Names.{name_first, name_byte, blank, All, Name}
use Rattle.text.specs.Numerals.{Base, decimal, hex, radix, digit_below, Digits}
use Rattle.text.proofs.Shapes.{lead, Range, range, shape1, shape2, shape3, shape4, cons≢[]}
use Rattle.text.proofs.Unique.{char_one}
use Rattle.text.proofs.NameLaws.{name_all}
use Rattle.tokens.specs.Tokens.{Kind, start, end, empty, Ref, amp, lt, gt, apos, quot, LineEnd, crlf, cr, Tok, tag, ref, numeric, line, char, Good, opening_bytes, closing_bytes, spelled, base_mark, ending, bytes, event_of, Longest, StartsNone, BeginsOne, Means}
use Rattle.tokens.specs.Stream.{Followed}
use Rattle.tokens.specs.Inner.{Stops}
use Rattle.tokens.specs.declared.Cursor.{Cursor}
use Rattle.tokens.specs.declared.Event.{Event}
use Rattle.tokens.specs.declared.Event.TheVariants.{Character}
use Rattle.tokens.specs.declared.Answer.{Answer}
use Rattle.tokens.specs.declared.Answer.TheVariants.{Token, Waiting, Begun, Bad, Long}
use Rattle.tokens.proofs.Runs.{span, gap_stops}

-- of two lists that agree as far as both go, one starts with the other or begins it
pub either : (f w x v : List ℕ) → f ++ x ≡ w ++ v → Starts f w ⊎ Begins f w
either [] [] x v e = inl ([], refl)
either [] (y ∷ w) x v e = inr (y ∷ w, refl, cons≢[])
either (a ∷ f) [] x v e = inl (a ∷ f, refl)
either (a ∷ f) (y ∷ w) x v e =
    let h = head-eq_of_cons-eq e in
    ⊎_elim (λ s. inl (s.0, ap₂ (λ (z : ℕ) (l : List ℕ). z ∷ l) h s.1))
    (λ s. inr (s.0, ap₂ (λ (z : ℕ) (l : List ℕ). z ∷ l) (sym h) s.1, s.2)) (either f w x v (tail-eq_of_cons-eq e))

-- a name, white space, and what stops both, in two ways
pub parts : (n n' b b' r r' : List ℕ) → Name n → Name n' → All blank b → All blank b'
    → Stops name_byte (b ++ r) → Stops name_byte (b' ++ r') → Stops blank r → Stops blank r'
    → n ++ (b ++ r) ≡ n' ++ (b' ++ r') → (n ≡ n') × (b ≡ b') × (r ≡ r')
parts n n' b b' r r' hn hn' hb hb' s s' z z' e =
    let i = span name_byte n n' (b ++ r) (b' ++ r') (name_all n hn) (name_all n' hn') s s' e in
    let j = span blank b b' r r' hb hb' z z' i.1 in
    (i.0, j.0, j.1)

closes_name : (k : Kind) (u : List ℕ) → Stops name_byte (closing_bytes k ++ u)
closes_name start u = refl
closes_name end u = refl
closes_name empty u = refl

closes_blank : (k : Kind) (u : List ℕ) → Stops blank (closing_bytes k ++ u)
closes_blank start u = refl
closes_blank end u = refl
closes_blank empty u = refl

-- the bytes of a tag, and what follows it
spread : (n b c u : List ℕ) → (n ++ (b ++ c)) ++ u ≡ n ++ (b ++ (c ++ u))
spread n b c u = append_assoc n (b ++ c) u ∙ ap (λ (l : List ℕ). n ++ l) (append_assoc b c u)

-- a character's first byte
pub char_head : (c x : ℕ) (g u : List ℕ) → Good (char c) → x ∷ g ≡ utf8 c ++ u → (x ≡ 60 → ⊥) × (x ≡ 38 → ⊥) × (x ≡ 62 → ⊥) × (x ≡ 13 → ⊥)
char_head c x g u ok e =
    ⊎_elim (λ w. ((λ h. ok.1 (sym w.1 ∙ h)), (λ h. ok.2 (sym w.1 ∙ h)), (λ h. ok.3 (sym w.1 ∙ h)), (λ h. ok.4 (sym w.1 ∙ h))))
    (⊎_elim (λ w. (omega arith)) (⊎_elim (λ w. omega arith) (λ w. omega arith)))
    (lead x g c u e)

ref_head : (x : Ref) (y : ℕ) (g u : List ℕ) → y ∷ g ≡ spelled x ++ u → y ≡ 38
ref_head amp y g u e = head-eq_of_cons-eq e
ref_head lt y g u e = head-eq_of_cons-eq e
ref_head gt y g u e = head-eq_of_cons-eq e
ref_head apos y g u e = head-eq_of_cons-eq e
ref_head quot y g u e = head-eq_of_cons-eq e

-- a reference by name has no # after &
ref_second : (x : Ref) (y : ℕ) (g u : List ℕ) → 38 ∷ y ∷ g ≡ spelled x ++ u → y ≡ 35 → ⊥
ref_second amp y g u e h = omega (arith, head-eq_of_cons-eq (tail-eq_of_cons-eq e))
ref_second lt y g u e h = omega (arith, head-eq_of_cons-eq (tail-eq_of_cons-eq e))
ref_second gt y g u e h = omega (arith, head-eq_of_cons-eq (tail-eq_of_cons-eq e))
ref_second apos y g u e h = omega (arith, head-eq_of_cons-eq (tail-eq_of_cons-eq e))
ref_second quot y g u e h = omega (arith, head-eq_of_cons-eq (tail-eq_of_cons-eq e))

line_head : (x : LineEnd) (y : ℕ) (g u : List ℕ) → y ∷ g ≡ ending x ++ u → y ≡ 13
line_head crlf y g u e = head-eq_of_cons-eq e
line_head cr y g u e = head-eq_of_cons-eq e

tag_head : (k : Kind) (y : ℕ) (g m u : List ℕ) → y ∷ g ≡ (opening_bytes k ++ m) ++ u → y ≡ 60
tag_head start y g m u e = head-eq_of_cons-eq e
tag_head end y g m u e = head-eq_of_cons-eq e
tag_head empty y g m u e = head-eq_of_cons-eq e

-- a list that starts as a start tag or an empty tag does, and agrees with a token, as far as both go
pub open_is : (n b r : List ℕ) → Name n → All blank b → Stops name_byte (b ++ r) → Stops blank r → (t : Tok) → Good t → (u : List ℕ)
    → 60 ∷ (n ++ (b ++ r)) ≡ bytes t ++ u → ((t ≡ tag start n b) × (r ≡ 62 ∷ u)) ⊎ ((t ≡ tag empty n b) × (r ≡ 47 ∷ 62 ∷ u))
open_is n b r hn hb s z (tag start n' b') ok u e =
    let i = parts n n' b b' r (62 ∷ u) hn ok.0 hb ok.1 s (gap_stops b' (62 ∷ u) ok.1 refl) z refl (tail-eq_of_cons-eq e ∙ spread n' b' (62 ∷ []) u) in
    inl (ap₂ (λ (x y : List ℕ). tag start x y) (sym i.0) (sym i.1), i.2)
open_is n b r hn hb s z (tag empty n' b') ok u e =
    let i = parts n n' b b' r (47 ∷ 62 ∷ u) hn ok.0 hb ok.1 s (gap_stops b' (47 ∷ 62 ∷ u) ok.1 refl) z refl (tail-eq_of_cons-eq e ∙ spread n' b' (47 ∷ 62 ∷ []) u) in
    inr (ap₂ (λ (x y : List ℕ). tag empty x y) (sym i.0) (sym i.1), i.2)
open_is [] b r hn hb s z (tag end n' b') ok u e = absurd hn
open_is (x ∷ n) b r hn hb s z (tag end n' b') ok u e = absurd (true≢false (sym hn.0 ∙ ap name_first (head-eq_of_cons-eq (tail-eq_of_cons-eq e))))
open_is n b r hn hb s z (ref x) ok u e = let h = ref_head x 60 (n ++ (b ++ r)) u e in absurd (omega arith)
open_is n b r hn hb s z (numeric k ds) ok u e = let h = head-eq_of_cons-eq e in absurd (omega arith)
open_is n b r hn hb s z (line x) ok u e = let h = line_head x 60 (n ++ (b ++ r)) u e in absurd (omega arith)
open_is n b r hn hb s z (char c) ok u e = absurd ((char_head c 60 (n ++ (b ++ r)) u ok e).0 refl)

-- the same for an end tag
pub end_is : (n b r : List ℕ) → Name n → All blank b → Stops name_byte (b ++ r) → Stops blank r → (t : Tok) → Good t → (u : List ℕ)
    → 60 ∷ 47 ∷ (n ++ (b ++ r)) ≡ bytes t ++ u → (t ≡ tag end n b) × (r ≡ 62 ∷ u)
end_is n b r hn hb s z (tag end n' b') ok u e =
    let i = parts n n' b b' r (62 ∷ u) hn ok.0 hb ok.1 s (gap_stops b' (62 ∷ u) ok.1 refl) z refl (tail-eq_of_cons-eq (tail-eq_of_cons-eq e) ∙ spread n' b' (62 ∷ []) u) in
    (ap₂ (λ (x y : List ℕ). tag end x y) (sym i.0) (sym i.1), i.2)
end_is n b r hn hb s z (tag start [] b') ok u e = absurd ok.0
end_is n b r hn hb s z (tag start (x ∷ n') b') ok u e = absurd (true≢false (sym ok.0.0 ∙ ap name_first (sym (head-eq_of_cons-eq (tail-eq_of_cons-eq e)))))
end_is n b r hn hb s z (tag empty [] b') ok u e = absurd ok.0
end_is n b r hn hb s z (tag empty (x ∷ n') b') ok u e = absurd (true≢false (sym ok.0.0 ∙ ap name_first (sym (head-eq_of_cons-eq (tail-eq_of_cons-eq e)))))
end_is n b r hn hb s z (ref x) ok u e = let h = ref_head x 60 (47 ∷ (n ++ (b ++ r))) u e in absurd (omega arith)
end_is n b r hn hb s z (numeric k ds) ok u e = let h = head-eq_of_cons-eq e in absurd (omega arith)
end_is n b r hn hb s z (line x) ok u e = let h = line_head x 60 (47 ∷ (n ++ (b ++ r))) u e in absurd (omega arith)
end_is n b r hn hb s z (char c) ok u e = absurd ((char_head c 60 (47 ∷ (n ++ (b ++ r))) u ok e).0 refl)

-- the same for a reference by name and for a character
pub ref_is : (y : ℕ) (g : List ℕ) → (y ≡ 35 → ⊥) → (t : Tok) → Good t → (u : List ℕ) → 38 ∷ y ∷ g ≡ bytes t ++ u
    → (x : Ref) × (t ≡ ref x) × (38 ∷ y ∷ g ≡ spelled x ++ u)
ref_is y g h (tag k n b) ok u e = let z = tag_head k 38 (y ∷ g) (n ++ (b ++ closing_bytes k)) u e in absurd (omega arith)
ref_is y g h (ref x) ok u e = (x, refl, e)
ref_is y g h (numeric k ds) ok u e = absurd (h (head-eq_of_cons-eq (tail-eq_of_cons-eq e)))
ref_is y g h (line x) ok u e = let z = line_head x 38 (y ∷ g) u e in absurd (omega arith)
ref_is y g h (char c) ok u e = absurd ((char_head c 38 (y ∷ g) u ok e).1 refl)

pub char_is : (x : ℕ) (g : List ℕ) → (x ≡ 60 → ⊥) → (x ≡ 38 → ⊥) → (x ≡ 13 → ⊥) → (t : Tok) → Good t → (u : List ℕ) → x ∷ g ≡ bytes t ++ u
    → (c : ℕ) × (t ≡ char c) × Good (char c) × (x ∷ g ≡ utf8 c ++ u)
char_is x g h k l (tag j n b) ok u e = absurd (h (tag_head j x g (n ++ (b ++ closing_bytes j)) u e))
char_is x g h k l (ref y) ok u e = absurd (k (ref_head y x g u e))
char_is x g h k l (numeric j ds) ok u e = absurd (k (head-eq_of_cons-eq e))
char_is x g h k l (line y) ok u e = absurd (l (line_head y x g u e))
char_is x g h k l (char c) ok u e = (c, refl, ok, e)

-- digits that go on to ; after more of them
digits_on : (p : ℕ → Bool) → p 59 ≡ false → (ds r es u : List ℕ) → All p ds → All p es → ds ++ r ≡ es ++ (59 ∷ u)
    → (m : List ℕ) × All p m × (es ≡ ds ++ m) × (r ≡ m ++ (59 ∷ u))
digits_on p q [] r es u a b e = (es, b, refl, e)
digits_on p q (x ∷ ds) r [] u a b e = absurd (true≢false (sym a.0 ∙ ap p (head-eq_of_cons-eq e) ∙ q))
digits_on p q (x ∷ ds) r (y ∷ es) u a b e =
    let (m, c, i, j) = digits_on p q ds r es u a.1 b.1 (tail-eq_of_cons-eq e) in
    (m, c, ap₂ {A = ℕ} (λ z l. z ∷ l) (sym (head-eq_of_cons-eq e)) i, j)

-- no x comes where decimal digits do
abbrev pub NoMark : Base → List ℕ → Type 0
NoMark decimal [] = Unit {0}
NoMark decimal (x ∷ l) = x ≡ 120 → ⊥
NoMark hex l = Unit {0}

-- the token that a reference by number, as far as it goes, goes on to: more digits, and ;
abbrev pub GoesOn : Base → (ds r : List ℕ) → Tok → (u : List ℕ) → Type 0
GoesOn k ds r t u = (m : List ℕ) × Digits k m × (t ≡ numeric k (ds ++ m)) × (r ≡ m ++ (59 ∷ u))

goes_on : (k : Base) → digit_below (radix k) 59 ≡ false → (ds r es u : List ℕ) → Digits k ds → Digits k es → ds ++ r ≡ (es ++ (59 ∷ [])) ++ u → GoesOn k ds r (numeric k es) u
goes_on k q ds r es u a b e =
    let (m, c, i, j) = digits_on (digit_below (radix k)) q ds r es u a b (e ∙ append_assoc es (59 ∷ []) u) in
    (m, c, ap (numeric k) i, j)

-- decimal digits do not start with x
no_x : (es u : List ℕ) (x : ℕ) (l : List ℕ) → Digits decimal es → x ∷ l ≡ (es ++ (59 ∷ [])) ++ u → x ≡ 120 → ⊥
no_x [] u x l a e h = omega (arith, head-eq_of_cons-eq e)
no_x (y ∷ es) u x l a e h = true≢false (sym a.0 ∙ ap (digit_below 10) (sym (head-eq_of_cons-eq e) ∙ h))

marked : (l : List ℕ) (w : List ℕ) → NoMark decimal l → l ≡ 120 ∷ w → ⊥
marked [] w n e = cons≢[] (sym e)
marked (x ∷ l) w n e = n (head-eq_of_cons-eq e)

pub number_is : (k : Base) (ds r : List ℕ) → Digits k ds → NoMark k (ds ++ r) → (t : Tok) → Good t → (u : List ℕ)
    → 38 ∷ 35 ∷ (base_mark k ++ (ds ++ r)) ≡ bytes t ++ u → GoesOn k ds r t u
number_is k ds r a n (tag j m b) ok u e = let z = tag_head j 38 (35 ∷ (base_mark k ++ (ds ++ r))) (m ++ (b ++ closing_bytes j)) u e in absurd (omega arith)
number_is k ds r a n (ref x) ok u e = absurd (ref_second x 35 (base_mark k ++ (ds ++ r)) u e refl)
number_is decimal ds r a n (numeric decimal es) ok u e = goes_on decimal refl ds r es u a ok.0 (tail-eq_of_cons-eq (tail-eq_of_cons-eq e))
number_is decimal ds r a n (numeric hex es) ok u e = absurd (marked (ds ++ r) ((es ++ (59 ∷ [])) ++ u) n (tail-eq_of_cons-eq (tail-eq_of_cons-eq e)))
number_is hex ds r a n (numeric decimal es) ok u e = absurd (no_x es u 120 (ds ++ r) ok.0 (tail-eq_of_cons-eq (tail-eq_of_cons-eq e)) refl)
number_is hex ds r a n (numeric hex es) ok u e = goes_on hex refl ds r es u a ok.0 (tail-eq_of_cons-eq (tail-eq_of_cons-eq (tail-eq_of_cons-eq e)))
number_is k ds r a n (line x) ok u e = let z = line_head x 38 (35 ∷ (base_mark k ++ (ds ++ r))) u e in absurd (omega arith)
number_is k ds r a n (char c) ok u e = absurd ((char_head c 38 (35 ∷ (base_mark k ++ (ds ++ r))) u ok e).1 refl)

-- no two references start the same bytes
pick_ref : Bool → Ref → Ref → Ref
pick_ref true a b = a
pick_ref false a b = b

-- the reference by its second and third byte
ref_of : List ℕ → Ref
ref_of l = pick_ref (eqb (get_or l 1 0) 108) lt (pick_ref (eqb (get_or l 1 0) 103) gt (pick_ref (eqb (get_or l 1 0) 113) quot (pick_ref (eqb (get_or l 2 0) 109) amp apos)))

ref_of_lem : (x : Ref) (u : List ℕ) → ref_of (spelled x ++ u) ≡ x
unfolding ref_of pick_ref
ref_of_lem amp u = refl
ref_of_lem lt u = refl
ref_of_lem gt u = refl
ref_of_lem apos u = refl
ref_of_lem quot u = refl

pub ref_one : (x y : Ref) (u v : List ℕ) → spelled x ++ u ≡ spelled y ++ v → x ≡ y
ref_one x y u v e = sym (ref_of_lem x u) ∙ ap ref_of e ∙ ref_of_lem y v

-- a character has a first byte
pub utf8_cons : (c : ℕ) → (x : ℕ) × (g : List ℕ) × (utf8 c ≡ x ∷ g)
utf8_cons c = go (range c)
  where
    go : Range c → (x : ℕ) × (g : List ℕ) × (utf8 c ≡ x ∷ g)
    go (inl h) = (_, _, shape1 c h)
    go (inr (inl h)) = (_, _, shape2 c h.0 (omega arith))
    go (inr (inr (inl h))) = (_, _, shape3 c h.0 (omega arith))
    go (inr (inr (inr h))) = (_, _, shape4 c h)

-- first bytes
head : List ℕ → ℕ
head l = get_or l 0 0

ref_0 : (x : Ref) (u : List ℕ) → head (spelled x ++ u) ≡ 38
unfolding head
ref_0 amp u = refl
ref_0 lt u = refl
ref_0 gt u = refl
ref_0 apos u = refl
ref_0 quot u = refl

ref_1 : (x : Ref) (u : List ℕ) → get_or (spelled x ++ u) 1 0 ≡ 35 → ⊥
ref_1 amp u e = omega arith
ref_1 lt u e = omega arith
ref_1 gt u e = omega arith
ref_1 apos u e = omega arith
ref_1 quot u e = omega arith

tag_0 : (k : Kind) (m u : List ℕ) → head ((opening_bytes k ++ m) ++ u) ≡ 60
unfolding head
tag_0 start m u = refl
tag_0 end m u = refl
tag_0 empty m u = refl

line_0 : (x : LineEnd) (u : List ℕ) → head (ending x ++ u) ≡ 13
unfolding head
line_0 crlf u = refl
line_0 cr u = refl

number_0 : (k : Base) (ds u : List ℕ) → head (bytes (numeric k ds) ++ u) ≡ 38
unfolding head
number_0 k ds u = refl

char_0 : (c : ℕ) (u : List ℕ) → Good (char c) → (head (utf8 c ++ u) ≡ 60 → ⊥) × (head (utf8 c ++ u) ≡ 38 → ⊥) × (head (utf8 c ++ u) ≡ 13 → ⊥)
unfolding head
char_0 c u ok =
    let w = utf8_cons c in
    let i = char_head c w.0 (w.1 ++ u) u ok (ap (λ (l : List ℕ). l ++ u) (sym w.2)) in
    let j = ap (λ (l : List ℕ). get_or (l ++ u) 0 0) w.2 in
    ((λ h. i.0 (sym j ∙ h)), (λ h. i.1 (sym j ∙ h)), (λ h. i.3 (sym j ∙ h)))

-- two tokens that start the same bytes: they are one, or CR LF and its CR
pub data Agreed (t t' : Tok) (u v : List ℕ) : Type 0 where
  same : t ≡ t' → u ≡ v → Agreed t t' u v
  shorter : t ≡ line cr → t' ≡ line crlf → u ≡ 10 ∷ v → Agreed t t' u v
  longer : t ≡ line crlf → t' ≡ line cr → 10 ∷ u ≡ v → Agreed t t' u v

number_agreed : (k : Base) (ds u v : List ℕ) (t : Tok) → digit_below (radix k) 59 ≡ false → GoesOn k ds (59 ∷ u) t v → Agreed (numeric k ds) t u v
number_agreed k ds u v t q ([], d, p, e) = same (ap (numeric k) (sym (append-nil ds)) ∙ sym p) (tail-eq_of_cons-eq e)
number_agreed k ds u v t q (x ∷ m, d, p, e) = absurd (true≢false (sym d.0 ∙ ap (digit_below (radix k)) (sym (head-eq_of_cons-eq e)) ∙ q))

pub stop_59 : (k : Base) → digit_below (radix k) 59 ≡ false
stop_59 decimal = refl
stop_59 hex = refl

unmarked : (k : Base) (ds u : List ℕ) → Digits k ds → NoMark k (ds ++ (59 ∷ u))
unmarked decimal [] u a = λ h. omega arith
unmarked decimal (x ∷ ds) u a = λ h. true≢false (sym a.0 ∙ ap (digit_below 10) h)
unmarked hex ds u a = tt

pub agreed : (t t' : Tok) → Good t → Good t' → (u v : List ℕ) → bytes t ++ u ≡ bytes t' ++ v → Agreed t t' u v
agreed (tag start n b) t' ok ok' u v e =
    ⊎_elim (λ w. same (sym w.0) (tail-eq_of_cons-eq w.1)) (λ w. absurd (omega (arith, head-eq_of_cons-eq w.1)))
    (open_is n b (62 ∷ u) ok.0 ok.1 (gap_stops b (62 ∷ u) ok.1 refl) refl t' ok' v (sym (ap (λ (l : List ℕ). 60 ∷ l) (spread n b (62 ∷ []) u)) ∙ e))
agreed (tag empty n b) t' ok ok' u v e =
    ⊎_elim (λ w. absurd (omega (arith, head-eq_of_cons-eq w.1))) (λ w. same (sym w.0) (tail-eq_of_cons-eq (tail-eq_of_cons-eq w.1)))
    (open_is n b (47 ∷ 62 ∷ u) ok.0 ok.1 (gap_stops b (47 ∷ 62 ∷ u) ok.1 refl) refl t' ok' v (sym (ap (λ (l : List ℕ). 60 ∷ l) (spread n b (47 ∷ 62 ∷ []) u)) ∙ e))
agreed (tag end n b) t' ok ok' u v e =
    let w = end_is n b (62 ∷ u) ok.0 ok.1 (gap_stops b (62 ∷ u) ok.1 refl) refl t' ok' v (sym (ap (λ (l : List ℕ). 60 ∷ 47 ∷ l) (spread n b (62 ∷ []) u)) ∙ e) in
    same (sym w.0) (tail-eq_of_cons-eq w.1)
agreed (ref x) (tag k n b) ok ok' u v e = absurd (omega (arith, sym (ref_0 x u) ∙ ap head e ∙ tag_0 k (n ++ (b ++ closing_bytes k)) v))
agreed (ref x) (ref y) ok ok' u v e =
    let p = ref_one x y u v e in
    same (ap ref p) (append_cancel_left (spelled x) u v (e ∙ ap (λ (z : Ref). spelled z ++ v) (sym p)))
agreed (ref x) (numeric k ds) ok ok' u v e = absurd (ref_1 x u (ap (λ (l : List ℕ). get_or l 1 0) e))
agreed (ref x) (line y) ok ok' u v e = absurd (omega (arith, sym (ref_0 x u) ∙ ap head e ∙ line_0 y v))
agreed (ref x) (char c) ok ok' u v e = absurd ((char_0 c v ok').1 (sym (ap head e) ∙ ref_0 x u))
agreed (numeric k ds) t' ok ok' u v e =
    number_agreed k ds u v t' (stop_59 k)
    (number_is k ds (59 ∷ u) ok.0 (unmarked k ds u ok.0) t' ok' v (ap (λ (l : List ℕ). 38 ∷ 35 ∷ l) (sym (spread (base_mark k) ds (59 ∷ []) u)) ∙ e))
agreed (line x) (tag k n b) ok ok' u v e = absurd (omega (arith, sym (line_0 x u) ∙ ap head e ∙ tag_0 k (n ++ (b ++ closing_bytes k)) v))
agreed (line x) (ref y) ok ok' u v e = absurd (omega (arith, sym (line_0 x u) ∙ ap head e ∙ ref_0 y v))
agreed (line x) (numeric k ds) ok ok' u v e = absurd (omega (arith, sym (line_0 x u) ∙ ap head e ∙ number_0 k ds v))
agreed (line crlf) (line crlf) ok ok' u v e = same refl (tail-eq_of_cons-eq (tail-eq_of_cons-eq e))
agreed (line crlf) (line cr) ok ok' u v e = longer refl refl (tail-eq_of_cons-eq e)
agreed (line cr) (line crlf) ok ok' u v e = shorter refl refl (tail-eq_of_cons-eq e)
agreed (line cr) (line cr) ok ok' u v e = same refl (tail-eq_of_cons-eq e)
agreed (line x) (char c) ok ok' u v e = absurd ((char_0 c v ok').2 (sym (ap head e) ∙ line_0 x u))
agreed (char c) (tag k n b) ok ok' u v e = absurd ((char_0 c u ok).0 (ap head e ∙ tag_0 k (n ++ (b ++ closing_bytes k)) v))
agreed (char c) (ref x) ok ok' u v e = absurd ((char_0 c u ok).1 (ap head e ∙ ref_0 x v))
agreed (char c) (numeric k ds) ok ok' u v e = absurd ((char_0 c u ok).1 (ap head e ∙ number_0 k ds v))
agreed (char c) (line x) ok ok' u v e = absurd ((char_0 c u ok).2 (ap head e ∙ line_0 x v))
agreed (char c) (char d) ok ok' u v e =
    let p = char_one c d u v e in
    same (ap char p) (append_cancel_left (utf8 c) u v (e ∙ ap (λ (z : ℕ). utf8 z ++ v) (sym p)))

-- a CR that is a token has no LF behind it
no_lf : (more : Bool) (t : Tok) (u v : List ℕ) → Followed more t u → t ≡ line cr → u ≡ 10 ∷ v → ⊥
no_lf more t u v f p e = subst (λ (l : List ℕ). Followed more (line cr) l) e (subst (λ (x : Tok). Followed more x u) p f) refl

-- No two tokens start the same bytes, where each is followed as it may be.
pub agree : (t t' : Tok) → Good t → Good t' → (u v : List ℕ) → Followed false t u → Followed false t' v → bytes t ++ u ≡ bytes t' ++ v → (t ≡ t') × (u ≡ v)
agree t t' ok ok' u v f f' e = go (agreed t t' ok ok' u v e)
  where
    go : Agreed t t' u v → (t ≡ t') × (u ≡ v)
    go (same p q) = (p, q)
    go (shorter p q r) = absurd (no_lf false t u v f p r)
    go (longer p q r) = absurd (no_lf false t' v u f' q (sym r))

-- apart is neither started with nor begun
pub none_of : (f w : List ℕ) → Apart f w → (Starts f w → ⊥) × (Begins f w → ⊥)
none_of f w a = ((λ s. a [] s.0 (append-nil f ∙ s.1)), (λ s. a s.0 [] (sym s.1 ∙ sym (append-nil w))))

pub nil_right : (u v : List ℕ) → u ++ v ≡ [] → v ≡ []
nil_right [] v e = e
nil_right (x ∷ u) v e = absurd (cons≢[] e)

-- f starts with one token and begins another
both : (f : List ℕ) (t t' : Tok) → Good t → Good t' → (s : Starts f (bytes t)) → (b : Begins f (bytes t')) → Agreed t t' (s.0 ++ b.0) []
both f t t' ok ok' s b =
    agreed t t' ok ok' (s.0 ++ b.0) []
    (sym (append_assoc (bytes t) s.0 b.0) ∙ ap (λ (l : List ℕ). l ++ b.0) (sym s.1) ∙ sym b.1 ∙ sym (append-nil (bytes t')))

-- the tokens are CR and CR LF, and f is the CR
last_cr : (u v : List ℕ) → u ++ v ≡ 10 ∷ [] → (v ≡ [] → ⊥) → u ≡ []
last_cr [] v e n = refl
last_cr (x ∷ u) v e n = absurd (n (nil_right u v (tail-eq_of_cons-eq e)))

pub only_cr : (f : List ℕ) (t t' : Tok) → Good t → Good t' → (s : Starts f (bytes t)) → Begins f (bytes t') → (t ≡ line cr) × (t' ≡ line crlf) × (s.0 ≡ [])
only_cr f t t' ok ok' s b = go (both f t t' ok ok' s b)
  where
    go : Agreed t t' (s.0 ++ b.0) [] → (t ≡ line cr) × (t' ≡ line crlf) × (s.0 ≡ [])
    go (same p q) = absurd (b.2 (nil_right s.0 b.0 q))
    go (shorter p q r) = (p, q, last_cr s.0 b.0 r b.2)
    go (longer p q r) = absurd (cons≢[] r)

-- a token that is followed as it may be, whatever is to come, is what the front starts with
module _ (f : List ℕ) (at : ℕ) (t : Tok) (u : List ℕ) (ok : Good t) (is : f ≡ bytes t ++ u) where
  longest_of : Followed false t u → (t' : Tok) → Good t' → Starts f (bytes t') → length (bytes t') ≤ length (bytes t)
  longest_of fol t' ok' s = go (agreed t t' ok ok' u s.0 (sym is ∙ s.1))
    where
      go : Agreed t t' u s.0 → length (bytes t') ≤ length (bytes t)
      go (same p q) = omega (arith, ap (λ (x : Tok). length (bytes x)) p)
      go (shorter p q r) = absurd (no_lf false t u s.0 fol p r)
      go (longer p q r) = omega (arith, ap (λ (x : Tok). length (bytes x)) p, ap (λ (x : Tok). length (bytes x)) q)

  open_end : Followed true t u → t ≡ line cr → u ≡ [] → ⊥
  open_end fol p e = true≢false (subst (λ (l : List ℕ). Followed true (line cr) l) e (subst (λ (x : Tok). Followed true x u) p fol))

  pub whole : (e : Event) (n : Cursor) → Followed true t u → Followed false t u → e ≡ event_of at t → n.at ≡ at + length (bytes t) → Means f at (Token e n)
  whole e n fol fol' p q = (
    record { token = t; good = ok; starts = (u, is); event = p; ends = q; longest = longest_of fol' },
    λ (b : BeginsOne f). let c = only_cr f t b.0 ok b.1 (u, is) b.2 in open_end fol c.0 c.2,
  )

pub followed_ended : (t : Tok) (u : List ℕ) → Followed true t u → Followed false t u
followed_ended (tag k n b) u f = tt
followed_ended (ref x) u f = tt
followed_ended (numeric k ds) u f = tt
followed_ended (line crlf) u f = tt
followed_ended (line cr) [] f = refl
followed_ended (line cr) (x ∷ u) f = f
followed_ended (char c) u f = tt

-- a CR that is the last byte
pub waits : (f : List ℕ) (at : ℕ) → f ≡ 13 ∷ [] → Means f at (Waiting (Character 10 true) (record { at = at + 1 }))
waits f at e = (
  record { token = line cr; good = tt; starts = ([], e); event = refl; ends = refl; longest = longest_of f at (line cr) [] tt e refl },
  (line crlf, tt, (10 ∷ [], ap (λ (l : List ℕ). l ++ (10 ∷ [])) (sym e), cons≢[])),
)

-- a token that is no line end
abbrev is_line : Tok → Bool
is_line (tag k n b) = false
is_line (ref x) = false
is_line (numeric k ds) = false
is_line (line x) = true
is_line (char c) = false

pub no_line : (t : Tok) (x : LineEnd) → is_line t ≡ false → t ≡ line x → ⊥
no_line t x e p = true≢false (sym (ap is_line p) ∙ e)

-- a front that begins a token other than CR LF starts with none
pub begins_only : (f : List ℕ) (t : Tok) → Good t → (t ≡ line crlf → ⊥) → Begins f (bytes t) → StartsNone f
begins_only f t ok n b t' ok' s = n (only_cr f t' t ok' ok s b).1

pub begun : (f : List ℕ) (at : ℕ) (t : Tok) → Good t → (t ≡ line crlf → ⊥) → Begins f (bytes t) → length (bytes t) ≤ 32 → Means f at Begun
begun f at t ok n b l = (begins_only f t ok n b, (t, ok, b, l))

-- Any two answers of one front are equal.
same_longest : (f : List ℕ) (at : ℕ) (e e' : Event) (n n' : Cursor) → Longest f at e n → Longest f at e' n' → (e ≡ e') × (n.at ≡ n'.at)
same_longest f at e e' n n' m m' = go (agreed m.token m'.token m.good m'.good m.starts.0 m'.starts.0 (sym m.starts.1 ∙ m'.starts.1))
  where
    go : Agreed m.token m'.token m.starts.0 m'.starts.0 → (e ≡ e') × (n.at ≡ n'.at)
    go (same p q) = (m.event ∙ ap (event_of at) p ∙ sym m'.event, m.ends ∙ ap (λ (t : Tok). at + length (bytes t)) p ∙ sym m'.ends)
    go (shorter p q r) =
        absurd (omega (arith, ap (λ (t : Tok). length (bytes t)) p, ap (λ (t : Tok). length (bytes t)) q, m.longest m'.token m'.good m'.starts))
    go (longer p q r) =
        absurd (omega (arith, ap (λ (t : Tok). length (bytes t)) p, ap (λ (t : Tok). length (bytes t)) q, m'.longest m.token m.good m.starts))

none_started : (f : List ℕ) (at : ℕ) (e : Event) (n : Cursor) → Longest f at e n → StartsNone f → ⊥
none_started f at e n m z = z m.token m.good m.starts

pub one_answer : (f : List ℕ) (at : ℕ) (a a' : Answer) → Means f at a → Means f at a' → a ≡ a'
one_answer f at (Token e n) (Token e' n') m m' = let w = same_longest f at e e' n n' m.0 m'.0 in λ i. Token (w.0 i) (record { at = w.1 i })
one_answer f at (Token e n) (Waiting e' n') m m' = absurd (m.1 m'.1)
one_answer f at (Token e n) Begun m m' = absurd (none_started f at e n m.0 m'.0)
one_answer f at (Token e n) Bad m m' = absurd (none_started f at e n m.0 m'.0)
one_answer f at (Token e n) Long m m' = absurd (none_started f at e n m.0 m'.0)
one_answer f at (Waiting e n) (Token e' n') m m' = absurd (m'.1 m.1)
one_answer f at (Waiting e n) (Waiting e' n') m m' = let w = same_longest f at e e' n n' m.0 m'.0 in λ i. Waiting (w.0 i) (record { at = w.1 i })
one_answer f at (Waiting e n) Begun m m' = absurd (none_started f at e n m.0 m'.0)
one_answer f at (Waiting e n) Bad m m' = absurd (none_started f at e n m.0 m'.0)
one_answer f at (Waiting e n) Long m m' = absurd (none_started f at e n m.0 m'.0)
one_answer f at Begun (Token e n) m m' = absurd (none_started f at e n m'.0 m.0)
one_answer f at Begun (Waiting e n) m m' = absurd (none_started f at e n m'.0 m.0)
one_answer f at Begun Begun m m' = refl
one_answer f at Begun Bad m m' = absurd (m'.1 (m.1.0, m.1.1, m.1.2))
one_answer f at Begun Long m m' = absurd (omega (arith, m.1.3, m'.2 m.1.0 m.1.1 m.1.2))
one_answer f at Bad (Token e n) m m' = absurd (none_started f at e n m'.0 m.0)
one_answer f at Bad (Waiting e n) m m' = absurd (none_started f at e n m'.0 m.0)
one_answer f at Bad Begun m m' = absurd (m.1 (m'.1.0, m'.1.1, m'.1.2))
one_answer f at Bad Bad m m' = refl
one_answer f at Bad Long m m' = absurd (m.1 m'.1)
one_answer f at Long (Token e n) m m' = absurd (none_started f at e n m'.0 m.0)
one_answer f at Long (Waiting e n) m m' = absurd (none_started f at e n m'.0 m.0)
one_answer f at Long Begun m m' = absurd (omega (arith, m'.1.3, m.2 m'.1.0 m'.1.1 m'.1.2))
one_answer f at Long Bad m m' = absurd (m'.1 m.1)
one_answer f at Long Long m m' = refl

-- no name after < or </
pub no_open : (x : ℕ) (g : List ℕ) → name_first x ≡ false → (x ≡ 47 → ⊥) → (t : Tok) → Good t → (u : List ℕ) → 60 ∷ x ∷ g ≡ bytes t ++ u → ⊥
no_open x g h k (tag start [] b) ok u e = ok.0
no_open x g h k (tag start (y ∷ n) b) ok u e = true≢false (sym ok.0.0 ∙ ap name_first (sym (head-eq_of_cons-eq (tail-eq_of_cons-eq e))) ∙ h)
no_open x g h k (tag end n b) ok u e = k (head-eq_of_cons-eq (tail-eq_of_cons-eq e))
no_open x g h k (tag empty [] b) ok u e = ok.0
no_open x g h k (tag empty (y ∷ n) b) ok u e = true≢false (sym ok.0.0 ∙ ap name_first (sym (head-eq_of_cons-eq (tail-eq_of_cons-eq e))) ∙ h)
no_open x g h k (ref y) ok u e = let q = ref_head y 60 (x ∷ g) u e in omega arith
no_open x g h k (numeric j ds) ok u e = let q = head-eq_of_cons-eq e in omega arith
no_open x g h k (line y) ok u e = let q = line_head y 60 (x ∷ g) u e in omega arith
no_open x g h k (char c) ok u e = (char_head c 60 (x ∷ g) u ok e).0 refl

pub no_end : (x : ℕ) (g : List ℕ) → name_first x ≡ false → (t : Tok) → Good t → (u : List ℕ) → 60 ∷ 47 ∷ x ∷ g ≡ bytes t ++ u → ⊥
no_end x g h (tag end [] b) ok u e = ok.0
no_end x g h (tag end (y ∷ n) b) ok u e = true≢false (sym ok.0.0 ∙ ap name_first (sym (head-eq_of_cons-eq (tail-eq_of_cons-eq (tail-eq_of_cons-eq e)))) ∙ h)
no_end x g h (tag start [] b) ok u e = ok.0
no_end x g h (tag start (y ∷ n) b) ok u e = true≢false (sym ok.0.0 ∙ ap name_first (sym (head-eq_of_cons-eq (tail-eq_of_cons-eq e))))
no_end x g h (tag empty [] b) ok u e = ok.0
no_end x g h (tag empty (y ∷ n) b) ok u e = true≢false (sym ok.0.0 ∙ ap name_first (sym (head-eq_of_cons-eq (tail-eq_of_cons-eq e))))
no_end x g h (ref y) ok u e = let q = ref_head y 60 (47 ∷ x ∷ g) u e in omega arith
no_end x g h (numeric j ds) ok u e = let q = head-eq_of_cons-eq e in omega arith
no_end x g h (line y) ok u e = let q = line_head y 60 (47 ∷ x ∷ g) u e in omega arith
no_end x g h (char c) ok u e = (char_head c 60 (47 ∷ x ∷ g) u ok e).0 refl

-- a token has a byte
pub token_cons : (t : Tok) (u : List ℕ) → Good t → bytes t ++ u ≡ [] → ⊥
token_cons (tag start n b) u ok e = let z : ◌≡◌ {A = ℕ} 0 1 = cc in omega arith
token_cons (tag end n b) u ok e = let z : ◌≡◌ {A = ℕ} 0 1 = cc in omega arith
token_cons (tag empty n b) u ok e = let z : ◌≡◌ {A = ℕ} 0 1 = cc in omega arith
token_cons (ref amp) u ok e = let z : ◌≡◌ {A = ℕ} 0 1 = cc in omega arith
token_cons (ref lt) u ok e = let z : ◌≡◌ {A = ℕ} 0 1 = cc in omega arith
token_cons (ref gt) u ok e = let z : ◌≡◌ {A = ℕ} 0 1 = cc in omega arith
token_cons (ref apos) u ok e = let z : ◌≡◌ {A = ℕ} 0 1 = cc in omega arith
token_cons (ref quot) u ok e = let z : ◌≡◌ {A = ℕ} 0 1 = cc in omega arith
token_cons (numeric k ds) u ok e = let z : ◌≡◌ {A = ℕ} 0 1 = cc in omega arith
token_cons (line crlf) u ok e = let z : ◌≡◌ {A = ℕ} 0 1 = cc in omega arith
token_cons (line cr) u ok e = let z : ◌≡◌ {A = ℕ} 0 1 = cc in omega arith
token_cons (char c) u ok e =
    let w = utf8_cons c in
    let q : w.0 ∷ (w.1 ++ u) ≡ [] = ap (λ (l : List ℕ). l ++ u) (sym w.2) ∙ e in
    let z : ◌≡◌ {A = ℕ} 0 1 = cc in omega arith
