-- Runs of tokens: a token that stands in a stream is what the reader answers there; bytes are spelled by one list of tokens at most; and a run of a given number of events is one.
-- Assumes nothing.
use mathlib.Core.Path.{◌≡◌, refl, sym, ap, ap₂, ◌∙◌, subst}
use mathlib.Core.Bool.{Bool, true, false, true≢false}
use mathlib.Core.List.{List, [], ◌∷◌, ◌++◌, append-nil, append_assoc, tail-eq_of_cons-eq}
use Prim.Native.Nat.{ℕ, ◌+◌, ◌-◌, ◌≤◌, ◌<◌}
use native.Mathlib.Omega.{arith}
use native.Mathlib.Nat.{add-sub_of_le, add-zero}
use lib.ListN.{length, take, drop, length-append, length-take, length-drop, take-append-drop, drop_of_length-le}
use lib.Seq.{drop-append_seam, take-append-add, take-append_seam, drop-drop}
use Rattle.text.specs.Chars.{Char}
use Rattle.text.specs.Numerals.{value_of}
use Rattle.text.proofs.Shapes.{cons≢[]}
use mathlib.Core.Logic.{◌⊎◌, inl, inr, ⊎_elim}
use Rattle.tokens.specs.declared.Cursor.{Cursor}
use Rattle.tokens.specs.declared.Event.{Event}
use Rattle.tokens.specs.declared.Event.TheVariants.{Start, End, Empty, Character}
use Rattle.tokens.specs.declared.Answer.{Answer}
use Rattle.tokens.specs.declared.Answer.TheVariants.{Token, Waiting, Begun, Bad, Long}
use Rattle.tokens.specs.Tokens.{Tok, tag, ref, numeric, line, crlf, cr, char, Kind, start, end, empty, Ref, amp, lt, gt, apos, quot, Good, bytes, stands, tag_event, event_of, front, Longest, Means, opening_bytes, closing_bytes}
use Rattle.tokens.specs.Stream.{settled, ReadAs, Reads, flat, AllGood, AllShort, Followed, AllWhole, events_at, NameAt}
use Rattle.tokens.proofs.Theory.{agree, one_answer, token_cons, whole, waits, only_cr, followed_ended}
use Rattle.tokens.proofs.Reading.{tag_length, starts_length}

-- the token that is read, and what follows it, in the front and in the stream
followed_take : (more : Bool) (t : Tok) (r : List ℕ) → Followed more t r → Followed more t (take (32 - length (bytes t)) r)
followed_take more (tag k n b) r f = tt
followed_take more (ref x) r f = tt
followed_take more (numeric k ds) r f = tt
followed_take more (line crlf) r f = tt
followed_take more (line cr) [] f = f
followed_take more (line cr) (x ∷ r) f = f
followed_take more (char c) r f = tt

pub followed_append : (t : Tok) (u w : List ℕ) → Followed true t u → Followed true t (u ++ w)
followed_append (tag k n b) u w f = tt
followed_append (ref x) u w f = tt
followed_append (numeric k ds) u w f = tt
followed_append (line crlf) u w f = tt
followed_append (line cr) [] w f = absurd (true≢false f)
followed_append (line cr) (x ∷ u) w f = f
followed_append (char c) u w f = tt

followed_by : (more : Bool) (t : Tok) (u : List ℕ) → Followed true t u → Followed more t u
followed_by true t u f = f
followed_by false t u f = followed_ended t u f

-- where nothing is to come, a token is followed as if more were, or is a CR at the end
at_the_end : (t : Tok) (r : List ℕ) → Followed false t r → Followed true t r ⊎ ((t ≡ line cr) × (r ≡ []))
at_the_end (tag k n b) r f = inl tt
at_the_end (ref x) r f = inl tt
at_the_end (numeric k ds) r f = inl tt
at_the_end (line crlf) r f = inl tt
at_the_end (line cr) [] f = inr (refl, refl)
at_the_end (line cr) (x ∷ r) f = inl f
at_the_end (char c) r f = inl tt

-- a whole token is followed as it may be whatever is to come
pub token_followed : (f : List ℕ) (at : ℕ) (e : Event) (n : Cursor) (m : Means f at (Token e n)) (t : Tok) → m.0.token ≡ t → (u : List ℕ) → f ≡ bytes t ++ u → Followed true t u
token_followed f at e n m (tag k x b) p u q = tt
token_followed f at e n m (ref x) p u q = tt
token_followed f at e n m (numeric k ds) p u q = tt
token_followed f at e n m (line crlf) p u q = tt
token_followed f at e n m (line cr) p [] q = absurd (m.1 (line crlf, tt, (10 ∷ [], ap (λ (l : List ℕ). l ++ (10 ∷ [])) (sym q), cons≢[])))
token_followed f at e n m (line cr) p (x ∷ u) q =
    λ h. omega (arith, m.0.longest (line crlf) tt (u, q ∙ ap (λ (y : ℕ). 13 ∷ y ∷ u) h), ap (λ (y : Tok). length (bytes y)) p)
token_followed f at e n m (char c) p u q = tt

-- what waits is a CR, and nothing follows
pub waiting_is : (f : List ℕ) (at : ℕ) (e : Event) (n : Cursor) (m : Means f at (Waiting e n)) → (m.0.token ≡ line cr) × (f ≡ 13 ∷ []) × (e ≡ Character 10 true) × (n.at ≡ at + 1)
waiting_is f at e n m =
    let L = m.0 in
    let w = only_cr f L.token m.1.0 L.good m.1.1 L.starts m.1.2 in
    (w.0, L.starts.1 ∙ ap₂ (λ (x : Tok) (l : List ℕ). bytes x ++ l) w.0 w.2, L.event ∙ ap (event_of at) w.0, L.ends ∙ ap (λ (x : Tok). at + length (bytes x)) w.0)

-- a token that stands in a stream, after p and before r
front_of : (p r : List ℕ) (t : Tok) → length (bytes t) ≤ 32 → front (p ++ (bytes t ++ r)) (length p) ≡ bytes t ++ take (32 - length (bytes t)) r
front_of p r t h =
    let w : List ℕ = bytes t in
    ap (take 32) (drop-append_seam p (w ++ r)) ∙ ap (λ (n : ℕ). take n (w ++ r)) (sym (add-sub_of_le h)) ∙ take-append-add w r (32 - length w)

pub token_at : (p r : List ℕ) (t : Tok) → Good t → length (bytes t) ≤ 32 → Followed true t r
    → Means (front (p ++ (bytes t ++ r)) (length p)) (length p) (Token (event_of (length p) t) (record { at = length p + length (bytes t) }))
token_at p r t ok h f =
    let g = followed_take true t r f in
    whole (front (p ++ (bytes t ++ r)) (length p)) (length p) t (take (32 - length (bytes t)) r) ok (front_of p r t h)
    (event_of (length p) t) (record { at = length p + length (bytes t) }) g (followed_ended t (take (32 - length (bytes t)) r) g) refl refl

pub stands_at : (more : Bool) (p r : List ℕ) (t : Tok) → Good t → length (bytes t) ≤ 32 → Followed more t r
    → ReadAs more (p ++ (bytes t ++ r)) (length p) (Token (event_of (length p) t) (record { at = length p + length (bytes t) }))
stands_at true p r t ok h f = (Token (event_of (length p) t) (record { at = length p + length (bytes t) }), token_at p r t ok h f, refl)
stands_at false p r t ok h f =
    ⊎_elim (λ g. (Token (event_of (length p) t) (record { at = length p + length (bytes t) }), token_at p r t ok h g, refl))
    (λ g.
    subst (λ (x : Tok). ReadAs false (p ++ (bytes x ++ r)) (length p) (Token (event_of (length p) x) (record { at = length p + length (bytes x) }))) (sym g.0) (
      Waiting (Character 10 true) (record { at = length p + 1 }),
      waits (front (p ++ (13 ∷ r)) (length p)) (length p) (ap (λ (l : List ℕ). front (p ++ (13 ∷ l)) (length p)) g.1 ∙ front_of p [] (line cr) (omega arith)),
      refl,
    ))
    (at_the_end t r f)

-- what is read is one answer
pub read_one : (more : Bool) (s : List ℕ) (at : ℕ) (a a' : Answer) → ReadAs more s at a → ReadAs more s at a' → a ≡ a'
read_one more s at a a' (b, m, e) (b', m', e') = e ∙ ap (settled more) (one_answer (front s at) at b b' m m') ∙ sym e'

-- a token that is read is the longest that the front starts with
abbrev Starting : List ℕ → ℕ → Answer → Type 0
Starting f at (Token e n) = Longest f at e n
Starting f at (Waiting e n) = Unit {0}
Starting f at Begun = Unit {0}
Starting f at Bad = Unit {0}
Starting f at Long = Unit {0}

starting : (more : Bool) (f : List ℕ) (at : ℕ) (b : Answer) → Means f at b → Starting f at (settled more b)
starting more f at (Token e n) m = m.0
starting true f at (Waiting e n) m = tt
starting false f at (Waiting e n) m = m.0
starting more f at Begun m = tt
starting more f at Bad m = tt
starting more f at Long m = tt

pub read_longest : (more : Bool) (s : List ℕ) (at : ℕ) (e : Event) (n : Cursor) → ReadAs more s at (Token e n) → Longest (front s at) at e n
read_longest more s at e n (b, m, p) = subst (λ (a : Answer). Starting (front s at) at a) (sym p) (starting more (front s at) at b m)

-- bytes that are a list of tokens are one list of tokens
pub flat_one : (ts ts' : List Tok) → AllGood ts → AllGood ts' → AllWhole false ts [] → AllWhole false ts' [] → flat ts ≡ flat ts' → ts ≡ ts'
flat_one [] [] g g' w w' e = refl
flat_one [] (t ∷ ts) g g' w w' e = absurd (token_cons t (flat ts) g'.0 (sym e))
flat_one (t ∷ ts) [] g g' w w' e = absurd (token_cons t (flat ts) g.0 e)
flat_one (t ∷ ts) (t' ∷ ts') g g' w w' e =
    let f = subst (λ (l : List ℕ). Followed false t l) (append-nil (flat ts)) w.0 in
    let f' = subst (λ (l : List ℕ). Followed false t' l) (append-nil (flat ts')) w'.0 in
    let i = agree t t' g.0 g'.0 (flat ts) (flat ts') f f' e in
    ap₂ (λ (x : Tok) (xs : List Tok). x ∷ xs) i.0 (flat_one ts ts' g.1 g'.1 w.1 w'.1 i.1)

-- a run of as many events from one place is one run
event_part : Answer → Event
event_part (Token e n) = e
event_part (Waiting e n) = e
event_part Begun = Start 0 0
event_part Bad = Start 0 0
event_part Long = Start 0 0

at_part : Answer → ℕ
at_part (Token e n) = n.at
at_part (Waiting e n) = n.at
at_part Begun = 0
at_part Bad = 0
at_part Long = 0

pub reads_one : (more : Bool) (s : List ℕ) (at : ℕ) (es es' : List Event) (to to' : ℕ) → length es ≡ length es' → Reads more s at es to → Reads more s at es' to' → (es ≡ es') × (to ≡ to')
unfolding event_part at_part
reads_one more s at [] [] to to' l r r' = (refl, sym r ∙ r')
reads_one more s at [] (e ∷ es) to to' l r r' = absurd (omega arith)
reads_one more s at (e ∷ es) [] to to' l r r' = absurd (omega arith)
reads_one more s at (e ∷ es) (e' ∷ es') to to' l r r' =
    let p = read_one more s at (Token e (record { at = r.0 })) (Token e' (record { at = r'.0 })) r.1 r'.1 in
    let q : r.0 ≡ r'.0 = ap at_part p in
    let i = reads_one more s r'.0 es es' to to' (omega arith) (subst (λ (n : ℕ). Reads more s n es to) q r.2) r'.2 in
    (ap₂ (λ (x : Event) (xs : List Event). x ∷ xs) (ap event_part p) i.0, i.1)

-- events by number, and a character's value
number : Event → ℕ
number (Start a b) = 0
number (End a b) = 0
number (Empty a b) = 0
number (Character c l) = 1

value : Event → ℕ
value (Start a b) = 0
value (End a b) = 0
value (Empty a b) = 0
value (Character c l) = c

stands_char : (x : Ref) → Char (stands x)
stands_char amp = inr (inr (inr (inl (omega arith))))
stands_char lt = inr (inr (inr (inl (omega arith))))
stands_char gt = inr (inr (inr (inl (omega arith))))
stands_char apos = inr (inr (inr (inl (omega arith))))
stands_char quot = inr (inr (inr (inl (omega arith))))

zero≢one : ◌≡◌ {A = ℕ} 1 0 → ⊥
zero≢one e = omega arith

token_long : (t : Tok) → Good t → 1 ≤ length (bytes t)
token_long t ok = go (bytes t) refl
  where
    go : (l : List ℕ) → bytes t ≡ l → 1 ≤ length (bytes t)
    go [] e = absurd (token_cons t [] ok (append-nil (bytes t) ∙ e))
    go (x ∷ l) e = omega (arith, ap length e)

-- one more token at the end of a run
pub reads_snoc : (more : Bool) (s : List ℕ) (at : ℕ) (es : List Event) (to : ℕ) (e : Event) (next : ℕ) → Reads more s at es to → ReadAs more s to (Token e (record { at = next })) → Reads more s at (es ++ (e ∷ [])) next
reads_snoc more s at [] to e next r m = (next, subst (λ (n : ℕ). ReadAs more s n (Token e (record { at = next }))) (sym r) m, refl)
reads_snoc more s at (x ∷ es) to e next r m = (r.0, r.1, reads_snoc more s r.0 es to e next r.2 m)

-- the cursor moves on, and stays within the stream
pub token_moves : (s : List ℕ) (at : ℕ) (e : Event) (n : Cursor) → at ≤ length s → Longest (front s at) at e n → (at < n.at) × (n.at ≤ length s)
token_moves s at e n h L =
    let t : Tok = L.token in
    let v : List ℕ = L.starts.0 in
    let l : length (front s at) ≤ length s - at = omega (arith, length-take 32 (drop at s), length-drop at s) in
    let k : length (front s at) ≡ length (bytes t) + length v = ap length L.starts.1 ∙ length-append (bytes t) v in
    (omega (arith, L.ends, token_long t L.good), omega (arith, L.ends, l, k))

-- the character of a character event is one of the Char set
char_event : (at x : ℕ) (l : Bool) (t : Tok) → Good t → Character x l ≡ event_of at t → Char x
unfolding number value
char_event at x l (tag start m b) ok p = absurd (zero≢one (ap number p))
char_event at x l (tag end m b) ok p = absurd (zero≢one (ap number p))
char_event at x l (tag empty m b) ok p = absurd (zero≢one (ap number p))
char_event at x l (ref y) ok p = subst (λ (c : ℕ). Char c) (sym (ap value p)) (stands_char y)
char_event at x l (numeric k ds) ok p = subst (λ (c : ℕ). Char c) (sym (ap value p)) ok.1
char_event at x l (line y) ok p = inr (inl (ap value p))
char_event at x l (char c) ok p = subst (λ (d : ℕ). Char d) (sym (ap value p)) ok.0

pub event_char : (f : List ℕ) (at x : ℕ) (l : Bool) (n : Cursor) → Longest f at (Character x l) n → Char x
event_char f at x l n L = char_event at x l L.token L.good L.event

-- Wherever tokens stand in a stream, the reader reads them, one after the other.
pub reads_flat : (more : Bool) (ts : List Tok) (p r : List ℕ) → AllGood ts → AllShort ts → AllWhole more ts r → Reads more (p ++ (flat ts ++ r)) (length p) (events_at (length p) ts) (length p + length (flat ts))
reads_flat more [] p r g h f = sym (add-zero (length p))
reads_flat more (t ∷ ts) p r g h f =
    let w : List ℕ = bytes t in
    let e : (p ++ w) ++ (flat ts ++ r) ≡ p ++ ((w ++ flat ts) ++ r) = simp append_assoc in
    let l : length (p ++ w) ≡ length p + length w = length-append p w in
    let m : length (p ++ w) + length (flat ts) ≡ length p + length (w ++ flat ts) = omega (arith, l, length-append w (flat ts)) in
    let i = reads_flat more ts (p ++ w) r g.1 h.1 f.1 in
    let i₁ = subst (λ (s : List ℕ). Reads more s (length (p ++ w)) (events_at (length (p ++ w)) ts) (length (p ++ w) + length (flat ts))) e i in
    let i₂ = subst (λ (n : ℕ). Reads more (p ++ ((w ++ flat ts) ++ r)) (length (p ++ w)) (events_at (length (p ++ w)) ts) n) m i₁ in
    let i₃ = subst (λ (n : ℕ). Reads more (p ++ ((w ++ flat ts) ++ r)) n (events_at n ts) (length p + length (w ++ flat ts))) l i₂ in (
      length p + length w,
      subst (λ (s : List ℕ). ReadAs more (p ++ s) (length p) (Token (event_of (length p) t) (record { at = length p + length w }))) (sym (append_assoc w (flat ts) r)) (stands_at more p (flat ts ++ r) t g.0 h.0 f.0),
      i₃,
    )

-- A token that was read stands there.
rest_is : (s : List ℕ) (at : ℕ) (e : Event) (n : Cursor) (L : Longest (front s at) at e n)
    → (drop at s ≡ bytes L.token ++ drop n.at s) × (drop n.at s ≡ L.starts.0 ++ drop 32 (drop at s))
rest_is s at e n L =
    let d : List ℕ = drop at s in
    let t : Tok = L.token in
    let v : List ℕ = L.starts.0 in
    let a : d ≡ bytes t ++ (v ++ drop 32 d) = sym (take-append-drop 32 d) ∙ ap (λ (l : List ℕ). l ++ drop 32 d) L.starts.1 ∙ append_assoc (bytes t) v (drop 32 d) in
    let b : drop n.at s ≡ v ++ drop 32 d = ap (λ (i : ℕ). drop i s) L.ends ∙ sym (drop-drop (length (bytes t)) at s) ∙ ap (drop (length (bytes t))) a ∙ drop-append_seam (bytes t) (v ++ drop 32 d) in
    (a ∙ ap (λ (l : List ℕ). bytes t ++ l) (sym b), b)

pub token_split : (s : List ℕ) (at : ℕ) (e : Event) (n : Cursor) → Longest (front s at) at e n
    → (t : Tok) × Good t × (e ≡ event_of at t) × (n.at ≡ at + length (bytes t)) × (drop at s ≡ bytes t ++ drop n.at s)
token_split s at e n L = (L.token, L.good, L.event, L.ends, (rest_is s at e n L).0)

-- The same, with what follows it.
abbrev Split : Bool → List ℕ → ℕ → Event → Cursor → Type 0
Split more s at e n = (t : Tok) × Good t × (e ≡ event_of at t) × (n.at ≡ at + length (bytes t)) × (drop at s ≡ bytes t ++ drop n.at s) × Followed more t (drop n.at s)

abbrev SplitAs : Bool → List ℕ → ℕ → Answer → Type 0
SplitAs more s at (Token e n) = Split more s at e n
SplitAs more s at (Waiting e n) = Unit {0}
SplitAs more s at Begun = Unit {0}
SplitAs more s at Bad = Unit {0}
SplitAs more s at Long = Unit {0}

-- a front that is one byte is all that is left
one_left : (d : List ℕ) (x : ℕ) → take 32 d ≡ x ∷ [] → drop 32 d ≡ []
one_left d x e = drop_of_length-le d {i = 32} (omega (arith, ap length e, length-take 32 d))

token_splits : (more : Bool) (s : List ℕ) (at : ℕ) (e : Event) (n : Cursor) → Means (front s at) at (Token e n) → Split more s at e n
token_splits more s at e n m =
    let L = m.0 in
    let w = rest_is s at e n L in
    let f = token_followed (front s at) at e n m L.token refl L.starts.0 L.starts.1 in (
      L.token,
      L.good,
      L.event,
      L.ends,
      w.0,
      followed_by more L.token (drop n.at s) (subst (λ (l : List ℕ). Followed true L.token l) (sym w.1) (followed_append L.token L.starts.0 (drop 32 (drop at s)) f)),
    )

waiting_splits : (s : List ℕ) (at : ℕ) (e : Event) (n : Cursor) → Means (front s at) at (Waiting e n) → Split false s at e n
waiting_splits s at e n m =
    let L = m.0 in
    let w = rest_is s at e n L in
    let i = waiting_is (front s at) at e n m in
    let z : bytes L.token ++ L.starts.0 ≡ 13 ∷ [] = sym L.starts.1 ∙ i.1 in
    let v : L.starts.0 ≡ [] = tail-eq_of_cons-eq (ap (λ (x : Tok). bytes x ++ L.starts.0) (sym i.0) ∙ z) in
    let r : drop n.at s ≡ [] = w.1 ∙ ap₂ (λ (x y : List ℕ). x ++ y) v (one_left (drop at s) 13 i.1) in
    (line cr, tt, i.2, i.3, w.0 ∙ ap (λ (x : Tok). bytes x ++ drop n.at s) i.0, subst (λ (l : List ℕ). Followed false (line cr) l) (sym r) refl)

splits : (more : Bool) (s : List ℕ) (at : ℕ) (b : Answer) → Means (front s at) at b → SplitAs more s at (settled more b)
splits more s at (Token e n) m = token_splits more s at e n m
splits true s at (Waiting e n) m = tt
splits false s at (Waiting e n) m = waiting_splits s at e n m
splits more s at Begun m = tt
splits more s at Bad m = tt
splits more s at Long m = tt

pub read_split : (more : Bool) (s : List ℕ) (at : ℕ) (e : Event) (n : Cursor) → ReadAs more s at (Token e n)
    → (t : Tok) × Good t × (e ≡ event_of at t) × (n.at ≡ at + length (bytes t)) × (drop at s ≡ bytes t ++ drop n.at s) × Followed more t (drop n.at s)
read_split more s at e n (b, m, p) = subst (λ (a : Answer). SplitAs more s at a) (sym p) (splits more s at b m)

-- What was read, is a list of tokens of at most 32 bytes.
pub read_short : (more : Bool) (s : List ℕ) (at : ℕ) (e : Event) (n : Cursor) → ReadAs more s at (Token e n) → n.at ≤ at + 32
read_short more s at e n m =
    let L = read_longest more s at e n m in
    omega (arith, L.ends, starts_length (front s at) (bytes L.token) L.starts, length-take 32 (drop at s))

pub reads_all : (more : Bool) (s : List ℕ) (at : ℕ) (es : List Event) (to : ℕ) → Reads more s at es to
    → (ts : List Tok) × AllGood ts × (es ≡ events_at at ts) × (to ≡ at + length (flat ts)) × (drop at s ≡ flat ts ++ drop to s) × AllWhole more ts (drop to s) × AllShort ts
reads_all more s at [] to r = ([], tt, refl, sym r ∙ sym (add-zero at), ap (λ (i : ℕ). drop i s) r, tt, tt)
reads_all more s at (e ∷ es) to (next, m, r) =
    let (t, ok, p, q, a, f) = read_split more s at e (record { at = next }) m in
    let (ts, g, p', q', a', f', h) = reads_all more s next es to r in (
      t ∷ ts,
      (ok, g),
      ap₂ (λ (x : Event) (xs : List Event). x ∷ xs) p (p' ∙ ap (λ (i : ℕ). events_at i ts) q),
      omega (arith, q, q', length-append (bytes t) (flat ts)),
      a ∙ ap (λ (l : List ℕ). bytes t ++ l) a' ∙ sym (append_assoc (bytes t) (flat ts) (drop to s)),
      (subst (λ (l : List ℕ). Followed more t l) a' f, f'),
      (omega (arith, q, read_short more s at e (record { at = next }) m), h),
    )

pub reads_tokens : (more : Bool) (s : List ℕ) (at : ℕ) (es : List Event) (to : ℕ) → Reads more s at es to
    → (ts : List Tok) × AllGood ts × (es ≡ events_at at ts) × (to ≡ at + length (flat ts)) × (drop at s ≡ flat ts ++ drop to s) × AllWhole more ts (drop to s)
reads_tokens more s at es to r = let (ts, g, p, q, a, f, h) = reads_all more s at es to r in (ts, g, p, q, a, f)

-- The bytes at an event's place are the token's name.
pub name_place : (k : Kind) (s : List ℕ) (at : ℕ) (n b r : List ℕ) → drop at s ≡ (opening_bytes k ++ (n ++ (b ++ closing_bytes k))) ++ r → take (length n) (drop (at + length (opening_bytes k)) s) ≡ n
name_place k s at n b r e =
    let a : drop at s ≡ opening_bytes k ++ (n ++ ((b ++ closing_bytes k) ++ r)) = e ∙ append_assoc (opening_bytes k) (n ++ (b ++ closing_bytes k)) r ∙ ap (λ (l : List ℕ). opening_bytes k ++ l) (append_assoc n (b ++ closing_bytes k) r) in
    ap (take (length n)) (sym (drop-drop (length (opening_bytes k)) at s) ∙ ap (drop (length (opening_bytes k))) a ∙ drop-append_seam (opening_bytes k) (n ++ ((b ++ closing_bytes k) ++ r)))
    ∙ take-append_seam n ((b ++ closing_bytes k) ++ r)

-- an event's kind, if it is a tag's, and where its name stands
kind_of : Event → Kind
kind_of (Start a b) = start
kind_of (End a b) = end
kind_of (Empty a b) = empty
kind_of (Character c l) = start

from_of : Event → ℕ
from_of (Start a b) = a
from_of (End a b) = a
from_of (Empty a b) = a
from_of (Character c l) = 0

len_of : Event → ℕ
len_of (Start a b) = b
len_of (End a b) = b
len_of (Empty a b) = b
len_of (Character c l) = 0

tag_parts : (k : Kind) (a b : ℕ) → (kind_of (tag_event k a b) ≡ k) × (from_of (tag_event k a b) ≡ a) × (len_of (tag_event k a b) ≡ b) × (number (tag_event k a b) ≡ 0)
unfolding kind_of from_of len_of number
tag_parts start a b = (refl, refl, refl, refl)
tag_parts end a b = (refl, refl, refl, refl)
tag_parts empty a b = (refl, refl, refl, refl)

no_character : (k : Kind) (a b c : ℕ) (l : Bool) → tag_event k a b ≡ Character c l → ⊥
unfolding number
no_character k a b c l p = zero≢one (sym (ap number p) ∙ (tag_parts k a b).3)

opens_long : (k : Kind) → 1 ≤ length (opening_bytes k)
opens_long start = omega arith
opens_long end = omega arith
opens_long empty = omega arith

named : (k : Kind) (s : List ℕ) (at from len next : ℕ) (n b : List ℕ) → Good (tag k n b) → from ≡ at + length (opening_bytes k) → len ≡ length n
    → next ≡ at + length (bytes (tag k n b)) → drop at s ≡ bytes (tag k n b) ++ drop next s → NameAt k s at from len
named k s at from len next n b ok p q w e =
    record {
      name = n;
      gap = b;
      is_name = ok.0;
      is_gap = ok.1;
      place = p;
      long = q;
      within = omega (arith, p, q, tag_length k n b, opens_long k, ap length e, length-append (bytes (tag k n b)) (drop next s), length-drop at s);
      same = ap₂ (λ (i j : ℕ). take i (drop j s)) q p ∙ name_place k s at n b (drop next s) e;
      tagged = e ∙ ap (λ (i : ℕ). bytes (tag k n b) ++ drop i s) w;
    }

-- A tag that was read stands there, and its event points at its name.
pub tag_name : (k : Kind) (s : List ℕ) (at from len : ℕ) (next : Cursor) → Longest (front s at) at (tag_event k from len) next → NameAt k s at from len
tag_name k s at from len next m = go (token_split s at (tag_event k from len) next m)
  where
    go : (t : Tok) × Good t × (tag_event k from len ≡ event_of at t) × (next.at ≡ at + length (bytes t)) × (drop at s ≡ bytes t ++ drop next.at s) → NameAt k s at from len
    go (tag k' n b, ok, p, q, e) =
        let a = at + length (opening_bytes k') in
        let x = tag_parts k from len in
        let y = tag_parts k' a (length n) in
        let same : k' ≡ k = sym y.0 ∙ ap kind_of (sym p) ∙ x.0 in
        subst (λ (z : Kind). NameAt z s at from len) same (named k' s at from len next.at n b ok (sym x.1 ∙ ap from_of p ∙ y.1) (sym x.2 ∙ ap len_of p ∙ y.2) q e)
    go (ref x, ok, p, q, e) = absurd (no_character k from len (stands x) false p)
    go (numeric j ds, ok, p, q, e) = absurd (no_character k from len (value_of j ds) false p)
    go (line x, ok, p, q, e) = absurd (no_character k from len 10 true p)
    go (char c, ok, p, q, e) = absurd (no_character k from len c true p)

-- The same for a caller that has taken the reader's answer apart.
pub read_tag : (k : Kind) (s : List ℕ) (at : ℕ) (r : Answer) (e : Event) (next : Cursor) (from len : ℕ) → Means (front s at) at r → r ≡ Token e next → e ≡ tag_event k from len → NameAt k s at from len
read_tag k s at r e next from len m p q = tag_name k s at from len next (subst (λ (a : Answer). Means (front s at) at a) (p ∙ ap (λ (x : Event). Token x next) q) m).0

pub read_char : (s : List ℕ) (at : ℕ) (r : Answer) (e : Event) (next : Cursor) (c : ℕ) (l : Bool) → Means (front s at) at r → r ≡ Token e next → e ≡ Character c l → Char c
read_char s at r e next c l m p q = event_char (front s at) at c l next (subst (λ (a : Answer). Means (front s at) at a) (p ∙ ap (λ (x : Event). Token x next) q) m).0
