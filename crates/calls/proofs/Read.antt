-- What is read in a part: something at each place; the same with more bytes behind it unless it is only begun, or the number of a reference that was cut off; the
-- same with other bytes before it; a token that is read stands there, and one that stands there is read; and the run's token of what is read is that of the
-- token as it is spelled.
-- Assumes nothing.
use mathlib.Core.Path.{◌≡◌, refl, sym, ap, ap₂, ◌∙◌, subst}
use mathlib.Core.Logic.{◌⊎◌, inl, inr}
use mathlib.Core.Bool.{Bool, true, false}
use mathlib.Core.List.{List, [], ◌∷◌, ◌++◌, append-nil, append_assoc}
use Prim.Native.Nat.{ℕ, ◌+◌, ◌≤◌, ◌<◌}
use native.Mathlib.Omega.{arith}
use native.Mathlib.Nat.{add-zero}
use lib.ListN.{length, take, drop, length-append, length-take, length-drop, take-append-drop}
use lib.Seq.{drop-drop, drop-append_seam, take-append_seam}
use Rattle.text.specs.Chars.{Char}
use Rattle.tokens.specs.declared.Event.{Event}
use Rattle.tokens.specs.declared.Event.TheVariants.{Character}
use Rattle.tokens.specs.declared.Answer.{Answer}
use Rattle.tokens.specs.declared.Answer.TheVariants.{Token, Waiting, Begun, Bad, Long}
use Rattle.tokens.specs.Tokens.{Kind, start, end, empty, Tok, tag, ref, numeric, line, char, Good, opening_bytes, closing_bytes, bytes, tag_event, event_of, front, Means, Longest}
use Rattle.tokens.specs.Stream.{settled, ReadAs, Reads, flat, AllGood, AllShort, Followed, AllWhole, events_at, NameAt}
use Rattle.tokens.specs.Parts.{CutNumber}
use Rattle.tokens.proofs.Theory.{token_cons}
use Rattle.tokens.proofs.Reading.{begun_none}
use Rattle.tokens.proofs.Streams.{read_longest, stands_at, token_moves, event_char, read_split, read_short, reads_all, tag_name, token_at as stands_token}
use Rattle.tokens.proofs.Parts.{read_stays}
use Rattle.tokens.proofs.Readable.{some_answer}
use Rattle.sheet.specs.Sheet.{Sheet}
use Rattle.runs.specs.Spells.{start_token, end_token, empty_token}
use Rattle.calls.specs.Names.{tag_named, token_for, token_of}
use Rattle.calls.specs.Parts.{EndTold}

module _ (more : Bool) (s : List ℕ) (at : ℕ) where
  -- a whole token is read, whether or not more is to come
  pub read_plain : (e : Event) (next : ℕ) → Means (front s at) at (Token e (record { at = next })) → ReadAs more s at (Token e (record { at = next }))
  read_plain e next m = (Token e (record { at = next }), m, refl)

  -- something is read at each place
  pub some_read : (x : Answer) × ReadAs more s at x
  some_read = let a = some_answer s at in (settled more a.0, (a.0, a.1, refl))

  -- where nothing is left
  pub none_read : length (drop at s) ≡ 0 → ReadAs more s at Begun
  none_read h = (Begun, begun_none (front s at) at (omega (arith, length-take 32 (drop at s), h)), refl)

-- what is told of the end is so: more bytes change nothing, unless a token is only begun, or it is the number of a reference that was cut off
pub read_on : (b more : Bool) (s r : List ℕ) (at : ℕ) (x : Answer) → EndTold b r more → (x ≡ Begun → ⊥) → ReadAs b s at x →
    ReadAs more (s ++ r) at x ⊎ ((x ≡ Long) × ReadAs more (s ++ r) at Bad × CutNumber (front s at))
read_on b more s r at x (inl t) n m = read_stays more s r at x n (subst (λ (c : Bool). ReadAs c s at x) t m)
read_on b more s r at x (inr (l, t)) n m =
    let w : s ≡ s ++ r = sym (append-nil s) ∙ ap (λ (y : List ℕ). s ++ y) (sym l) in
    inl (subst (λ (y : List ℕ). ReadAs more y at x) w (subst (λ (c : Bool). ReadAs c s at x) t m))

-- what is read is settled
pub never_waits : (more : Bool) (s : List ℕ) (at : ℕ) (e : Event) (next : _) → ReadAs more s at (Waiting e next) → ⊥
never_waits more s at e next (y, m, q) = by more y q
  where
    by : (b : Bool) (y : Answer) → Waiting e next ≡ settled b y → ⊥
    by b (Token e' n) q = let z : ◌≡◌ {A = ℕ} 0 1 = cc in omega arith
    by true (Waiting e' n) q = let z : ◌≡◌ {A = ℕ} 0 1 = cc in omega arith
    by false (Waiting e' n) q = let z : ◌≡◌ {A = ℕ} 0 1 = cc in omega arith
    by b Begun q = let z : ◌≡◌ {A = ℕ} 0 1 = cc in omega arith
    by b Bad q = let z : ◌≡◌ {A = ℕ} 0 1 = cc in omega arith
    by b Long q = let z : ◌≡◌ {A = ℕ} 0 1 = cc in omega arith

nil_long : (l : List ℕ) → (l ≡ [] → ⊥) → 0 < length l
nil_long [] h = absurd (h refl)
nil_long (x ∷ l) h = omega arith

pub token_long : (t : Tok) → Good t → 0 < length (bytes t)
token_long t g = nil_long (bytes t) (λ e. token_cons t [] g (append-nil (bytes t) ∙ e))

-- a token that is read stands there
pub record TokenAt (more : Bool) (s : List ℕ) (at : ℕ) (e : Event) (next : ℕ) : Type 0 where
  pub tok : Tok
  pub good : Good tok
  pub short : length (bytes tok) ≤ 32
  pub event : e ≡ event_of at tok
  pub ends : next ≡ at + length (bytes tok)
  pub split : drop at s ≡ bytes tok ++ drop next s
  pub whole : Followed more tok (drop next s)

module _ (more : Bool) (s : List ℕ) (at : ℕ) (e : Event) (next : ℕ) (r : ReadAs more s at (Token e (record { at = next }))) where
  pub read_token : TokenAt more s at e next
  read_token =
      let (t, g, i, q, d, f) = read_split more s at e (record { at = next }) r in
      record {
        tok = t;
        good = g;
        short = omega (arith, q, read_short more s at e (record { at = next }) r);
        event = i;
        ends = q;
        split = d;
        whole = f;
      }

  -- the cursor moves on, and stays within the part
  pub read_moves : at ≤ length s → (at < next) × (next ≤ length s)
  read_moves h = token_moves s at e (record { at = next }) h (read_longest more s at e (record { at = next }) r)

-- the character of an event is one of the Char set
pub read_char : (more : Bool) (s : List ℕ) (at c : ℕ) (l : Bool) (next : ℕ) → ReadAs more s at (Token (Character c l) (record { at = next })) → Char c
read_char more s at c l next r = event_char (front s at) at c l (record { at = next }) (read_longest more s at (Character c l) (record { at = next }) r)

-- and the name of a tag's
pub read_name : (more : Bool) (k : Kind) (s : List ℕ) (at from len next : ℕ) → ReadAs more s at (Token (tag_event k from len) (record { at = next })) → NameAt k s at from len
read_name more k s at from len next r =
    tag_name k s at from len (record { at = next }) (read_longest more s at (tag_event k from len) (record { at = next }) r)

-- a token that stands in a part is read there
module _ (s : List ℕ) (at : ℕ) (t : Tok) (r : List ℕ) (e : drop at s ≡ bytes t ++ r) (g : Good t) (h : length (bytes t) ≤ 32) where
  inside : length (take at s) ≡ at
  inside = omega (arith, length-take at s, length-drop at s, ap length e, length-append (bytes t) r, token_long t g)

  around : take at s ++ (bytes t ++ r) ≡ s
  around = ap (λ (l : List ℕ). take at s ++ l) (sym e) ∙ take-append-drop at s

  -- whatever follows, and whether or not more is to come
  pub token_means : Followed true t r → Means (front s at) at (Token (event_of at t) (record { at = at + length (bytes t) }))
  token_means f =
      subst (λ (i : ℕ). Means (front s i) i (Token (event_of i t) (record { at = i + length (bytes t) }))) inside
      (subst (λ (l : List ℕ). Means (front l (length (take at s))) (length (take at s)) (Token (event_of (length (take at s)) t) (record { at = length (take at s) + length (bytes t) }))) around
      (stands_token (take at s) r t g h f))

  pub token_reads : (more : Bool) → Followed more t r → ReadAs more s at (Token (event_of at t) (record { at = at + length (bytes t) }))
  token_reads more f =
      subst (λ (i : ℕ). ReadAs more s i (Token (event_of i t) (record { at = i + length (bytes t) }))) inside
      (subst (λ (l : List ℕ). ReadAs more l (length (take at s)) (Token (event_of (length (take at s)) t) (record { at = length (take at s) + length (bytes t) }))) around
      (stands_at more (take at s) r t g h f))

-- what was read, is a list of tokens
pub record TokensAt (more : Bool) (s : List ℕ) (at : ℕ) (es : List Event) (to : ℕ) : Type 0 where
  pub toks : List Tok
  pub good : AllGood toks
  pub short : AllShort toks
  pub events : es ≡ events_at at toks
  pub ends : to ≡ at + length (flat toks)
  pub split : drop at s ≡ flat toks ++ drop to s
  pub whole : AllWhole more toks (drop to s)

pub read_tokens : (more : Bool) (s : List ℕ) (at : ℕ) (es : List Event) (to : ℕ) → Reads more s at es to → TokensAt more s at es to
read_tokens more s at es to r =
    let (ts, g, p, q, d, w, h) = reads_all more s at es to r in
    record { toks = ts; good = g; short = h; events = p; ends = q; split = d; whole = w }

-- the tokens of the events that are read are those of the tokens as they are spelled
module _ (a : Sheet) (s : List ℕ) where
  name_at : (k : Kind) (at : ℕ) (n b r : List ℕ) → drop at s ≡ bytes (tag k n b) ++ r → take (length n) (drop (at + length (opening_bytes k)) s) ≡ n
  name_at k at n b r e =
      let d : drop at s ≡ opening_bytes k ++ (n ++ ((b ++ closing_bytes k) ++ r)) =
      e ∙ append_assoc (opening_bytes k) (n ++ (b ++ closing_bytes k)) r ∙ ap (λ (l : List ℕ). opening_bytes k ++ l) (append_assoc n (b ++ closing_bytes k) r) in
      ap (take (length n)) (sym (drop-drop (length (opening_bytes k)) at s) ∙ ap (drop (length (opening_bytes k))) d ∙ drop-append_seam (opening_bytes k) (n ++ ((b ++ closing_bytes k) ++ r)))
      ∙ take-append_seam n ((b ++ closing_bytes k) ++ r)

  pub token_at : (t : Tok) (at : ℕ) (r : List ℕ) → drop at s ≡ bytes t ++ r → token_of a s (event_of at t) ≡ token_for a t
  token_at (tag start n b) at r e = ap (λ (l : List ℕ). start_token (tag_named a.names l)) (name_at start at n b r e)
  token_at (tag end n b) at r e = ap (λ (l : List ℕ). end_token (tag_named a.names l)) (name_at end at n b r e)
  token_at (tag empty n b) at r e = ap (λ (l : List ℕ). empty_token (tag_named a.names l)) (name_at empty at n b r e)
  token_at (ref x) at r e = refl
  token_at (numeric k ds) at r e = refl
  token_at (line x) at r e = refl
  token_at (char c) at r e = refl

  pub token_of_lem : {more : Bool} {at : ℕ} {e : Event} {next : ℕ} (t : TokenAt more s at e next) → token_of a s e ≡ token_for a t.tok
  token_of_lem {more} {at} {e} {next} t = ap (token_of a s) t.event ∙ token_at t.tok at (drop next s) t.split

-- an answer without a whole token
abbrev pub NoToken : Answer → Type 0
NoToken (Token e next) = ⊥
NoToken (Waiting e next) = ⊥
NoToken Begun = Unit {0}
NoToken Bad = Unit {0}
NoToken Long = Unit {0}

-- what is read depends on the bytes from there on alone: what stands before them changes its places only
module _ (more : Bool) (s s' : List ℕ) (at at' : ℕ) (left : drop at s ≡ drop at' s') where
  front_same : front s at ≡ front s' at'
  front_same = ap (take 32) left

  -- what waits at one place waits at the other
  waits_there : (f : List ℕ) (e : Event) (next : _) → Means f at (Waiting e next) → (e' : Event) × (next' : _) × Means f at' (Waiting e' next')
  waits_there f e next (l, b) = (
    event_of at' l.token,
    record { at = at' + length (bytes l.token) },
    (record { token = l.token; good = l.good; starts = l.starts; event = refl; ends = refl; longest = l.longest }, b),
  )

  begun_there : (y : Answer) → Means (front s at) at y → (b : Bool) → Begun ≡ settled b y → ReadAs b s' at' Begun
  begun_there (Token e next) m b q = absurd (let z : ◌≡◌ {A = ℕ} 0 1 = cc in omega arith)
  begun_there (Waiting e next) m true q =
      let (e', next', w) = waits_there (front s at) e next m in
      (Waiting e' next', subst (λ (f : List ℕ). Means f at' (Waiting e' next')) front_same w, refl)
  begun_there (Waiting e next) m false q = absurd (let z : ◌≡◌ {A = ℕ} 0 1 = cc in omega arith)
  begun_there Begun m b q = (Begun, subst (λ (f : List ℕ). Means f at' Begun) front_same m, refl)
  begun_there Bad m b q = absurd (let z : ◌≡◌ {A = ℕ} 0 1 = cc in omega arith)
  begun_there Long m b q = absurd (let z : ◌≡◌ {A = ℕ} 0 1 = cc in omega arith)

  bad_there : (y : Answer) → Means (front s at) at y → (b : Bool) → Bad ≡ settled b y → ReadAs b s' at' Bad
  bad_there (Token e next) m b q = absurd (let z : ◌≡◌ {A = ℕ} 0 1 = cc in omega arith)
  bad_there (Waiting e next) m true q = absurd (let z : ◌≡◌ {A = ℕ} 0 1 = cc in omega arith)
  bad_there (Waiting e next) m false q = absurd (let z : ◌≡◌ {A = ℕ} 0 1 = cc in omega arith)
  bad_there Begun m b q = absurd (let z : ◌≡◌ {A = ℕ} 0 1 = cc in omega arith)
  bad_there Bad m b q = (Bad, subst (λ (f : List ℕ). Means f at' Bad) front_same m, refl)
  bad_there Long m b q = absurd (let z : ◌≡◌ {A = ℕ} 0 1 = cc in omega arith)

  long_there : (y : Answer) → Means (front s at) at y → (b : Bool) → Long ≡ settled b y → ReadAs b s' at' Long
  long_there (Token e next) m b q = absurd (let z : ◌≡◌ {A = ℕ} 0 1 = cc in omega arith)
  long_there (Waiting e next) m true q = absurd (let z : ◌≡◌ {A = ℕ} 0 1 = cc in omega arith)
  long_there (Waiting e next) m false q = absurd (let z : ◌≡◌ {A = ℕ} 0 1 = cc in omega arith)
  long_there Begun m b q = absurd (let z : ◌≡◌ {A = ℕ} 0 1 = cc in omega arith)
  long_there Bad m b q = absurd (let z : ◌≡◌ {A = ℕ} 0 1 = cc in omega arith)
  long_there Long m b q = (Long, subst (λ (f : List ℕ). Means f at' Long) front_same m, refl)

  pub none_there : (x : Answer) → NoToken x → ReadAs more s at x → ReadAs more s' at' x
  none_there (Token e next) k r = absurd k
  none_there (Waiting e next) k r = absurd k
  none_there Begun k (y, m, q) = begun_there y m more q
  none_there Bad k (y, m, q) = bad_there y m more q
  none_there Long k (y, m, q) = long_there y m more q

  -- a token there, its event, and where it ends
  pub record Alike (e : Event) (next : ℕ) : Type 0 where
    pub event : Event
    pub to : ℕ
    pub read : ReadAs more s' at' (Token event (record { at = to }))
    pub as_long : next + at' ≡ at + to
    pub same : (a : Sheet) → token_of a s' event ≡ token_of a s e

  pub token_there : (e : Event) (next : ℕ) → ReadAs more s at (Token e (record { at = next })) → Alike e next
  token_there e next r =
      let t = read_token more s at e next r in
      let stands : drop at' s' ≡ bytes t.tok ++ drop next s = sym left ∙ t.split in
      record {
        event = event_of at' t.tok;
        to = at' + length (bytes t.tok);
        read = token_reads s' at' t.tok (drop next s) stands t.good t.short more t.whole;
        as_long = omega (arith, t.ends);
        same = λ a. token_at a s' t.tok at' (drop next s) stands ∙ sym (token_of_lem a s t);
      }
