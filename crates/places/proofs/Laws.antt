-- Laws of lines and columns: what one byte more changes in a count, and the last line of bytes that are put together.
-- Assumes nothing.
use Rattle.std.proofs.Common.{◌≡◌, ℕ, zero, suc, ◌+◌, ◌-◌, ◌%◌, ◌^◌, ◌<◌, ◌≤◌, Bool, true, false, cond, not, ◌&&◌, ◌||◌, eqb, List, [], ◌∷◌, ◌++◌, length, get_or, drop, sym, refl, ap, ◌∙◌, subst, mod-eq_of_lt, add-one, arith, length-append, length-drop, drop_of_length-le, drop-cons, le-ltb, lt-ltb, eq-eqb, ne_eqb, eqb-true}
use Rattle.std.specs.List.{position, position_or_len, count_by}
use Rattle.std.specs.Prelude.{Option, Some, None, unwrap_or}
use Rattle.std.proofs.Common.{ltb, ltb-false}
use Rattle.std.proofs.lemmas.List.Recursion.{is_count_by, is_position_or_len}
use lib.Seq.{drop-length, drop-append_seam}
use borrow.Author.Tests.{eqb-false}
use Rattle.places.specs.Lines.{goes_on, line_feed_first, ends_line, how_many, line_ends, last_line, LastLineAt, starts, characters_in, leading, LeadingIs, character_start, uncut, UncutIs, PlaceIs}
use Rattle.places.specs.declared.Place.{Place}

-- a line ends with an LF, with no other byte but CR, with a CR that is the last byte, and with one behind which no LF stands

pub with_feed : (b : ℕ) (s : List ℕ) → b ≡ 10 → true ≡ ends_line b s
unfolding ends_line
with_feed b s e = subst (λ k. true ≡ ends_line k s) (sym e) refl

pub with_no_other : (b : ℕ) (s : List ℕ) → (b ≡ 10 → ⊥) → (b ≡ 13 → ⊥) → false ≡ ends_line b s
unfolding ends_line
with_no_other b s ne nr = rw (ne_eqb b 10 ne, ne_eqb b 13 nr)

pub with_last_return : (s : List ℕ) (i b : ℕ) → b ≡ 13 → length s ≤ i + 1 → true ≡ ends_line b (drop (suc i) s)
unfolding ends_line
with_last_return s i b e end = subst (λ k. true ≡ ends_line k (drop (suc i) s)) (sym e) (ap (λ l. ends_line 13 l) (sym (drop_of_length-le s {i = suc i} (omega arith))))

pub with_return : (s : List ℕ) (i b : ℕ) → b ≡ 13 → i + 1 < length s → not (eqb (get_or s (i + 1) 0) 10) ≡ ends_line b (drop (suc i) s)
unfolding ends_line
with_return s i b e h =
    subst (λ k. not (eqb (get_or s (i + 1) 0) 10) ≡ ends_line k (drop (suc i) s)) (sym e)
    (rw (add-one i) (ap (λ l. ends_line 13 l) (sym (drop-cons s (suc i) 0 (omega arith)))))

module _ (test : ℕ → List ℕ → Bool) where
  one_few : (b : Bool) → cond b 1 0 ≤ 1
  one_few true = omega arith
  one_few false = omega arith

  pub count_few : (s : List ℕ) → how_many test s ≤ length s
  unfolding how_many
  count_few [] = omega arith
  count_few (b ∷ s) = omega (arith, one_few (test b s), count_few s)

  pub count_drop : (k : ℕ) (s : List ℕ) → how_many test (drop k s) ≤ how_many test s
  unfolding how_many
  count_drop zero s = omega arith
  count_drop (suc k) [] = omega arith
  count_drop (suc k) (b ∷ s) = omega (arith, count_drop k s)

  count_at : (s : List ℕ) (i : ℕ) → i < length s → how_many test (drop i s) ≡ cond (test (get_or s i 0) (drop (suc i) s)) 1 0 + how_many test (drop (suc i) s)
  unfolding how_many
  count_at s i h = ap (how_many test) (drop-cons s i 0 h)

  -- a byte that keeps the test, and one that does not
  pub kept : (s : List ℕ) (i : ℕ) → i < length s → test (get_or s i 0) (drop (suc i) s) ≡ true → how_many test (drop i s) ≡ 1 + how_many test (drop (suc i) s)
  kept s i h e = count_at s i h ∙ ap (λ t. cond t 1 0 + how_many test (drop (suc i) s)) e

  pub left : (s : List ℕ) (i : ℕ) → i < length s → test (get_or s i 0) (drop (suc i) s) ≡ false → how_many test (drop i s) ≡ how_many test (drop (suc i) s)
  left s i h e = let all : how_many test (drop i s) ≡ 0 + how_many test (drop (suc i) s) = count_at s i h ∙ ap (λ t. cond t 1 0 + how_many test (drop (suc i) s)) e in omega arith

  -- what a loop has counted, one byte on
  pub counts_on : (s : List ℕ) (i n m : ℕ) → i < length s → length s < 2 ^ 63 → n + how_many test (drop i s) ≡ how_many test s
      → test (get_or s i 0) (drop (suc i) s) ≡ true → m ≡ (n + 1) % 2 ^ 64 → m + how_many test (drop (i + 1) s) ≡ how_many test s
  counts_on s i n m h long inv e up =
      rw (add-one i)
      (let one : how_many test (drop i s) ≡ 1 + how_many test (drop (suc i) s) = kept s i h e in
      let fits : (n + 1) % 2 ^ 64 ≡ n + 1 = mod-eq_of_lt (omega (arith, count_few s)) in
      omega arith)

  pub passes_on : (s : List ℕ) (i n m : ℕ) → i < length s → n + how_many test (drop i s) ≡ how_many test s
      → test (get_or s i 0) (drop (suc i) s) ≡ false → m ≡ n → m + how_many test (drop (i + 1) s) ≡ how_many test s
  passes_on s i n m h inv e same = rw (add-one i) (omega (arith, left s i h e))

  pub counts_all : (s : List ℕ) (i n : ℕ) → length s ≤ i → n + how_many test (drop i s) ≡ how_many test s → n ≡ how_many test s
  unfolding how_many
  counts_all s i n end inv = omega (arith, ap (how_many test) (drop_of_length-le s {i = i} end))

-- the bytes at the start that keep a test end where the first is that does not

module _ (test : ℕ → Bool) where
  leading_few : (s : List ℕ) → leading test s ≤ length s
  unfolding leading
  leading_few [] = omega arith
  leading_few (b ∷ s) = by (test b) (leading_few s) where
    by : (t : Bool) → leading test s ≤ length s → cond t (1 + leading test s) 0 ≤ suc (length s)
    by true rest = omega arith
    by false rest = omega arith

  first_outside : (s : List ℕ) → position_or_len (λ b. not (test b)) s ≡ leading test s
  unfolding leading
  first_outside s = sym (is_position_or_len (leading test) (λ b. not (test b)) refl (λ b s. by (test b) (leading test s)) s)
    where
      by : (t : Bool) (n : ℕ) → cond t (1 + n) 0 ≡ cond (not t) 0 (1 + n)
      by true n = refl
      by false n = refl

  pub leading_is : (s : List ℕ) (o : Option ℕ) (r : ℕ) → o ≡ position (λ b. not (test b)) s → r ≡ unwrap_or o (length s) → LeadingIs test s r
  leading_is s o r found else_all =
      let n = position_or_len (λ b. not (test b)) s in
      let same : r ≡ unwrap_or (cond (ltb n (length s)) (Some n) None) (length s) = else_all ∙ ap (λ o. unwrap_or o (length s)) found in
      by (ltb n (length s)) refl same (first_outside s) (leading_few s)
    where
      by : (t : Bool) → ltb (position_or_len (λ b. not (test b)) s) (length s) ≡ t → r ≡ unwrap_or (cond t (Some (position_or_len (λ b. not (test b)) s)) None) (length s)
          → position_or_len (λ b. not (test b)) s ≡ leading test s → leading test s ≤ length s → LeadingIs test s r
      by true e same is few = record { within = omega arith; count = omega arith }
      by false e same is few = let all : length s ≤ position_or_len (λ b. not (test b)) s = ltb-false (position_or_len (λ b. not (test b)) s) (length s) e in record { within = omega arith; count = omega arith }

-- the characters are the bytes that go on none
pub characters_counted : (s : List ℕ) → characters_in s ≡ count_by (λ b. not (goes_on b)) s
unfolding how_many
characters_counted s = is_count_by characters_in (λ b. not (goes_on b)) refl (λ b s. by (not (goes_on b)) (characters_in s)) s
  where
    by : (t : Bool) (n : ℕ) → cond t 1 0 + n ≡ cond t (1 + n) n
    by true n = refl
    by false n = omega arith

-- the start of a character is sought from n backwards: it is found, it is one byte further back, and it is not there

pub uncut_short : (s : List ℕ) (n : ℕ) → length s ≤ n → UncutIs s n (length s)
unfolding uncut
uncut_short s n h = record { within = omega arith; most = h; same = rw (le-ltb n (length s) h) }

pub uncut_seeks : (s : List ℕ) (n : ℕ) → n < length s → character_start s n 4 n ≡ uncut s n
unfolding uncut
uncut_seeks s n h = rw (lt-ltb n (length s) h)

pub uncut_found : (s : List ℕ) (n k i : ℕ) → i ≤ n → n < length s → 0 < k → character_start s n k i ≡ uncut s n → goes_on (get_or s i 0) ≡ false → UncutIs s n i
unfolding character_start
uncut_found s n zero i low high some inv e = elim some [ ]
uncut_found s n (suc k) i low high some inv e =
    record { within = omega arith; most = low; same = sym (ap (λ t. cond t (character_start s n k (i - 1)) i) e) ∙ inv }

one_back : (s : List ℕ) (n k i : ℕ) → character_start s n (suc k) i ≡ uncut s n → goes_on (get_or s i 0) ≡ true → character_start s n k (i - 1) ≡ uncut s n
unfolding character_start
one_back s n k i inv e = sym (ap (λ t. cond t (character_start s n k (i - 1)) i) e) ∙ inv

pub uncut_back : (s : List ℕ) (n k m i j : ℕ) → k ≡ suc m → j ≡ i - 1 → character_start s n k i ≡ uncut s n → goes_on (get_or s i 0) ≡ true → character_start s n m j ≡ uncut s n
uncut_back s n k m i j less back inv e =
    subst (λ i. character_start s n m i ≡ uncut s n) (sym back) (one_back s n m i (subst (λ k. character_start s n k i ≡ uncut s n) less inv) e)

pub uncut_none : (s : List ℕ) (n k i : ℕ) → n < length s → k ≡ 0 → character_start s n k i ≡ uncut s n → UncutIs s n n
unfolding character_start
uncut_none s n k i high none inv = record { within = omega arith; most = omega arith; same = subst (λ k. character_start s n k i ≡ uncut s n) none inv }

-- the last line

ends_empty : line_ends [] ≡ 0
unfolding how_many
ends_empty = refl

pub ends_none : (s : List ℕ) → line_ends (drop (length s) s) ≡ 0
ends_none s = ap line_ends (drop-length s) ∙ ends_empty

pub last_none : (s : List ℕ) → line_ends s ≡ 0 → last_line s ≡ s
unfolding last_line
last_none [] h = refl
last_none (b ∷ s) h = rw (eq-eqb (line_ends (b ∷ s)) 0 h)

pub last_behind : (b : ℕ) (s : List ℕ) → 1 ≤ line_ends (b ∷ s) → last_line (b ∷ s) ≡ last_line s
unfolding last_line
last_behind b s h = rw (ne_eqb (line_ends (b ∷ s)) 0 (λ e. omega arith))

last_from : (k : ℕ) (s : List ℕ) → 1 ≤ line_ends (drop k s) → last_line s ≡ last_line (drop k s)
last_from zero s h = refl
last_from (suc k) [] h = refl
last_from (suc k) (b ∷ s) h = last_behind b s (omega (arith, count_drop ends_line (suc k) (b ∷ s))) ∙ last_from k s h

-- a loop that looks from the end has come to a line's end, and it goes on
last_at : (s : List ℕ) (j : ℕ) → j < length s → line_ends (drop (suc j) s) ≡ 0 → ends_line (get_or s j 0) (drop (suc j) s) ≡ true → drop (suc j) s ≡ last_line s
last_at s j h none e =
    let one : line_ends (drop j s) ≡ 1 + line_ends (drop (suc j) s) = kept ends_line s j h e in
    let parts : drop j s ≡ get_or s j 0 ∷ drop (suc j) s = drop-cons s j 0 h in
    sym
    (last_from j s (omega arith) ∙ ap last_line parts ∙ last_behind (get_or s j 0) (drop (suc j) s) (omega (arith, ap line_ends parts))
    ∙ last_none (drop (suc j) s) none)

pub last_found : (s : List ℕ) (i j : ℕ) → suc j ≡ i → i ≤ length s → line_ends (drop i s) ≡ 0 → ends_line (get_or s j 0) (drop (suc j) s) ≡ true → LastLineAt s (j + 1)
last_found s i j at h none e =
    rw (add-one j) (record { within = omega arith; line = last_at s j (omega arith) (subst (λ k. line_ends (drop k s) ≡ 0) (sym at) none) e })

pub none_before : (s : List ℕ) (i j : ℕ) → suc j ≡ i → i ≤ length s → line_ends (drop i s) ≡ 0 → ends_line (get_or s j 0) (drop (suc j) s) ≡ false → line_ends (drop j s) ≡ 0
none_before s i j at h none e = left ends_line s j (omega arith) e ∙ subst (λ k. line_ends (drop k s) ≡ 0) (sym at) none

pub none_found : (s : List ℕ) (i : ℕ) → i ≡ 0 → line_ends (drop i s) ≡ 0 → LastLineAt s 0
none_found s i at none = record { within = omega arith; line = sym (last_none s (subst (λ k. line_ends (drop k s) ≡ 0) at none)) }

-- in the last line no line ends
last_ends_none : (s : List ℕ) → line_ends (last_line s) ≡ 0
unfolding last_line
last_ends_none [] = ends_empty
last_ends_none (b ∷ s) = by (eqb (line_ends (b ∷ s)) 0) refl (last_ends_none s)
  where
    by : (t : Bool) → eqb (line_ends (b ∷ s)) 0 ≡ t → line_ends (last_line s) ≡ 0 → line_ends (cond t (b ∷ s) (last_line s)) ≡ 0
    by true e rest = eqb-true (line_ends (b ∷ s)) 0 e
    by false e rest = rest

pub last_short : (s : List ℕ) → length (last_line s) ≤ length s
unfolding last_line
last_short [] = omega arith
last_short (b ∷ s) = by (eqb (line_ends (b ∷ s)) 0) (last_short s)
  where
    by : (t : Bool) → length (last_line s) ≤ length s → length (cond t (b ∷ s) (last_line s)) ≤ suc (length s)
    by true rest = omega arith
    by false rest = omega arith

-- bytes in which no line ends lengthen the last line
no_feed : (v : List ℕ) → line_ends v ≡ 0 → line_feed_first v ≡ false
unfolding how_many ends_line
no_feed [] h = refl
no_feed (b ∷ s) h = by (eqb b 10) refl
  where
    by : (t : Bool) → eqb b 10 ≡ t → t ≡ false
    by true e = let some : 1 + how_many ends_line s ≡ 0 = subst (λ t. cond (t || (eqb b 13 && not (line_feed_first s))) 1 0 + how_many ends_line s ≡ 0) e h in absurd (omega arith)
    by false e = refl

ends_same : (b : ℕ) (u v : List ℕ) → line_feed_first v ≡ false → ends_line b (u ++ v) ≡ ends_line b u
unfolding ends_line
ends_same b [] v e = ap (λ t. eqb b 10 || (eqb b 13 && not t)) e
ends_same b (a ∷ u) v e = refl

ends_append : (u v : List ℕ) → line_ends v ≡ 0 → line_ends (u ++ v) ≡ line_ends u
unfolding how_many
ends_append [] v none = none
ends_append (b ∷ u) v none = ap (λ t. cond t 1 0 + how_many ends_line (u ++ v)) (ends_same b u v (no_feed v none)) ∙ ap (λ n. cond (ends_line b u) 1 0 + n) (ends_append u v none)

last_append : (u v : List ℕ) → line_ends v ≡ 0 → last_line (u ++ v) ≡ last_line u ++ v
unfolding last_line
last_append [] v none = last_none v none
last_append (b ∷ u) v none =
    ap (λ n. cond (eqb n 0) (b ∷ u ++ v) (last_line (u ++ v))) (ends_append (b ∷ u) v none) ∙ by (eqb (line_ends (b ∷ u)) 0) (last_append u v none)
  where
    by : (t : Bool) → last_line (u ++ v) ≡ last_line u ++ v → cond t (b ∷ u ++ v) (last_line (u ++ v)) ≡ cond t (b ∷ u) (last_line u) ++ v
    by true rest = refl
    by false rest = rest

-- the last line behind v more bytes, whose own last line starts at r
pub same_line : (u v : List ℕ) (r : ℕ) → LastLineAt v r → r ≡ 0 → last_line (u ++ v) ≡ last_line u ++ drop r v
same_line u v r is at =
    let whole : drop r v ≡ v = ap (λ k. drop k v) at in
    last_append u v (subst (λ l. line_ends l ≡ 0) (sym is.line ∙ whole) (last_ends_none v)) ∙ ap (λ l. last_line u ++ l) (sym whole)

pub new_line : (u v : List ℕ) (r : ℕ) → LastLineAt v r → (r ≡ 0 → ⊥) → last_line (u ++ v) ≡ drop r v
new_line u v r is at = by (eqb (line_ends v) 0) refl
  where
    behind : drop (length u) (u ++ v) ≡ v
    behind = drop-append_seam u v

    by : (t : Bool) → eqb (line_ends v) 0 ≡ t → last_line (u ++ v) ≡ drop r v
    by true e =
        let long : length v - r ≡ length v = sym (length-drop r v) ∙ ap length (is.line ∙ last_none v (eqb-true (line_ends v) 0 e)) in
        absurd (at (omega (arith, is.within)))
    by false e =
        let some : line_ends v ≡ 0 → ⊥ = eqb-false (line_ends v) 0 e in
        last_from (length u) (u ++ v) (subst (λ l. 1 ≤ line_ends l) (sym behind) (omega arith)) ∙ ap last_line behind ∙ sym is.line

pub characters_append : (u v : List ℕ) → characters_in (u ++ v) ≡ characters_in u + characters_in v
unfolding how_many
characters_append [] v = omega arith
characters_append (b ∷ u) v = omega (arith, characters_append u v)

-- places

pub at_start : (p : Place) → p.offset ≡ 0 → p.line ≡ 1 → p.column ≡ 1 → PlaceIs [] p
unfolding how_many last_line
at_start p o l c = record { offset = o; line = omega arith; column = omega arith }

-- the column behind v more bytes, whose own last line starts at r: counted on from the place's, or from 1
pub on_line : (u v : List ℕ) (p : Place) (r col : ℕ) → PlaceIs u p → LastLineAt v r → r ≡ 0 → col ≡ p.column → col + characters_in (drop r v) ≡ 1 + characters_in (last_line (u ++ v))
on_line u v p r col h is at e =
    omega (arith, h.column, ap characters_in (same_line u v r is at), characters_append (last_line u) (drop r v))

pub on_new_line : (u v : List ℕ) (r col : ℕ) → LastLineAt v r → (r ≡ 0 → ⊥) → col ≡ 1 → col + characters_in (drop r v) ≡ 1 + characters_in (last_line (u ++ v))
on_new_line u v r col is at e = omega (arith, ap characters_in (new_line u v r is at))

pub passes : (u v : List ℕ) (p q : Place) (line n : ℕ) → length (u ++ v) + 1 < 2 ^ 64 → PlaceIs u p → line ≡ 1 + line_ends (u ++ v) → n ≡ 1 + characters_in (last_line (u ++ v))
    → q.offset ≡ (p.offset + length v) % 2 ^ 64 → q.line ≡ line → q.column ≡ n % 2 ^ 64 → PlaceIs (u ++ v) q
passes u v p q line n short h l e o same c =
    let both : length (u ++ v) ≡ length u + length v = length-append u v in
    let few : characters_in (last_line (u ++ v)) ≤ length (last_line (u ++ v)) = count_few starts (last_line (u ++ v)) in
    let less : length (last_line (u ++ v)) ≤ length (u ++ v) = last_short (u ++ v) in
    let offset_fits : (p.offset + length v) % 2 ^ 64 ≡ p.offset + length v = mod-eq_of_lt (omega (arith, h.offset)) in
    let column_fits : n % 2 ^ 64 ≡ n = mod-eq_of_lt (omega arith) in
    record { offset = omega (arith, h.offset); line = same ∙ l; column = c ∙ column_fits ∙ e }
