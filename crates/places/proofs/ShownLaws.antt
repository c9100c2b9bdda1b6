-- Laws of what is shown of a line: all of it, its last bytes, and the same by the last bytes before the place alone.
-- Assumes nothing.
use Rattle.std.proofs.Common.{◌≡◌, ℕ, suc, ◌+◌, ◌-◌, ◌<◌, ◌≤◌, Bool, true, false, cond, eqb, ltb, List, [], ◌∷◌, length, drop, sym, refl, ap, ◌∙◌, arith, length-drop, drop_of_length-le, drop-drop, ltb-false, ltb-true, le-ltb, lt-ltb, eqb-true}
use borrow.Author.Tests.{eqb-false}
use Rattle.places.specs.Lines.{goes_on, ends_line, line_ends, last_line, LastLineAt, leading, GoesOnTo}
use Rattle.places.specs.Shown.{most_shown, last_bytes, from_character, shown_line, ShownIs, ShownFrom, LastBytesTell}
use Rattle.places.proofs.Laws.{count_drop, last_none, last_behind, last_short}

-- a line is shown whole, and without its first bytes

whole : (line : List ℕ) → length line ≤ most_shown → line ≡ shown_line line
unfolding shown_line
whole line h = sym (ap (λ t. cond t (from_character (last_bytes most_shown line)) line) (le-ltb most_shown (length line) h))

cut : (line : List ℕ) → most_shown < length line → from_character (last_bytes most_shown line) ≡ shown_line line
unfolding shown_line
cut line h = sym (ap (λ t. cond t (from_character (last_bytes most_shown line)) line) (lt-ltb most_shown (length line) h))

cut_short : (line : List ℕ) → length (from_character (last_bytes most_shown line)) ≤ most_shown
cut_short line =
    let last = last_bytes most_shown line in
    let kept : length last ≡ length line - (length line - most_shown) = length-drop (length line - most_shown) line in
    omega (arith, length-drop (leading goes_on last) last)

pub shown_whole : (s : List ℕ) (r : ℕ) → LastLineAt s r → length s - r ≤ most_shown → ShownFrom s (record { from = r; more = false })
shown_whole s r at few =
    let long : length s - r ≡ length (last_line s) = sym (length-drop r s) ∙ ap length at.line in
    record {
      within = at.within;
      is = record { shown = at.line ∙ whole (last_line s) (omega arith); left_out = sym (le-ltb (length (drop r s)) (length (last_line s)) (omega (arith, ap length at.line))) };
    }

pub shown_last : (s : List ℕ) (r from k : ℕ) → LastLineAt s r → most_shown < length s - r → from ≡ length s - most_shown → GoesOnTo (drop from s) k → ShownFrom s (record { from = from + k; more = true })
shown_last s r from k at many e rest =
    let long : length s - r ≡ length (last_line s) = sym (length-drop r s) ∙ ap length at.line in
    let left : length (drop from s) ≡ length s - from = length-drop from s in
    let place : r + (length (last_line s) - most_shown) ≡ from = omega (arith, at.within) in
    let last : last_bytes most_shown (last_line s) ≡ drop from s =
    ap (λ l. drop (length (last_line s) - most_shown) l) (sym at.line) ∙ drop-drop (length (last_line s) - most_shown) r s ∙ ap (λ i. drop i s) place in
    let same : drop (from + k) s ≡ from_character (last_bytes most_shown (last_line s)) =
    sym (drop-drop k from s) ∙ ap (λ i. drop i (drop from s)) rest.count ∙ ap from_character (sym last) in
    record {
      within = omega (arith, rest.within);
      is = record {
        shown = same ∙ cut (last_line s) (omega arith);
        left_out = sym (lt-ltb (length (drop (from + k) s)) (length (last_line s)) (omega (arith, ap length same, cut_short (last_line s))));
      };
    }

-- the last of the last bytes

pub last_of_last : (m n : ℕ) (s : List ℕ) → m ≤ n → last_bytes m (last_bytes n s) ≡ last_bytes m s
last_of_last m n s h =
    let k = length s - n in
    let left : length (drop k s) ≡ length s - k = length-drop k s in
    let place : k + (length (drop k s) - m) ≡ length s - m = omega arith in
    drop-drop (length (drop k s) - m) k s ∙ ap (λ i. drop i s) place

all_last : (n : ℕ) (s : List ℕ) → length s ≤ n → last_bytes n s ≡ s
all_last n s h = let none : length s - n ≡ 0 = omega arith in ap (λ k. drop k s) none

-- the line that the last bytes end with is the end of the line that all end with
last_line_last : (n : ℕ) (s : List ℕ) → last_line (last_bytes n s) ≡ last_bytes n (last_line s)
unfolding last_line
last_line_last n [] =
    let none : last_bytes n [] ≡ [] = drop_of_length-le [] {i = 0 - n} (omega arith) in
    ap last_line none ∙ sym none
last_line_last n (b ∷ s) = by (ltb (length s) n) refl (last_line_last n s)
  where
    either : (t : Bool) → eqb (line_ends (b ∷ s)) 0 ≡ t → (line_ends (b ∷ s) ≡ 0 → last_bytes n (last_line s) ≡ last_bytes n (last_line (b ∷ s)))
        → ((line_ends (b ∷ s) ≡ 0 → ⊥) → last_bytes n (last_line s) ≡ last_bytes n (last_line (b ∷ s))) → last_bytes n (last_line s) ≡ last_bytes n (last_line (b ∷ s))
    either true e none some = none (eqb-true (line_ends (b ∷ s)) 0 e)
    either false e none some = some (eqb-false (line_ends (b ∷ s)) 0 e)

    by : (t : Bool) → ltb (length s) n ≡ t → last_line (last_bytes n s) ≡ last_bytes n (last_line s) → last_line (last_bytes n (b ∷ s)) ≡ last_bytes n (last_line (b ∷ s))
    by true e rest =
        let few : length s < n = ltb-true (length s) n e in
        ap last_line (all_last n (b ∷ s) (omega arith)) ∙ sym (all_last n (last_line (b ∷ s)) (omega (arith, last_short (b ∷ s))))
    by false e rest =
        let many : n ≤ length s = ltb-false (length s) n e in
        let place : suc (length s) - n ≡ suc (length s - n) = omega arith in
        let behind : last_bytes n (b ∷ s) ≡ last_bytes n s = ap (λ k. drop k (b ∷ s)) place in
        let none : line_ends (b ∷ s) ≡ 0 → last_bytes n (last_line s) ≡ last_bytes n (last_line (b ∷ s)) =
        λ z. ap (last_bytes n) (last_none s (omega (arith, count_drop ends_line 1 (b ∷ s)))) ∙ sym behind ∙ sym (ap (last_bytes n) (last_none (b ∷ s) z)) in
        let some : (line_ends (b ∷ s) ≡ 0 → ⊥) → last_bytes n (last_line s) ≡ last_bytes n (last_line (b ∷ s)) =
        λ z. sym (ap (last_bytes n) (last_behind b s (omega arith))) in
        ap last_line behind ∙ rest ∙ either (eqb (line_ends (b ∷ s)) 0) refl none some

-- one byte more than are shown of a line tells that the line has more
pub last_bytes_tell : LastBytesTell
last_bytes_tell s v more is = by (ltb most_shown (length (last_line s))) refl (last_line_last (most_shown + 1) s)
  where
    by : (t : Bool) → ltb most_shown (length (last_line s)) ≡ t → last_line (last_bytes (most_shown + 1) s) ≡ last_bytes (most_shown + 1) (last_line s) → ShownIs s v more
    by false e same =
        let few : length (last_line s) ≤ most_shown = ltb-false most_shown (length (last_line s)) e in
        let all : last_line (last_bytes (most_shown + 1) s) ≡ last_line s = same ∙ all_last (most_shown + 1) (last_line s) (omega arith) in
        record { shown = is.shown ∙ ap shown_line all; left_out = is.left_out ∙ ap (λ l. ltb (length v) (length l)) all }
    by true e same =
        let line = last_line s in
        let end = last_bytes (most_shown + 1) line in
        let many : most_shown < length line = ltb-true most_shown (length line) e in
        let long : length end ≡ length line - (length line - (most_shown + 1)) = length-drop (length line - (most_shown + 1)) line in
        let tail : last_bytes most_shown end ≡ last_bytes most_shown line = last_of_last most_shown (most_shown + 1) line (omega arith) in
        let seen : v ≡ from_character (last_bytes most_shown line) = is.shown ∙ ap shown_line same ∙ sym (cut end (omega arith)) ∙ ap from_character tail in
        let short : length v ≤ most_shown = omega (arith, ap length seen, cut_short line) in
        record {
          shown = seen ∙ cut line many;
          left_out = is.left_out ∙ ap (λ l. ltb (length v) (length l)) same ∙ lt-ltb (length v) (length end) (omega arith) ∙ sym (lt-ltb (length v) (length line) (omega arith));
        }
