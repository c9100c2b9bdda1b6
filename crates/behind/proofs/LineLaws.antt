-- Laws of the lines: past a tag of each kind, one byte more before the next tag, and one tag more.
-- Assumes nothing.
use Rattle.std.proofs.Common.{◌≡◌, ℕ, suc, ◌+◌, ◌-◌, ◌%◌, ◌^◌, ◌<◌, ◌≤◌, Bool, true, false, cond, ◌||◌, eqb, ltb, List, [], ◌∷◌, length, get_or, drop, set, sym, refl, ap, ◌∙◌, subst, mod-eq_of_lt, add-one, arith, length-set, drop_of_length-le, drop-cons, drop-drop, le-ltb, lt-ltb, eq-eqb, ne_eqb, eqb-true}
use borrow.Author.Tests.{eqb-false}
use Rattle.places.specs.Lines.{ends_line, how_many, line_ends}
use Rattle.behind.specs.Tags.{kind_opening, kind_closing, tag_kind}
use Rattle.behind.specs.Lines.{open_on, lines_past, Noted, line_behind, lines_passing, before_tag, tag_line, NextTag, root_line}
use Rattle.behind.specs.declared.Lines.{Lines}
use Rattle.behind.specs.declared.Passed.{Passed}
use Rattle.behind.proofs.TagLaws.{no_tag}

-- past a tag

pub closed : (depth : ℕ) (old : List ℕ) (kind line r : ℕ) → kind ≡ kind_closing → r ≡ depth - 1 → Noted depth old kind line r old
unfolding lines_past
closed depth old kind line r e less =
    record { long = refl; lines = subst (λ k. open_on r old ≡ lines_past (open_on depth old) k line) (sym e) (ap (λ n. open_on n old) less) }

pub opened : (depth : ℕ) (old : List ℕ) (kind line : ℕ) → kind ≡ kind_opening → depth < length old → Noted depth old kind line (depth + 1) (set old depth line)
unfolding lines_past
opened depth old kind line e room =
    record {
      long = length-set old depth line;
      lines = subst (λ k. open_on (depth + 1) (set old depth line) ≡ lines_past (open_on depth old) k line) (sym e) (rw (lt-ltb depth (length old) room));
    }

pub full : (depth : ℕ) (old : List ℕ) (kind line : ℕ) → kind ≡ kind_opening → length old ≤ depth → Noted depth old kind line depth old
unfolding lines_past
full depth old kind line e none =
    record { long = refl; lines = subst (λ k. open_on depth old ≡ lines_past (open_on depth old) k line) (sym e) (rw (le-ltb depth (length old) none)) }

pub unchanged : (depth : ℕ) (old : List ℕ) (kind line : ℕ) → (kind ≡ kind_closing → ⊥) → (kind ≡ kind_opening → ⊥) → Noted depth old kind line depth old
unfolding lines_past
unchanged depth old kind line not_end not_start = record { long = refl; lines = rw (ne_eqb kind kind_closing not_end, ne_eqb kind kind_opening not_start) }

-- the line behind a byte

pub line_ends_lem : (b : ℕ) (s : List ℕ) (line r : ℕ) → ends_line b s ≡ true → r ≡ (line + 1) % 2 ^ 64 → r ≡ line_behind line b s
line_ends_lem b s line r e up = up ∙ sym (ap (λ t. cond t ((line + 1) % 2 ^ 64) line) e)

pub line_same : (b : ℕ) (s : List ℕ) (line r : ℕ) → ends_line b s ≡ false → r ≡ line → r ≡ line_behind line b s
line_same b s line r e same = same ∙ sym (ap (λ t. cond t ((line + 1) % 2 ^ 64) line) e)

pub no_line_end : (b : ℕ) (s : List ℕ) → 13 < b → ends_line b s ≡ false
unfolding ends_line
no_line_end b s h = rw (ne_eqb b 10 (λ e. omega arith), ne_eqb b 13 (λ e. omega arith))

-- on the way to the next tag

before_at : (s : List ℕ) (i : ℕ) → i < length s → before_tag (drop i s) ≡ cond (eqb (get_or s i 0) 60) 0 (suc (before_tag (drop (suc i) s)))
unfolding before_tag
before_at s i h = ap before_tag (drop-cons s i 0 h)

line_at : (s : List ℕ) (i line : ℕ) → i < length s
    → tag_line (drop i s) line ≡ cond (eqb (get_or s i 0) 60) line (tag_line (drop (suc i) s) (line_behind line (get_or s i 0) (drop (suc i) s)))
unfolding tag_line
line_at s i line h = ap (λ l. tag_line l line) (drop-cons s i 0 h)

pub before_on : (s : List ℕ) (i n : ℕ) → i < length s → (get_or s i 0 ≡ 60 → ⊥) → i + before_tag (drop i s) ≡ n → i + 1 + before_tag (drop (i + 1) s) ≡ n
before_on s i n h ne inv =
    rw (add-one i) (omega (arith, before_at s i h ∙ ap (λ t. cond t 0 (suc (before_tag (drop (suc i) s)))) (ne_eqb (get_or s i 0) 60 ne)))

pub line_on : (s : List ℕ) (i line r n : ℕ) → i < length s → (get_or s i 0 ≡ 60 → ⊥) → tag_line (drop i s) line ≡ n → r ≡ line_behind line (get_or s i 0) (drop (suc i) s) → tag_line (drop (i + 1) s) r ≡ n
line_on s i line r n h ne inv e =
    rw (add-one i)
    (ap (λ k. tag_line (drop (suc i) s) k) e
    ∙ sym (line_at s i line h ∙ ap (λ t. cond t line (tag_line (drop (suc i) s) (line_behind line (get_or s i 0) (drop (suc i) s)))) (ne_eqb (get_or s i 0) 60 ne))
    ∙ inv)

-- the tag, or the end

pub found : (s : List ℕ) (from line i here : ℕ) → i < length s → get_or s i 0 ≡ 60 → from ≤ i → i + before_tag (drop i s) ≡ from + before_tag (drop from s)
    → tag_line (drop i s) here ≡ tag_line (drop from s) line → NextTag s from line (record { at = i; line = here })
found s from line i here h e low inv on =
    let none : before_tag (drop i s) ≡ 0 = before_at s i h ∙ ap (λ t. cond t 0 (suc (before_tag (drop (suc i) s)))) (eq-eqb (get_or s i 0) 60 e) in
    let same : tag_line (drop i s) here ≡ here =
    line_at s i here h ∙ ap (λ t. cond t here (tag_line (drop (suc i) s) (line_behind here (get_or s i 0) (drop (suc i) s)))) (eq-eqb (get_or s i 0) 60 e) in
    record { low = low; high = omega arith; place = omega arith; on = sym same ∙ on }

pub ended : (s : List ℕ) (from line i here : ℕ) → length s ≤ i → i ≤ length s → from ≤ i → i + before_tag (drop i s) ≡ from + before_tag (drop from s)
    → tag_line (drop i s) here ≡ tag_line (drop from s) line → NextTag s from line (record { at = length s; line = here })
unfolding before_tag tag_line
ended s from line i here end high low inv on =
    let none : drop i s ≡ [] = drop_of_length-le s {i = i} end in
    record { low = omega arith; high = omega arith; place = omega (arith, ap before_tag none); on = sym (ap (λ l. tag_line l here) none) ∙ on }

-- the bytes before a tag change no lines, and the tag does

to_first : (l : Lines) (s : List ℕ) (line : ℕ) → lines_passing l s line ≡ lines_passing l (drop (before_tag s) s) (tag_line s line)
unfolding lines_passing before_tag tag_line lines_past
to_first l [] line = refl
to_first l (b ∷ s) line = by (eqb b 60) refl (to_first l s (line_behind line b s))
  where
    by : (t : Bool) → eqb b 60 ≡ t
        → lines_passing l s (line_behind line b s) ≡ lines_passing l (drop (before_tag s) s) (tag_line s (line_behind line b s))
        → lines_passing l (b ∷ s) line ≡ lines_passing l (drop (cond t 0 (suc (before_tag s))) (b ∷ s)) (cond t line (tag_line s (line_behind line b s)))
    by true e rest = refl
    by false e rest = ap (λ k. lines_passing (lines_past l k line) s (line_behind line b s)) (sym (no_tag (b ∷ s) (eqb-false b 60 e))) ∙ rest

past_first : (l : Lines) (s : List ℕ) (line : ℕ)
    → lines_passing l (drop (before_tag s) s) line ≡ lines_passing (lines_past l (tag_kind (drop (before_tag s) s)) line) (drop (suc (before_tag s)) s) line
unfolding lines_passing before_tag lines_past tag_kind
past_first l [] line = refl
past_first l (b ∷ s) line = by (eqb b 60) refl (past_first l s line)
  where
    by : (t : Bool) → eqb b 60 ≡ t
        → lines_passing l (drop (before_tag s) s) line ≡ lines_passing (lines_past l (tag_kind (drop (before_tag s) s)) line) (drop (suc (before_tag s)) s) line
        → lines_passing l (drop (cond t 0 (suc (before_tag s))) (b ∷ s)) line
        ≡ lines_passing (lines_past l (tag_kind (drop (cond t 0 (suc (before_tag s))) (b ∷ s))) line) (drop (suc (cond t 0 (suc (before_tag s)))) (b ∷ s)) line
    by true e rest =
        ap (λ n. lines_passing (lines_past l (tag_kind (b ∷ s)) line) s n)
        (sym (line_same b s line line (no_line_end b s (omega (arith, eqb-true b 60 e))) refl))
    by false e rest = rest

pub tag_on : (l l' : Lines) (s : List ℕ) (i at here here' kind : ℕ) (w : Passed) → lines_passing l (drop i s) here ≡ w → at ≡ i + before_tag (drop i s) → here' ≡ tag_line (drop i s) here
    → kind ≡ tag_kind (drop at s) → l' ≡ lines_past l kind here' → lines_passing l' (drop (at + 1) s) here' ≡ w
tag_on l l' s i at here here' kind w inv place on is e =
    let m = before_tag (drop i s) in
    let first : drop m (drop i s) ≡ drop at s = drop-drop m i s ∙ ap (λ k. drop k s) (sym place) in
    let next : i + suc m ≡ at + 1 = omega arith in
    let rest : drop (suc m) (drop i s) ≡ drop (at + 1) s = drop-drop (suc m) i s ∙ ap (λ k. drop k s) next in
    let lines : l' ≡ lines_past l (tag_kind (drop m (drop i s))) here' = e ∙ ap (λ k. lines_past l k here') (is ∙ ap tag_kind (sym first)) in
    ap (λ z. lines_passing z (drop (at + 1) s) here') lines ∙ ap (λ z. lines_passing (lines_past l (tag_kind (drop m (drop i s))) here') z here') (sym rest)
    ∙ sym (past_first l (drop i s) here') ∙ ap (λ n. lines_passing l (drop m (drop i s)) n) on ∙ sym (to_first l (drop i s) here) ∙ inv

pub all_passed : (l : Lines) (s : List ℕ) (i here : ℕ) (w : Passed) → length s ≤ i → lines_passing l (drop i s) here ≡ w → ◌≡◌ {A = Passed} (record { line = here; lines = l }) w
unfolding lines_passing
all_passed l s i here w end inv = sym (ap (λ z. lines_passing l z here) (drop_of_length-le s {i = i} end)) ∙ inv

-- lines are counted as the places are: where the number does not begin again from 0, so many more as end in the bytes
pub lines_counted : (l : Lines) (s : List ℕ) (line : ℕ) → line + length s < 2 ^ 64 → (lines_passing l s line).line ≡ line + line_ends s
unfolding lines_passing how_many
lines_counted l [] line h = omega arith
lines_counted l (b ∷ s) line h = by (ends_line b s) (λ n. lines_counted (lines_past l (tag_kind (b ∷ s)) line) s n)
  where
    by : (t : Bool) → ((n : ℕ) → n + length s < 2 ^ 64 → (lines_passing (lines_past l (tag_kind (b ∷ s)) line) s n).line ≡ n + line_ends s)
        → (lines_passing (lines_past l (tag_kind (b ∷ s)) line) s (cond t ((line + 1) % 2 ^ 64) line)).line ≡ line + (cond t 1 0 + line_ends s)
    by true rest =
        let fits : (line + 1) % 2 ^ 64 ≡ line + 1 = mod-eq_of_lt (omega arith) in
        rw fits (omega (arith, rest (line + 1) (omega arith)))
    by false rest = omega (arith, rest line (omega arith))

-- the root's line

pub root_kept : (l : Lines) (s : List ℕ) (line n : ℕ) → n ≡ 0 + before_tag s → (ltb 0 l.depth || eqb n (length s)) ≡ true → l ≡ root_line l s line
unfolding root_line
root_kept l s line n e is =
    let first : n ≡ before_tag s = omega arith in
    sym (ap (λ t. cond t l (open_on 1 (set l.lines 0 (tag_line s line)))) (ap (λ k. ltb 0 l.depth || eqb k (length s)) (sym first) ∙ is))

pub root_found : (l : Lines) (s : List ℕ) (line n on : ℕ) → n ≡ 0 + before_tag s → on ≡ tag_line s line → (ltb 0 l.depth || eqb n (length s)) ≡ false
    → open_on 1 (set l.lines 0 on) ≡ root_line l s line
unfolding root_line
root_found l s line n on e same is =
    let first : n ≡ before_tag s = omega arith in
    ap (λ k. open_on 1 (set l.lines 0 k)) same
    ∙ sym (ap (λ t. cond t l (open_on 1 (set l.lines 0 (tag_line s line)))) (ap (λ k. ltb 0 l.depth || eqb k (length s)) (sym first) ∙ is))
