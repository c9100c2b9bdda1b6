-- Laws of the tags: a tag's end is looked for byte by byte, and its kind goes by its first bytes.
-- Assumes nothing.
use Rattle.std.proofs.Common.{◌≡◌, ℕ, suc, ◌+◌, ◌<◌, ◌≤◌, Bool, false, cond, eqb, List, length, get_or, drop, sym, ap, ◌∙◌, add-one, arith, drop_of_length-le, get_or-drop, drop-cons, eq-eqb, ne_eqb}
use Rattle.behind.specs.Tags.{slash_before_end, is_empty_tag, is_end_tag, kind_opening, kind_closing, kind_neither, tag_kind}

-- the tag goes on, ends, or the bytes end before it

slash_at : (s : List ℕ) (i last : ℕ) → i < length s
    → slash_before_end last (drop i s) ≡ cond (eqb (get_or s i 0) 62) (eqb last 47) (slash_before_end (get_or s i 0) (drop (suc i) s))
unfolding slash_before_end
slash_at s i last h = ap (slash_before_end last) (drop-cons s i 0 h)

pub slash_on : (s : List ℕ) (i last : ℕ) (w : Bool) → i < length s → (get_or s i 0 ≡ 62 → ⊥) → slash_before_end last (drop i s) ≡ w → slash_before_end (get_or s i 0) (drop (i + 1) s) ≡ w
slash_on s i last w h ne inv =
    rw (add-one i) (sym (slash_at s i last h ∙ ap (λ t. cond t (eqb last 47) (slash_before_end (get_or s i 0) (drop (suc i) s))) (ne_eqb (get_or s i 0) 62 ne)) ∙ inv)

pub slash_ends : (s : List ℕ) (i last : ℕ) (w : Bool) → i < length s → get_or s i 0 ≡ 62 → slash_before_end last (drop i s) ≡ w → eqb last 47 ≡ w
slash_ends s i last w h e inv =
    sym (slash_at s i last h ∙ ap (λ t. cond t (eqb last 47) (slash_before_end (get_or s i 0) (drop (suc i) s))) (eq-eqb (get_or s i 0) 62 e)) ∙ inv

pub slash_none : (s : List ℕ) (i last : ℕ) (w : Bool) → length s ≤ i → slash_before_end last (drop i s) ≡ w → false ≡ w
unfolding slash_before_end
slash_none s i last w end inv = sym (ap (slash_before_end last) (drop_of_length-le s {i = i} end)) ∙ inv

-- the byte behind the first

pub end_tag : (s : List ℕ) (i b : ℕ) → b ≡ get_or s (i + 1) 0 → eqb b 47 ≡ is_end_tag (drop i s)
end_tag s i b e = ap (λ k. eqb k 47) (e ∙ sym (get_or-drop i s 1 0))

pub no_end_tag : (s : List ℕ) (i : ℕ) → length s ≤ i → false ≡ is_end_tag (drop i s)
no_end_tag s i end = sym (ap is_end_tag (drop_of_length-le s {i = i} end))

-- the kind

first_at : (s : List ℕ) (i b : ℕ) → b ≡ get_or s i 0 → get_or (drop i s) 0 0 ≡ b
first_at s i b e = let same : i + 0 ≡ i = omega arith in get_or-drop i s 0 0 ∙ ap (λ k. get_or s k 0) same ∙ sym e

pub no_tag : (s : List ℕ) → (get_or s 0 0 ≡ 60 → ⊥) → kind_neither ≡ tag_kind s
unfolding tag_kind
no_tag s ne = rw (ne_eqb (get_or s 0 0) 60 ne)

pub no_tag_at : (s : List ℕ) (i b : ℕ) → b ≡ get_or s i 0 → (b ≡ 60 → ⊥) → kind_neither ≡ tag_kind (drop i s)
no_tag_at s i b e ne = no_tag (drop i s) (λ is. ne (sym (first_at s i b e) ∙ is))

pub tag_at : (s : List ℕ) (i b : ℕ) (is_empty is_end : Bool) → b ≡ get_or s i 0 → b ≡ 60 → is_empty_tag (drop i s) ≡ is_empty → is_end_tag (drop i s) ≡ is_end
    → cond is_empty kind_neither (cond is_end kind_closing kind_opening) ≡ tag_kind (drop i s)
unfolding tag_kind
tag_at s i b is_empty is_end e is p q = rw (eq-eqb (get_or (drop i s) 0 0) 60 (first_at s i b e ∙ is), p, q)
