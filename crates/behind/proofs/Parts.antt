-- Whole tokens that are passed in two parts come to what they come to in one.
-- Assumes nothing.
use Rattle.std.proofs.Common.{◌≡◌, ℕ, ◌+◌, ◌%◌, ◌^◌, Bool, true, false, cond, eqb, List, [], ◌∷◌, ◌++◌, get_or, refl, ap, ◌∙◌, eqb-true}
use Rattle.places.specs.Lines.{ends_line}
use Rattle.behind.specs.Tags.{slash_before_end, kind_opening, kind_closing, kind_neither, tag_kind}
use Rattle.behind.specs.Lines.{lines_past, line_behind, lines_passing}
use Rattle.behind.specs.Wholes.{has_end, Whole, ends_in_return}
use Rattle.behind.specs.declared.Lines.{Lines}

slash_same : (last : ℕ) (s v : List ℕ) → has_end s ≡ true → slash_before_end last (s ++ v) ≡ slash_before_end last s
unfolding slash_before_end has_end
slash_same last [] v h = cc
slash_same last (b ∷ s) v h = by (eqb b 62) h (slash_same b s v)
  where
    by : (t : Bool) → cond t true (has_end s) ≡ true → (has_end s ≡ true → slash_before_end b (s ++ v) ≡ slash_before_end b s)
        → cond t (eqb last 47) (slash_before_end b (s ++ v)) ≡ cond t (eqb last 47) (slash_before_end b s)
    by true e rest = refl
    by false e rest = rest e

first_same : (s v : List ℕ) → has_end s ≡ true → get_or (s ++ v) 0 0 ≡ get_or s 0 0
unfolding has_end
first_same [] v h = cc
first_same (b ∷ s) v h = refl

kind_same : (b : ℕ) (s v : List ℕ) → (b ≡ 60 → has_end s ≡ true) → tag_kind (b ∷ s ++ v) ≡ tag_kind (b ∷ s)
unfolding tag_kind slash_before_end
kind_same b s v h = by (eqb b 60) refl
  where
    by : (t : Bool) → eqb b 60 ≡ t
        → cond t (cond (cond (eqb b 62) (eqb 0 47) (slash_before_end b (s ++ v))) kind_neither (cond (eqb (get_or (s ++ v) 0 0) 47) kind_closing kind_opening)) kind_neither
        ≡ cond t (cond (cond (eqb b 62) (eqb 0 47) (slash_before_end b s)) kind_neither (cond (eqb (get_or s 0 0) 47) kind_closing kind_opening)) kind_neither
    by true e = rw (slash_same b s v (h (eqb-true b 60 e)), first_same s v (h (eqb-true b 60 e)))
    by false e = refl

ends_same : (b : ℕ) (s v : List ℕ) → ends_in_return (b ∷ s) ≡ false → ends_line b (s ++ v) ≡ ends_line b s
unfolding ends_line ends_in_return
ends_same b [] v h = rw h
ends_same b (c ∷ s) v h = refl

not_behind : (b : ℕ) (s : List ℕ) → ends_in_return (b ∷ s) ≡ false → ends_in_return s ≡ false
unfolding ends_in_return
not_behind b [] h = refl
not_behind b (c ∷ s) h = h

pub in_parts : (l : Lines) (u v : List ℕ) (line : ℕ) → Whole u → ends_in_return u ≡ false
    → lines_passing l (u ++ v) line ≡ lines_passing (lines_passing l u line).lines v (lines_passing l u line).line
unfolding lines_passing
in_parts l [] v line whole h = refl
in_parts l (b ∷ u) v line whole h =
    ap (λ k. lines_passing (lines_past l k line) (u ++ v) (line_behind line b (u ++ v))) (kind_same b u v whole.0)
    ∙ ap (λ t. lines_passing (lines_past l (tag_kind (b ∷ u)) line) (u ++ v) (cond t ((line + 1) % 2 ^ 64) line)) (ends_same b u v h)
    ∙ in_parts (lines_past l (tag_kind (b ∷ u)) line) u v (line_behind line b u) whole.1 (not_behind b u h)
