-- Whether a sheet is of the shape, by a function: its tags, or none; then the number is 34.
-- Assumes nothing.
use Rattle.std.specs.Prelude.{◌≡◌, Bool, true, false, ◌&&◌, ◌||◌, not, List, [], ◌∷◌, ℕ, zero, suc, eqb, length}
use Rattle.std.proofs.Math.Option.{Option, none, some}
use Rattle.expressions.specs.Expr.{Exp, atom, cat, alt, star, empty, nonterminal, anychar, Content, nothing, tree}
use Rattle.expressions.specs.Grammar.{Production, content_of, tags_of}
use Rattle.sheet.specs.Sheet.{Sheet}
use Rattle.runs.specs.Options.{bind, or_else, when_true}
use Rattle.runs.specs.Lookup.{tag_of, produces}
use Rattle.runs.specs.Visits.{grammar}
use Rattle.salvage.specs.Shape.{RecordTags, content_names, OfShape, HasRecords}

-- the nonterminal that an expression is a star over
abbrev pub atom_of : Exp → Option ℕ
atom_of (atom (nonterminal n)) = some n
atom_of (atom anychar) = none
atom_of (cat l r) = none
atom_of (alt l r) = none
atom_of (star e) = none
atom_of empty = none

abbrev pub starred_by : Exp → Option ℕ
starred_by (atom k) = none
starred_by (cat l r) = none
starred_by (alt l r) = none
starred_by (star e) = atom_of e
starred_by empty = none

abbrev pub star_over : Content → Option ℕ
star_over nothing = none
star_over (tree e) = starred_by e

abbrev pub is_it : ℕ → Option ℕ → Bool
is_it n none = false
is_it n (some m) = eqb n m

-- the one of a list
abbrev pub single : List ℕ → Option ℕ
single [] = none
single (t ∷ []) = some t
single (t ∷ u ∷ ts) = none

-- what the nonterminal's first production is a star over
abbrev pub first_star : List Production → ℕ → Option ℕ
first_star [] n = none
first_star (d ∷ ds) n = or_else (bind (when_true (eqb n d.nonterm) d.content) star_over) (first_star ds n)

-- production q has its part in the shape, where st is the start, n the records' nonterminal, and t and r are their tags
abbrev pub shaped_at : List Production → (st n t r q : ℕ) → Bool
shaped_at g st n t r q =
    (not (produces g st q) || is_it n (star_over (content_of g q))) && ((not (eqb (tag_of g q) t) || produces g st q) && ((not (eqb (tag_of g q) r) || produces g n q)
    && (not (content_names st (content_of g q)) && (produces g st q || not (content_names n (content_of g q))))))

-- the test holds of all numbers below k
abbrev pub every_below : ℕ → (ℕ → Bool) → Bool
every_below zero f = true
every_below (suc k) f = f k && every_below k f

abbrev pub record_tags : Sheet → Option RecordTags
record_tags a =
    bind (single (tags_of (grammar a) a.start_nonterminal)) (λ t. bind (first_star (grammar a) a.start_nonterminal) (λ n. bind (single (tags_of (grammar a) n)) (λ r.
    when_true (not (eqb n a.start_nonterminal) && every_below (length (grammar a)) (shaped_at (grammar a) a.start_nonterminal n t r)) (record { root_tag = t; record_tag = r }))))

-- the number of a sheet that is not of the shape
abbrev pub shape_number : Option RecordTags → ℕ
shape_number none = 34
shape_number (some x) = 0

-- the function gives the tags of the shape, and 34 exactly to the sheets that are not of it
pub record ShapeDecided (a : Sheet) : Type 0 where
  pub gives : (x : RecordTags) → record_tags a ≡ some x → (n : ℕ) × OfShape a n x
  pub given : (n : ℕ) (x : RecordTags) → OfShape a n x → record_tags a ≡ some x
  pub none_given : shape_number (record_tags a) ≡ 34 → HasRecords a → ⊥
  pub gives_none : (HasRecords a → ⊥) → shape_number (record_tags a) ≡ 34
