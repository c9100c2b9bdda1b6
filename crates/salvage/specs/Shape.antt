-- The sheets that a salvage run takes (any other is 34): the start has one production, a star over one nonterminal, the records', which has one tag; no other production has that
-- tag or the root's, and no other expression names either nonterminal. Unreachable productions count too.
-- Assumes nothing.
use Rattle.std.specs.Prelude.{◌≡◌, Bool, true, false, ◌||◌, [], ◌∷◌, ℕ, ◌<◌, eqb, length}
use Rattle.expressions.specs.Expr.{Exp, atom, cat, alt, star, empty, nonterminal, anychar, Content, nothing, tree}
use Rattle.expressions.specs.Grammar.{content_of, tags_of}
use Rattle.sheet.specs.Sheet.{Sheet}
use Rattle.runs.specs.Lookup.{tag_of, produces}
use Rattle.runs.specs.Visits.{grammar}

-- the root's tag, and the records' tag R
pub record RecordTags : Type 0 where
  pub root_tag : ℕ
  pub record_tag : ℕ

-- the expression names the nonterminal n
abbrev pub names_it : ℕ → Exp → Bool
names_it n (atom (nonterminal m)) = eqb n m
names_it n (atom anychar) = false
names_it n (cat l r) = names_it n l || names_it n r
names_it n (alt l r) = names_it n l || names_it n r
names_it n (star e) = names_it n e
names_it n empty = false

abbrev pub content_names : ℕ → Content → Bool
content_names n nothing = false
content_names n (tree e) = names_it n e

-- the start has the one production with the root's tag, a star over n, and n the one production with the records'
pub record OfShape (a : Sheet) (n : ℕ) (x : RecordTags) : Type 0 where
  pub one_root : tags_of (grammar a) a.start_nonterminal ≡ x.root_tag ∷ []
  pub root_is : (q : ℕ) → produces (grammar a) a.start_nonterminal q ≡ true → content_of (grammar a) q ≡ tree (star (atom (nonterminal n)))
  pub one_record : tags_of (grammar a) n ≡ x.record_tag ∷ []
  pub two_nonterminals : n ≡ a.start_nonterminal → ⊥
  pub only_root : (q : ℕ) → q < length (grammar a) → tag_of (grammar a) q ≡ x.root_tag → produces (grammar a) a.start_nonterminal q ≡ true
  pub only_record : (q : ℕ) → q < length (grammar a) → tag_of (grammar a) q ≡ x.record_tag → produces (grammar a) n q ≡ true
  pub start_unnamed : (q : ℕ) → content_names a.start_nonterminal (content_of (grammar a) q) ≡ false
  pub record_unnamed : (q : ℕ) → produces (grammar a) a.start_nonterminal q ≡ false → content_names n (content_of (grammar a) q) ≡ false

-- the sheet is of the shape
abbrev pub HasRecords : Sheet → Type 0
HasRecords a = (n : ℕ) × (x : RecordTags) × OfShape a n x

-- a sheet is of the shape in one way: it has one R and one root's tag
abbrev pub OneShape : Type 0
OneShape = (a : Sheet) (n n' : ℕ) (x x' : RecordTags) → OfShape a n x → OfShape a n' x' → (n ≡ n') × (x ≡ x')
