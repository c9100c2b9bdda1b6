-- A store of all that a text has mentioned so far, equal ones once, after one mention more. Assumes nothing.
use Rattle.std.specs.Prelude.{◌≡◌, ◌⊎◌, List, [], ◌∷◌, ◌++◌, ℕ, ◌+◌, ◌<◌, length}
use Rattle.encoding.specs.Distinct.{distinct, place_of, offset_of, run_together}
use Rattle.stores.specs.declared.Filed.{Filed}
use Rattle.stores.specs.Rows.{RowsIn}

-- all of them, x the last one mentioned, are stored; and where x is
pub record MentionStored (mentioned : List (List ℕ)) (x bytes ends : List ℕ) (count place offset : ℕ) : Type 0 where
  pub rows : RowsIn bytes ends count (distinct mentioned)
  pub place_is : place ≡ place_of (distinct mentioned) x
  pub offset_is : offset ≡ offset_of (distinct mentioned) x

-- or they do not fit: there are too many bytes, or too many of them
abbrev pub TooManyFor : List (List ℕ) → List ℕ → List ℕ → Type 0
TooManyFor l bytes ends = (length bytes < length (run_together l)) ⊎ (length ends < length l)

abbrev pub MentionedAs : List (List ℕ) → List ℕ → ℕ → List ℕ → List ℕ → Filed → Type 0
MentionedAs l x count bytes ends (Filed.There p o) = MentionStored (l ++ x ∷ []) x bytes ends count p o
MentionedAs l x count bytes ends (Filed.Added p o) = MentionStored (l ++ x ∷ []) x bytes ends (count + 1) p o
MentionedAs l x count bytes ends Filed.Full = TooManyFor (distinct (l ++ x ∷ [])) bytes ends
