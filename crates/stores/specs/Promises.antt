-- What is promised of rows stored one after another. Assumes nothing.
use Rattle.std.specs.Prelude.{◌≡◌, true, cond, List, [], ◌∷◌, ◌++◌, ℕ}
use Rattle.encoding.specs.Distinct.{has, added, distinct, place_of, offset_of}
use Rattle.stores.specs.declared.Filed.{Filed}
use Rattle.stores.specs.Rows.{RowsIn}
use Rattle.stores.specs.Filed.{FiledIs}
use Rattle.stores.specs.Mentioned.{MentionedAs}

-- a store has one list of rows; without a row it is any memory
abbrev pub OneStore : Type 0
OneStore = (bytes ends : List ℕ) (count : ℕ) (l m : List (List ℕ)) → RowsIn bytes ends count l → RowsIn bytes ends count m → l ≡ m

abbrev pub EmptyStore : Type 0
EmptyStore = (bytes ends : List ℕ) → RowsIn bytes ends 0 []

-- what is mentioned later is stored behind what was mentioned before
abbrev pub GrowsBehind : Type 0
GrowsBehind = (l more : List (List ℕ)) → distinct (l ++ more) ≡ distinct l ++ added (distinct l) more

-- one mention more: the store of those so far, with the row behind them where they do not have it
abbrev pub GrowsByOne : Type 0
GrowsByOne = (l : List (List ℕ)) (x : List ℕ) → distinct (l ++ x ∷ []) ≡ cond (has (distinct l) x) (distinct l) (distinct l ++ x ∷ [])

-- a row stays where it is, whatever is stored behind it
abbrev pub PlacesStay : Type 0
PlacesStay = (l more : List (List ℕ)) (x : List ℕ) → has l x ≡ true → place_of (l ++ more) x ≡ place_of l x

abbrev pub OffsetsStay : Type 0
OffsetsStay = (l more : List (List ℕ)) (x : List ℕ) → has l x ≡ true → offset_of (l ++ more) x ≡ offset_of l x

-- a row that is mentioned is filed in the store of all that was mentioned: then that is the store of all that is mentioned now, or they do not fit
abbrev pub StoresMentions : Type 0
StoresMentions = (l : List (List ℕ)) (x bytes ends : List ℕ) (count : ℕ) (bytes_after ends_after : List ℕ) (r : Filed) →
    RowsIn bytes ends count (distinct l) → FiledIs bytes ends count x bytes_after ends_after r → MentionedAs l x count bytes_after ends_after r
