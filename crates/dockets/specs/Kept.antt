-- What is kept beside a declaration that is being read. Assumes nothing.
use Rattle.std.specs.Prelude.{Some, None, ◌≡◌, List, [], ◌∷◌, ℕ, ◌≤◌}
use Rattle.limits.specs.Limits.{most_tags, most_productions, most_nodes}
use Rattle.encoding.specs.Distinct.{place_of}
use Rattle.models.specs.Models.{Declaration}
use Rattle.models.specs.Family.{Holdable}
use Rattle.models.specs.Answers.{TooMuchAt}
use Rattle.rosters.specs.Rosters.{RosterIs}
use Rattle.entries.specs.Entries.{DeclarationsHeld}
use Rattle.dockets.specs.declared.Docket.{Docket}

-- the names mentioned and the tags declared, as rows of their stores
pub record NamesHeld (mentions tags : List (List ℕ)) (k : Docket) (name_bytes name_ends tag_bytes' tag_ends : List ℕ) (rows tag_rows : List (List ℕ)) : Type 0 where
  pub names_are : RosterIs mentions name_bytes name_ends k.names rows
  pub tags_are : RosterIs tags tag_bytes' tag_ends k.tags tag_rows

-- the element that is being declared, once its name is whole, has these numbers
pub record ElementIs (k : Docket) (rows tag_rows own : List (List ℕ)) : Type 0 where
  pub number_is : (n : List ℕ) → own ≡ n ∷ [] → k.element ≡ place_of rows n
  pub tag_is : (n : List ℕ) → own ≡ n ∷ [] → k.tags.number ≡ place_of tag_rows n

-- numbers that a sheet's records can hold
pub record DocketSmall (k : Docket) : Type 0 where
  pub number_small : k.names.number ≤ most_tags
  pub element_small : k.element ≤ most_tags
  pub tag_small : k.tags.number ≤ most_tags
  pub few_productions : k.tally.productions ≤ most_productions
  pub few_nodes : k.tally.nodes ≤ most_nodes

-- the declarations that are over: their records are kept; or they were too many, and then it is known where
pub data DeclarationsKept (text : List ℕ) (ds : List Declaration) (k : Docket) (productions nodes : List ℕ) : Type 0 where
  within_bounds : k.passed ≡ None → Holdable ds → DeclarationsHeld ds k.tally productions nodes → DeclarationsKept text ds k productions nodes
  passed_bounds : (byte : ℕ) → k.passed ≡ Some byte → TooMuchAt text byte → (ds ≡ [] → ⊥) → DeclarationsKept text ds k productions nodes
