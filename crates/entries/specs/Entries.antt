-- The records of declarations in the memory that is kept for them, and one declaration more. Assumes nothing.
use Rattle.std.specs.Prelude.{◌≡◌, List, [], ◌∷◌, ◌++◌, ℕ, ◌+◌, ◌*◌, ◌/◌, ◌≤◌, length, take}
use Rattle.limits.specs.Limits.{most_tags, most_productions, most_nodes, nodes_at_most}
use Rattle.models.specs.Models.{Declaration}
use Rattle.models.specs.Expressions.{spec_content}
use Rattle.models.specs.Family.{nodes_together, Holdable}
use Rattle.models.specs.Sheets.{number_of_name, tag_of_name}
use Rattle.declarations.specs.declared.NodeRow.{NodeRow}
use Rattle.declarations.specs.Nodes.{content_preorder, LaysNodes}
use Rattle.declaring.specs.Sections.{declared_productions, declared_nodes}
use Rattle.entries.specs.declared.Tally.{Tally}

-- memory for the productions and the nodes of a sheet
pub record SectionRoom (productions nodes : List ℕ) : Type 0 where
  pub production_room : length productions ≡ 12 * most_productions
  pub node_room : length nodes ≡ 6 * most_nodes

-- the records of these declarations are the first there
pub record DeclarationsHeld (ds : List Declaration) (t : Tally) (productions nodes : List ℕ) : Type 0 where
  pub count_is : t.productions ≡ length ds
  pub nodes_are : t.nodes ≡ nodes_together ds
  pub productions_held : take (12 * t.productions) productions ≡ declared_productions ds
  pub nodes_held : take (6 * t.nodes) nodes ≡ declared_nodes ds

-- the numbers and the nodes are those of a declaration behind others
pub record EntryOf (ds : List Declaration) (d : Declaration) (element tag : ℕ) (row : NodeRow) : Type 0 where
  pub number_is : element ≡ number_of_name (ds ++ d ∷ []) d.declared
  pub tag_is : tag ≡ tag_of_name (ds ++ d ∷ []) d.declared
  pub laid : LaysNodes (content_preorder (spec_content (number_of_name (ds ++ d ∷ [])) d.content)) row

-- numbers that a record can hold
pub record EntryFits (t : Tally) (element tag : ℕ) (row : NodeRow) : Type 0 where
  pub few_productions : t.productions ≤ most_productions
  pub few_nodes : t.nodes ≤ most_nodes
  pub element_small : element ≤ most_tags
  pub tag_small : tag ≤ most_tags
  pub row_short : row.length ≤ 2 * nodes_at_most

pub record EnteredIs (old : Tally) (element tag : ℕ) (row : NodeRow) (productions nodes productions_after nodes_after : List ℕ) (t : Tally) : Type 0 where
  pub one_more : t.productions ≡ old.productions + 1
  pub more_nodes : t.nodes ≡ old.nodes + row.length / 2
  pub long_productions : length productions_after ≡ length productions
  pub long_nodes : length nodes_after ≡ length nodes
  pub is : (ds : List Declaration) (d : Declaration) → SectionRoom productions nodes → Holdable (ds ++ d ∷ []) → EntryOf ds d element tag row → DeclarationsHeld ds old productions nodes
      → DeclarationsHeld (ds ++ d ∷ []) t productions_after nodes_after
