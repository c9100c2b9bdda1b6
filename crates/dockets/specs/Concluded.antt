-- A declaration is over: its records are kept, or it is too much for a sheet. Assumes nothing.
use Rattle.std.specs.Prelude.{◌≡◌, Bool, ◌||◌, List, [], ◌∷◌, ◌++◌, ℕ, ◌+◌, ◌*◌, ◌/◌, ◌≤◌, ltb, leb, length}
use Rattle.limits.specs.Limits.{most_productions, most_nodes, nodes_at_most}
use Rattle.encoding.specs.Distinct.{place_of}
use Rattle.models.specs.Models.{Declaration}
use Rattle.models.specs.Expressions.{spec_content}
use Rattle.models.specs.Family.{mentioned, Holdable}
use Rattle.models.specs.Answers.{TooMuchAt}
use Rattle.models.specs.Sheets.{declared_names}
use Rattle.declarations.specs.declared.NodeRow.{NodeRow}
use Rattle.declarations.specs.Nodes.{content_preorder, LaysNodes}
use Rattle.entries.specs.Entries.{SectionRoom}
use Rattle.dockets.specs.declared.Docket.{Docket}
use Rattle.dockets.specs.Kept.{NamesHeld, ElementIs, DocketSmall, DeclarationsKept}

-- a name had no room, or the declaration is one too many, or its nodes are
abbrev pub crowded_by : Docket → ℕ → Bool
crowded_by k long = k.names.full || (k.tags.full || (leb most_productions k.tally.productions || ltb most_nodes (k.tally.nodes + long / 2)))

pub record Concluding (k : Docket) (long : ℕ) : Type 0 where
  pub small : DocketSmall k
  pub short : long ≤ 2 * nodes_at_most

-- the declaration d behind ds, with the names of all of them
pub record ConcludesWith (ds : List Declaration) (d : Declaration) (k : Docket) (row : NodeRow) (name_bytes name_ends tag_bytes' tag_ends : List ℕ) (rows tag_rows : List (List ℕ)) : Type 0 where
  pub held : NamesHeld (mentioned (ds ++ d ∷ [])) (declared_names (ds ++ d ∷ [])) k name_bytes name_ends tag_bytes' tag_ends rows tag_rows
  pub element : ElementIs k rows tag_rows (d.declared ∷ [])
  pub laid : LaysNodes (content_preorder (spec_content (place_of rows) d.content)) row

pub record ConcludedIs (k : Docket) (at : ℕ) (row : NodeRow) (productions nodes productions_after nodes_after : List ℕ) (r : Docket) : Type 0 where
  pub same_names : r.names ≡ k.names
  pub same_tags : r.tags ≡ k.tags
  pub small : DocketSmall r
  pub long_productions : length productions_after ≡ length productions
  pub long_nodes : length nodes_after ≡ length nodes
  pub is : (text : List ℕ) (ds : List Declaration) (d : Declaration) (name_bytes name_ends tag_bytes' tag_ends : List ℕ) (rows tag_rows : List (List ℕ)) → SectionRoom productions nodes
      → ConcludesWith ds d k row name_bytes name_ends tag_bytes' tag_ends rows tag_rows → (Holdable ds → (Holdable (ds ++ d ∷ []) → ⊥) → TooMuchAt text at)
      → DeclarationsKept text ds k productions nodes → DeclarationsKept text (ds ++ d ∷ []) r productions_after nodes_after
