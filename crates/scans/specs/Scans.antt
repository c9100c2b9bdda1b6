-- Where a reader of declarations stands in a text, and what it keeps there. Assumes nothing.
use Rattle.std.specs.Prelude.{Option, Some, None, ◌≡◌, Bool, true, false, cond, List, ◌∷◌, ◌++◌, ℕ, suc, ◌≤◌, ltb, length, drop}
use Rattle.limits.specs.Limits.{nodes_at_most, deepest_tree}
use Rattle.encoding.specs.Distinct.{place_of}
use Rattle.models.specs.Models.{Declaration}
use Rattle.models.specs.Family.{mentioned}
use Rattle.models.specs.Answers.{refuses, ReadModels}
use Rattle.models.specs.Reader.{Phase, DtdProgress, outside, within}
use Rattle.models.specs.Sheets.{declared_names}
use Rattle.judging.specs.Standing.{StandsBehind}
use Rattle.levels.specs.declared.ModelSize.{ModelSize}
use Rattle.stages.specs.declared.Station.{Station}
use Rattle.stages.specs.declared.Station.TheVariants.{Opening, Naming, Named, Contents, Emptying, Inside, Hashing, Mixing, Barred, MixedName, MixedClosed, Wants, InName, Marking, After, GroupClosed, Ended}
use Rattle.stages.specs.declared.Headway.{Headway}
use Rattle.stages.specs.Headway.{HeadwayIs}
use Rattle.stages.specs.Steps.{SizesAs}
use Rattle.rosters.specs.Names.{declared_in, mentioned_in}
use Rattle.rosters.specs.Rosters.{RosterRoom}
use Rattle.entries.specs.Entries.{SectionRoom}
use Rattle.dockets.specs.declared.Docket.{Docket}
use Rattle.dockets.specs.Kept.{NamesHeld, ElementIs, DocketSmall, DeclarationsKept}
use Rattle.scans.specs.declared.Scan.{Scan}

-- 53 where a model has too many nodes, or else 54 where it is too deep
abbrev pub limit_by : ModelSize → Option ℕ
limit_by s = cond (ltb nodes_at_most s.nodes) (Some 53) (cond (ltb deepest_tree s.deep) (Some 54) None)

abbrev pub content_in : Station → Bool
content_in Opening = false
content_in Naming = false
content_in Named = false
content_in Contents = true
content_in Emptying = false
content_in Inside = false
content_in Hashing = false
content_in Mixing = false
content_in Barred = false
content_in MixedName = false
content_in MixedClosed = false
content_in Wants = false
content_in InName = false
content_in Marking = false
content_in After = false
content_in GroupClosed = false
content_in Ended = false

-- nothing is read, and nothing is kept
pub record ScanFresh (s : Scan) : Type 0 where
  pub out : s.out ≡ true
  pub going : s.halt ≡ None
  pub no_names : s.docket.names ≡ record { count = 0; full = false; number = 0 }
  pub no_tags : s.docket.tags ≡ record { count = 0; full = false; number = 0 }
  pub no_element : s.docket.element ≡ 0
  pub no_declarations : s.docket.tally ≡ record { productions = 0; nodes = 0 }
  pub not_passed : s.docket.passed ≡ None

-- a declaration goes on, or its model is over a limit
pub record WeighedIs (next : Headway) (k : Docket) (s : Scan) : Type 0 where
  pub size : ModelSize
  pub sized : SizesAs next size
  pub is : s ≡ record { out = false; halt = limit_by size; headway = next; docket = k }

-- memory with as many places as a sheet can have
pub record Rooms (names name_ends tags tag_ends productions nodes : List ℕ) : Type 0 where
  pub name_room : RosterRoom names name_ends
  pub tag_room : RosterRoom tags tag_ends
  pub section_room : SectionRoom productions nodes

-- what is kept between declarations, and in one
pub data ScanIs (text : List ℕ) (s : Scan) (names name_ends tags tag_ends productions nodes : List ℕ) : DtdProgress → Type 0 where
  between : {ds : List Declaration} (rows tag_rows : List (List ℕ)) → s.out ≡ true → NamesHeld (mentioned ds) (declared_names ds) s.docket names name_ends tags tag_ends rows tag_rows
      → DeclarationsKept text ds s.docket productions nodes → ScanIs text s names name_ends tags tag_ends productions nodes (outside ds)
  amid : {ds : List Declaration} {q : Phase} (rows tag_rows : List (List ℕ)) → s.out ≡ false
      → NamesHeld (mentioned ds ++ mentioned_in q) (declared_names ds ++ declared_in q) s.docket names name_ends tags tag_ends rows tag_rows → ElementIs s.docket rows tag_rows (declared_in q)
      → HeadwayIs (place_of rows) q s.headway → DeclarationsKept text ds s.docket productions nodes → ScanIs text s names name_ends tags tag_ends productions nodes (within ds q)

-- the bytes in front of a place are read
pub record ReadUpTo (text : List ℕ) (at : ℕ) (s : Scan) (names name_ends tags tag_ends productions nodes : List ℕ) : Type 0 where
  pub inside : at ≤ length text
  pub rooms : Rooms names name_ends tags tag_ends productions nodes
  pub small : DocketSmall s.docket
  pub going : s.halt ≡ None
  pub state : DtdProgress
  pub stands : StandsBehind text at state
  pub kept : ScanIs text s names name_ends tags tag_ends productions nodes state

-- and b is the next
pub record InText (text : List ℕ) (at b : ℕ) (s : Scan) (names name_ends tags tag_ends productions nodes : List ℕ) : Type 0 where
  pub up_to_lem : ReadUpTo text at s names name_ends tags tag_ends productions nodes
  pub rest : List ℕ
  pub next : drop at text ≡ b ∷ rest

-- it is read too, or it is where the text is refused
pub data ByteRead (text : List ℕ) (at : ℕ) (names name_ends tags tag_ends productions nodes : List ℕ) (s : Scan) : Type 0 where
  onward : ReadUpTo text (suc at) s names name_ends tags tag_ends productions nodes → ByteRead text at names name_ends tags tag_ends productions nodes s
  halted : (number : ℕ) → s.halt ≡ Some number → ReadModels text (refuses number at) → ByteRead text at names name_ends tags tag_ends productions nodes s

pub record ByteIs (text : List ℕ) (at : ℕ) (names name_ends tags tag_ends productions nodes : List ℕ) (s : Scan) : Type 0 where
  pub rooms : Rooms names name_ends tags tag_ends productions nodes
  pub read : ByteRead text at names name_ends tags tag_ends productions nodes s

-- between declarations the memory stays as it is
pub record BetweenIs (text : List ℕ) (at b : ℕ) (s r : Scan) : Type 0 where
  pub is : (names name_ends tags tag_ends productions nodes : List ℕ) → InText text at b s names name_ends tags tag_ends productions nodes → s.out ≡ true
      → ByteRead text at names name_ends tags tag_ends productions nodes r
