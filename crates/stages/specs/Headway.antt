-- How far a declaration is read, as the code holds it. Assumes nothing.
use Rattle.std.specs.Prelude.{◌≡◌, Bool, true, false, List, [], ◌∷◌, ℕ, ◌≤◌, length, drop}
use Rattle.expressions.specs.Expr.{anychar, atom}
use Rattle.models.specs.Models.{ContentSpec}
use Rattle.models.specs.Expressions.{model_expression, or_names, spec_content, spec_depth}
use Rattle.models.specs.Reader.{Phase, opening, naming, named, contents, emptying, inside, hashing, mixing, barred, mixed_name, mixed_closed, wants, in_name, marking, after, group_closed, ended}
use Rattle.declarations.specs.declared.NodeRow.{NodeRow}
use Rattle.declarations.specs.Nodes.{content_preorder, LaysNodes, Shows}
use Rattle.levels.specs.Levels.{Around, Nested}
use Rattle.stages.specs.declared.Station.{Station}
use Rattle.stages.specs.declared.Headway.{Headway}

-- which phase it is, without what it holds
abbrev pub station_of : Phase → Station
station_of (opening rest) = Station.Opening
station_of naming = Station.Naming
station_of (named n) = Station.Named
station_of (contents n) = Station.Contents
station_of (emptying n rest) = Station.Emptying
station_of (inside n) = Station.Inside
station_of (hashing n rest) = Station.Hashing
station_of (mixing n names) = Station.Mixing
station_of (barred n names) = Station.Barred
station_of (mixed_name n names m) = Station.MixedName
station_of (mixed_closed n names) = Station.MixedClosed
station_of (wants n l ls) = Station.Wants
station_of (in_name n m l ls) = Station.InName
station_of (marking n x l ls) = Station.Marking
station_of (after n x l ls) = Station.After
station_of (group_closed n x) = Station.GroupClosed
station_of (ended n c) = Station.Ended

-- !ELEMENT  MPTY  PCDATA: the keywords behind their first bytes
abbrev pub element_tail : List ℕ
element_tail = 33 ∷ 69 ∷ 76 ∷ 69 ∷ 77 ∷ 69 ∷ 78 ∷ 84 ∷ []

abbrev pub empty_tail : List ℕ
empty_tail = 77 ∷ 80 ∷ 84 ∷ 89 ∷ []

abbrev pub pcdata_tail : List ℕ
pcdata_tail = 80 ∷ 67 ∷ 68 ∷ 65 ∷ 84 ∷ 65 ∷ []

-- k bytes of the word are read, and these are left
pub record LeftAfter (word rest : List ℕ) (k : ℕ) : Type 0 where
  pub in_word : k ≤ length word
  pub left : rest ≡ drop k word

abbrev pub any_names : List (List ℕ) → Bool
any_names [] = false
any_names (n ∷ names) = true

-- mixed content without its star: the nodes of the union so far; `number` numbers the names
pub record MixedShown (number : List ℕ → ℕ) (names : List (List ℕ)) (some_named : Bool) (r : NodeRow) : Type 0 where
  pub named_is : some_named ≡ any_names names
  pub row_is : Shows (or_names number (atom anychar) names) r

-- the nodes of a content, and its depth
pub record ContentShown (number : List ℕ → ℕ) (c : ContentSpec) (r : NodeRow) : Type 0 where
  pub laid : LaysNodes (content_preorder (spec_content number c)) r
  pub deep_is : r.deep ≡ spec_depth c

-- what each phase holds
abbrev pub PhaseHolds : (List ℕ → ℕ) → Phase → Headway → Type 0
PhaseHolds number (opening rest) s = LeftAfter element_tail rest s.long
PhaseHolds number naming s = Unit {0}
PhaseHolds number (named n) s = s.long ≡ length n
PhaseHolds number (contents n) s = Unit {0}
PhaseHolds number (emptying n rest) s = LeftAfter empty_tail rest s.long
PhaseHolds number (inside n) s = Unit {0}
PhaseHolds number (hashing n rest) s = LeftAfter pcdata_tail rest s.long × MixedShown number [] s.named s.row
PhaseHolds number (mixing n names) s = MixedShown number names s.named s.row
PhaseHolds number (barred n names) s = MixedShown number names s.named s.row
PhaseHolds number (mixed_name n names m) s = (s.long ≡ length m) × MixedShown number names s.named s.row
PhaseHolds number (mixed_closed n names) s = MixedShown number names s.named s.row
PhaseHolds number (wants n l ls) s = Around number l ls s.nest
PhaseHolds number (in_name n m l ls) s = (s.long ≡ length m) × Around number l ls s.nest
PhaseHolds number (marking n x l ls) s = Nested number x l ls s.nest
PhaseHolds number (after n x l ls) s = Nested number x l ls s.nest
PhaseHolds number (group_closed n x) s = Shows (model_expression number x) s.row
PhaseHolds number (ended n c) s = ContentShown number c s.row

pub record HeadwayIs (number : List ℕ → ℕ) (q : Phase) (s : Headway) : Type 0 where
  pub station_is : s.station ≡ station_of q
  pub holds : PhaseHolds number q s
