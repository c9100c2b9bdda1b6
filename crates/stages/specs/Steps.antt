-- What one byte makes of a declaration that is being read, as the code tells it. Assumes nothing.
use Rattle.std.specs.Prelude.{◌≡◌, Bool, true, false, List, [], ◌∷◌, ◌++◌, ◌⊎◌, ℕ, suc, ◌+◌, ◌≤◌, eqb, length}
use Rattle.std.proofs.Math.Option.{Option, none, some}
use Rattle.limits.specs.Limits.{nodes_at_most}
use Rattle.text.specs.Names.{name_byte}
use Rattle.notation.specs.Statements.{parentheses}
use Rattle.models.specs.Models.{Model, ContentSpec, Declaration}
use Rattle.models.specs.Expressions.{spec_nodes, spec_depth}
use Rattle.models.specs.Reader.{LeftOf, Phase, opening, naming, named, contents, emptying, inside, hashing, mixing, barred, mixed_name, mixed_closed, wants, in_name, marking, after, group_closed, ended, Move, to, over, only_if_true, longer, step_phase, finished_phase}
use Rattle.models.specs.Names.{own_name, inner_name}
use Rattle.declarations.specs.declared.NodeRow.{NodeRow}
use Rattle.declarations.specs.Nodes.{room_for_nodes, LaysNodes}
use Rattle.levels.specs.declared.ModelSize.{ModelSize}
use Rattle.levels.specs.declared.Nest.{Nest}
use Rattle.stages.specs.declared.Station.{Station}
use Rattle.stages.specs.declared.Station.TheVariants.{Opening, Naming, Named, Contents, Emptying, Inside, Hashing, Mixing, Barred, MixedName, MixedClosed, Wants, InName, Marking, After, GroupClosed, Ended}
use Rattle.stages.specs.declared.Headway.{Headway}
use Rattle.stages.specs.declared.Fate.{Fate}
use Rattle.stages.specs.declared.Moved.{Moved}
use Rattle.stages.specs.declared.NameEnd.{NameEnd}
use Rattle.stages.specs.Headway.{PhaseHolds, HeadwayIs, ContentShown, element_tail}

-- another station, and so many bytes of a name or a keyword
abbrev pub moved_to : Headway → Station → ℕ → Headway
moved_to s t k = record { station = t; long = k; named = s.named; row = s.row; nest = s.nest }

abbrev pub moved_on : Headway → Station → ℕ → Moved
moved_on s t k = record { fate = Fate.On; headway = moved_to s t k }

abbrev pub told_as : Headway → Fate → Moved
told_as s o = record { fate = o; headway = s }

-- other nodes; another place in a model
abbrev pub with_row : Headway → Bool → NodeRow → Headway
with_row s names r = record { station = s.station; long = s.long; named = names; row = r; nest = s.nest }

abbrev pub with_nest : Headway → Nest → Headway
with_nest s v = record { station = s.station; long = s.long; named = s.named; row = s.row; nest = v }

-- where `f` says what a byte makes of a phase, with at most so many parentheses open at once, and d is the shortest whole from that phase on:
-- another phase; a whole declaration, by the nodes of its content; no phase, whatever may be open; or none only because too many are open
pub data FateAs (number : List ℕ → ℕ) (f : ℕ → Option Move) (d : Declaration) : Fate → Headway → Type 0 where
  moves : {s : Headway} (q : Phase) → f parentheses ≡ some (to q) → HeadwayIs number q s → FateAs number f d Fate.On s
  completes : {s : Headway} (e : Declaration) → f parentheses ≡ some (over e) → ContentShown number e.content s.row → FateAs number f d Fate.Over s
  refuses : {s : Headway} → ((p : ℕ) → f p ≡ none) → FateAs number f d Fate.Refused s
  too_deep : {s : Headway} (q : Phase) → f parentheses ≡ none → f (suc parentheses) ≡ some (to q) → finished_phase q ≡ d → FateAs number f d Fate.Deep s

abbrev pub FateIs : (List ℕ → ℕ) → (ℕ → Option Move) → Declaration → Moved → Type 0
FateIs number f d r = FateAs number f d r.fate r.headway

abbrev pub ByteTakenAs : (List ℕ → ℕ) → Phase → ℕ → Moved → Type 0
ByteTakenAs number q b r = FateIs number (λ p. step_phase p q b) (finished_phase q) r

-- the shortest continuation keeps the limit of nodes
abbrev pub FewNodesIn : Phase → Type 0
FewNodesIn q = spec_nodes (finished_phase q).content ≤ nodes_at_most

-- where a name of the content ends before b, it has this number
abbrev pub EndedNameIs : (List ℕ → ℕ) → Phase → ℕ → ℕ → Type 0
EndedNameIs number q b k = name_byte b ≡ false → (m : List ℕ) → inner_name q ≡ some m → number m ≡ k

-- behind the < of a declaration
pub record BegunIs (r : Headway) : Type 0 where
  pub is : (number : List ℕ → ℕ) → HeadwayIs number (opening element_tail) r

-- one byte
pub record ByteStepIs (s : Headway) (b k : ℕ) (r : Moved) : Type 0 where
  pub is : (number : List ℕ → ℕ) (q : Phase) → HeadwayIs number q s → FewNodesIn q → EndedNameIs number q b k → ByteTakenAs number q b r

-- of the phases at one station
abbrev pub AtStation : (Phase → Type 0) → Station → Type 0
AtStation P Opening = (rest : List ℕ) → P (opening rest)
AtStation P Naming = P naming
AtStation P Named = (n : List ℕ) → P (named n)
AtStation P Contents = (n : List ℕ) → P (contents n)
AtStation P Emptying = (n rest : List ℕ) → P (emptying n rest)
AtStation P Inside = (n : List ℕ) → P (inside n)
AtStation P Hashing = (n rest : List ℕ) → P (hashing n rest)
AtStation P Mixing = (n : List ℕ) (names : List (List ℕ)) → P (mixing n names)
AtStation P Barred = (n : List ℕ) (names : List (List ℕ)) → P (barred n names)
AtStation P MixedName = (n : List ℕ) (names : List (List ℕ)) (m : List ℕ) → P (mixed_name n names m)
AtStation P MixedClosed = (n : List ℕ) (names : List (List ℕ)) → P (mixed_closed n names)
AtStation P Wants = (n : List ℕ) (l : LeftOf) (ls : List LeftOf) → P (wants n l ls)
AtStation P InName = (n m : List ℕ) (l : LeftOf) (ls : List LeftOf) → P (in_name n m l ls)
AtStation P Marking = (n : List ℕ) (x : Model) (l : LeftOf) (ls : List LeftOf) → P (marking n x l ls)
AtStation P After = (n : List ℕ) (x : Model) (l : LeftOf) (ls : List LeftOf) → P (after n x l ls)
AtStation P GroupClosed = (n : List ℕ) (x : Model) → P (group_closed n x)
AtStation P Ended = (n : List ℕ) (c : ContentSpec) → P (ended n c)

-- one byte at a station, where no name of the content is being read, and where one is
pub record PlainStep (t : Station) (s : Headway) (b : ℕ) (r : Moved) : Type 0 where
  pub is : (number : List ℕ → ℕ) → AtStation (λ q. PhaseHolds number q s → FewNodesIn q → ByteTakenAs number q b r) t

pub record NameStep (t : Station) (s : Headway) (b k : ℕ) (r : Moved) : Type 0 where
  pub is : (number : List ℕ → ℕ) → AtStation (λ q. PhaseHolds number q s → FewNodesIn q → EndedNameIs number q b k → ByteTakenAs number q b r) t

-- a name with one byte more, where it may have one
pub record LongerIs (t : Station) (s : Headway) (r : Moved) : Type 0 where
  pub is : (number : List ℕ → ℕ) (d : Declaration) (m : List ℕ) (b : ℕ) (f : List ℕ → Phase) → s.long ≡ length m → HeadwayIs number (f (m ++ b ∷ [])) (moved_to s t (length (m ++ b ∷ []))) → FateIs number (λ p. longer m f b) d r

-- a keyword with one byte more, where that is c
pub record SpelledIs (t : Station) (c : ℕ) (s : Headway) (b : ℕ) (r : Moved) : Type 0 where
  pub is : (number : List ℕ → ℕ) (d : Declaration) (q : Phase) → HeadwayIs number q (moved_to s t (s.long + 1)) → FateIs number (λ p. only_if_true (eqb b c) q) d r

-- no nodes
pub record NoNodesIs (r : NodeRow) : Type 0 where
  pub laid : LaysNodes [] r
  pub deep_is : r.deep ≡ 0

-- which name ends before b, and its length
pub data NameEndIs (q : Phase) (b : ℕ) : NameEnd → Type 0 where
  none_ends : (name_byte b ≡ true) ⊎ ((own_name q ≡ none) × (inner_name q ≡ none)) → NameEndIs q b NameEnd.Nothing
  own_ends : {k : ℕ} (n : List ℕ) → own_name q ≡ some n → name_byte b ≡ false → k ≡ length n → NameEndIs q b (NameEnd.Own k)
  inner_ends : {k : ℕ} (m : List ℕ) → inner_name q ≡ some m → name_byte b ≡ false → k ≡ length m → NameEndIs q b (NameEnd.Inner k)

pub record NameEndAs (s : Headway) (b : ℕ) (r : NameEnd) : Type 0 where
  pub is : (number : List ℕ → ℕ) (q : Phase) → HeadwayIs number q s → NameEndIs q b r

-- the size of the shortest whole
pub record SpecSize (c : ContentSpec) (r : ModelSize) : Type 0 where
  pub nodes_are : r.nodes ≡ spec_nodes c
  pub deep_is : r.deep ≡ spec_depth c

pub record SizesAs (s : Headway) (r : ModelSize) : Type 0 where
  pub is : (number : List ℕ → ℕ) (q : Phase) → HeadwayIs number q s → spec_nodes (finished_phase q).content ≤ room_for_nodes → SpecSize (finished_phase q).content r
